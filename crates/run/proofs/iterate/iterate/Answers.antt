-- `iterate` meets its contract: the limit decides.
use borrow.Author.Tests.{le-leb, lt-leb}
use Rattle.run.specs.Iterate.{iterate}
use Rattle.run.proofs.EndingLaws.{when, unless}
use Rattle.run.proofs.iterate.iterate.Goals as goal

pub returns-then-st : goal.returns-then-st
unfolding iterate
returns-then-st c w h =
    when _ _ (le-leb _ _ c.if-st.true)
    (c.finish.ensures w h.within)

pub returns : goal.returns
unfolding iterate
returns c w h =
    unless _ _ (lt-leb _ _ c.if-st.false) (c.search.ensures w h)
