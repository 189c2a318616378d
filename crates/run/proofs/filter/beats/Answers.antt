-- `beats` meets its contract: every pair so far is beaten.
use borrow.Author.Rules.{rules}
use mathlib.Core.Path.{refl, sym, ◌∙◌}
use Rattle.run.specs.Filter.{beats_to}
use Rattle.run.specs.Vectors.{all_to}
use Rattle.run.proofs.VectorLaws.{all_turn, all_broke}
use Rattle.run.proofs.filter.beats.Goals as goal

pub loop-i-init : goal.loop-i-init
unfolding beats_to all_to
loop-i-init c = (search rules, refl)

pub returns-then-not-beats_pair : goal.returns-then-not-beats_pair
unfolding beats_to
returns-then-not-beats_pair c =
    let l = c.loop-i in
    sym (all_broke _ l.i _ c.loop-i-test.true l.invariant.1 (sym c.beats_pair.ensures
    ∙ c.if-not-beats_pair.true))

pub loop-i-preserved : goal.loop-i-preserved
unfolding beats_to
loop-i-preserved c =
    let l = c.loop-i in
    (search rules, all_turn _ l.i l.invariant.1 (sym c.beats_pair.ensures ∙ c.if-not-beats_pair.false))
