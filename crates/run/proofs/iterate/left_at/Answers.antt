-- `left_at` meets its contract: each arm is the definition's.
use mathlib.Core.List.{[]}
use Rattle.run.specs.Area.{with_trial}
use Rattle.run.specs.Vectors.{moved_of}
use Rattle.run.specs.Iterate.{left_at}
use Rattle.run.proofs.MemoryLaws.{works_as}
use Rattle.run.proofs.iterate.left_at.Goals as goal

pub ask-requires : goal.ask-requires
ask-requires c =
    rw (c.with_trial_of.ensures [] [] [])
    c.requires.1.few_questions

pub returns-in-Ask : goal.returns-in-Ask
unfolding left_at
returns-in-Ask c w h t =
    let a = c.args in
    let next = moved_of a.st.sizes.n w.standing a.delta.now in
    rw c.in-Ask.is
    ((rw (c.with_trial_of.ensures a.delta.now a.lambda.now next) at c.ask.ensures)
    (with_trial a.st w next a.delta.now a.lambda.now) _
    (c.write_trial.ensures w h t))

pub returns-in-Stop : goal.returns-in-Stop
unfolding left_at
returns-in-Stop c w h t =
    rw c.in-Stop.is
    (rw c.with_search.ensures at
    (c.finish.ensures w (works_as c.with_search.ensures h)))

pub returns-in-Refused : goal.returns-in-Refused
unfolding left_at
returns-in-Refused c w h t =
    rw c.in-Refused.is
    (rw c.with_search-in-Refused.ensures at
    (c.refuse.ensures w (works_as c.with_search-in-Refused.ensures h)))
