-- `follow` meets its contract: each arm is the definition's.
use Rattle.std.specs.Prelude.{Ok}
use mathlib.Core.Path.{ap, ◌∙◌}
use Rattle.run.specs.State.{rejected_for, with_radius}
use Rattle.run.specs.declared.state.Rejection.TheVariants as why
use Rattle.run.proofs.SearchLaws.{damped_turn}
use Rattle.run.proofs.search.follow.Goals as goal

pub returns-in-Ok-Unresolved : goal.returns-in-Ok-Unresolved
returns-in-Ok-Unresolved c on delta lambda next =
    let a = c.args in
    rw (c.in-Ok-Unresolved.is ∙ ap Ok (rw c.in-Ok-Unresolved.is at c.in-Ok-Unresolved.field-0-is))
    (damped_turn (rejected_for (with_radius a.x a.max) why.Unresolved)
    c.damp_or_leave.ensures on delta lambda next)

pub returns-in-Ok-NotPositive : goal.returns-in-Ok-NotPositive
returns-in-Ok-NotPositive c on delta lambda next =
    rw (c.in-Ok-NotPositive.is ∙ ap Ok (rw c.in-Ok-NotPositive.is at c.in-Ok-NotPositive.field-0-is))
    (damped_turn (rejected_for c.args.x why.NotPositive)
    c.damp_or_leave-in-Ok-NotPositive.ensures on delta lambda next)
