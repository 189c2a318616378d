-- `check_open` meets its contract: a run that a call could have left, and its phase.
use mathlib.Core.Path.{◌≡◌, refl, ◌∙◌, sym}
use Rattle.std.specs.Option.{ok_or}
use Rattle.std.specs.Prelude.{Option, Some, None}
use Rattle.run.specs.declared.refusal.Refusal.TheVariants.{Altered}
use Rattle.run.specs.declared.state.Kind.{Kind}
use Rattle.run.specs.program.Checks.{open_in, open_of}
use Rattle.run.proofs.checks.check_open.Goals as goal

pub returns-then-not-valid : goal.returns-then-not-valid
unfolding open_of
returns-then-not-valid c = rw (sym c.valid.ensures ∙ c.if-not-valid.true)

of_phase : (p : Option Kind) → ok_or p Altered ≡ open_in p
of_phase None = refl
of_phase (Some k) = refl

pub returns : goal.returns
unfolding open_of
returns c = rw (sym c.valid.ensures ∙ c.if-not-valid.false, c.ok_or.ensures.value, of_phase c.args.st.phase)
