-- `run_after` meets its contract: the run as it was where a check refuses, and else the state as C holds it.
use mathlib.Core.Path.{◌∙◌, sym}
use borrow.Author.Rules.{rules}
use Rattle.yadzvego.proofs.events.run_after.Goals as goal

pub returns-then-refused_by_check : goal.returns-then-refused_by_check
returns-then-refused_by_check c = rw (sym c.refused_by_check.ensures ∙ c.if-refused_by_check.true)

pub returns : goal.returns
returns c = rw (sym c.refused_by_check.ensures ∙ c.if-refused_by_check.false) c.c_state_of.ensures
