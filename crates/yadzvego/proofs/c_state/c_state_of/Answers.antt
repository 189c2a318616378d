-- `c_state_of` meets its contract: the fields, and the numbers of the enums.
use Rattle.yadzvego.specs.CState.{c_state_of}
use borrow.Author.Rules.{rules}
use Rattle.yadzvego.proofs.c_state.c_state_of.Goals as goal

pub returns : goal.returns
unfolding c_state_of
returns c = rw (
  c.last_number.ensures,
  c.rejection_number.ensures,
  c.phase_number.ensures,
  c.last_length.ensures,
)
