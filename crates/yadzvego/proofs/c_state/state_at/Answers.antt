-- `state_at` meets its contract: the parts are those read back.
use Rattle.yadzvego.specs.CState.{state_at}
use borrow.Author.Rules.{rules}
use Rattle.yadzvego.proofs.c_state.state_at.Goals as goal

pub returns : goal.returns
unfolding state_at
returns c = rw (
  c.phase_at.ensures,
  c.last_at.ensures,
  c.search_at.ensures,
  c.contents_at.ensures,
  c.counts_at.ensures,
  c.sizes_at.ensures,
)
