-- `search_at` meets its contract: the fields, and the rejection read back.
use borrow.Author.Rules.{rules}
use Rattle.yadzvego.proofs.c_state.search_at.Goals as goal

pub returns : goal.returns
returns c = rw c.rejection_at.ensures
