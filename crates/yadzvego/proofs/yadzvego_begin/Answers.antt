-- `yadzvego_begin` meets its contract: it is the call beneath, as numbers.
use mathlib.Core.Path.{ap}
use Rattle.yadzvego.specs.Exports.{after_export_of, begin_export}
use borrow.Author.Rules.{rules}
use Rattle.yadzvego.proofs.yadzvego_begin.Goals as goal

pub returns : goal.returns
unfolding begin_export
returns c = rw c.returned_of.ensures (ap after_export_of c.begin.ensures)
