-- `yadzvego_interval_from_i64` meets its contract.
use mathlib.Core.Path.{◌∙◌, ap}
use mir.Syntax.{w64}
use mir.ValLaws.{to_z-of_z}
use Rattle.interval.specs.Scalar.{from_i64}
use borrow.Author.Rules.{rules}
use Rattle.yadzvego.proofs.scalars.yadzvego_interval_from_i64.Goals as goal

pub returns : goal.returns
returns c = c.from_i64.ensures ∙ ap from_i64 (to_z-of_z w64 c.args.v c.ranges.v)
