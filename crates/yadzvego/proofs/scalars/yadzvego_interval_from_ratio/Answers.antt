-- `yadzvego_interval_from_ratio` meets its contract: the answer is that of the result.
use mathlib.Core.Path.{◌∙◌, ap}
use mir.Syntax.{w64}
use mir.ValLaws.{to_z-of_z}
use Rattle.yadzvego.specs.ScalarResult.{scalar_result_of}
use borrow.Author.Rules.{rules}
use Rattle.yadzvego.proofs.scalars.yadzvego_interval_from_ratio.Goals as goal

pub returns : goal.returns
returns c =
    let num = to_z-of_z w64 c.args.num c.ranges.num in
    let den = to_z-of_z w64 c.args.den c.ranges.den in
    c.scalar_result_of.ensures ∙ ap scalar_result_of (rw (num, den) at c.from_ratio.ensures)
