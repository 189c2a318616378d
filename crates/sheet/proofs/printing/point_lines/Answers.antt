-- `point_lines` meets its contract: the lines of the first i points are printed.
use mathlib.Core.Path.{refl, ◌∙◌}
use native.Mathlib.Omega.{arith}
use Rattle.sheet.proofs.AppendLaws.{appends_none, appends_as, then}
use Rattle.sheet.proofs.PrintingLaws.{lines_none, lines_more}
use Rattle.sheet.proofs.printing.point_lines.Goals as goal

pub loop-i-init : goal.loop-i-init
loop-i-init c = (omega arith, refl, omega arith, appends_as appends_none (lines_none _))

pub loop-i-preserved : goal.loop-i-preserved
loop-i-preserved c =
    let v = c.loop-i.invariant in (
      omega arith,
      c.point_line-end.auto.out ∙ v.1,
      omega (arith, c.point_line-end.ensures.0, v.2),
      appends_as (then v.3 c.point_line-end.ensures.1)
          (lines_more _ _ c.at.ensures c.at-in-loop-i.ensures),
    )
