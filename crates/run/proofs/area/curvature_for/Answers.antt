-- `curvature_for` meets its contract: as many numbers as the curvature has are in the area behind the last slot too.
use mathlib.Core.Path.{◌≡◌, ◌∙◌}
use native.Mathlib.Omega.{arith}
use Rattle.interval.specs.Scalar.{pick}
use Rattle.run.specs.Area.{places_of, spare_at}
use Rattle.run.proofs.PlaceLaws.{each_same, curvature_inside}
use Rattle.run.proofs.area.curvature_for.Goals as goal
use Rattle.run.proofs.area.curvature_for.Goals.{then-plain, else-plain}

pub part-requires : goal.part-requires
part-requires c =
    let a = c.args in
    let chosen : c.if-plain.at ≡ pick a.plain (spare_at a.z) (places_of a.z).curvature =
    elim c.if-plain.branch [
      | then-plain w ↦ rw w.if-plain.true (w.at-is ∙ w.spare_at-at.ensures)
      | else-plain w ↦ rw w.if-plain.false (w.at-is ∙ (each_same c.places-at.ensures).curvature)
    ] in
    omega (arith, chosen, curvature_inside a.z a.plain a.area.now a.z.n c.requires.0 c.requires.1)
