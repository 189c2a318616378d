-- `point_texts` meets its contract: the lines of the first i points are written.
use mathlib.Core.Path.{◌≡◌, refl, ◌∙◌}
use native.Mathlib.Omega.{arith}
use borrow.Author.Rules.{rules, sfits_of}
use lib.IntN.{pos}
use lib.ListN.{length}
use mir.Facts.{to_z-of_z}
use mir.Syntax.{w64}
use Rattle.sheet.proofs.SpellingTextLaws.{points_none, point_turn}
use Rattle.sheet.proofs.spelling.point_texts.Goals as goal

pub loop-i-init : goal.loop-i-init
loop-i-init c = (omega arith, refl, omega arith, points_none)

pub loop-i-preserved : goal.loop-i-preserved
loop-i-preserved c =
    let l = c.loop-i in (
      omega arith,
      c.point_text-end.auto.out ∙ l.invariant.1,
      omega (arith, c.point_text-end.ensures.0, l.invariant.2),
      point_turn l.i c.args.points.coordinates (pos 0) (omega (arith, (let the-long : length c.args.points.coordinates ≡ 12 = search rules in the-long)))
          (to_z-of_z {w = w64} (sfits_of (search rules)))
          (to_z-of_z {w = w64} (sfits_of (search rules)))
          l.invariant.3 c.point_text-end.ensures.1,
    )
