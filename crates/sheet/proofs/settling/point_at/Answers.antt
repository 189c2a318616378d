-- `point_at` meets its contract: the first i coordinates are stored.
use mathlib.Core.Path.{refl, ap, ◌∙◌}
use native.Mathlib.Omega.{arith}
use borrow.Author.Rules.{rules}
use Rattle.interval.specs.Scalar.{from_i64}
use Rattle.sheet.proofs.SettlingLaws.{placing_none, placing_more}
use Rattle.sheet.proofs.settling.point_at.Goals as goal

pub loop-i-init : goal.loop-i-init
loop-i-init c = (refl, placing_none _ _)

pub loop-i-preserved : goal.loop-i-preserved
loop-i-preserved c =
    let v = c.loop-i.invariant in
    let p = c.requires in (
      v.0,
      placing_more p.2 v.1 (omega (arith, v.0)) (c.from_i64.ensures ∙ ap from_i64 (search rules))
          c.put.ensures,
    )
