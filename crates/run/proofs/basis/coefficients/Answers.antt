-- `coefficients` meets its contract: the parts of the arrays have the lengths asked, the solve is the definition's, and
-- the part of a is its start.
use mathlib.Core.Path.{◌∙◌}
use mathlib.Core.Bool.{false}
use Prim.Native.Nat.{◌*◌, ◌≤◌}
use native.Mathlib.Omega.{arith}
use lib.ListN.{replicate, length-replicate}
use lib.Seq.{length-take-le, take_at}
use Rattle.run.specs.Basis.{coefficients_in}
use Rattle.run.specs.declared.basis.Shape.{Shape}
use Rattle.run.specs.program.Basis.{NextRow}
use Rattle.run.proofs.BasisLaws.{take_replicate}
use Rattle.run.proofs.LinearCalls.{solve_result}
use Rattle.run.proofs.Prefixes.{front_kept}
use Rattle.run.proofs.RowLaws.{room, short}
use Rattle.run.proofs.basis.coefficients.Goals as goal

few_vectors : {s : Shape} → NextRow s → s.r ≤ 12
few_vectors p = omega (arith, p.independent, p.row)

pub returns : goal.returns
unfolding coefficients_in
returns c =
    let a = c.args in
    let x = c.solve_cholesky in
    let packed = c.pack in
    let projected = c.projections in
    let l = packed.new.to in
    let kl = packed.auto.to in
    let b = projected.new.b in
    let kb = projected.auto.b in
    let f = few_vectors c.requires.0 in
    let h = length-take-le (2 * a.passed.r) a.a.now (omega (arith, f, c.requires.1)) in
    rw (
      take_at x.new.x _ (2 * a.passed.r) (x.auto.x ∙ h),
      ← packed.ensures,
      ← projected.ensures,
    )
    (solve_result x.result a.passed.r l (replicate a.passed.r false) b _ x.new.x
    (omega (arith, f)) (kl ∙ length-take-le _ _ (room f f)) (length-replicate a.passed.r false)
    (kb ∙ length-take-le _ _ (short f)) h
    (rw (
      front_kept _ l _ (room f f) kl,
      front_kept _ b _ (short f) kb,
      take_replicate a.passed.r 12 false f,
    ) at x.ensures))
