-- `correction` meets its contract: the parts of the arrays have the lengths asked, and each call gives its part of the
-- definition.
use Rattle.std.proofs.lemmas.Result.{err_from_is_err_and}
use mathlib.Core.Path.{◌≡◌, refl, ap, ◌∙◌}
use Prim.Native.Nat.{◌≤◌}
use native.Mathlib.Omega.{arith}
use lib.Seq.{length-take-le}
use lib.Ieee.{Float}
use mathlib.Core.List.{List}
use Rattle.linear.specs.LinearResult.{done_of}
use Rattle.linear.specs.Choose.{sharp_of}
use Rattle.linear.specs.Flat.{zeros}
use Rattle.linear.specs.Householder.{least_squares_of}
use Rattle.run.specs.Rows.{rows_in, value_at}
use Rattle.run.specs.declared.basis.Shape.{Shape}
use Rattle.run.specs.program.Basis.{ShapeFits}
use Rattle.run.specs.Vectors.{vector, combined_to}
use Rattle.run.proofs.BasisLaws.{correction_is}
use Rattle.run.proofs.LinearCalls.{least_squares_result, sharp_written, sharp_passes}
use Rattle.run.proofs.Prefixes.{front_kept}
use Rattle.run.proofs.RowLaws.{room, short}
use Rattle.run.proofs.basis.correction.Goals as goal

few_independent : {s : Shape} → ShapeFits s → s.r ≤ 12
few_independent p = omega (arith, p.rows, p.independent)

pub returns-in_err-sharp : goal.returns-in_err-sharp
returns-in_err-sharp c =
    let p = c.requires in
    let f = few_independent p.few in
    let low = short f in
    let y = c.least_squares.new.y in
    let ly = c.least_squares.auto.y in
    absurd
    (sharp_passes c.sharp.result c.args.shape.r y _ c.sharp.new.out (omega (arith, f))
    (ly ∙ length-take-le _ _ low) (length-take-le _ _ low)
    (rw (front_kept _ y _ low ly) at c.sharp.ensures) c.in_err-sharp.was)

pub returns-in_err-least_squares : goal.returns-in_err-least_squares
returns-in_err-least_squares c =
    let a = c.args in
    let p = c.requires in
    let f = few_independent p.few in
    let whole = room p.few.rows f in
    let high = short p.few.rows in
    let low = short f in
    let y = c.least_squares.new.y in
    let x = c.coefficient_rows.new.rows in
    let b = c.sides.new.rhs in
    let lx = c.coefficient_rows.auto.rows in
    let lb = c.sides.auto.rhs in
    let solved : done_of c.least_squares.result y ≡ least_squares_of a.shape.m a.shape.r x b =
    least_squares_result c.least_squares.result a.shape.m a.shape.r x b _ y
    (omega (arith, p.few.rows)) (omega (arith, f))
    (lx ∙ length-take-le _ _ whole) (lb ∙ length-take-le _ _ high) (length-take-le _ _ low)
    (rw (front_kept _ x _ whole lx, front_kept _ b _ high lb) at c.least_squares.ensures) in
    let e = err_from_is_err_and c.from_residual.result c.from_residual.ensures.1 in
    rw (e.1, e.2)
    (rw c.in_err-least_squares.was
    at (correction_is a.shape.k a.shape.m a.shape.r (value_at (rows_in a.xs.now a.e)) a.q.now
    a.coefficients.now a.dependent.now a.order.now y c.least_squares.result
    c.coefficient_rows.ensures c.sides.ensures solved refl))

pub returns : goal.returns
returns c =
    let a = c.args in
    let p = c.requires in
    let f = few_independent p.few in
    let whole = room p.few.rows f in
    let high = short p.few.rows in
    let low = short f in
    let h = c.sharp in
    let y = c.least_squares.new.y in
    let ly = c.least_squares.auto.y in
    let v = h.new.out in
    let w : v ≡ sharp_of y a.shape.r =
    sharp_written h.result a.shape.r y _ v (omega (arith, f))
    (ly ∙ length-take-le _ _ low) (length-take-le _ _ low)
    (rw (front_kept _ y _ low ly) at h.ensures) in
    let z : c.clear.new.xs ≡ vector =
    c.clear.ensures ∙ ap zeros p.step in
    let d =
    c.combine.ensures
    ∙ ap (λ (x : List Float). combined_to a.shape.k x a.q.now
    c.clear.new.xs a.shape.r)
    (front_kept _ v _ low h.auto.out ∙ w)
    ∙ ap (λ (x : List Float). combined_to a.shape.k (sharp_of y a.shape.r) a.q.now x a.shape.r) z in
    let x = c.coefficient_rows.new.rows in
    let b = c.sides.new.rhs in
    let lx = c.coefficient_rows.auto.rows in
    let lb = c.sides.auto.rhs in
    let solved : done_of c.least_squares.result y ≡ least_squares_of a.shape.m a.shape.r x b =
    least_squares_result c.least_squares.result a.shape.m a.shape.r x b _ y
    (omega (arith, p.few.rows)) (omega (arith, f))
    (lx ∙ length-take-le _ _ whole) (lb ∙ length-take-le _ _ high) (length-take-le _ _ low)
    (rw (front_kept _ x _ whole lx, front_kept _ b _ high lb) at c.least_squares.ensures) in
    rw c.in_ok-least_squares.was
    at (correction_is a.shape.k a.shape.m a.shape.r (value_at (rows_in a.xs.now a.e)) a.q.now
    a.coefficients.now a.dependent.now a.order.now y c.least_squares.result
    c.coefficient_rows.ensures c.sides.ensures solved d)
