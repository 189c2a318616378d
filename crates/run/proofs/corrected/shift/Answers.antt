-- `shift` meets its contract: the parts of the arrays have the lengths asked, the solve is the definition's, and what
-- it gives is sharpened.
use Rattle.std.proofs.lemmas.Result.{err_from_is_err_and}
use mathlib.Core.Path.{refl}
use lib.Ieee.{of_bits}
use lib.Seq.{length-take-le}
use Rattle.run.proofs.BasisLaws.{take_replicate}
use Rattle.run.proofs.CorrectedLaws.{shift_is}
use Rattle.run.proofs.Prefixes.{front_kept}
use Rattle.run.proofs.RowLaws.{room, short}
use Rattle.run.proofs.corrected.shift.Goals as goal

pub returns : goal.returns
unfolding of_bits
returns c =
    let a = c.args in
    let f = c.requires.0.few in
    let whole = room f.few_constraints f.few_variables in
    let high = short f.few_constraints in
    let low = short f.few_variables in
    let fj = front_kept _
    c.moving_slopes.new.jc _ whole
    c.moving_slopes.auto.jc in
    let fc = front_kept _
    c.chosen_values.new.out _ high
    c.chosen_values.auto.out in
    let fo = front_kept _ c.minus_solved.new.out _
    low c.minus_solved.auto.out in
    rw c.in_ok-minus_solved.was
    at (shift_is a.c a.moving.now a.xs.now _ _
    c.minus_solved.result _ f
    (length-take-le _ _ low) (length-take-le _ _ high) fj fc fo
    c.constraints.ensures
    c.moving_slopes.ensures
    c.chosen_values.ensures (take_replicate _ _ _ low)
    c.minus_solved.ensures c.sharpened.ensures)

pub returns-in_err-minus_solved : goal.returns-in_err-minus_solved
unfolding of_bits
returns-in_err-minus_solved c =
    let a = c.args in
    let f = c.requires.0.few in
    let whole = room f.few_constraints f.few_variables in
    let high = short f.few_constraints in
    let low = short f.few_variables in
    let fj = front_kept _ c.moving_slopes.new.jc _ whole c.moving_slopes.auto.jc in
    let fc = front_kept _ c.chosen_values.new.out _ high c.chosen_values.auto.out in
    let e = err_from_is_err_and c.from_residual.result c.from_residual.ensures.1 in
    rw (e.1, e.2)
    (rw c.in_err-minus_solved.was
    at (shift_is a.c a.moving.now a.xs.now _ _ c.minus_solved.result c.minus_solved.new.out f
    (length-take-le _ _ low) (length-take-le _ _ high) fj fc refl
    c.constraints.ensures c.moving_slopes.ensures c.chosen_values.ensures (take_replicate _ _ _ low)
    c.minus_solved.ensures refl))
