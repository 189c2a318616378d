-- `write_trial` meets its contract: what landed is cleared, and the point, the step and the multipliers are written.
use mathlib.Core.List.{List}
use mathlib.Core.Path.{sym, ap₂, ◌∙◌}
use Prim.Native.Nat.{ℕ}
use native.Mathlib.Omega.{arith}
use lib.Dec.{lit<}
use lib.Ieee.{Float}
use lib.ListN.{take}
use lib.Seq.{length-take-le}
use Rattle.linear.specs.Flat.{zeros}
use Rattle.run.specs.Area.{indices}
use Rattle.run.specs.program.Area.{written}
use Rattle.run.proofs.MemoryLaws.{point_fits, landed_rows_fit, multipliers_fit}
use Rattle.run.proofs.PlaceLaws.{each_same, place_room}
use Rattle.run.proofs.WriterLaws.{trial_holds}
use Rattle.run.proofs.area.write_trial.Goals as goal

pub clear_from-requires : goal.clear_from-requires
clear_from-requires c =
    place_room c.args.st.sizes indices.landed (lit< tt)
    (each_same c.places-at.ensures).landed
    (omega (
      arith,
      (each_same c.numbers_in-count.ensures).landed,
      point_fits
          c.args.st c.requires.1,
    ))
    (omega (arith, c.write_next.auto, c.requires.0))

pub clear_from-requires-2 : goal.clear_from-requires-2
clear_from-requires-2 c =
    place_room c.args.st.sizes indices.landed_rows (lit< tt)
    (each_same c.places-at.ensures
    ).landed-rows
    (omega (
      arith,
      (each_same
          c.numbers_in-count.ensures).landed-rows,
      landed_rows_fit c.args.st c.requires.1,
    ))
    (omega (
      arith,
      c.clear_from.auto,
      c.write_next.auto,
      c.requires.0,
    ))

pub slice_bounds-write-end : goal.slice_bounds-write-end
slice_bounds-write-end c =
    sym (length-take-le _ c.args.delta.now
    (omega (
      arith,
      (each_same c.numbers_in-count.ensures).step,
      point_fits c.args.st c.requires.1,
      c.requires.2.delta_length,
    )))

pub write-requires : goal.write-requires
write-requires c =
    place_room c.args.st.sizes indices.step (lit< tt)
    (each_same c.places-at.ensures).step
    (omega (
      arith,
      slice_bounds-write-end c,
      (each_same c.numbers_in-count.ensures).step,
      point_fits c.args.st c.requires.1,
    ))
    (omega (
      arith,
      c.clear_from-2.auto,
      c.clear_from.auto,
      c.write_next.auto,
      c.requires.0,
    ))

pub slice_bounds-write-end-2 : goal.slice_bounds-write-end-2
slice_bounds-write-end-2 c =
    sym (length-take-le _ c.args.lambda.now
    (omega (
      arith,
      (each_same c.numbers_in-count.ensures).multipliers,
      multipliers_fit c.args.st c.requires.1,
      c.requires.2.lambda_length,
    )))

pub write-requires-2 : goal.write-requires-2
write-requires-2 c =
    place_room c.args.st.sizes indices.multipliers (lit< tt)
    (each_same c.places-at.ensures).multipliers
    (omega (
      arith,
      slice_bounds-write-end-2 c,
      (each_same c.numbers_in-count.ensures).multipliers,
      multipliers_fit c.args.st c.requires.1,
    ))
    (omega (
      arith,
      c.write.auto,
      c.clear_from-2.auto,
      c.clear_from.auto,
      c.write_next.auto,
      c.requires.0,
    ))

pub returns : goal.returns
returns c w u whole =
    let st = c.args.st in
    let delta : List Float = c.args.delta.now in
    let lambda : List Float = c.args.lambda.now in
    let at = each_same c.places-at.ensures in
    let count = each_same
    c.numbers_in-count.ensures in
    let b₁ : List Float = c.write_next.new.area in
    let b₂ : List Float = c.clear_from.new.area in
    let b₃ : List Float = c.clear_from-2.new.area in
    let b₄ : List Float = c.write.new.area in
    trial_holds st c.requires.1 w u delta lambda whole c.requires.2
    c.write_next.ensures
    (c.clear_from.ensures ∙ ap₂ (λ (p n : ℕ). written b₁ p (zeros n)) at.landed count.landed)
    (c.clear_from-2.ensures ∙ ap₂ (λ (p n : ℕ). written b₂ p (zeros n)) at.landed-rows count.landed-rows)
    (c.write.ensures
    ∙ ap₂ (λ (p n : ℕ). written b₃ p (take n delta)) at.step count.step)
    (c.write-2.ensures ∙ ap₂ (λ (p n : ℕ). written b₄ p (take n lambda)) at.multipliers
    count.multipliers)
