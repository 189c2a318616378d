-- `write_taken` meets its contract: what landed goes over what stood, of which the rows and the multipliers are
-- cleared, and the pair behind those before it.
use mathlib.Core.List.{List}
use mathlib.Core.Path.{◌≡◌, ap, ap₂, ◌∙◌}
use Prim.Native.Nat.{ℕ, ◌≤◌}
use native.Mathlib.Omega.{arith}
use lib.Dec.{lit<}
use lib.Ieee.{Float}
use lib.ListN.{length}
use Rattle.linear.specs.Flat.{zeros}
use Rattle.run.specs.Area.{point_len, rows_len, indices, area_length}
use Rattle.run.specs.program.Area.{written}
use Rattle.run.proofs.MemoryLaws.{point_fits, standing_rows_fit, landed_rows_fit, multipliers_fit}
use Rattle.run.proofs.MemoryLaws.{curvature_fits}
use Rattle.run.proofs.PlaceLaws.{each_same, place_room, slot_room}
use Rattle.run.proofs.WriterLaws.{taken_holds}
use Rattle.run.proofs.area.write_taken.Goals as goal

pub copy-requires : goal.copy-requires
copy-requires c =
    let z = c.args.st.sizes in
    let at = each_same c.places-at.ensures in
    let count = (each_same c.numbers_in-count.ensures).landed in
    let f : c.numbers_in-count.result.landed ≤ point_len =
    omega (arith, count, point_fits c.args.st c.requires.1) in (
      place_room z indices.landed (lit< tt) at.landed f c.requires.0,
      place_room z indices.standing (lit< tt) at.standing f c.requires.0,
    )

pub clear_from-requires : goal.clear_from-requires
clear_from-requires c =
    place_room c.args.st.sizes indices.standing_rows (lit< tt)
    (each_same c.places-at.ensures).standing-rows
    (omega (
      arith,
      (each_same c.numbers_in-count.ensures).standing-rows,
      standing_rows_fit c.args.st c.requires.1,
    ))
    (omega (arith, c.copy.auto, c.requires.0))

pub copy-requires-2 : goal.copy-requires-2
copy-requires-2 c =
    let z = c.args.st.sizes in
    let at = each_same c.places-at.ensures in
    let count = (each_same c.numbers_in-count.ensures).landed-rows in
    let f : c.numbers_in-count.result.landed_rows ≤ rows_len =
    omega (arith, count, landed_rows_fit c.args.st c.requires.1) in
    let long = (let the-long-cleared : length c.clear_from.new.area ≡ area_length c.args.st.sizes =
    omega (
      arith,
      c.clear_from.auto,
      c.copy.auto,
      c.requires.0,
    ) in the-long-cleared) in (
      place_room z indices.landed_rows (lit< tt) at.landed-rows f long,
      place_room z indices.standing_rows (lit< tt) at.standing-rows f long,
    )

pub clear_from-requires-2 : goal.clear_from-requires-2
clear_from-requires-2 c =
    place_room c.args.st.sizes indices.multipliers (lit< tt)
    (each_same c.places-at.ensures).multipliers
    (omega (
      arith,
      (each_same c.numbers_in-count.ensures).multipliers,
      multipliers_fit c.args.st c.requires.1,
    ))
    (omega (
      arith,
      c.copy-2.auto,
      (let the-long-cleared : length c.clear_from.new.area ≡ area_length c.args.st.sizes =
          omega (
            arith,
            c.clear_from.auto,
            c.copy.auto,
            c.requires.0,
          ) in the-long-cleared),
    ))

pub write-requires : goal.write-requires
write-requires c =
    place_room c.args.st.sizes indices.curvature (lit< tt)
    (each_same c.places-at.ensures).curvature
    (omega (arith, c.requires.3, curvature_fits c.args.st c.requires.1))
    ((let the-long_after : length c.clear_from-2.new.area ≡ area_length c.args.st.sizes =
    omega (
      arith,
      c.clear_from-2.auto,
      c.copy-2.auto,
      (let the-long-cleared : length c.clear_from.new.area ≡ area_length c.args.st.sizes =
          omega (
            arith,
            c.clear_from.auto,
            c.copy.auto,
            c.requires.0,
          ) in the-long-cleared),
    ) in the-long_after))

pub overflow_add-at : goal.overflow_add-at
overflow_add-at c =
    omega (
      arith,
      (each_same c.places-at.ensures).filter,
      (each_same c.numbers_in-count.ensures).filter,
      slot_room c.args.st.sizes indices.filter (lit< tt),
      c.requires.2,
    )

pub write-requires-2 : goal.write-requires-2
write-requires-2 c =
    omega (
      arith,
      ap (length {A = Float}) c.pair_numbers-pair.ensures,
      (each_same c.places-at.ensures).filter,
      (each_same c.numbers_in-count.ensures).filter,
      slot_room c.args.st.sizes indices.filter (lit< tt),
      c.requires.2,
      c.write.auto,
      (let the-long_after : length c.clear_from-2.new.area ≡ area_length c.args.st.sizes =
          omega (
            arith,
            c.clear_from-2.auto,
            c.copy-2.auto,
            (let the-long-cleared : length c.clear_from.new.area ≡ area_length c.args.st.sizes =
                omega (
                  arith,
                  c.clear_from.auto,
                  c.copy.auto,
                  c.requires.0,
                ) in the-long-cleared),
          ) in the-long_after),
    )

pub returns : goal.returns
returns c w u whole landed =
    let at = each_same c.places-at.ensures in
    let count = each_same c.numbers_in-count.ensures in
    let b₁ : List Float = c.copy.new.area in
    let b₃ : List Float = c.copy-2.new.area in
    let b₄ : List Float = c.clear_from-2.new.area in
    taken_holds c.args.st c.requires.1 w u c.args.curvature.now c.args.f c.args.theta whole landed
    c.requires.2 c.requires.3
    (c.copy.ensures
    ∙ rw (at.standing, at.landed, count.landed))
    (c.clear_from.ensures
    ∙ ap₂ (λ (p n : ℕ). written b₁ p (zeros n)) at.standing-rows count.standing-rows)
    (c.copy-2.ensures ∙ rw (at.standing-rows, at.landed-rows, count.landed-rows))
    (c.clear_from-2.ensures
    ∙ ap₂ (λ (p n : ℕ). written b₃ p (zeros n)) at.multipliers count.multipliers)
    (c.write.ensures
    ∙ ap (λ (p : ℕ). written b₄ p c.args.curvature.now) at.curvature)
    (c.write-2.ensures
    ∙ rw (at.filter, count.filter, c.pair_numbers-pair.ensures))
