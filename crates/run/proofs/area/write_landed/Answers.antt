-- `write_landed` meets its contract: the asked point goes over the one that landed before, and the rows over a slot
-- that is clear.
use mathlib.Core.List.{List}
use mathlib.Core.Path.{ap, ap₂, ◌∙◌}
use Prim.Native.Nat.{ℕ, ◌≤◌}
use native.Mathlib.Omega.{arith}
use lib.Dec.{lit<}
use lib.Ieee.{Float}
use Rattle.linear.specs.Flat.{zeros}
use Rattle.run.specs.Area.{point_len, indices}
use Rattle.run.specs.program.Area.{written}
use Rattle.run.proofs.MemoryLaws.{point_fits, landed_rows_fit}
use Rattle.run.proofs.PlaceLaws.{each_same, place_room}
use Rattle.run.proofs.WriterLaws.{landed_holds}
use Rattle.run.proofs.area.write_landed.Goals as goal

pub copy-requires : goal.copy-requires
copy-requires c =
    let z = c.args.st.sizes in
    let at = each_same c.places-at.ensures in
    let f : c.numbers_in-count.result.landed ≤ point_len =
    omega (arith, (each_same c.numbers_in-count.ensures).landed, point_fits c.args.st c.requires.1) in (
      place_room z indices.asked (lit< tt) at.asked f c.requires.0,
      place_room z indices.landed (lit< tt) at.landed f c.requires.0,
    )

pub clear_from-requires : goal.clear_from-requires
clear_from-requires c =
    place_room c.args.st.sizes indices.landed_rows (lit< tt)
    (each_same c.places-at.ensures).landed-rows
    (omega (
      arith,
      (each_same c.numbers_in-count.ensures).landed-rows,
      landed_rows_fit c.args.st c.requires.1,
    ))
    (omega (arith, c.copy.auto, c.requires.0))

pub write-requires : goal.write-requires
write-requires c =
    place_room c.args.st.sizes indices.landed_rows (lit< tt)
    (each_same c.places-at.ensures
    ).landed-rows c.requires.2
    (omega (
      arith,
      c.clear_from.auto,
      c.copy.auto,
      c.requires.0,
    ))

pub returns : goal.returns
returns c w u t =
    let rows : List Float = c.args.rows.now in
    let at = each_same c.places-at.ensures in
    let count = each_same c.numbers_in-count.ensures in
    let b₁ : List Float = c.copy.new.area in
    let b₂ : List Float = c.clear_from.new.area in
    landed_holds c.args.st c.requires.1 w u rows t c.requires.2
    (c.copy.ensures
    ∙ rw (at.landed, at.asked, count.landed))
    (c.clear_from.ensures
    ∙ ap₂ (λ (p n : ℕ). written b₁ p (zeros n)) at.landed-rows count.landed-rows)
    (c.write.ensures ∙ ap (λ (p : ℕ). written b₂ p rows) at.landed-rows)
