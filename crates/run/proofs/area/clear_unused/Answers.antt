-- `clear_unused` meets its contract: what is not in use of each slot is cleared, and the last numbers are.
use mathlib.Core.List.{◌++◌}
use mathlib.Core.Path.{◌≡◌, ap, ap₂, ◌∙◌}
use Prim.Native.Nat.{ℕ, ◌-◌}
use native.Mathlib.Omega.{arith}
use lib.ListN.{drop}
use Rattle.linear.specs.Flat.{zeros}
use Rattle.run.specs.Area.{Slots, in_order, slot_sizes, used_in, area_length, spare_at}
use Rattle.run.specs.program.Area.{cleared_to, written}
use Rattle.run.proofs.AreaLaws.{cleared_end}
use Rattle.run.proofs.MemoryLaws.{unused_fit, cleared_uses}
use Rattle.run.proofs.PlaceLaws.{spare_room}
use Rattle.run.proofs.area.clear_unused.Goals as goal

pub clear_slots-requires : goal.clear_slots-requires
clear_slots-requires c =
    let sizes = c.in_order-sizes.ensures
    ∙ ap (λ (x : Slots ℕ). in_order x)
    c.slot_sizes.ensures in
    let used = c.in_order-used.ensures
    ∙ ap (λ (x : Slots ℕ). in_order x) c.used_in.ensures in
    rw (sizes, used) (unused_fit c.args.st c.requires.1 c.args.area.now c.requires.0)

pub overflow_sub-area_length : goal.overflow_sub-area_length
overflow_sub-area_length c = omega (
  arith,
  c.area_length.ensures,
  c.spare_at-spare.ensures,
  spare_room
      c.args.st.sizes,
)

pub clear_from-requires : goal.clear_from-requires
clear_from-requires c =
    omega (
      arith,
      c.area_length.ensures,
      c.spare_at-spare.ensures,
      spare_room c.args.st.sizes,
      c.clear_slots.auto,
      c.requires.0,
    )

pub returns : goal.returns
returns c =
    let z = c.args.st.sizes in
    let a = c.args.area.now in
    let fit = unused_fit c.args.st c.requires.1 a c.requires.0 in
    let sizes = c.in_order-sizes.ensures ∙ ap (λ (x : Slots ℕ). in_order x)
    c.slot_sizes.ensures in
    let used = c.in_order-used.ensures ∙ ap (λ (x : Slots ℕ). in_order x)
    c.used_in.ensures in
    let b = c.clear_slots.new.area in
    let e : b ≡ cleared_to (in_order (slot_sizes z)) (in_order (used_in c.args.st)) (in_order (slot_sizes z)) a 9
    ++ drop (spare_at z) a = rw (sizes, used) at
    c.clear_slots.ensures in
    let q = c.clear_from.ensures
    ∙ ap₂ (λ (place end : ℕ). written b place (zeros (end - place)))
    c.spare_at-spare.ensures
    c.area_length.ensures in
    cleared_uses c.args.st c.requires.1 a c.requires.0
    (cleared_end (in_order (slot_sizes z)) (in_order (used_in c.args.st)) (in_order (slot_sizes z)) a
    (record { below = fit.3; inside = fit.2 }) (area_length z - spare_at z)
    (omega (arith, spare_room z, c.requires.0)) e q)
