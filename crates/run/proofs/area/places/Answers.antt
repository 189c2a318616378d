-- `places` meets its contract: a slot begins where the sizes before it end, whichever they are.
use mathlib.Core.Path.{◌≡◌, refl, ap, ◌∙◌}
use Prim.Native.Nat.{ℕ}
use Rattle.run.specs.Area.{Slots, in_order, slot_sizes, start_of}
use Rattle.run.proofs.area.places.Goals as goal

-- the sizes in their order
sizes : (c : goal.After-in_order-size) → c.in_order-size.result ≡ in_order (slot_sizes c.args.z)
sizes c = c.in_order-size.ensures ∙ ap (λ (x : Slots ℕ). in_order x) c.slot_sizes.ensures

pub returns : goal.returns
unfolding start_of
returns c = rw (sizes c) refl
