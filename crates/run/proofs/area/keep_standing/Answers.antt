-- `keep_standing` meets its contract: of all slots but the standing point's the numbers in use are cleared.
use mathlib.Core.Path.{ap, ◌∙◌}
use Prim.Native.Nat.{ℕ}
use Rattle.run.specs.Area.{Slots, in_order}
use Rattle.run.specs.program.Area.{standing_alone}
use Rattle.run.proofs.MemoryLaws.{alone_fit, keeps_standing}
use Rattle.run.proofs.area.keep_standing.Goals as goal

pub clear_slots-requires : goal.clear_slots-requires
clear_slots-requires c =
    let all = c.numbers_in-all.ensures in
    let sizes = c.in_order-sizes.ensures
    ∙ ap (λ (x : Slots ℕ). in_order x)
    c.slot_sizes.ensures in
    let from = c.in_order-from.ensures
    ∙ ap (λ (x : Slots ℕ). in_order x)
    (c.standing_alone.ensures
    ∙ ap (λ (x : Slots ℕ). standing_alone x) all) in
    let to = c.in_order-to.ensures ∙ ap (λ (x : Slots ℕ). in_order x) all in
    rw (sizes, from, to) (alone_fit c.args.st c.requires.1 c.args.area.now c.requires.0)

pub returns : goal.returns
returns c w u =
    let all = c.numbers_in-all.ensures in
    let sizes = c.in_order-sizes.ensures
    ∙ ap (λ (x : Slots ℕ). in_order x)
    c.slot_sizes.ensures in
    let from = c.in_order-from.ensures
    ∙ ap (λ (x : Slots ℕ). in_order x)
    (c.standing_alone.ensures
    ∙ ap (λ (x : Slots ℕ). standing_alone x) all) in
    let to = c.in_order-to.ensures
    ∙ ap (λ (x : Slots ℕ). in_order x) all in
    keeps_standing c.args.st c.requires.1 w c.args.area.now u
    (rw (sizes, from, to) at c.clear_slots.ensures)
