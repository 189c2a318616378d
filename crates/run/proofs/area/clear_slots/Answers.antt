-- `clear_slots` meets its contract: the first k slots are cleared, and what lies behind them is as it was.
use mathlib.Core.List.{List}
use mathlib.Core.Path.{◌≡◌, refl}
use Prim.Native.Nat.{ℕ, ◌+◌, ◌≤◌, ◌<◌}
use native.Mathlib.Omega.{arith}
use lib.ListN.{length, get_or}
use Rattle.run.specs.Area.{start_of}
use Rattle.run.proofs.AreaLaws.{clearing, cleared_more}
use Rattle.run.proofs.PlaceLaws.{slot_before}
use Rattle.run.proofs.area.clear_slots.Goals as goal

-- slot k is one of them
another : {k end n : ℕ} → k < end → end ≡ n → k < n
another t e = omega (arith, t, e)

-- slot k is within the area
room : (sizes : List ℕ) {k base n : ℕ} → k < length sizes → base ≡ start_of sizes k
    → start_of sizes (length sizes) ≤ n → base + get_or sizes k 0 ≤ n
room sizes {k} l b h = omega (arith, b, slot_before sizes k (length sizes) l, h)

pub loop-k-init : goal.loop-k-init
loop-k-init c = (refl, omega arith, clearing _ _ _ _)

pub overflow_add-base : goal.overflow_add-base
overflow_add-base c =
    let l = another c.loop-k-test.true c.loop-k.invariant.0 in
    let below = c.requires.3 c.loop-k.k l in
    omega (arith, room c.args.sizes.now l c.loop-k.invariant.2.begins c.requires.2, below.0, below.1)

pub clear_from-requires : goal.clear_from-requires
clear_from-requires c =
    let l = another c.loop-k-test.true c.loop-k.invariant.0 in
    let below = c.requires.3 c.loop-k.k l in
    omega (
      arith,
      room c.args.sizes.now l c.loop-k.invariant.2.begins c.requires.2,
      below.0,
      below.1,
      c.loop-k.invariant.2.long,
    )

pub overflow_add-base-in-loop-k : goal.overflow_add-base-in-loop-k
overflow_add-base-in-loop-k c =
    let l = another c.loop-k-test.true c.loop-k.invariant.0 in
    omega (arith, room c.args.sizes.now l c.loop-k.invariant.2.begins c.requires.2)

pub loop-k-preserved : goal.loop-k-preserved
loop-k-preserved c =
    let i = c.loop-k.invariant in
    let a = c.args in
    let l = another c.loop-k-test.true i.0 in (
      i.0,
      omega (arith, l),
      cleared_more a.sizes.now a.from.now a.to.now a.area.now
          (record { below = c.requires.3; inside = c.requires.2 }) i.2 l c.clear_from.ensures,
    )
