-- `free_directions` meets its contract: the directions start from clear slices and the remainders, and what is still to
-- be taken from here is what was to be taken at first.
use mathlib.Core.Path.{◌≡◌, refl, sym, ◌∙◌}
use Prim.Native.Nat.{◌-◌}
use native.Mathlib.Nat.{le_antisymm}
use native.Mathlib.Omega.{arith}
use Rattle.run.specs.NullSpace.{directions_of}
use Rattle.run.proofs.NullSpaceLaws.{directions_none}
use Rattle.run.proofs.null_space.free_directions.Goals as goal

pub loop-count-init : goal.loop-count-init
unfolding directions_of
loop-count-init c =
    let p = c.requires in
    let l = c.saturating_sub-most in
    let m : l.result - 0 ≡ l.result = omega arith in
    record {
      some = omega arith;
      few = omega (arith, l.ensures, p.0);
      z-length = refl;
      left-length = c.remainders.auto.left;
      directions = rw (m, ← c.remainders.ensures, ← p.1.1, ← l.ensures);
    }

pub returns : goal.returns
returns c =
    let l = c.loop-count in
    let e = rw (le_antisymm l.invariant.some c.loop-count-test.false) at l.invariant.directions in
    sym (directions_none _ _ _ _ _) ∙ e
