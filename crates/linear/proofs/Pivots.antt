-- What a pivot can be: a root to divide by holds no zero, so no division by it is refused; and a refusal is the root's.
use Prim.Native.Nat.{ℕ}
use mathlib.Core.Bool.{Bool, true, false}
use mathlib.Core.Path.{◌≡◌, refl}
use native.Mathlib.Omega.{arith}
use lib.Ieee.{lt}
use Rattle.interval.specs.declared.Scalar.{Scalar}
use Rattle.interval.specs.Root.{nearest_root}
use Rattle.interval.specs.Result.{Res, ok, refused}
use Rattle.interval.specs.Scalar.{zero64, one64, zero_s, degenerate, outward, pick, mul_of, div_of, inverse, holds_zero}
use Rattle.interval.specs.Scalar.{clamped, sqrt_of, definitely_greater}
use Rattle.linear.specs.Cholesky.{Pivot, root, left_out_pivot, usable, root_pivot, pivot_of}

-- ---- a root that is kept

kept_usable : (u : Bool) (v r : Scalar) → usable (div_of (degenerate one64) v) ≡ u
    → ◌≡◌ {A = Res Pivot} (ok (pick u (root v) left_out_pivot)) (ok (root r))
    → usable (div_of (degenerate one64) r) ≡ true
kept_usable true v r h e = let q : v ≡ r = cc in rw (← q) h
kept_usable false v r h e = let z : ◌≡◌ {A = ℕ} 0 1 = cc in absurd (omega arith)

root_usable : (q : Res Scalar) (r : Scalar) → root_pivot q ≡ ok (root r) → usable (div_of (degenerate one64) r) ≡ true
unfolding root_pivot
root_usable (ok v) r e = kept_usable (usable (div_of (degenerate one64) v)) v r refl e
root_usable (refused k) r e = let z : ◌≡◌ {A = ℕ} 0 1 = cc in absurd (omega arith)

picked_usable : (b : Bool) (q : Res Scalar) (r : Scalar) → pick b (root_pivot q) (ok left_out_pivot) ≡ ok (root r)
    → usable (div_of (degenerate one64) r) ≡ true
picked_usable true q r e = root_usable q r e
picked_usable false q r e = let z : ◌≡◌ {A = ℕ} 0 1 = cc in absurd (omega arith)

divided : (b : Bool) (v : Scalar) → usable (pick b (refused 6) (ok v)) ≡ true → b ≡ false
divided true v e = let z : ◌≡◌ {A = ℕ} 0 1 = cc in absurd (omega arith)
divided false v e = refl

usable_divides : (x r : Scalar) → usable (div_of (degenerate one64) r) ≡ true → div_of x r ≡ ok (mul_of x (inverse r))
unfolding div_of
usable_divides x r e = rw (divided (holds_zero r) (mul_of (degenerate one64) (inverse r)) e)

pub root_divides : (s r x : Scalar) → pivot_of s ≡ ok (root r) → div_of x r ≡ ok (mul_of x (inverse r))
unfolding pivot_of
root_divides s r x e = usable_divides x r (picked_usable (definitely_greater s zero_s) (sqrt_of s) r e)

-- ---- a refusal

picked_five : (b : Bool) (v : Scalar) {k : ℕ} → pick b (refused 5) (ok v) ≡ refused k → k ≡ 5
picked_five true v e = cc
picked_five false v e = cc

sqrt_five : (s : Scalar) {k : ℕ} → sqrt_of s ≡ refused k → k ≡ 5
unfolding sqrt_of
sqrt_five s e = picked_five (lt s.hi zero64) (outward (nearest_root (clamped s.lo)) (nearest_root s.hi)) e

root_refused : (q : Res Scalar) {k : ℕ} → root_pivot q ≡ refused k → q ≡ refused k
unfolding root_pivot
root_refused (ok v) e = cc
root_refused (refused j) e = cc

picked_refused : (b : Bool) (s : Scalar) {k : ℕ} → pick b (root_pivot (sqrt_of s)) (ok left_out_pivot) ≡ refused k
    → k ≡ 5
picked_refused true s e = sqrt_five s (root_refused (sqrt_of s) e)
picked_refused false s e = cc

pub refused_five : (s : Scalar) {k : ℕ} → pivot_of s ≡ refused k → k ≡ 5
unfolding pivot_of
refused_five s e = picked_refused (definitely_greater s zero_s) s e
