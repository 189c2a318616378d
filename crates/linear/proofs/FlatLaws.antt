-- What reading and storing a scalar of a flat list gives, inside the list and outside.
use Prim.Native.Nat.{ℕ, ◌+◌, ◌*◌, ◌<◌}
use mathlib.Core.Bool.{Bool, true, false}
use mathlib.Core.Logic.{◌≢◌}
use mathlib.Core.Path.{◌≡◌, refl}
use mathlib.Core.List.{List}
use native.Mathlib.Omega.{arith}
use borrow.Author.Tests.{lt-ltb}
use lib.Ieee.{Float, nan}
use lib.ListN.{length, get_or, set, length-set}
use lib.Seq.{get_or-set_same, get_or-set_other}
use Rattle.interval.specs.declared.Scalar.{Scalar}
use Rattle.interval.specs.Scalar.{degenerate, pick}
use Rattle.linear.specs.Flat.{inside, at, put}

pub at_inside : (xs : List Float) (i : ℕ) → inside xs i ≡ true
    → at xs i ≡ record { lo = get_or xs (2 * i) nan; hi = get_or xs (2 * i + 1) nan }
unfolding at
at_inside xs i e = rw e

pub at_outside : (xs : List Float) (i : ℕ) → inside xs i ≡ false → at xs i ≡ degenerate nan
unfolding at
at_outside xs i e = rw e

pub put_inside : (xs : List Float) (i : ℕ) (v : Scalar) → inside xs i ≡ true
    → put xs i v ≡ set (set xs (2 * i) v.lo) (2 * i + 1) v.hi
unfolding put
put_inside xs i v e = rw e

pub put_outside : (xs : List Float) (i : ℕ) (v : Scalar) → inside xs i ≡ false → put xs i v ≡ xs
unfolding put
put_outside xs i v e = rw e

-- what holds of both holds of the one that is picked
either : {A : Type 0} (P : A → Type 0) (b : Bool) {x y : A} → P x → P y → P (pick b x y)
either P true p q = p
either P false p q = q

pub length_put : (xs : List Float) (i : ℕ) (v : Scalar) → length (put xs i v) ≡ length xs
unfolding put
length_put xs i v =
    let e : length (set (set xs (2 * i) v.lo) (2 * i + 1) v.hi) ≡ length xs = simp length-set in
    either (λ (l : List Float). length l ≡ length xs) (inside xs i) e refl

pub at_put_same : (xs : List Float) (i : ℕ) (v : Scalar) → 2 * i + 1 < length xs → at (put xs i v) i ≡ v
unfolding at put
at_put_same xs i v h =
    let e = lt-ltb (2 * i + 1) (length xs) h in
    let h₀ : 2 * i < length xs = omega arith in
    let h₁ : 2 * i + 1 < length (set xs (2 * i) v.lo) = simp length-set h in
    let n : 2 * i ≢ 2 * i + 1 = λ q. omega arith in
    rw (
      e,
      length-set,
      length-set,
      e,
      get_or-set_other _ _ _ _ _ n,
      get_or-set_same xs (2 * i) v.lo nan h₀,
      get_or-set_same _ _ _ _ h₁,
    )

set_other : (xs : List Float) (i j : ℕ) (v : Scalar) → j ≢ i
    → at (set (set xs (2 * i) v.lo) (2 * i + 1) v.hi) j ≡ at xs j
unfolding at
set_other xs i j v h =
    let n₀ : 2 * j ≢ 2 * i = λ q. h (omega arith) in
    let n₁ : 2 * j ≢ 2 * i + 1 = λ q. omega arith in
    let m₀ : 2 * j + 1 ≢ 2 * i = λ q. omega arith in
    let m₁ : 2 * j + 1 ≢ 2 * i + 1 = λ q. h (omega arith) in
    simp (length-set, get_or-set_other)

pub at_put_other : (xs : List Float) (i j : ℕ) (v : Scalar) → j ≢ i → at (put xs i v) j ≡ at xs j
unfolding put
at_put_other xs i j v h = either (λ l. at l j ≡ at xs j) (inside xs i) (set_other xs i j v h) refl
