-- Scalars of a list that stands in another: storing one in the first or in the second of two lists, and reading one of
-- a part.
use Prim.Native.Nat.{ℕ, zero, suc, ◌+◌, ◌*◌, ◌<◌, ◌≤◌}
use mathlib.Core.Bool.{Bool, true, false}
use mathlib.Core.Path.{◌≡◌, refl, sym, ap, ◌∙◌}
use mathlib.Core.List.{List, [], ◌∷◌, ◌++◌}
use native.Mathlib.Nat.{zero-add, suc-add}
use native.Mathlib.Omega.{arith}
use borrow.Author.Tests.{ltb-true, ltb-false, lt-ltb, le-ltb}
use lib.Ieee.{Float, nan}
use lib.ListN.{length, set, take, drop, length-append, length-set, length-take, length-drop}
use lib.Seq.{set-append_left, get_or-take, get_or-drop}
use Rattle.interval.specs.declared.Scalar.{Scalar}
use Rattle.linear.specs.Flat.{inside, at, along, put}
use Rattle.linear.proofs.FlatLaws.{at_inside, at_outside, put_inside}
use Rattle.run.specs.Vectors.{fill_to, fill_rows}
use Rattle.linear.proofs.Agree.{Agree}
use Rattle.run.proofs.VectorLaws.{length-fill_to, at_take, length-fill_rows}

set_behind : (xs ys : List Float) (i : ℕ) (a : Float) → set (xs ++ ys) (length xs + i) a ≡ xs ++ set ys i a
set_behind [] ys i a = ap (λ (k : ℕ). set ys k a) (zero-add i)
set_behind (x ∷ xs) ys i a =
    ap (λ (k : ℕ). set (x ∷ (xs ++ ys)) k a) (suc-add (length xs) i)
    ∙ ap (λ (l : List Float). x ∷ l) (set_behind xs ys i a)

-- one scalar
put_front : (xs ys : List Float) (i : ℕ) (v : Scalar) → 2 * i + 1 < length xs → put (xs ++ ys) i v ≡ put xs i v ++ ys
put_front xs ys i v h =
    let h₀ : 2 * i < length xs = omega arith in
    let h₁ : 2 * i + 1 < length (set xs (2 * i) v.lo) = simp length-set h in
    let h₂ : 2 * i + 1 < length (xs ++ ys) = omega (arith, length-append xs ys, h) in
    rw (
      put_inside (xs ++ ys) i v (lt-ltb _ _ h₂),
      put_inside xs i v (lt-ltb _ _ h),
      set-append_left xs ys (2 * i) v.lo h₀,
      set-append_left (set xs (2 * i) v.lo) ys (2 * i + 1) v.hi h₁,
    )

put_behind : (xs ys : List Float) (n i : ℕ) (v : Scalar) → length xs ≡ 2 * n → 2 * i + 1 < length ys
    → put (xs ++ ys) (n + i) v ≡ xs ++ put ys i v
put_behind xs ys n i v l h =
    let h₂ : 2 * (n + i) + 1 < length (xs ++ ys) = omega (arith, length-append xs ys, l, h) in
    let e₀ : 2 * (n + i) ≡ length xs + 2 * i = omega (arith, l) in
    let e₁ : 2 * (n + i) + 1 ≡ length xs + (2 * i + 1) = omega (arith, l) in
    rw (
      put_inside (xs ++ ys) (n + i) v (lt-ltb _ _ h₂),
      put_inside ys i v (lt-ltb _ _ h),
      e₁,
      e₀,
      set_behind xs ys (2 * i) v.lo,
      set_behind xs (set ys (2 * i) v.lo) (2 * i + 1) v.hi,
    )

-- a loop that fills
pub fill_front : (xs ys : List Float) (base : ℕ) (f : ℕ → Scalar) (k : ℕ) → 2 * (base + k) ≤ length xs
    → fill_to (xs ++ ys) base f k ≡ fill_to xs base f k ++ ys
unfolding fill_to
fill_front xs ys base f zero h = refl
fill_front xs ys base f (suc k) h =
    rw (fill_front xs ys base f k (omega arith))
    (put_front (fill_to xs base f k) ys (base + k) (f k) (omega (arith, length-fill_to xs base f k, h)))

pub fill_behind : (xs ys : List Float) (n : ℕ) (f : ℕ → Scalar) (k : ℕ) → length xs ≡ 2 * n
    → 2 * k ≤ length ys → fill_to (xs ++ ys) n f k ≡ xs ++ fill_to ys 0 f k
unfolding fill_to
fill_behind xs ys n f zero l h = refl
fill_behind xs ys n f (suc k) l h =
    let m : 0 + k ≡ k = omega arith in
    rw (fill_behind xs ys n f k l (omega arith), m)
    (put_behind xs (fill_to ys 0 f k) n k (f k) l (omega (arith, length-fill_to ys 0 f k, h)))

pub rows_front : (xs ys : List Float) (f : ℕ → ℕ → Scalar) (k r : ℕ) → k ≤ 12 → 24 * r ≤ length xs
    → fill_rows (xs ++ ys) f k r ≡ fill_rows xs f k r ++ ys
unfolding fill_rows
rows_front xs ys f k zero hk h = refl
rows_front xs ys f k (suc r) hk h =
    rw (rows_front xs ys f k r hk (omega arith))
    (fill_front (fill_rows xs f k r) ys (12 * r) (f r) k (omega (arith, length-fill_rows xs f k r, h, hk)))

-- one scalar of a part
pub at_part : (xs : List Float) (n m i : ℕ) → i < m → 2 * (n + m) ≤ length xs
    → at (take (2 * m) (drop (2 * n) xs)) i ≡ at xs (n + i)
at_part xs n m i h l =
    let k : 2 * i + 1 < length (take (2 * m) (drop (2 * n) xs)) = simp (length-take, length-drop) (omega arith) in
    let k' : 2 * (n + i) + 1 < length xs = omega arith in
    let h₀ : 2 * i < 2 * m = omega arith in
    let h₁ : 2 * i + 1 < 2 * m = omega arith in
    let e₀ : 2 * (n + i) ≡ 2 * n + 2 * i = omega arith in
    let e₁ : 2 * (n + i) + 1 ≡ 2 * n + (2 * i + 1) = omega arith in
    rw (
      at_inside (take (2 * m) (drop (2 * n) xs)) i (lt-ltb _ _ k),
      at_inside xs (n + i) (lt-ltb _ _ k'),
      get_or-take (2 * m) (drop (2 * n) xs) (2 * i) nan h₀,
      get_or-take (2 * m) (drop (2 * n) xs) (2 * i + 1) nan h₁,
      get_or-drop (2 * n) xs (2 * i) nan,
      get_or-drop (2 * n) xs (2 * i + 1) nan,
      e₁,
      e₀,
    )

-- one scalar behind the first n, wherever the list ends
behind_each : (xs : List Float) (n i : ℕ) (b : Bool) → inside xs (n + i) ≡ b → at (drop (2 * n) xs) i ≡ at xs (n + i)
behind_each xs n i true h =
    let l = ltb-true (2 * (n + i) + 1) (length xs) h in
    let k : 2 * i + 1 < length (drop (2 * n) xs) = omega (arith, length-drop (2 * n) xs, l) in
    let e₀ : 2 * (n + i) ≡ 2 * n + 2 * i = omega arith in
    let e₁ : 2 * (n + i) + 1 ≡ 2 * n + (2 * i + 1) = omega arith in
    rw (
      at_inside (drop (2 * n) xs) i (lt-ltb _ _ k),
      at_inside xs (n + i) h,
      get_or-drop (2 * n) xs (2 * i) nan,
      get_or-drop (2 * n) xs (2 * i + 1) nan,
      e₁,
      e₀,
    )
behind_each xs n i false h =
    let l = ltb-false (2 * (n + i) + 1) (length xs) h in
    let k : length (drop (2 * n) xs) ≤ 2 * i + 1 = omega (arith, length-drop (2 * n) xs, l) in
    at_outside (drop (2 * n) xs) i (le-ltb _ _ k) ∙ sym (at_outside xs (n + i) h)

pub at_behind : (xs : List Float) (n i : ℕ) → at (drop (2 * n) xs) i ≡ at xs (n + i)
at_behind xs n i = behind_each xs n i (inside xs (n + i)) refl

pub along_behind : (xs : List Float) (n base step : ℕ) {from : ℕ} → from ≡ n + base
    → along (drop (2 * n) xs) base step ≡ along xs from step
unfolding along
along_behind xs n base step {from} h =
    let e : (j : ℕ) → at (drop (2 * n) xs) (base + j * step)
    ≡ at xs (from + j * step) = λ j. at_behind xs n (base + j * step) ∙ ap (at xs) (omega (arith, h)) in λ i j. e j i

-- rows and columns of the first part of a list
pub along_take : (xs : List Float) (m base step k : ℕ) → 2 * m ≤ length xs
    → ((j : ℕ) → j < k → base + j * step < m) → Agree (along (take (2 * m) xs) base step) (along xs base step) k
unfolding along
along_take xs m base step k l h j hj = at_take xs m (base + j * step) (h j hj) l
