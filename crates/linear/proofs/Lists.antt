-- Lists that a loop writes: the first scalars of an index function, and one number throughout. Lists with the same
-- scalars are equal.
use Prim.Native.Nat.{ℕ, zero, suc, ◌+◌, ◌*◌, ◌/◌, ◌<◌, ◌≤◌}
use mathlib.Core.Logic.{◌⊎◌, inl, inr, ⊎_elim}
use mathlib.Core.Path.{◌≡◌, refl, sym, ap, ◌∙◌}
use mathlib.Core.List.{List, [], ◌∷◌, ◌++◌, append_assoc, append-nil}
use native.Mathlib.Nat.{not-suc-le-zero, le_of_suc-le-suc, eq-or-lt_of_le}
use native.Mathlib.Numerals.{add-one}
use native.Mathlib.Omega.{arith}
use borrow.Author.Tests.{lt-ltb}
use lib.Ieee.{Float, nan}
use lib.ListN.{length, get_or, set, take, drop, replicate, length-append, take-append-drop, get_or-append}
use lib.Seq.{length-take-le, drop-cons, drop-length, set_at, ext_get_or, append_snoc, get_or-append-add}
use Rattle.interval.specs.declared.Scalar.{Scalar}
use Rattle.linear.specs.Flat.{at, put, list_to}
use Rattle.linear.proofs.FlatLaws.{at_inside, put_inside}

pub length-list_to : (f : ℕ → Scalar) (n : ℕ) → length (list_to f n) ≡ 2 * n
unfolding list_to
length-list_to f zero = refl
length-list_to f (suc n) = simp length-append (omega (arith, length-list_to f n))

-- reading in the first of two lists, and at their seam
pub at_append : (xs ys : List Float) (i : ℕ) → 2 * i + 1 < length xs → at (xs ++ ys) i ≡ at xs i
at_append xs ys i h =
    let h₀ : 2 * i < length xs = omega arith in
    let m : 2 * i + 1 < length (xs ++ ys) = simp length-append (omega arith) in
    rw (
      at_inside (xs ++ ys) i (lt-ltb _ _ m),
      at_inside xs i (lt-ltb _ _ h),
      get_or-append xs ys nan (2 * i) h₀,
      get_or-append xs ys nan (2 * i + 1) h,
    )

pub at_seam : (xs ys : List Float) (i : ℕ) (v : Scalar) → length xs ≡ 2 * i → at (xs ++ (v.lo ∷ (v.hi ∷ ys))) i ≡ v
at_seam xs ys i v e =
    let m : 2 * i + 1 < length (xs ++ (v.lo ∷ (v.hi ∷ ys))) = simp length-append (omega arith) in
    let e₀ : 2 * i ≡ length xs + 0 = omega arith in
    let e₁ : 2 * i + 1 ≡ length xs + 1 = omega arith in
    rw (at_inside _ i (lt-ltb _ _ m), e₁, e₀, get_or-append-add xs _ 1 nan, get_or-append-add xs _ 0 nan)

-- reading in the start of a list
pub at_take : (xs : List Float) (n i : ℕ) → i < n → 2 * n ≤ length xs → at (take (2 * n) xs) i ≡ at xs i
at_take xs n i h room =
    let size = length-take-le (2 * n) xs room in
    let inside : 2 * i + 1 < length (take (2 * n) xs) = omega arith in
    sym (at_append (take (2 * n) xs) (drop (2 * n) xs) i inside) ∙ ap (λ l. at l i) (take-append-drop (2 * n) xs)

-- storing at the seam
pub put_seam : (xs ys : List Float) (a b : Float) (i : ℕ) (v : Scalar) → length xs ≡ 2 * i
    → put (xs ++ (a ∷ (b ∷ ys))) i v ≡ xs ++ (v.lo ∷ (v.hi ∷ ys))
put_seam xs ys a b i v e =
    let m : 2 * i + 1 < length (xs ++ (a ∷ (b ∷ ys))) = simp length-append (omega arith) in
    let k : length (xs ++ (v.lo ∷ [])) ≡ 2 * i + 1 = simp length-append (omega arith) in
    put_inside _ i v (lt-ltb _ _ m)
    ∙ ap (λ l. set l (2 * i + 1) v.hi) (set_at xs a (b ∷ ys) v.lo (2 * i) e
    ∙ sym (append_snoc xs v.lo (b ∷ ys)))
    ∙ set_at (xs ++ (v.lo ∷ [])) b ys v.hi (2 * i + 1) k
    ∙ append_snoc xs v.lo (v.hi ∷ ys)

pub at-list_to : (f : ℕ → Scalar) (n i : ℕ) → i < n → at (list_to f n) i ≡ f i
unfolding list_to
at-list_to f zero i h = absurd (not-suc-le-zero h)
at-list_to f (suc n) i h =
    ⊎_elim
    (λ e. rw e (at_seam (list_to f n) [] n (f n) (length-list_to f n)))
    (λ l. at_append (list_to f n) _ i (omega (arith, length-list_to f n)) ∙ at-list_to f n i l)
    (eq-or-lt_of_le (le_of_suc-le-suc h))

-- a loop that stores f 0, f 1, .. one after the other: the start, one turn more, and the end
pub list_to-none : (f : ℕ → Scalar) (d : List Float) → list_to f 0 ++ drop (2 * 0) d ≡ d
unfolding list_to
list_to-none f d = refl

pub list_to-more : (f : ℕ → Scalar) (i : ℕ) (d : List Float) → 2 * i + 1 < length d
    → put (list_to f i ++ drop (2 * i) d) i (f i) ≡ list_to f (i + 1) ++ drop (2 * (i + 1)) d
unfolding list_to
list_to-more f i d h =
    let h₀ : 2 * i < length d = omega arith in
    let h₁ : suc (2 * i) < length d = omega arith in
    let e : 2 * (i + 1) ≡ suc (suc (2 * i)) = omega arith in
    rw (e, add-one, drop-cons d (2 * i) nan h₀, drop-cons d (suc (2 * i)) nan h₁, append_assoc)
    (put_seam (list_to f i) (drop (suc (suc (2 * i))) d) _ _ i (f i) (length-list_to f i))

pub list_to-two : (f : ℕ → Scalar) (i : ℕ) (d : List Float) → 2 * i + 3 < length d
    → put (put (list_to f i ++ drop (2 * i) d) i (f i)) (i + 1) (f (i + 1)) ≡ list_to f (i + 2) ++ drop (2 * (i + 2)) d
list_to-two f i d h =
    let e : i + 1 + 1 ≡ i + 2 = omega arith in
    ap (λ l. put l (i + 1) (f (i + 1))) (list_to-more f i d (omega arith)) ∙ list_to-more f (i + 1) d (omega arith)
    ∙ ap (λ (j : ℕ). list_to f j ++ drop (2 * j) d) e

pub list_to-all : (f : ℕ → Scalar) (n : ℕ) (d : List Float) → length d ≡ 2 * n
    → list_to f n ++ drop (2 * n) d ≡ list_to f n
list_to-all f n d e = rw (← e, drop-length, append-nil)

-- ---- equal by their scalars

half : (k : ℕ) → (k ≡ 2 * (k / 2)) ⊎ (k ≡ 2 * (k / 2) + 1)
half zero = inl refl
half (suc k) = ⊎_elim (λ e. inr (omega arith)) (λ e. inl (omega arith)) (half k)

module _ (n : ℕ) (xs ys : List Float) (p : length xs ≡ 2 * n) (q : length ys ≡ 2 * n)
    (same : (i : ℕ) → i < n → at xs i ≡ at ys i) where
  ends : (i : ℕ) → i < n → ◌≡◌ {A = Scalar} (record { lo = get_or xs (2 * i) nan; hi = get_or xs (2 * i + 1) nan })
      (record { lo = get_or ys (2 * i) nan; hi = get_or ys (2 * i + 1) nan })
  ends i h = sym (at_inside xs i (lt-ltb (2 * i + 1) (length xs) (omega arith))) ∙ same i h
      ∙ at_inside ys i (lt-ltb (2 * i + 1) (length ys) (omega arith))

  pub ext_at : xs ≡ ys
  ext_at =
      ext_get_or nan xs ys (p ∙ sym q)
      (λ k h.
      ⊎_elim
      (λ e. rw e (ap (λ s. s.lo) (ends (k / 2) (omega arith))))
      (λ e. rw e (ap (λ s. s.hi) (ends (k / 2) (omega arith))))
      (half k))

pub is-list_to : (f : ℕ → Scalar) (n : ℕ) (xs : List Float) → length xs ≡ 2 * n → ((i : ℕ) → i < n → at xs i ≡ f i)
    → xs ≡ list_to f n
is-list_to f n xs p h = ext_at n xs (list_to f n) p (length-list_to f n) (λ i l. h i l ∙ sym (at-list_to f n i l))

-- ---- filled with one number

fill_suc : {A : Type 0} (n : ℕ) (v : A) (d : List A) → n < length d
    → set (replicate n v ++ drop n d) n v ≡ replicate (suc n) v ++ drop (suc n) d
fill_suc n v [] h = absurd (not-suc-le-zero h)
fill_suc zero v (x ∷ d) h = refl
fill_suc (suc n) v (x ∷ d) h = ap (λ t. v ∷ t) (fill_suc n v d (le_of_suc-le-suc h))

-- a store at n after the first n
pub fill_more : {A : Type 0} (n : ℕ) (v : A) (d : List A) → n < length d
    → set (replicate n v ++ drop n d) n v ≡ replicate (n + 1) v ++ drop (n + 1) d
fill_more n v d h = rw (add-one, fill_suc)

pub fill_all : {A : Type 0} (v : A) (d : List A) → replicate (length d) v ++ drop (length d) d ≡ replicate (length d) v
fill_all v d = rw (drop-length, append-nil)
