-- What a loop that fills places of a list leaves: one place more, what other places hold, and its first scalars as a
-- list. And loops that ask all or any.
use Prim.Native.Nat.{ℕ, zero, suc, ◌+◌, ◌*◌, ◌-◌, ◌<◌, ◌≤◌}
use mathlib.Core.Bool.{Bool, true, false, and-true}
use mathlib.Core.Logic.{⊎_elim}
use mathlib.Core.Path.{◌≡◌, refl, sym, ap, ◌∙◌}
use mathlib.Core.List.{List, ◌++◌}
use native.Mathlib.Nat.{not-suc-le-zero, le_of_suc-le-suc, eq-or-lt_of_le, le_refl, lt-suc_self}
use native.Mathlib.Numerals.{add-one}
use native.Mathlib.Omega.{arith}
use borrow.Author.Tests.{lt-ltb, le-leb, eq-eqb}
use lib.Ieee.{Float, nan}
use lib.ListN.{length, take, drop, length-take, length-replicate, get_or-replicate}
use lib.Seq.{take-append_seam, get_or-take, length-take-le, take-length}
use Rattle.interval.specs.declared.Scalar.{Scalar}
use Rattle.linear.specs.Calls.{norm_reply}
use Rattle.interval.specs.Scalar.{zero64, zero_s}
use Rattle.linear.specs.Flat.{at, put, zeros, list_to}
use Rattle.linear.specs.Norm.{norm_of}
pub use Rattle.linear.proofs.FillLaws.{fill_turn, at_fill_other, at_fill_ahead}
use Rattle.linear.proofs.FactorEntries.{same_or_not}
use Rattle.linear.proofs.FlatLaws.{at_inside, length_put, at_put_same, at_put_other}
use Rattle.linear.proofs.Lists.{list_to-none, list_to-more, length-list_to, is-list_to}
use Rattle.linear.specs.Dot.{dot_to}
use Rattle.linear.proofs.Agree.{Agree, dot_to-ext, norm_of-ext}
use Rattle.run.specs.Vectors.{fill_to, fill_rows, all_to, any_to}

module _ (xs : List Float) (base : ℕ) (f : ℕ → Scalar) where
  pub length-fill_to : (k : ℕ) → length (fill_to xs base f k) ≡ length xs
  unfolding fill_to
  length-fill_to zero = refl
  length-fill_to (suc k) = length_put (fill_to xs base f k) (base + k) (f k) ∙ length-fill_to k

  pub at_fill_in : (k i : ℕ) → i < k → 2 * (base + k) ≤ length xs → at (fill_to xs base f k) (base + i) ≡ f i
  unfolding fill_to
  at_fill_in zero i h l = absurd (not-suc-le-zero h)
  at_fill_in (suc k) i h l =
      ⊎_elim
      (λ e. rw e (at_put_same (fill_to xs base f k) (base + k) (f k) (omega (arith, length-fill_to k))))
      (λ m. at_put_other (fill_to xs base f k) (base + k) (base + i) (f k) (λ e. omega arith)
      ∙ at_fill_in k i m (omega arith))
      (eq-or-lt_of_le (le_of_suc-le-suc h))

  pub fill_ext : (g : ℕ → Scalar) (k : ℕ) → Agree f g k → fill_to xs base f k ≡ fill_to xs base g k
  unfolding fill_to
  fill_ext g zero p = refl
  fill_ext g (suc k) p = rw (fill_ext g k (λ j h. p j (omega arith)), p k (lt-suc_self k))

-- from the start on, the first k are the list of f
module _ (xs : List Float) (f : ℕ → Scalar) where
  fill_is : (k : ℕ) → 2 * k ≤ length xs → fill_to xs 0 f k ≡ list_to f k ++ drop (2 * k) xs
  unfolding fill_to
  fill_is zero h = sym (list_to-none f xs)
  fill_is (suc k) h =
      let m : 0 + k ≡ k = omega arith in
      rw (m, fill_is k (omega arith), list_to-more f k xs (omega arith), add-one)

  pub fill_none : fill_to xs 0 f 0 ≡ xs
  unfolding fill_to
  fill_none = refl

  -- one turn of a loop that stores f 0, f 1, .. from the start on
  pub fill_first : {s : List Float} {v : Scalar} (i : ℕ) → s ≡ fill_to xs 0 f i → v ≡ f i
      → put s i v ≡ fill_to xs 0 f (i + 1)
  fill_first i es ev = let m : 0 + i ≡ i = omega arith in rw m at (fill_turn xs 0 f i es ev)

  -- the place that is filled next is as it was
  pub at_next : {s : List Float} (i : ℕ) → s ≡ fill_to xs 0 f i → at s i ≡ at xs i
  at_next i es = let m : 0 + i ≡ i = omega arith in rw es (rw m at (at_fill_ahead xs 0 f i i (le_refl i)))

  -- those that are filled, their norm and their sum of squares
  pub filled : (k : ℕ) → 2 * k ≤ length xs → Agree (at (fill_to xs 0 f k)) f k
  filled k h i l = let m : 0 + i ≡ i = omega arith in rw m at (at_fill_in xs 0 f k i l (omega arith))

  pub norm_fill : (k : ℕ) → 2 * k ≤ length xs → norm_of (at (fill_to xs 0 f k)) k ≡ norm_of f k
  norm_fill k h = norm_of-ext (at (fill_to xs 0 f k)) f k (filled k h)

  pub squares_fill : (k : ℕ) → 2 * k ≤ length xs → dot_to (at (fill_to xs 0 f k)) (at (fill_to xs 0 f k)) k ≡ dot_to f f k
  squares_fill k h =
      dot_to-ext (at (fill_to xs 0 f k)) f (at (fill_to xs 0 f k)) f k (filled k h) (filled k h)

  pub prefix_fill : (k : ℕ) → 2 * k ≤ length xs → take (2 * k) (fill_to xs 0 f k) ≡ list_to f k
  prefix_fill k h = rw (fill_is k h, ← length-list_to f k, take-append_seam)

  -- a list that is filled whole
  pub fill_whole : (k : ℕ) → length xs ≡ 2 * k → fill_to xs 0 f k ≡ list_to f k
  fill_whole k e =
      let m : length (fill_to xs 0 f k) ≡ 2 * k = length-fill_to xs 0 f k ∙ e in
      sym (rw m at (take-length (fill_to xs 0 f k))) ∙ prefix_fill k (omega arith)

-- reading in the first part of a list, its norm, and that part as a list
pub at_take : (xs : List Float) (m i : ℕ) → i < m → 2 * m ≤ length xs → at (take (2 * m) xs) i ≡ at xs i
at_take xs m i h l =
    let k : 2 * i + 1 < length (take (2 * m) xs) = simp length-take (omega arith) in
    let k' : 2 * i + 1 < length xs = omega arith in
    let h₀ : 2 * i < 2 * m = omega arith in
    let h₁ : 2 * i + 1 < 2 * m = omega arith in
    rw (
      at_inside (take (2 * m) xs) i (lt-ltb _ _ k),
      at_inside xs i (lt-ltb _ _ k'),
      get_or-take (2 * m) xs (2 * i) nan h₀,
      get_or-take (2 * m) xs (2 * i + 1) nan h₁,
    )

pub norm_part : (xs : List Float) (m : ℕ) → m ≤ 24 → 2 * m ≤ length xs
    → norm_reply m (take (2 * m) xs) ≡ norm_of (at xs) m
unfolding norm_reply
norm_part xs m h l =
    rw (le-leb m 24 h, eq-eqb _ _ (length-take-le (2 * m) xs l))
    (norm_of-ext (at (take (2 * m) xs)) (at xs) m (λ i k. at_take xs m i k l))

pub prefix_list : (xs : List Float) (m : ℕ) → 2 * m ≤ length xs → take (2 * m) xs ≡ list_to (at xs) m
prefix_list xs m l = is-list_to (at xs) m (take (2 * m) xs) (length-take-le (2 * m) xs l) (λ i h. at_take xs m i h l)

pub fill_rows_turn : (xs : List Float) (f : ℕ → ℕ → Scalar) (k i : ℕ) {s : List Float} → s ≡ fill_rows xs f k i
    → fill_to s (12 * i) (f i) k ≡ fill_rows xs f k (i + 1)
unfolding fill_rows
fill_rows_turn xs f k i es = rw (es, add-one)

pub length-fill_rows : (xs : List Float) (f : ℕ → ℕ → Scalar) (k i : ℕ) → length (fill_rows xs f k i) ≡ length xs
unfolding fill_rows
length-fill_rows xs f k zero = refl
length-fill_rows xs f k (suc i) = length-fill_to (fill_rows xs f k i) (12 * i) (f i) k ∙ length-fill_rows xs f k i

pub fill_rows_ext : (xs : List Float) (f g : ℕ → ℕ → Scalar) (k i : ℕ)
    → ((t j : ℕ) → t < i → j < k → f t j ≡ g t j) → fill_rows xs f k i ≡ fill_rows xs g k i
unfolding fill_rows
fill_rows_ext xs f g k zero h = refl
fill_rows_ext xs f g k (suc i) h =
    rw (fill_rows_ext xs f g k i (λ t j l. h t j (omega arith)))
    (fill_ext (fill_rows xs g k i) (12 * i) (f i) (g i) k (λ j l. h i j (lt-suc_self i) l))

-- one behind them
pub at_rows_behind : (xs : List Float) (f : ℕ → ℕ → Scalar) (k r p : ℕ) → k ≤ 12 → 12 * r ≤ p →
    at (fill_rows xs f k r) p ≡ at xs p
unfolding fill_rows
at_rows_behind xs f k zero p hk h = refl
at_rows_behind xs f k (suc r) p hk h =
    at_fill_other (fill_rows xs f k r) (12 * r) (f r) k p (λ t l e. omega arith)
    ∙ at_rows_behind xs f k r p hk (omega arith)

pub at_clear : (n i : ℕ) → 2 * i + 1 < n → at (zeros n) i ≡ zero_s
at_clear n i h =
    let l : 2 * i + 1 < length (zeros n) = rw length-replicate h in
    let h₀ : 2 * i < n = omega arith in
    rw (
      at_inside (zeros n) i (lt-ltb _ _ l),
      get_or-replicate n (2 * i) zero64 nan h₀,
      get_or-replicate n (2 * i + 1) zero64 nan h,
    )

-- an entry of the first rows
pub at_fill_rows : (xs : List Float) (f : ℕ → ℕ → Scalar) (k r i j : ℕ) → k ≤ 12 → i < r → j < k
    → 24 * r ≤ length xs → at (fill_rows xs f k r) (12 * i + j) ≡ f i j
unfolding fill_rows
at_fill_rows xs f k zero i j hk hi hj l = absurd (not-suc-le-zero hi)
at_fill_rows xs f k (suc r) i j hk hi hj l =
    ⊎_elim
    (λ e. rw e (at_fill_in (fill_rows xs f k r) (12 * r) (f r) k j hj (omega (arith, length-fill_rows xs f k r))))
    (λ m. at_fill_other (fill_rows xs f k r) (12 * r) (f r) k (12 * i + j) (λ t h e. omega arith)
    ∙ at_fill_rows xs f k r i j hk m hj (omega arith))
    (eq-or-lt_of_le (le_of_suc-le-suc hi))

-- where what is stored goes through g: so does what is read at a place p of which that holds at the start
module _ (g : Scalar → Scalar) (p : ℕ) where
  at_fill_through : (xs ys : List Float) (base : ℕ) (f : ℕ → Scalar) (k : ℕ) → 2 * p + 1 < length xs →
      length ys ≡ length xs → at xs p ≡ g (at ys p) →
      at (fill_to xs base (λ j. g (f j)) k) p ≡ g (at (fill_to ys base f k) p)
  unfolding fill_to
  at_fill_through xs ys base f zero l m h = h
  at_fill_through xs ys base f (suc k) l m h =
      let u = fill_to xs base (λ j. g (f j)) k in
      let v = fill_to ys base f k in
      ⊎_elim
      (λ e.
      let lu : 2 * (base + k) + 1 < length u = omega (arith, length-fill_to xs base (λ j. g (f j)) k) in
      let lv : 2 * (base + k) + 1 < length v = omega (arith, length-fill_to ys base f k) in
      ap (at (put u (base + k) (g (f k)))) e ∙ at_put_same u (base + k) (g (f k)) lu
      ∙ sym (ap g (ap (at (put v (base + k) (f k))) e ∙ at_put_same v (base + k) (f k) lv)))
      (λ n.
      at_put_other u (base + k) p (g (f k)) n ∙ at_fill_through xs ys base f k l m h
      ∙ sym (ap g (at_put_other v (base + k) p (f k) n)))
      (same_or_not p (base + k))

  pub at_rows_through : (xs : List Float) (f : ℕ → ℕ → Scalar) (k r : ℕ) → 2 * p + 1 < length xs →
      at xs p ≡ g (at xs p) → at (fill_rows xs (λ i j. g (f i j)) k r) p ≡ g (at (fill_rows xs f k r) p)
  unfolding fill_rows
  at_rows_through xs f k zero l h = h
  at_rows_through xs f k (suc r) l h =
      at_fill_through (fill_rows xs (λ i j. g (f i j)) k r) (fill_rows xs f k r) (12 * r) (f r) k
      (omega (arith, l, length-fill_rows xs (λ i j. g (f i j)) k r))
      (length-fill_rows xs f k r ∙ sym (length-fill_rows xs (λ i j. g (f i j)) k r))
      (at_rows_through xs f k r l h)

module _ (p : ℕ → Bool) where
  -- all so far, and one more
  pub all_turn : (i : ℕ) → all_to p i ≡ true → p i ≡ true → all_to p (i + 1) ≡ true
  unfolding all_to
  all_turn i e h = rw (add-one, e, h)

  all_stays : (d i : ℕ) → all_to p i ≡ false → all_to p (d + i) ≡ false
  unfolding all_to
  all_stays zero i e = let m : 0 + i ≡ i = omega arith in rw m e
  all_stays (suc d) i e = let m : suc d + i ≡ suc (d + i) = omega arith in rw (m, all_stays d i e)

  -- one that is not
  pub all_broke : (i k : ℕ) → i < k → all_to p i ≡ true → p i ≡ false → all_to p k ≡ false
  unfolding all_to
  all_broke i k l e h =
      let b : all_to p (suc i) ≡ false = rw (e, h) in
      let m : (k - suc i) + suc i ≡ k = omega arith in
      rw m at (all_stays (k - suc i) (suc i) b)

  -- those behind the first i are
  pub all_behind : (d i : ℕ) → ((t : ℕ) → i ≤ t → t < d + i → p t ≡ true) → all_to p (d + i) ≡ all_to p i
  unfolding all_to
  all_behind zero i h = let m : 0 + i ≡ i = omega arith in rw m
  all_behind (suc d) i h =
      let m : suc d + i ≡ suc (d + i) = omega arith in
      rw (m, h (d + i) (omega arith) (omega arith), and-true) (all_behind d i (λ t a b. h t a (omega arith)))

  pub any_turn : (i : ℕ) → any_to p i ≡ false → p i ≡ false → any_to p (i + 1) ≡ false
  unfolding any_to
  any_turn i e h = rw (add-one, e, h)

  any_stays : (d i : ℕ) → any_to p i ≡ true → any_to p (d + i) ≡ true
  unfolding any_to
  any_stays zero i e = let m : 0 + i ≡ i = omega arith in rw m e
  any_stays (suc d) i e = let m : suc d + i ≡ suc (d + i) = omega arith in rw (m, any_stays d i e)

  pub any_broke : (i k : ℕ) → i < k → any_to p i ≡ false → p i ≡ true → any_to p k ≡ true
  unfolding any_to
  any_broke i k l e h =
      let b : any_to p (suc i) ≡ true = rw (e, h) in
      let m : (k - suc i) + suc i ≡ k = omega arith in
      rw m at (any_stays (k - suc i) (suc i) b)
