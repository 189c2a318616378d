-- Two rows at once give what one after the other gives.
use Prim.Native.Nat.{ℕ, zero, suc, ◌+◌, ◌*◌, ◌<◌, ◌≤◌}
use mathlib.Core.Bool.{Bool, true, false}
use mathlib.Core.Logic.{◌≢◌}
use mathlib.Core.Path.{◌≡◌, refl, sym, ap, ◌∙◌}
use mathlib.Core.List.{List}
use native.Mathlib.Nat.{lt-suc_self}
use native.Mathlib.Omega.{arith}
use lib.Ieee.{Float}
use lib.ListN.{set}
use lib.Seq.{set_comm}
use Rattle.interval.specs.declared.Scalar.{Scalar}
use Rattle.interval.specs.Scalar.{one64, degenerate, sub_of, mul_of}
use Rattle.linear.specs.Choose.{choose_of}
use Rattle.linear.specs.Dot.{dot_to}
use Rattle.linear.specs.Flat.{inside, at, along, put}
use Rattle.linear.proofs.FlatLaws.{length_put, put_inside, put_outside, at_put_other}
use Rattle.linear.proofs.Agree.{Agree, dot_to-ext}
use Rattle.run.specs.NullSpace.{part_off, left_after, remainders_to, without_to}
use Rattle.run.specs.Vectors.{row, fill_to, minus_scaled}
use Rattle.run.proofs.NullSpaceLaws.{after_turn, remainders_turn, without_turn}
use Rattle.run.proofs.VectorLaws.{fill_turn, fill_ext, at_fill_other}

-- what is taken off row p leaves row p + 1 as it was
next_kept : (k : ℕ) (w left : List Float) (t p : ℕ) (a : Scalar) → k ≤ 12 →
    Agree (row (minus_scaled left (12 * p) a w (12 * t) k) (p + 1)) (row left (p + 1)) k
unfolding minus_scaled along
next_kept k w left t p a h j hj = at_fill_other left (12 * p) _ k (12 * (p + 1) + j * 1) (λ u l e. omega arith)

pub two_off : (k : ℕ) (w : List Float) (t : ℕ) (left : List Float) (p : ℕ) {x y a b : Scalar} {l m : List Float} →
    k ≤ 12 →
    x ≡ dot_to (along left (12 * p) 1) (along w (12 * t) 1) k →
    y ≡ dot_to (along left (12 * p + 12) 1) (along w (12 * t) 1) k →
    a ≡ choose_of x → l ≡ minus_scaled left (12 * p) a w (12 * t) k →
    b ≡ choose_of y → m ≡ minus_scaled l (12 * p + 12) b w (12 * t) k →
    m ≡ part_off k w t (part_off k w t left p) (p + 1)
two_off k w t left p h ex ey ea el eb em =
    let n : 12 * p + 12 ≡ 12 * (p + 1) = omega arith in
    let e : dot_to (row (part_off k w t left p) (p + 1)) (row w t) k ≡ dot_to (row left (p + 1)) (row w t) k
    = dot_to-ext _ _ (row w t) (row w t) k
    (next_kept k w left t p (choose_of (dot_to (row left p) (row w t) k)) h) (λ j q. refl) in
    rw (em, eb, ey, el, ea, ex, n, e)

pub without_two : (k : ℕ) (z left : List Float) (t h : ℕ) {s u : List Float} →
    s ≡ without_to k z t left (2 * h) → u ≡ part_off k z t (part_off k z t s (2 * h)) (2 * h + 1) →
    u ≡ without_to k z t left (2 * (h + 1))
without_two k z left t h es eu =
    let m : 2 * (h + 1) ≡ 2 * h + 1 + 1 = omega arith in
    rw m
    (eu ∙ ap (λ (x : List Float). part_off k z t x (2 * h + 1)) (without_turn k z left t (2 * h) es)
    ∙ without_turn k z left t (2 * h + 1) refl)

-- two entries of a product
pub fill_two : (xs : List Float) (base : ℕ) (f : ℕ → Scalar) (h : ℕ) {s u : List Float} →
    s ≡ fill_to xs base f (2 * h) → u ≡ put (put s (base + 2 * h) (f (2 * h))) (base + (2 * h + 1)) (f (2 * h + 1)) →
    u ≡ fill_to xs base f (2 * (h + 1))
fill_two xs base f h es eu =
    let m : 2 * (h + 1) ≡ 2 * h + 1 + 1 = omega arith in
    rw m
    (eu ∙ ap (λ (x : List Float). put x (base + (2 * h + 1)) (f (2 * h + 1))) (fill_turn xs base f (2 * h) es refl)
    ∙ fill_turn xs base f (2 * h + 1) refl refl)

-- the same from the start on
pub fill_first_two : (xs : List Float) (f : ℕ → Scalar) (h : ℕ) {s u : List Float} → s ≡ fill_to xs 0 f (2 * h) →
    u ≡ put (put s (2 * h) (f (2 * h))) (2 * h + 1) (f (2 * h + 1)) → u ≡ fill_to xs 0 f (2 * (h + 1))
fill_first_two xs f h es eu =
    let m : 0 + 2 * h ≡ 2 * h = omega arith in
    let n : 0 + (2 * h + 1) ≡ 2 * h + 1 = omega arith in
    fill_two xs 0 f h es (rw (m, n) eu)

-- ---- what is written to one row leaves the others as they were

-- stores at two places, in either order
put_each : (xs : List Float) (i j : ℕ) (u v : Scalar) → i ≢ j → (b c : Bool) → inside xs i ≡ b → inside xs j ≡ c →
    put (put xs i u) j v ≡ put (put xs j v) i u
put_each xs i j u v h true true a e =
    let a' : inside (put xs j v) i ≡ true = rw (length_put xs j v) a in
    let e' : inside (put xs i u) j ≡ true = rw (length_put xs i u) e in
    let n₀ : 2 * i ≢ 2 * j = λ q. h (omega arith) in
    let n₁ : 2 * i + 1 ≢ 2 * j = λ q. omega arith in
    let n₂ : 2 * i ≢ 2 * j + 1 = λ q. omega arith in
    let n₃ : 2 * i + 1 ≢ 2 * j + 1 = λ q. h (omega arith) in
    put_inside (put xs i u) j v e'
    ∙ (rw (
      put_inside xs i u a,
      set_comm (set xs (2 * i) u.lo) (2 * i + 1) (2 * j) u.hi v.lo n₁,
      set_comm xs (2 * i) (2 * j) u.lo v.lo n₀,
      set_comm (set (set xs (2 * j) v.lo) (2 * i) u.lo) (2 * i + 1) (2 * j + 1) u.hi v.hi n₃,
      set_comm (set xs (2 * j) v.lo) (2 * i) (2 * j + 1) u.lo v.hi n₂,
      ← put_inside xs j v e,
    ))
    ∙ sym (put_inside (put xs j v) i u a')
put_each xs i j u v h true false a e =
    let e' : inside (put xs i u) j ≡ false = rw (length_put xs i u) e in
    put_outside (put xs i u) j v e' ∙ ap (λ (l : List Float). put l i u) (sym (put_outside xs j v e))
put_each xs i j u v h false c a e =
    let a' : inside (put xs j v) i ≡ false = rw (length_put xs j v) a in
    ap (λ (l : List Float). put l j v) (put_outside xs i u a) ∙ sym (put_outside (put xs j v) i u a')

put_put : (xs : List Float) (i j : ℕ) (u v : Scalar) → i ≢ j → put (put xs i u) j v ≡ put (put xs j v) i u
put_put xs i j u v h = put_each xs i j u v h (inside xs i) (inside xs j) refl refl

-- a run of places, and one that is not among them
fill_put : (xs : List Float) (base : ℕ) (f : ℕ → Scalar) (j : ℕ) (v : Scalar) (k : ℕ) →
    ((t : ℕ) → t < k → j ≢ base + t) → fill_to (put xs j v) base f k ≡ put (fill_to xs base f k) j v
unfolding fill_to
fill_put xs base f j v zero h = refl
fill_put xs base f j v (suc k) h =
    ap (λ (l : List Float). put l (base + k) (f k)) (fill_put xs base f j v k (λ t l. h t (omega arith)))
    ∙ put_put (fill_to xs base f k) j (base + k) v (f k) (h k (lt-suc_self k))

-- two runs that share no place
fill_fill : (xs : List Float) (base from : ℕ) (f g : ℕ → Scalar) (k m : ℕ) →
    ((s t : ℕ) → s < m → t < k → from + s ≢ base + t) →
    fill_to (fill_to xs base f k) from g m ≡ fill_to (fill_to xs from g m) base f k
unfolding fill_to
fill_fill xs base from f g k zero h = refl
fill_fill xs base from f g k (suc m) h =
    ap (λ (l : List Float). put l (from + m) (g m)) (fill_fill xs base from f g k m (λ s t l. h s t (omega arith)))
    ∙ sym (fill_put (fill_to xs from g m) base f (from + m) (g m) k (λ t l. h m t (lt-suc_self m) l))

-- what is taken off a row is worked out of that row alone
module _ (k : ℕ) (w : List Float) (t : ℕ) where
  -- entry i of row p of `left` without its part along row t of w
  abbrev off : List Float → ℕ → ℕ → Scalar
  off left p i =
      choose_of (sub_of (at left (12 * p + i))
      (mul_of (choose_of (dot_to (row left p) (row w t) k)) (at w (12 * t + i))))

  off_is : (left : List Float) (p : ℕ) → part_off k w t left p ≡ fill_to left (12 * p) (off left p) k
  unfolding minus_scaled
  off_is left p = refl

  off_same : (left l : List Float) (p : ℕ) → ((i : ℕ) → i < k → at l (12 * p + i) ≡ at left (12 * p + i)) →
      fill_to l (12 * p) (off l p) k ≡ fill_to l (12 * p) (off left p) k
  unfolding along
  off_same left l p h =
      let d : dot_to (row l p) (row w t) k ≡ dot_to (row left p) (row w t) k
      = dot_to-ext (row l p) (row left p) (row w t) (row w t) k
      (λ i q. let m : 12 * p + i * 1 ≡ 12 * p + i = omega arith in rw m (h i q)) (λ i q. refl) in
      fill_ext l (12 * p) (off l p) (off left p) k (λ i q. rw (h i q, d))

  off_put : (left : List Float) (p j : ℕ) (v : Scalar) → ((i : ℕ) → i < k → j ≢ 12 * p + i) →
      part_off k w t (put left j v) p ≡ put (part_off k w t left p) j v
  off_put left p j v h =
      off_is (put left j v) p
      ∙ off_same left (put left j v) p (λ i q. at_put_other left j (12 * p + i) v (λ e. h i q (sym e)))
      ∙ fill_put left (12 * p) (off left p) j v k h
      ∙ ap (λ (l : List Float). put l j v) (sym (off_is left p))

-- two rows, in either order
off_off : (k : ℕ) (q : List Float) (s t : ℕ) (left : List Float) (p : ℕ) → k ≤ 12 →
    part_off k q t (part_off k q s left (p + 1)) p ≡ part_off k q s (part_off k q t left p) (p + 1)
off_off k q s t left p h =
    let lower : (i : ℕ) → i < k → at (part_off k q s left (p + 1)) (12 * p + i) ≡ at left (12 * p + i)
    = λ i l. ap (λ (z : List Float). at z (12 * p + i)) (off_is k q s left (p + 1))
    ∙ at_fill_other left (12 * (p + 1)) (off k q s left (p + 1)) k (12 * p + i) (λ u m e. omega arith) in
    let upper : (i : ℕ) → i < k → at (part_off k q t left p) (12 * (p + 1) + i) ≡ at left (12 * (p + 1) + i)
    = λ i l. ap (λ (z : List Float). at z (12 * (p + 1) + i)) (off_is k q t left p)
    ∙ at_fill_other left (12 * p) (off k q t left p) k (12 * (p + 1) + i) (λ u m e. omega arith) in
    off_is k q t (part_off k q s left (p + 1)) p
    ∙ off_same k q t left (part_off k q s left (p + 1)) p lower
    ∙ ap (λ (z : List Float). fill_to z (12 * p) (off k q t left p) k) (off_is k q s left (p + 1))
    ∙ fill_fill left (12 * (p + 1)) (12 * p) (off k q s left (p + 1)) (off k q t left p) k k (λ i j l m e. omega arith)
    ∙ ap (λ (z : List Float). fill_to z (12 * (p + 1)) (off k q s left (p + 1)) k) (sym (off_is k q t left p))
    ∙ sym (off_same k q s left (part_off k q t left p) (p + 1) upper)
    ∙ sym (off_is k q s (part_off k q t left p) (p + 1))

after_off : (k : ℕ) (q : List Float) (t : ℕ) (left : List Float) (p : ℕ) → k ≤ 12 → (s : ℕ) →
    part_off k q t (left_after k q left (p + 1) s) p ≡ left_after k q (part_off k q t left p) (p + 1) s
unfolding left_after
after_off k q t left p h zero = refl
after_off k q t left p h (suc s) =
    off_off k q s t (left_after k q left (p + 1) s) p h
    ∙ ap (λ (z : List Float). part_off k q s z (p + 1)) (after_off k q t left p h s)

-- one part more of two rows
pub two_after : (k : ℕ) (q left : List Float) (p t : ℕ) {l m : List Float} → k ≤ 12 →
    l ≡ left_after k q (left_after k q left p t) (p + 1) t → m ≡ part_off k q t (part_off k q t l p) (p + 1) →
    m ≡ left_after k q (left_after k q left p (t + 1)) (p + 1) (t + 1)
two_after k q left p t h el em =
    em
    ∙ ap (λ (z : List Float). part_off k q t (part_off k q t z p) (p + 1)) el
    ∙ ap (λ (z : List Float). part_off k q t z (p + 1)) (after_off k q t (left_after k q left p t) p h t)
    ∙ after_turn k q (part_off k q t (left_after k q left p t) p) (p + 1) t refl
    ∙ ap (λ (z : List Float). left_after k q z (p + 1) (t + 1)) (after_turn k q left p t refl)

after_put : (k : ℕ) (q left : List Float) (p j : ℕ) (v : Scalar) → ((i : ℕ) → i < k → j ≢ 12 * p + i) → (t : ℕ) →
    left_after k q (put left j v) p t ≡ put (left_after k q left p t) j v
unfolding left_after
after_put k q left p j v h zero = refl
after_put k q left p j v h (suc t) =
    ap (λ (z : List Float). part_off k q t z p) (after_put k q left p j v h t)
    ∙ off_put k q t (left_after k q left p t) p j v h

-- two remainders more
pub two_remainders : (k r : ℕ) (q : List Float) (h : ℕ) {s u x y : List Float} → k ≤ 12 →
    s ≡ remainders_to k r q (2 * h) →
    u ≡ put s (12 * (2 * h) + 2 * h) (degenerate one64) →
    x ≡ put u (12 * (2 * h + 1) + (2 * h + 1)) (degenerate one64) →
    y ≡ left_after k q (left_after k q x (2 * h) r) (2 * h + 1) r →
    y ≡ remainders_to k r q (2 * (h + 1))
two_remainders k r q h {s} {u} l es eu ex ey =
    let m : 2 * (h + 1) ≡ 2 * h + 1 + 1 = omega arith in
    rw m
    (ey
    ∙ ap (λ (z : List Float). left_after k q (left_after k q z (2 * h) r) (2 * h + 1) r) ex
    ∙ ap (λ (z : List Float). left_after k q z (2 * h + 1) r)
    (after_put k q u (2 * h) (12 * (2 * h + 1) + (2 * h + 1)) (degenerate one64) (λ i n e. omega arith) r
    ∙ ap (λ (z : List Float). put z (12 * (2 * h + 1) + (2 * h + 1)) (degenerate one64))
    (ap (λ (z : List Float). left_after k q z (2 * h) r) eu ∙ remainders_turn k r q (2 * h) es))
    ∙ remainders_turn k r q (2 * h + 1) refl)
