-- Sums of products: one product more, the factors exchanged, the points that a sum starts with, and runs that are rows.
use Prim.Native.Nat.{ℕ, zero, suc, ◌+◌, ◌-◌, ◌*◌, ◌≤◌, ◌<◌}
use mathlib.Core.Bool.{Bool, true, false, not, ◌&&◌, true≢false, false≢true}
use mathlib.Core.Path.{◌≡◌, refl, sym, ap, ap₂, ◌∙◌}
use mathlib.Core.List.{List}
use native.Mathlib.Numerals.{add-one}
use native.Mathlib.Omega.{arith}
use lib.Ieee.{Float}
use Rattle.interval.specs.declared.Scalar.{Scalar}
use Rattle.interval.specs.Scalar.{pick, add_of, sub_of, mul_of, neg_of, is_sharp}
use Rattle.interval.proofs.Commutation.{mul_commutes}
use Rattle.interval.proofs.Negation.{neg_neg_of, difference_negated}
use Rattle.linear.specs.Flat.{at, along}
use Rattle.linear.specs.Dot.{plus_to, minus_to, points_from}

module _ (f g : ℕ → Scalar) (z : Scalar) {s x y p r : Scalar} (i : ℕ) where
  pub plus_to-more : s ≡ plus_to f g z i → x ≡ f i → y ≡ g i → p ≡ mul_of x y → r ≡ add_of s p
      → r ≡ plus_to f g z (i + 1)
  unfolding plus_to
  plus_to-more es ex ey ep er = rw (add-one, er, ep, ex, ey, es)

  pub minus_to-more : s ≡ minus_to f g z i → x ≡ f i → y ≡ g i → p ≡ mul_of x y → r ≡ sub_of s p
      → r ≡ minus_to f g z (i + 1)
  unfolding minus_to
  minus_to-more es ex ey ep er = rw (add-one, er, ep, ex, ey, es)

-- z less a sum is -(-z and the sum)
pub minus_to-negated : (f g : ℕ → Scalar) (z : Scalar) (k : ℕ) → minus_to f g z k ≡ neg_of (plus_to f g (neg_of z) k)
unfolding minus_to plus_to
minus_to-negated f g z zero = sym (neg_neg_of z)
minus_to-negated f g z (suc k) =
    let s = plus_to f g (neg_of z) k in
    let p = mul_of (f k) (g k) in
    ap (λ (x : Scalar). sub_of x p) (minus_to-negated f g z k) ∙ difference_negated (neg_of s) p
    ∙ ap (λ (x : Scalar). neg_of (add_of x p)) (neg_neg_of s)

pub negated_back : (f g : ℕ → Scalar) (z : Scalar) (k : ℕ) {n s r : Scalar}
    → n ≡ neg_of z → s ≡ plus_to f g n k → r ≡ neg_of s → r ≡ minus_to f g z k
negated_back f g z k en es er =
    er ∙ ap neg_of (es ∙ ap (λ (n : Scalar). plus_to f g n k) en) ∙ sym (minus_to-negated f g z k)

-- with the factors exchanged
pub plus_to-commutes : (f g : ℕ → Scalar) (z : Scalar) (k : ℕ) → plus_to f g z k ≡ plus_to g f z k
unfolding plus_to
plus_to-commutes f g z zero = refl
plus_to-commutes f g z (suc k) = ap₂ add_of (plus_to-commutes f g z k) (mul_commutes (f k) (g k))

pub minus_to-commutes : (f g : ℕ → Scalar) (z : Scalar) (k : ℕ) → minus_to f g z k ≡ minus_to g f z k
minus_to-commutes f g z k =
    minus_to-negated f g z k ∙ ap neg_of (plus_to-commutes f g (neg_of z) k) ∙ sym (minus_to-negated g f z k)

pub holds : (b : Bool) → not b ≡ false → b ≡ true
holds true h = refl
holds false h = absurd (true≢false h)

fails : (b : Bool) → not b ≡ true → b ≡ false
fails true h = absurd (false≢true h)
fails false h = refl

-- the pairs of points that a sum starts with
module _ (f g : ℕ → Scalar) where
  pub points_most : (t k : ℕ) → points_from f g t k ≤ t + k
  unfolding points_from
  points_most t zero = omega arith
  points_most t (suc k) = go (is_sharp (f t) && is_sharp (g t)) (points_most (suc t) k)
    where
      go : (b : Bool) {n : ℕ} → n ≤ suc t + k → pick b n t ≤ t + suc k
      go true h = omega arith
      go false h = omega arith

  pub points_within : {n : ℕ} (k : ℕ) → n ≡ points_from f g 0 k → n ≤ k
  points_within k e = omega (arith, e, points_most 0 k)

  pub points_start : (k : ℕ) → points_from f g 0 (k - 0) ≡ points_from f g 0 k
  points_start k = let e : k - 0 ≡ k = omega arith in ap (points_from f g 0) e

  one_more : (t k : ℕ) → t < k
      → points_from f g t (k - t) ≡ pick (is_sharp (f t) && is_sharp (g t)) (points_from f g (t + 1) (k - (t + 1))) t
  unfolding points_from
  one_more t k h =
      let e : k - t ≡ suc (k - (t + 1)) = omega arith in
      ap (points_from f g t) e
      ∙ ap (λ (n : ℕ). pick (is_sharp (f t) && is_sharp (g t)) (points_from f g n (k - (t + 1))) t) (sym (add-one t))

  pub points_all : (t k : ℕ) → t ≤ k → k ≤ t → t ≡ points_from f g t (k - t)
  unfolding points_from
  points_all t k h l = let e : k - t ≡ 0 = omega arith in sym (ap (points_from f g t) e)

  module _ (t k : ℕ) {x y : Scalar} {b : Bool} (h : t < k) (ex : x ≡ f t) (ey : y ≡ g t)
      (eb : b ≡ (is_sharp x && is_sharp y)) where
    tested : (is_sharp (f t) && is_sharp (g t)) ≡ b
    tested =
        sym (eb ∙ ap (λ (z : Scalar). is_sharp z && is_sharp y) ex
        ∙ ap (λ (z : Scalar). is_sharp (f t) && is_sharp z) ey)

    pub points_on : not b ≡ false → points_from f g t (k - t) ≡ points_from f g (t + 1) (k - (t + 1))
    points_on e =
        one_more t k h ∙ ap (λ (b : Bool). pick b (points_from f g (t + 1) (k - (t + 1))) t) (tested ∙ holds b e)

    pub points_end : not b ≡ true → t ≡ points_from f g t (k - t)
    points_end e =
        sym (one_more t k h ∙ ap (λ (b : Bool). pick b (points_from f g (t + 1) (k - (t + 1))) t) (tested ∙ fails b e))

-- a run with step 1
pub along_row : (xs : List Float) (base k : ℕ) → along xs base 1 k ≡ at xs (base + k)
unfolding along
along_row xs base k = let e : base + k * 1 ≡ base + k = omega arith in rw e

-- from the start on it is the list's own
pub along_start : (xs : List Float) → along xs 0 1 ≡ at xs
unfolding along
along_start xs = let e : (k : ℕ) → 0 + k * 1 ≡ k = λ k. omega arith in λ i k. at xs (e k i)
