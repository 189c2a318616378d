-- Sums of products by their bounds: one product more, whatever the sum starts from, and the points among the factors.
use mathlib.Core.Path.{◌≡◌, refl, sym, ap, ◌∙◌, subst}
use mathlib.Core.List.{List}
use Prim.Native.Nat.{ℕ, ◌+◌, ◌≤◌}
use native.Mathlib.Nat.{le_refl, le_antisymm}
use lib.Ieee.{Float, neg, lt}
use lib.ListN.{length, take}
use lib.Seq.{take_all}
use Rattle.interval.specs.declared.Scalar.{Scalar}
use Rattle.interval.specs.Scalar.{zero_s, add_of, mul_of}
use Rattle.linear.specs.declared.bounds.Bounds.{Bounds}
use Rattle.linear.specs.Bounds.{bounds_of, scalar_of, Bounding}
use Rattle.linear.specs.Dot.{plus_to}
use Rattle.linear.specs.Lengths.{Inside}
use Rattle.linear.proofs.Sums.{plus_to-more}
use Rattle.linear.proofs.BoundLaws.{bounds_back, bounding}

pub zero_bounds : {b : Bounds} → b ≡ bounds_of zero_s → Bounding zero_s b
unfolding neg lt
zero_bounds e = record { value = e; proper = rw e tt }

module _ (f g : ℕ → Scalar) where
  pub plus_more : (z : Scalar) {x y : Scalar} {s r : Bounds} (i : ℕ) → Bounding (plus_to f g z i) s
      → x ≡ f i → y ≡ g i → Bounding (add_of (scalar_of s) (mul_of x y)) r → Bounding (plus_to f g z (i + 1)) r
  plus_more z i b ex ey h = bounding (plus_to-more f g z i (bounds_back b.value) ex ey refl refl) h

  -- s bounds the first `done` terms from whatever start, and so r bounds the first t
  abbrev pub GoneOn : ℕ → Bounds → ℕ → Bounds → Type 0
  GoneOn done s t r = (z : Scalar) → Bounding (plus_to f g z done) s → Bounding (plus_to f g z t) r

  pub gone_more : (done : ℕ) (s₀ : Bounds) {x y : Scalar} {s r : Bounds} (t : ℕ) → GoneOn done s₀ t s
      → x ≡ f t → y ≡ g t → Bounding (add_of (scalar_of s) (mul_of x y)) r → GoneOn done s₀ (t + 1) r
  gone_more done s₀ t o ex ey h z b = plus_more z t (o z b) ex ey h

  pub gone_last : (z : Scalar) (done t k : ℕ) (s₀ s : Bounds) {r : Scalar} → GoneOn done s₀ t s
      → Bounding (plus_to f g z done) s₀ → t ≤ k → k ≤ t → r ≡ scalar_of s → r ≡ plus_to f g z k
  gone_last z done t k s₀ s o b h l e = rw (le_antisymm h l) at (e ∙ bounds_back (o z b).value)

-- ---- a slice made anew is the slice
pub anew : (l : List Float) → take (length l) l ≡ l
anew l = take_all (length l) l (le_refl (length l))

pub anew_length : (l : List Float) → length l ≡ length (take (length l) l)
anew_length l = sym (ap length (anew l))

pub anew_inside : (l : List Float) (base step k : ℕ) → Inside base step k (length l) → Inside base step k
    (length (take (length l) l))
anew_inside l base step k = subst (Inside base step k) (anew_length l)
