-- Negation exchanges the ends and the signs; a difference is the sum with the negation.
use Rattle.std.proofs.Common.{◌≡◌, ℕ, ◌*◌, ◌/◌, ◌^◌, true, false, T, ℤ, pos, negsuc, ◌-ℤ◌, ◌*ℤ◌, neg_ℤ, sym, refl, ap}
use Rattle.std.proofs.Common.{subst, arith}
use lib.Signed.{le_z}
use lib.Ieee.{Float, nan, inf, fin, binary64, low, up, down, neg, sub}
use lib.Ieee.Fits.{neg-fits}
use Rattle.interval.specs.declared.Scalar.{Scalar}
use Rattle.interval.specs.Enclosure.{units_of, Fits, Finite, HoldsQ, Holds, Encloses}
use Rattle.interval.specs.Scalar.{add_of, sub_of, neg_of}
use Rattle.interval.proofs.Integers.{P, N, P-neg, N-neg}
use Rattle.interval.proofs.Infinite.{neg_finite}
use Rattle.interval.proofs.Enclosure.Add.{scaled_le, le_scaled, add_holds}

-- ---- negation
pub parts_neg : (z : ℤ) → (P (neg_ℤ z) ≡ N z) × (N (neg_ℤ z) ≡ P z)
parts_neg (pos n) = (P-neg n, N-neg n)
parts_neg (negsuc n) = (refl, refl)

pub signs : (x : Float)
    → (P (units_of binary64 (neg x)) ≡ N (units_of binary64 x))
    × (N (units_of binary64 (neg x)) ≡ P (units_of binary64 x))
unfolding units_of neg
signs nan = (refl, refl)
signs (inf s) = (refl, refl)
signs (fin false m e) = (P-neg (m * up e * 2 ^ low binary64 / down e), N-neg (m * up e * 2 ^ low binary64 / down e))
signs (fin true m e) =
    (sym (N-neg (m * up e * 2 ^ low binary64 / down e)), sym (P-neg (m * up e * 2 ^ low binary64 / down e)))

pub swap_le : (z w z' w' : ℤ) (a b : ℕ) → P z' ≡ N z → N z' ≡ P z → P w' ≡ N w → N w' ≡ P w
    → T (le_z (z *ℤ pos a) (w *ℤ pos b)) → T (le_z (w' *ℤ pos b) (z' *ℤ pos a))
swap_le z w z' w' a b p n q m h =
    le_scaled w' z' b a
    (omega (
      arith,
      scaled_le z w a b h,
      ap (λ (t : ℕ). t * a) p,
      ap (λ (t : ℕ). t * a) n,
      ap (λ (t : ℕ). t * b) q,
      ap (λ (t : ℕ). t * b) m,
    ))

pub neg_under : (x : Float) (p : ℤ) (c : ℕ) → T (le_z (p *ℤ pos (2 ^ low binary64)) (units_of binary64 x *ℤ pos c))
    → T (le_z (units_of binary64 (neg x) *ℤ pos c) (neg_ℤ p *ℤ pos (2 ^ low binary64)))
neg_under x p c =
    let s = signs x in
    let q = parts_neg p in
    swap_le p (units_of binary64 x) (neg_ℤ p) (units_of binary64 (neg x)) (2 ^ low binary64) c q.0 q.1 s.0 s.1

pub neg_over : (x : Float) (p : ℤ) (c : ℕ) → T (le_z (units_of binary64 x *ℤ pos c) (p *ℤ pos (2 ^ low binary64)))
    → T (le_z (neg_ℤ p *ℤ pos (2 ^ low binary64)) (units_of binary64 (neg x) *ℤ pos c))
neg_over x p c =
    let s = signs x in
    let q = parts_neg p in
    swap_le (units_of binary64 x) p (units_of binary64 (neg x)) (neg_ℤ p) c (2 ^ low binary64) s.0 s.1 q.0 q.1

pub neg_holds : (x : Scalar) (p : ℤ) (c : ℕ) → HoldsQ x p c → HoldsQ (neg_of x) (neg_ℤ p) c
neg_holds x p c h = record { from_lo = neg_under x.hi p c h.to_hi; to_hi = neg_over x.lo p c h.from_lo }

-- ---- difference
pub sub_is : (x y : Scalar) → sub_of x y ≡ add_of x (neg_of y)
unfolding sub
sub_is x y = refl

pub sub_holds : (x y : Scalar) → Fits x → Fits y → Encloses ◌-ℤ◌ x y (sub_of x y)
sub_holds x y tx ty fx fy fr p q k a b =
    subst (λ (r : Scalar). Holds r (p -ℤ q) k) (sym (sub_is x y))
    (add_holds x (neg_of y) tx (neg-fits binary64 y.hi ty.1, neg-fits binary64 y.lo ty.0) fx
    (record { lo_finite = neg_finite y.hi fy.hi_finite; hi_finite = neg_finite y.lo fy.lo_finite })
    (subst Finite (sub_is x y) fr) p (neg_ℤ q) k a (neg_holds y q (2 ^ k) b))
