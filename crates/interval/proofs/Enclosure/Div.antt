-- A quotient holds the quotients of what the operands hold: the one-sided law, of finite ends.
use Rattle.std.proofs.Common.{◌≡◌, ℕ, zero, suc, ◌+◌, ◌*◌, ◌^◌, ◌≤◌, Bool, false, ℤ, pos, negsuc, ◌*ℤ◌, neg_ℤ, sym, ap}
use Rattle.std.proofs.Common.{subst, zero-lt-suc, mul-zero, zero-mul, arith, pow_pos}
use native.Mathlib.Nat.{eq_of_mul-eq-mul_right}
use lib.IntN.{zero-*ℤ}
use lib.Ieee.{binary64, low}
use Rattle.interval.specs.declared.Scalar.{Scalar}
use Rattle.interval.specs.Enclosure.{units_of, Fits, Finite, HoldsQ, HoldsRatio}
use Rattle.interval.specs.OneSided.{WithinRatio}
use Rattle.interval.specs.Result.{ok, refused}
use Rattle.interval.specs.Scalar.{pick, inverse, holds_zero, mul_of, div_of}
use Rattle.interval.proofs.Integers.{P, N}
use Rattle.interval.proofs.Enclosure.Add.{scaled_le, le_scaled}
use Rattle.interval.proofs.OneSided.Ends.{holds_within, within_holds}
use Rattle.interval.proofs.OneSided.Div.{div_within}

not_refused : (x y : Scalar) → holds_zero y ≡ false → div_of x y ≡ ok (mul_of x (inverse y))
unfolding div_of
not_refused x y z = ap (λ (b : Bool). pick b (refused 6) (ok (mul_of x (inverse y)))) z

ratio_holds : (r : Scalar) (p : ℤ) (j : ℕ) (q : ℤ) (k : ℕ) → Finite r → WithinRatio r p j q k → HoldsRatio r p j q k
ratio_holds r p j (pos zero) k f h = tt
ratio_holds r p j (pos (suc n)) k f h = within_holds r (p *ℤ pos k) (j * suc n) f h
ratio_holds r p j (negsuc n) k f h = within_holds r (p *ℤ neg_ℤ (pos k)) (j * suc n) f h

-- what is held over 0 is 0, and every interval holds 0 over 0
over_none : (x : Scalar) (p : ℤ) → HoldsQ x p 0 → p ≡ pos 0
over_none x p h = is_none p (eq_of_mul-eq-mul_right (2 ^ low binary64) (pow_pos (low binary64)) (P p) (N p) (same _
    _ _ _ (P p) (N p) (2 ^ low binary64) (scaled_le (units_of binary64 x.lo) p 0 (2 ^ low binary64) h.from_lo)
    (scaled_le p (units_of binary64 x.hi) (2 ^ low binary64) 0 h.to_hi)))
  where
    same : (a b c d p n l : ℕ) → a * 0 + n * l ≤ p * l + b * 0 → p * l + d * 0 ≤ c * 0 + n * l → p * l ≡ n * l
    same a b c d p n l g h = omega (arith, mul-zero a, mul-zero b, mul-zero c, mul-zero d)

    is_none : (p : ℤ) → P p ≡ N p → p ≡ pos 0
    is_none (pos n) e = ap pos e
    is_none (negsuc n) e = absurd (omega arith)

nothing : (r : Scalar) (z : ℤ) (c : ℕ) → z ≡ pos 0 → c ≡ 0 → HoldsQ r z c
nothing r z c e d = subst (λ (z : ℤ). HoldsQ r z c) (sym e) (subst (HoldsQ r (pos 0)) (sym d) (record {
  from_lo = le_scaled (units_of binary64 r.lo) (pos 0) 0 (2 ^ low binary64) (flat _ _ (2 ^ low binary64));
  to_hi = le_scaled (pos 0) (units_of binary64 r.hi) (2 ^ low binary64) 0 (flat' _ _ (2 ^ low binary64));
}))
  where
    flat : (a b l : ℕ) → a * 0 + 0 * l ≤ 0 * l + b * 0
    flat a b l = omega (arith, mul-zero a)

    flat' : (a b l : ℕ) → 0 * l + b * 0 ≤ a * 0 + 0 * l
    flat' a b l = omega (arith, mul-zero b)

none_ratio : (r : Scalar) (q : ℤ) (k : ℕ) → HoldsRatio r (pos 0) 0 q k
none_ratio r (pos zero) k = tt
none_ratio r (pos (suc n)) k = nothing r (pos 0 *ℤ pos k) (0 * suc n) (zero-*ℤ (pos k)) (zero-mul (suc n))
none_ratio r (negsuc n) k = nothing r (pos 0 *ℤ neg_ℤ (pos k)) (0 * suc n) (zero-*ℤ (neg_ℤ (pos k))) (zero-mul (suc n))

pub div_holds : (x y : Scalar) → Fits x → Fits y → Finite x
    → Finite y → holds_zero y ≡ false → Finite (mul_of x (inverse y)) → (p q : ℤ) (j k : ℕ) → HoldsQ x p j
    → HoldsQ y q k
    → HoldsRatio (mul_of x (inverse y)) p j q k
div_holds x y tx ty fx fy z fr p q zero k a b = subst (λ (p : ℤ). HoldsRatio (mul_of x (inverse y)) p 0 q k)
    (sym (over_none x p a)) (none_ratio (mul_of x (inverse y)) q k)
div_holds x y tx ty fx fy z fr p q (suc j) zero a b =
    subst (λ (q : ℤ). HoldsRatio (mul_of x (inverse y)) p (suc j) q 0) (sym (over_none y q b)) tt
div_holds x y tx ty fx fy z fr p q (suc j) (suc k) a b =
    ratio_holds (mul_of x (inverse y)) p (suc j) q (suc k) fr
    (div_within x y (mul_of x (inverse y)) p q (suc j) (suc k) (zero-lt-suc j) (zero-lt-suc k) tx ty (not_refused x y z)
    (holds_within x p (suc j) fx a) (holds_within y q (suc k) fy b))
