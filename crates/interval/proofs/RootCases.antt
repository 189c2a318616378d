-- What the tests of `nearest_root` leave of x.
use Rattle.std.proofs.Common.{◌≡◌, ℕ, suc, ◌*◌, ◌^◌, ◌<◌, true, false, T, ◌⊎◌, ℤ, pos, sym, refl, ap, subst, inl, inr}
use mathlib.Core.Bool.{false≢true}
use lib.Ieee.{Float, nan, inf, fin, binary64, low, ne, eq, fits, to_bits}
use lib.Ieee.Compare.{differs_from_itself}
use Rattle.interval.specs.Pattern.{inf_bits, magnitude}
use Rattle.interval.specs.Root.{rounded_root, nearest_root}
use Rattle.interval.proofs.Patterns.{bits_under, bits_pos}
use Rattle.interval.proofs.Rank.{count}
use Rattle.interval.proofs.Tests.{zero_test}

pub root_nan : (x : Float) → ne x x ≡ true → x ≡ nearest_root x
unfolding nearest_root
root_nan x a = subst (λ (y : Float). y ≡ nearest_root y) (sym (differs_from_itself x (subst T (sym a) tt))) refl

pub root_inf : (x : Float) → eq x (inf false) ≡ true → x ≡ nearest_root x
unfolding eq nearest_root
root_inf nan a = absurd (false≢true a)
root_inf (inf true) a = absurd (false≢true a)
root_inf (inf false) a = refl
root_inf (fin s m e) a = absurd (false≢true a)

pub root_zero : (x : Float) → eq x (fin false 0 (pos 0)) ≡ true → x ≡ nearest_root x
unfolding nearest_root
root_zero x a = let w = zero_test x a in subst (λ (y : Float). y ≡ nearest_root y) (sym w.2) refl

pub root_none : (x : Float) → (x ≡ inf true) ⊎ ((m : ℕ) × (e : ℤ) × (x ≡ fin true (suc m) e)) → nan ≡ nearest_root x
unfolding nearest_root
root_none x (inl e) = subst (λ (y : Float). nan ≡ nearest_root y) (sym e) refl
root_none x (inr w) = subst (λ (y : Float). nan ≡ nearest_root y) (sym w.2) refl

abbrev pub Above : Float → Type 0
Above x = (0 < to_bits binary64 x) × (to_bits binary64 x < inf_bits binary64)
    × (rounded_root binary64 (magnitude binary64 (to_bits binary64 x) * 2 ^ low binary64) ≡ nearest_root x)

pub root_above : (x : Float) → T (fits binary64 x) → (m : ℕ) × (e : ℤ) × (x ≡ fin false (suc m) e) → Above x
unfolding nearest_root
root_above x t w =
    subst (λ (y : Float). T (fits binary64 y) → Above y) (sym w.2)
    (λ (u : T (fits binary64 (fin false (suc w.0) w.1))). (
      bits_pos binary64 w.0 w.1 u,
      bits_under binary64 (suc w.0) w.1 u,
      ap (λ (n : ℕ). rounded_root binary64 (n * 2 ^ low binary64)) (sym (count binary64 (suc w.0) w.1 u)),
    )) t
