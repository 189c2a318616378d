-- The arithmetic of an i64: a result that is a number that fits is that number when it is read back.
use Prim.Native.Nat.{ℕ, zero, suc, ◌<◌}
use mathlib.Core.Path.{◌≡◌, sym, ap, ◌∙◌, subst}
use native.Mathlib.Omega.{arith}
use lib.IntN.{ℤ, pos, neg_ℤ, ◌-ℤ◌, +ℤ_idl}
use mir.Syntax.{w64}
use mir.Val.{SFits, to_z, of_z}
use mir.ValLaws.{to_z-of_z}

module _ {z e : ℤ} (is : z ≡ e) where
  pub from_zero : pos 0 -ℤ z ≡ neg_ℤ e
  from_zero = +ℤ_idl (neg_ℤ z) ∙ ap neg_ℤ is

  pub fits_as : SFits w64 e → SFits w64 z
  fits_as f = subst (SFits w64) (sym is) f

  pub reads_as : SFits w64 e → to_z w64 (of_z w64 z) ≡ e
  reads_as f = to_z-of_z w64 z (fits_as f) ∙ is

pub minus_fits : (n : ℕ) → n < 9223372036854775808 → SFits w64 (neg_ℤ (pos n))
minus_fits zero h = record { sfits = omega arith }
minus_fits (suc n) h = record { sfits = omega arith }
