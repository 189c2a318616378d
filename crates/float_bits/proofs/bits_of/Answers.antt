-- `float_bits::bits_of` meets its contract: only a NaN differs from itself.
use mathlib.Core.Path.{◌≡◌, refl, sym, subst}
use mathlib.Core.Bool.{true, false, not, true≢false}
use lib.Dec.{T}
use lib.Ieee.{Float, nan, inf, fin, binary64, ne, is_nan, to_bits}
use lib.Ieee.Compare.{differs_from_itself}
use borrow.Author.Rules.{rules}
use Rattle.float_bits.proofs.bits_of.Goals as goal

number : (x : Float) → ne x x ≡ false → T (not (is_nan x))
unfolding ne is_nan
number nan a = absurd (true≢false a)
number (inf s) a = tt
number (fin s m e) a = tt

no_number : (x : Float) → ne x x ≡ true → 9221120237041090560 ≡ to_bits binary64 x
unfolding to_bits
no_number x a = subst (λ (y : Float). 9221120237041090560 ≡ to_bits binary64 y)
    (sym (differs_from_itself x (subst T (sym a) tt))) refl

pub returns-then-x : goal.returns-then-x
returns-then-x c = no_number _ c.if-x.true

pub float_to_bits-result : goal.float_to_bits-result
float_to_bits-result c = number _ c.if-x.false

pub returns : goal.returns
returns c = search rules
