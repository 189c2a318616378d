-- `float_bits::float_of` meets its contract: with the sign taken off, a NaN's pattern is above infinity's.
use mathlib.Core.Path.{◌≡◌, sym, ◌∙◌, subst, refl}
use mathlib.Core.Bool.{Bool, true, not, false≢true}
use lib.Dec.{T}
use lib.Ieee.{Float, nan, inf, fin, binary64, is_nan, of_bits, div}
use lib.Ieee.Bits.{nan_bits_above, nan_bits_is}
use borrow.Author.Rules.{rules}
use borrow.Author.Tests.{le-ltb, lt-ltb}
use Rattle.float_bits.proofs.float_of.Goals as goal

none : (x : Float) → is_nan x ≡ true → nan ≡ x
unfolding is_nan
none nan a = refl
none (inf s) a = absurd (false≢true a)
none (fin s m e) a = absurd (false≢true a)

pub float_from_bits-result : goal.float_from_bits-result
float_from_bits-result c =
    subst (λ (z : Bool). T (not z)) (sym (nan_bits_above binary64 _ ∙ le-ltb _ _ c.if-bits-le9218868437227405312.true)) tt

pub returns-then-bits-le9218868437227405312 : goal.returns-then-bits-le9218868437227405312
returns-then-bits-le9218868437227405312 c = search rules

pub returns : goal.returns
unfolding div of_bits
returns c = none _ (sym (nan_bits_is binary64 c.args.bits) ∙ nan_bits_above binary64 c.args.bits
    ∙ lt-ltb _ _ c.if-bits-le9218868437227405312.false)
