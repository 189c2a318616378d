-- `damp` meets its contract: the damping is the definition's, from what each call gives, and the test decides.
use mathlib.Core.Bool.{Bool}
use mathlib.Core.Path.{◌≡◌, ap, ◌∙◌}
use lib.Ieee.{of_bits}
use Rattle.interval.specs.declared.Scalar.{Scalar}
use Rattle.interval.specs.Scalar.{degenerate, is_finite, mul_of, sharpen}
use Rattle.interval.specs.Scaling.{four64, quadrupled}
use Rattle.run.proofs.damping.damp.Goals as goal

-- the damping, and the test
module _ (x : Scalar) {four product mu : Scalar} (e : four ≡ degenerate four64) (m : product ≡ mul_of x four)
    (s : mu ≡ sharpen product) where
  quadruple : mu ≡ quadrupled x
  quadruple = s ∙ ap sharpen (m ∙ ap (mul_of x) e)

  tested : {b : Bool} → b ≡ is_finite mu → b ≡ is_finite (quadrupled x)
  tested h = h ∙ ap is_finite quadruple

pub returns-then-is_finite : goal.returns-then-is_finite
unfolding of_bits
returns-then-is_finite c =
    rw (
      ← tested c.args.x.mu c.degenerate.ensures c.mul.ensures.value c.sharpen-mu.ensures c.is_finite.ensures,
      c.if-is_finite.true,
      quadruple c.args.x.mu c.degenerate.ensures c.mul.ensures.value c.sharpen-mu.ensures,
    )

pub returns : goal.returns
unfolding of_bits
returns c =
    rw (
      ← tested c.args.x.mu c.degenerate.ensures c.mul.ensures.value c.sharpen-mu.ensures c.is_finite.ensures,
      c.if-is_finite.false,
      quadruple c.args.x.mu c.degenerate.ensures c.mul.ensures.value c.sharpen-mu.ensures,
    )
