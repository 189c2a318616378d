-- `sum_change` meets its contract: the sum is that of the rows so far.
use borrow.Author.Rules.{rules}
use mathlib.Core.Path.{◌≡◌, refl}
use native.Mathlib.Nat.{le_antisymm}
use lib.Ieee.{of_bits}
use Rattle.interval.specs.declared.Scalar.{Scalar}
use Rattle.interval.specs.Scalar.{add_of, sub_of}
use Rattle.linear.specs.Dot.{plus_to}
use Rattle.linear.proofs.Sums.{plus_to-more}
use Rattle.run.specs.Judgement.{sum_change}
use Rattle.run.proofs.judgement.sum_change.Goals as goal

-- what was computed from two values that were read
module _ {x y p q r : Scalar} (e : x ≡ p) (f : y ≡ q) where
  less : r ≡ sub_of x y → r ≡ sub_of p q
  less g = rw (g, e, f)

  more : r ≡ add_of x y → r ≡ add_of p q
  more g = rw (g, e, f)

pub loop-i-init : goal.loop-i-init
unfolding plus_to of_bits
loop-i-init c = (search rules, refl)

pub loop-i-preserved : goal.loop-i-preserved
loop-i-preserved c =
    let l = c.loop-i in (
      search rules,
      plus_to-more _ _ _ l.i l.invariant.1
          (less c.value_of-a.ensures
          c.value_of-b.ensures c.sub.ensures.value)
          (more c.value_of-a.ensures
          c.value_of-b.ensures c.add.ensures.value)
          c.mul.ensures.value c.add-total.ensures.value,
    )

pub returns : goal.returns
unfolding sum_change
returns c = rw (le_antisymm c.loop-i.invariant.0 c.loop-i-test.false) at c.loop-i.invariant.1
