-- A difference is a sum with the sign turned before and after: z - w is -(-z + w), by the bits of both ends.
use Rattle.std.proofs.Common.{◌≡◌, sym, ap, ◌∙◌}
use lib.Ieee.{Float, binary64, add, neg}
use Rattle.interval.specs.declared.Scalar.{Scalar}
use Rattle.interval.specs.Scalar.{add_of, sub_of, neg_of}
use Rattle.interval.specs.Step.{next_up}
use Rattle.interval.proofs.Bounds.{neg_neg, add_below, sub_below, sub_above}

pub neg_neg_of : (x : Scalar) → neg_of (neg_of x) ≡ x
neg_neg_of x = λ i. record { lo = neg_neg x.lo i; hi = neg_neg x.hi i }

pub difference_negated : (z w : Scalar) → sub_of z w ≡ neg_of (add_of (neg_of z) w)
difference_negated z w = λ i. record { lo = low i; hi = high i }
  where
    low : (sub_of z w).lo ≡ neg (add_of (neg_of z) w).hi
    low = sym (neg_neg (sub_of z w).lo) ∙ ap neg (sub_below z w)

    high : (sub_of z w).hi ≡ neg (add_of (neg_of z) w).lo
    high =
        sub_above z w
        ∙ ap (λ (a : Float). next_up (add binary64 a (neg w.lo))) (sym (neg_neg z.hi))
        ∙ sym (add_below (neg_of z) w)
