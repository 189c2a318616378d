-- The greater of two intervals holds the greater of what each holds: the one-sided law, of finite ends.
use Rattle.std.proofs.Common.{◌^◌}
use Rattle.interval.specs.declared.Scalar.{Scalar}
use Rattle.interval.specs.Enclosure.{Fits, Encloses, maxℤ}
use Rattle.interval.specs.Scalar.{max_of}
use Rattle.interval.proofs.OneSided.Ends.{holds_within, within_holds}
use Rattle.interval.proofs.OneSided.Max.{max_within}

pub max_encloses : (x y : Scalar) → Fits x → Fits y → Encloses maxℤ x y (max_of x y)
max_encloses x y tx ty fx fy fr p q k a b = within_holds (max_of x y) (maxℤ p q) (2 ^ k) fr
    (max_within x y p q (2 ^ k) tx ty (holds_within x p (2 ^ k) fx a) (holds_within y q (2 ^ k) fy b))
