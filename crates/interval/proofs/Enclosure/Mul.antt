-- The product of two intervals holds the product of what each holds: the one-sided law, of finite ends.
use Rattle.std.proofs.Common.{ℕ, ◌+◌, ◌*◌, ◌^◌, ℤ, ◌*ℤ◌, sym, subst, inl, pow_pos, pow-add}
use Rattle.interval.specs.declared.Scalar.{Scalar}
use Rattle.interval.specs.Enclosure.{Fits, Finite, HoldsQ, Holds}
use Rattle.interval.specs.Scalar.{mul_of}
use Rattle.interval.proofs.OneSided.Ends.{holds_within, within_holds}
use Rattle.interval.proofs.OneSided.Mul.{mul_within}

pub mul_holds : (x y : Scalar) → Fits x → Fits y → Finite x → Finite y → Finite (mul_of x y) → (p q : ℤ) (j k : ℕ)
    → Holds x p j → Holds y q k → Holds (mul_of x y) (p *ℤ q) (j + k)
mul_holds x y tx ty fx fy fr p q j k a b =
    subst (HoldsQ (mul_of x y) (p *ℤ q)) (sym (pow-add 2 j k))
    (within_holds (mul_of x y) (p *ℤ q) (2 ^ j * 2 ^ k) fr
    (mul_within x y p q (2 ^ j) (2 ^ k) (pow_pos j) (pow_pos k) tx ty
    (record { left = λ u v. inl fy.lo_finite; right = λ u v. inl fx.lo_finite }) (holds_within x p (2 ^ j) fx a)
    (holds_within y q (2 ^ k) fy b)))
