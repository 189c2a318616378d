-- The size of an interval holds the size of what it holds: the one-sided law, of finite ends.
use Rattle.std.proofs.Common.{ℕ, ℤ, pos, nat_abs}
use Rattle.interval.specs.declared.Scalar.{Scalar}
use Rattle.interval.specs.Enclosure.{Fits, Finite, HoldsQ}
use Rattle.interval.specs.Scalar.{abs_of}
use Rattle.interval.proofs.OneSided.Ends.{holds_within, within_holds}
use Rattle.interval.proofs.OneSided.Abs.{abs_within, abs_finite}

pub abs_holds : (x : Scalar) → Fits x → Finite x → (p : ℤ) (c : ℕ) → HoldsQ x p c
    → HoldsQ (abs_of x) (pos (nat_abs p)) c
abs_holds x t f p c h =
    within_holds (abs_of x) (pos (nat_abs p)) c (abs_finite x f) (abs_within x p c t (holds_within x p c f h))
