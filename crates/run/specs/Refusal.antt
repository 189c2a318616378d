-- The number of each refusal of a run's calls (PROTOCOL, Refusals), and the refusal of a number.
use Rattle.std.specs.Prelude.{ℕ, eqb}
use Rattle.interval.specs.Result as scalar
use Rattle.interval.specs.Scalar.{pick}
use Rattle.interval.specs.declared.GeopError.TheVariants.{SqrtOfNegative, DivisorContainsZero}
use Rattle.run.specs.declared.refusal.Refusal.{Refusal}
use Rattle.run.specs.declared.refusal.Refusal.TheVariants.{TooMany, WrongLength, OutsideDomain, Altered, Arithmetic}

-- 1: a count above its limit. 2: a slice of the wrong length. 3: an end outside the domain. 4: a state that no call
-- could have left, or no open question. 5 and 6: the scalars' refusals
abbrev pub number_of : Refusal → ℕ
number_of TooMany = 1
number_of WrongLength = 2
number_of OutsideDomain = 3
number_of Altered = 4
number_of (Arithmetic e) = scalar.number_of e

-- the refusal of the number 1 to 6
abbrev pub refusal_at : ℕ → Refusal
refusal_at k =
    pick (eqb k 1) TooMany (pick (eqb k 2) WrongLength (pick (eqb k 3) OutsideDomain
    (pick (eqb k 5) (Arithmetic SqrtOfNegative) (pick (eqb k 6) (Arithmetic DivisorContainsZero) Altered))))
