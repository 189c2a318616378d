-- What an operation that may refuse gives: a value, or the number of the refusal (PROTOCOL, Refusals).
use Rattle.std.specs.Prelude.{ℕ, Result, Ok, Err}
use Rattle.interval.specs.declared.Scalar.{Scalar}
use Rattle.interval.specs.declared.GeopError.{GeopError}
use Rattle.interval.specs.declared.GeopError.TheVariants.{SqrtOfNegative, DivisorContainsZero}

pub data Res (A : Type 0) : Type 0 where
  ok : A → Res A
  refused : ℕ → Res A

-- 5: the root of an interval with hi < 0. 6: a division refused by the interval rule, or `from_ratio` over 0
abbrev pub number_of : GeopError → ℕ
number_of SqrtOfNegative = 5
number_of DivisorContainsZero = 6

abbrev pub result_of : Result Scalar GeopError → Res Scalar
result_of (Ok x) = ok x
result_of (Err e) = refused (number_of e)
