-- What each answer of a linear function means: the number of a refusal (PROTOCOL, Refusals), and the value.
use Rattle.std.specs.Prelude.{ℕ, Result, Ok, Err}
use Rattle.interval.specs.Result.{Res, ok, refused}
use Rattle.interval.specs.Result as scalar
use Rattle.interval.specs.declared.Scalar.{Scalar}
use Rattle.linear.specs.declared.results.LinearError.{LinearError}
use Rattle.linear.specs.declared.results.LinearError.TheVariants as e

-- 1: a count above 24. 2: a slice of the wrong length. 5 and 6: the scalars' refusals
abbrev pub number_of : LinearError → ℕ
number_of e.TooMany = 1
number_of e.WrongLength = 2
number_of (e.Arithmetic g) = scalar.number_of g

abbrev pub result_of : Result Scalar LinearError → Res Scalar
result_of (Ok x) = ok x
result_of (Err k) = refused (number_of k)

-- how a call ended, with what the state is then
abbrev pub done_of : {A : Type 0} → Result (Unit {0}) LinearError → A → Res A
done_of (Ok u) s = ok s
done_of (Err k) s = refused (number_of k)
