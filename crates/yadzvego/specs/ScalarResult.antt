-- What crosses to C for an operation that may refuse: number 0 and the value, or the refusal's number and the scalar
-- zero.
use Rattle.interval.specs.Result.{Res, ok, refused}
use Rattle.interval.specs.Scalar.{zero_s}
use Rattle.interval.specs.declared.Scalar.{Scalar}
use Rattle.yadzvego.specs.declared.scalars.ScalarResult.{ScalarResult}

abbrev pub scalar_result_of : Res Scalar → ScalarResult
scalar_result_of (ok x) = record { number = 0; value = x }
scalar_result_of (refused n) = record { number = n; value = zero_s }
