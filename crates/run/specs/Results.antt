-- What each result with a refusal means: the number of the refusal (PROTOCOL, Refusals), or the value.
use Rattle.linear.specs.declared.results.LinearError.{LinearError}
use Rattle.std.specs.Prelude.{ℕ, Bool, Err, Ok, Result}
use Rattle.interval.specs.Result.{Res, ok, refused}
use Rattle.linear.specs.LinearResult.{number_of}

abbrev pub truth_of : Result Bool LinearError → Res Bool
truth_of (Ok b) = ok b
truth_of (Err e) = refused (number_of e)

abbrev pub count_of : Result ℕ LinearError → Res ℕ
count_of (Ok n) = ok n
count_of (Err e) = refused (number_of e)

-- what follows from a value, where there is one
abbrev pub map_r : {A B : Type 0} → (A → B) → Res A → Res B
map_r f (ok a) = ok (f a)
map_r f (refused e) = refused e
