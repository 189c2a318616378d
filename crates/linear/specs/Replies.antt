-- What a call that writes a slice leaves: how it ended, and what the slice holds then. A check that fails refuses with
-- nothing written; a refusal by the scalars leaves the output clear.
use Rattle.std.specs.Prelude.{ℕ, Bool, true, false, Result}
use Rattle.interval.specs.Result.{Res, ok, refused}
use Rattle.linear.specs.LinearResult.{done_of}
use Rattle.linear.specs.Results.{kept}
use Rattle.linear.specs.declared.results.LinearError.{LinearError}

pub record Reply (A : Type 0) : Type 0 where
  pub ended : Res (Unit {0})
  pub out : A

abbrev pub replied : {A : Type 0} → Result (Unit {0}) LinearError → A → Reply A
replied d x = record { ended = done_of d tt; out = x }

abbrev pub forget : {A : Type 0} → Res A → Res (Unit {0})
forget (ok x) = ok tt
forget (refused k) = refused k

-- the result, or `clear` where it is refused
abbrev pub reply_of : {A : Type 0} → A → Res A → Reply A
reply_of clear r = record { ended = forget r; out = kept clear r }

-- the result beside something else that is lent
abbrev pub beside : {A B : Type 0} → A → Res B → Res (A × B)
beside z (ok x) = ok (z, x)
beside z (refused k) = refused k

-- the check b, of the number k: where it fails the output stays as it was
abbrev pub checked : {A : Type 0} → Bool → ℕ → A → Reply A → Reply A
checked true k x r = r
checked false k x r = record { ended = refused k; out = x }

-- the same for a call that gives a value
abbrev pub checked_value : {A : Type 0} → Bool → ℕ → Res A → Res A
checked_value true k r = r
checked_value false k r = refused k
