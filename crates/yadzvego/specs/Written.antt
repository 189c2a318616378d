-- What crosses to C for a call that writes slices: number 0, or the refusal's number, with what the slices hold then.
use Rattle.std.specs.Prelude.{ℕ}
use Rattle.interval.specs.Result.{Res, ok, refused}
use Rattle.linear.specs.Replies.{Reply}

pub record Written (A : Type 0) : Type 0 where
  pub number : ℕ
  pub out : A

abbrev pub written : {A : Type 0} → ℕ → A → Written A
written n x = record { number = n; out = x }

abbrev pub number_of_end : Res (Unit {0}) → ℕ
number_of_end (ok x) = 0
number_of_end (refused k) = k

abbrev pub written_of : {A : Type 0} → Reply A → Written A
written_of p = written (number_of_end p.ended) p.out
