-- A result is a value or a refusal, not both.
use Rattle.std.proofs.Common.{◌≡◌, ℕ, arith}
use Rattle.interval.specs.Result.{ok, refused}

pub refused_ok : {A : Type 0} {n : ℕ} {x : A} → refused n ≡ ok x → ⊥
refused_ok {A} {n} {x} e = let z : ◌≡◌ {A = ℕ} 0 1 = cc in omega arith

pub ok_inj : {A : Type 0} {x y : A} → ok x ≡ ok y → x ≡ y
ok_inj {A} {x} {y} e = cc
