-- Steps that may refuse, one after the other: the first refusal counts.
use Rattle.std.specs.Prelude.{ℕ, zero, suc}
use Rattle.interval.specs.Result.{Res, ok, refused}

unfoldable pub bind : {A B : Type 0} → Res A → (A → Res B) → Res B
bind (ok s) f = f s
bind (refused k) f = refused k

-- what a state becomes by the turns 0 to n - 1
unfoldable pub fold_r : {A : Type 0} → (A → ℕ → Res A) → A → ℕ → Res A
unfolding bind
fold_r f z zero = ok z
fold_r f z (suc n) = bind (fold_r f z n) (λ s. f s n)

-- the state, or another one where it is refused
abbrev pub kept : {A : Type 0} → A → Res A → A
kept a (ok s) = s
kept a (refused k) = a
