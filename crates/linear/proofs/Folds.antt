-- Steps that may refuse, one after the other: one turn more, and a refusal that stays.
use Prim.Native.Nat.{ℕ, zero, suc, ◌+◌, ◌-◌, ◌<◌}
use mathlib.Core.Path.{◌≡◌, refl, ◌∙◌}
use native.Mathlib.Omega.{arith}
use native.Mathlib.Numerals.{add-one}
use Rattle.interval.specs.Result.{Res, ok, refused}
use Rattle.interval.proofs.Results.{refused_ok}
use Rattle.linear.specs.Results.{bind, fold_r}

pub bind_ok : {A B : Type 0} {x : Res A} {s : A} (f : A → Res B) → x ≡ ok s → bind x f ≡ f s
unfolding bind
bind_ok f e = rw e

pub bind_refused : {A B : Type 0} {x : Res A} {k : ℕ} (f : A → Res B) → x ≡ refused k → bind x f ≡ refused k
unfolding bind
bind_refused f e = rw e

module _ {A : Type 0} (f : A → ℕ → Res A) (z : A) where
  pub turn : (i : ℕ) {s : A} → fold_r f z i ≡ ok s → fold_r f z (i + 1) ≡ f s i
  unfolding fold_r bind
  turn i e = rw add-one (bind_ok _ e)

  stays : (d i : ℕ) {k : ℕ} → fold_r f z i ≡ refused k → fold_r f z (d + i) ≡ refused k
  unfolding fold_r bind
  stays zero i e = let m : 0 + i ≡ i = omega arith in rw m e
  stays (suc d) i e = let m : suc d + i ≡ suc (d + i) = omega arith in rw m (bind_refused _ (stays d i e))

  -- a turn that is refused settles the fold
  pub ends : {n i k : ℕ} {s : A} → i < n → fold_r f z i ≡ ok s → f s i ≡ refused k → fold_r f z n ≡ refused k
  ends {n} {i} h e r =
      let m : (n - (i + 1)) + (i + 1) ≡ n = omega arith in
      rw m at (stays (n - (i + 1)) (i + 1) (turn i e ∙ r))

-- what gives a value
pub bind_value : {A B : Type 0} (x : Res A) (f : A → Res B) {y : B} → bind x f ≡ ok y
    → (a : A) × (x ≡ ok a) × (f a ≡ ok y)
unfolding bind
bind_value (ok a) f e = (a, refl, e)
bind_value (refused k) f e = absurd (refused_ok e)
