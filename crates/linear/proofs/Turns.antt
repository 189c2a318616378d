-- A loop of calls that may refuse is a fold: from how a call ended, one turn more, or the refusal that settles the
-- loop.
use Rattle.std.specs.Prelude.{Result, Ok, Err}
use Rattle.std.specs.Result.{IsErrAnd}
use Rattle.std.proofs.lemmas.Result.{err_from_is_err_and}
use Prim.Native.Nat.{ℕ, ◌+◌, ◌<◌}
use mathlib.Core.Path.{◌≡◌, sym, ◌∙◌}
use Rattle.interval.specs.Result.{Res, ok}
use Rattle.linear.specs.LinearResult.{done_of}
use Rattle.linear.specs.Results.{fold_r}
use Rattle.linear.specs.declared.results.LinearError.{LinearError}
use Rattle.linear.proofs.Folds.{turn, ends}

module _ {A : Type 0} (f : A → ℕ → Res A) (z : A) where
  pub went_on : {d : Result (Unit {0}) LinearError} {u : Unit {0}} {i : ℕ} {s t : A} → fold_r f z i ≡ ok s
      → done_of d t ≡ f s i → d ≡ Ok u → fold_r f z (i + 1) ≡ ok t
  went_on {i = i} e h q = turn f z i e ∙ sym (rw q at h)

  -- the exit of a `?` returns the refusal of the call
  pub broke_off : (r : Result (Unit {0}) LinearError) {d : Result (Unit {0}) LinearError} {k : LinearError} {n i : ℕ}
      {s : A} (t : A) → i < n
      → fold_r f z i ≡ ok s → done_of d t ≡ f s i → d ≡ Err k → IsErrAnd r (λ e. e ≡ k) → done_of r t ≡ fold_r f z n
  broke_off r t l e h q x =
      let p = err_from_is_err_and r x in
      rw (p.1, p.2) (sym (ends f z l e (sym (rw q at h))))
