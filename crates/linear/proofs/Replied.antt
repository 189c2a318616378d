-- A reply says how a call ended and what the slice holds. So where the reply is that of a result, the end with the
-- slice is that result.
use Rattle.std.specs.Prelude.{Result, Ok, Err}
use mathlib.Core.Bool.{true, false}
use mathlib.Core.Path.{◌≡◌, refl, sym, ap}
use Rattle.std.specs.Result.{is_err}
use Rattle.std.proofs.lemmas.Bool.{false≢true}
use Prim.Native.Nat.{ℕ}
use native.Mathlib.Omega.{arith}
use Rattle.interval.specs.Result.{Res, ok, refused}
use Rattle.linear.specs.declared.results.LinearError.{LinearError}
use Rattle.linear.specs.LinearResult.{done_of, number_of}
use Rattle.linear.specs.Results.{bind}
use Rattle.linear.specs.Replies.{Reply, replied, reply_of, beside}

-- what a test of `is_err` found
pub is_refused : {T E : Type 0} (r : Result T E) → true ≡ is_err r → (k : E) × (r ≡ Err k)
is_refused (Ok x) e = absurd (false≢true (sym e))
is_refused (Err k) e = (k, refl)

pub is_done : {T E : Type 0} (r : Result T E) → false ≡ is_err r → (x : T) × (r ≡ Ok x)
is_done (Ok x) e = (x, refl)
is_done (Err k) e = absurd (false≢true e)

pub done_is : {A : Type 0} (r : Result (Unit {0}) LinearError) (x clear : A) (s : Res A)
    → replied r x ≡ reply_of clear s → done_of r x ≡ s
done_is (Ok u) x clear (ok y) e = ap (λ z. ok z.out) e
done_is (Ok u) x clear (refused k) e =
    let h = ap (λ z. z.ended) e in let z : ◌≡◌ {A = ℕ} 0 1 = cc in absurd (omega arith)
done_is (Err q) x clear (ok y) e =
    let h = ap (λ z. z.ended) e in let z : ◌≡◌ {A = ℕ} 0 1 = cc in absurd (omega arith)
done_is (Err q) x clear (refused k) e =
    let h = ap (λ z. z.ended) e in let z : number_of q ≡ k = cc in ap refused z

-- what is worked out from a state whether or not it is a result
pub done_then : {A B : Type 0} (r : Result (Unit {0}) LinearError) (f : A → B) (x : A) {s : Res A} → done_of r x ≡ s
    → done_of r (f x) ≡ bind s (λ y. ok (f y))
unfolding bind
done_then (Ok u) f x e = rw (← e)
done_then (Err k) f x e = rw (← e)

-- ---- beside something else that is lent
module _ {A B : Type 0} (z : A) (clear : B) {x : B} (r : Result (Unit {0}) LinearError) where
  pub replied_beside : (s : Res B) → replied r x ≡ reply_of clear s
      → replied r (z, x) ≡ reply_of (z, clear) (beside z s)
  replied_beside (ok y) e = ap (λ (p : Reply B). record { ended = p.ended; out = (z, p.out) }) e
  replied_beside (refused k) e = ap (λ (p : Reply B). record { ended = p.ended; out = (z, p.out) }) e

  pub replied_apart : {w : A} (s : Res B) → replied r (w, x) ≡ reply_of (z, clear) (beside z s)
      → replied r x ≡ reply_of clear s
  replied_apart (ok y) e = ap (λ (p : Reply (A × B)). record { ended = p.ended; out = p.out.1 }) e
  replied_apart (refused k) e = ap (λ (p : Reply (A × B)). record { ended = p.ended; out = p.out.1 }) e
