-- One call: over the area it leaves what the call of `run` leaves, and over no numbers of it the answer and state of
-- that call and the area as it was.
use Prim.Native.Nat.{ℕ, suc, ◌%◌}
use mathlib.Core.Path.{◌≡◌, ap}
use mathlib.Core.Bool.{Bool, true, false}
use mathlib.Core.List.{List, [], ◌∷◌, ◌++◌}
use native.Mathlib.Omega.{arith}
use borrow.Author.Tests.{eq-eqb, ne_eqb}
use lib.Ieee.{Float}
use lib.ListN.{length}
use Rattle.interval.specs.Scalar.{pick}
use Rattle.run.specs.Calls.{AfterCall, after_call, reply_of, reply_none_of}
use Rattle.run.specs.Demand.{same, Floats, rows, none, Run, call_result_by, call_result}
use Rattle.run.specs.declared.state.Returned.{Returned}
use Rattle.run.specs.declared.state.State.{State}
use Rattle.call_list.specs.CallList.{no_area, is_none, call_result_of, Called}

module _ (st : State) (a : List Float) (m : ℕ) (xs : List Float) (r : Returned) where
  abbrev run : Run
  run = record { state = st; area = a }

  by_same : (b : Bool) (a' : List Float) (f : Floats xs)
      → after_call r a' ≡ pick b (reply_none_of st a) (reply_of st a m xs)
      → call_result_of r a' ≡ call_result run (pick b (none same) (rows same m xs f))
  by_same true a' f e = ap (λ (l : AfterCall). call_result_by l l.area) e
  by_same false a' f e = ap (λ (l : AfterCall). call_result_by l l.area) e

  pub called_same : (code : ℕ) (a' : List Float) → code % 2 ≡ 0
      → after_call r a' ≡ pick (is_none code) (reply_none_of st a) (reply_of st a m xs)
      → Called run code m xs (call_result_of r a')
  called_same code a' even e f = rw (eq-eqb _ _ even) (by_same (is_none code) a' f e)

  by_none : (b : Bool) (f : Floats xs) → after_call r [] ≡ pick b (reply_none_of st []) (reply_of st [] m xs)
      → call_result_of r a ≡ call_result run (pick b (none no_area) (rows no_area m xs f))
  by_none true f e = ap (λ (l : AfterCall). call_result_by l a) e
  by_none false f e = ap (λ (l : AfterCall). call_result_by l a) e

  pub called_none : (code : ℕ) (ys : List Float)
      → (code % 2 ≡ 0 → ⊥) → length ys ≡ 0
      → after_call r ys ≡ pick (is_none code) (reply_none_of st []) (reply_of st [] m xs)
      → Called run code m xs (call_result_of r (ys ++ a))
  called_none code [] odd l e f = rw (ne_eqb _ _ odd) (by_none (is_none code) f e)
  called_none code (y ∷ ys) odd l e f = absurd (let n : suc (length ys) ≡ 0 = l in omega (arith, n))
