-- The steps of a correction, from what each call gives.
use Rattle.std.specs.Prelude.{Err, Ok, Result}
use Prim.Native.Nat.{ℕ, ◌*◌, ◌/◌, ◌%◌}
use mathlib.Core.Bool.{Bool, true, false, not}
use mathlib.Core.List.{List}
use mathlib.Core.Path.{◌≡◌, refl, ap, ◌∙◌}
use native.Mathlib.Omega.{arith}
use lib.Ieee.{Float}
use lib.ListN.{length, get_or, length-replicate}
use Rattle.interval.specs.declared.Scalar.{Scalar}
use Rattle.interval.specs.Result.{Res, ok, refused}
use Rattle.interval.specs.Scalar.{zero_s, zero64, pick, sharpen}
use Rattle.linear.specs.LinearResult.{done_of, number_of}
use Rattle.linear.specs.Calls.{minus_solved_reply}
use Rattle.linear.specs.Choose.{choose_of}
use Rattle.linear.specs.Flat.{at, zeros, list_to}
use Rattle.linear.specs.Replies.{replied}
use Rattle.linear.specs.Results.{bind}
use Rattle.linear.specs.Solved.{minus_solved_of}
use Rattle.linear.specs.declared.results.LinearError.{LinearError}
use Rattle.linear.proofs.Lists.{length-list_to}
use Rattle.run.specs.Vectors.{vector, fill_to, chosen_of, all_finite}
use Rattle.run.specs.Rows.{Rows, constraint_set, constraints_of, value_at, slope_at}
use Rattle.run.specs.declared.rows.RowCounts.{RowCounts}
use Rattle.run.specs.declared.rows.RowSet.{RowSet}
use Rattle.run.specs.program.Corrected.{shifted_of}
use Rattle.run.specs.program.Rows.{FewRows}
use Rattle.run.specs.Vectors.{moved_of, same_of}
use Rattle.run.specs.Corrected.{moving_slope, shift_of, shift_from, to, stay}
use Rattle.run.proofs.VectorLaws.{fill_whole}
use Rattle.run.proofs.LinearCalls.{minus_solved_result}

-- a slope, from what was read of its row and variable
pub slope_is :
    (moving : List Bool) (e : Rows) (i j : ℕ) {v r : Scalar} → v ≡ slope_at e i j →
    r ≡ pick (get_or moving j false) (choose_of v) zero_s → r ≡ moving_slope moving e i j
slope_is moving e i j ev er = rw (er, ev)

shift_solved :
    (c : RowCounts) (moving : List Bool) (xs jc values₀ values clear out : List Float)
    (r : Result (Unit {0}) LinearError) (x : List Float) →
    FewRows c → length out ≡ 2 * c.n → length values₀ ≡ 2 * c.m →
    jc ≡ list_to (λ p. moving_slope moving (constraints_of c xs) (p / c.n) (p % c.n)) (c.m * c.n) →
    values ≡ chosen_of values₀ xs 0 c.m → clear ≡ zeros (2 * c.n) →
    replied r x ≡ minus_solved_reply c.m c.n jc values clear out →
    done_of r x ≡ minus_solved_of c.m c.n
    (list_to (λ p. moving_slope moving (constraints_of c xs) (p / c.n) (p % c.n)) (c.m * c.n))
    (list_to (λ i. choose_of (value_at (constraints_of c xs) i)) c.m) (zeros (2 * c.n))
shift_solved c moving xs jc values₀ values clear out r x f lo lv ej ev ez e =
    let n = c.n in
    let m = c.m in
    let w = ev ∙ fill_whole values₀ _ m lv in
    let kj : length jc ≡ 2 * (m * n) = rw ej (length-list_to _ (m * n)) in
    let kv : length values ≡ 2 * m = rw w (length-list_to _ m) in
    let kz : length clear ≡ 2 * n = rw ez (length-replicate (2 * n) zero64) in
    rw (ej, w, ez)
    at (minus_solved_result r m n jc values clear out x (omega (arith, f.few_constraints))
    (omega (arith, f.few_variables)) kj kv kz lo e)

-- what was solved for, sharpened, or its refusal
shift_ends :
    (n : ℕ) (r : Result (Unit {0}) LinearError) (x : List Float) {d : List Float} {s : Res (List Float)} →
    done_of r x ≡ s →
    d ≡ fill_to vector 0 (λ i. sharpen (at x i)) n →
    done_of r d ≡ bind s (λ y. ok (fill_to vector 0 (λ i. sharpen (at y i)) n))
unfolding bind
shift_ends n (Ok _) x e ed = rw (← e) (ap ok ed)
shift_ends n (Err k) x e ed = rw (← e)

-- jc', values' and x' are the fronts of the arrays that were written
pub shift_is :
    (c : RowCounts) (moving : List Bool) (xs values₀ out : List Float)
    {jc values clear jc' values' x' d : List Float} {set : RowSet} (r : Result (Unit {0}) LinearError)
    (x : List Float) →
    FewRows c → length out ≡ 2 * c.n → length values₀ ≡ 2 * c.m →
    jc' ≡ jc → values' ≡ values → x' ≡ x → set ≡ constraint_set c →
    jc ≡ list_to (λ p. moving_slope moving (constraints_of c xs) (p / c.n) (p % c.n)) (c.m * c.n) →
    values ≡ chosen_of values₀ xs set.values set.count → clear ≡ zeros (2 * c.n) →
    replied r x ≡ minus_solved_reply c.m c.n jc' values' clear out →
    d ≡ fill_to vector 0 (λ i. sharpen (at x' i)) c.n → done_of r d ≡ shift_of moving (constraints_of c xs)
unfolding shift_of
shift_is c moving xs values₀ out {jc} {values} {clear} r x f lo lv fj fv fx es ej ev ez e ed =
    let solved = shift_solved c moving xs jc values₀ values clear out r x f lo lv ej (rw es at ev) ez
    (rw (fj, fv) at e) in
    shift_ends c.n r x solved (rw fx at ed)

shifted_unless : (u : Bool) (next : List Float) → shifted_of (Ok (not u)) next ≡ ok (pick u stay (to next))
shifted_unless true next = refl
shifted_unless false next = refl

-- where a shift d takes the landed point
module _ (moving : List Bool) (c : Rows) (landed d : List Float) {r : Result (Unit {0}) LinearError} where
  pub shift_refused :
      {k : LinearError} → r ≡ Err k → done_of r d ≡ shift_of moving c →
      refused (number_of k) ≡ shift_from moving c landed
  unfolding shift_from bind
  shift_refused h es = rw (← es, h)

  module _ {t : Bool} (h : r ≡ Ok tt) (es : done_of r d ≡ shift_of moving c) (et : t ≡ all_finite d 12) where
    module _ {next : List Float} {u : Bool} (en : next ≡ moved_of c.n landed d) (eu : u ≡ same_of c.n next landed)
      where
        decided : ok (pick t (pick u stay (to next)) stay) ≡ shift_from moving c landed
        unfolding shift_from bind
        decided = rw (← es, h, et, eu, en)

        -- to the next point, unless it is the same
        pub goes : t ≡ true → shifted_of (Ok (not u)) next ≡ shift_from moving c landed
        goes e = shifted_unless u next ∙ rw e at decided

    pub not_finite : t ≡ false → ok stay ≡ shift_from moving c landed
    not_finite e = rw e at (decided {next = moved_of c.n landed d} refl refl)
