-- The steps of the curvature's update, from what each call gives.
use Rattle.std.specs.Prelude.{Err, Ok, Result}
use Prim.Native.Nat.{ℕ, ◌*◌, ◌≤◌, ◌+◌}
use mathlib.Core.Bool.{Bool, true, false}
use mathlib.Core.List.{List}
use mathlib.Core.Path.{◌≡◌, refl, ◌∙◌}
use native.Mathlib.Omega.{arith}
use lib.Ieee.{Float}
use lib.ListN.{length, take}
use lib.Seq.{length-take-le}
use Rattle.interval.specs.declared.Scalar.{Scalar}
use Rattle.interval.specs.Result.{Res, ok}
use Rattle.interval.specs.Scalar.{zero_s, pick, sub_of, definitely_not_equal}
use Rattle.linear.specs.LinearResult.{done_of}
use Rattle.linear.specs.Calls.{minus_solved_reply}
use Rattle.linear.specs.Choose.{choose_of}
use Rattle.linear.specs.Dot.{dot_to}
use Rattle.linear.specs.Flat.{at, along, zeros, list_to}
use Rattle.linear.specs.Replies.{replied}
use Rattle.linear.specs.Results.{bind}
use Rattle.linear.specs.Solved.{minus_solved_of}
use Rattle.linear.specs.declared.results.LinearError.{LinearError}
use Rattle.linear.proofs.Agree.{dot_to-ext}
use Rattle.linear.proofs.Lists.{length-list_to}
use Rattle.linear.proofs.Sums.{along_start}
use Rattle.run.specs.Vectors.{vector, fill_to, chosen_of}
use Rattle.run.specs.Rows.{Rows, Evaluation, constraint_set, constraints_of}
use Rattle.run.specs.declared.rows.RowCounts.{RowCounts}
use Rattle.run.specs.declared.rows.RowSet.{RowSet}
use Rattle.run.specs.program.Rows.{FewRows}
use Rattle.run.specs.Curvature.{
  along_of,
  lagrangian_change_at,
  lagrangian_change,
  rank_one_of,
  curvature_row,
  curvature_times,
  corrected_by,
  updated_by,
  update_curvature,
}
use Rattle.run.specs.Proposal.{curvature_along}
use Rattle.run.specs.program.Curvature.{updated_along}
use Rattle.run.proofs.VectorLaws.{filled, fill_ext, fill_whole, prefix_list}
use Rattle.run.proofs.LinearCalls.{minus_solved_result}

module _ (c : RowCounts) (xs v jc rhs out : List Float) (f : FewRows c) (hv : 2 * c.n ≤ length v) where
  pub along_lists : jc ≡ list_to (λ p. choose_of (at xs ((constraints_of c xs).slopes + p))) (c.m * c.n) →
      rhs ≡ list_to (λ i. dot_to (along jc (i * c.n) 1) (at v) c.n) c.m →
      minus_solved_of c.m c.n jc rhs (take (2 * c.n) v) ≡ along_of (constraints_of c xs) v
  unfolding along_of
  along_lists ej er = rw (prefix_list v c.n hv, er, ej)

  -- jc' and rhs' are the fronts of the arrays that were written
  pub along_is :
      (jc₀ rhs₀ : List Float) {jc' rhs' : List Float} {set : RowSet} (r : Result (Unit {0}) LinearError)
      (x : List Float) →
      length out ≡ 2 * c.n → length jc₀ ≡ 2 * (c.m * c.n) → length rhs₀ ≡ 2 * c.m →
      jc' ≡ jc → rhs' ≡ rhs → set ≡ constraint_set c →
      jc ≡ chosen_of jc₀ xs set.slopes (set.count * set.n) →
      rhs ≡ fill_to rhs₀ 0 (λ i. dot_to (along jc' (i * c.n) 1) (at v) c.n) c.m →
      replied r x ≡ minus_solved_reply c.m c.n jc' rhs' (take (2 * c.n) v) out →
      done_of r x ≡ along_of (constraints_of c xs) v
  along_is jc₀ rhs₀ r x lo lj lr fj fr es ej₀ er₀ e₀ =
      let n = c.n in
      let m = c.m in
      let ej : jc ≡ chosen_of jc₀ xs m (m * n) = rw es at ej₀ in
      let er : rhs ≡ fill_to rhs₀ 0 (λ i. dot_to (along jc (i * n) 1) (at v) n) m = rw fj at er₀ in
      let e : replied r x ≡ minus_solved_reply m n jc rhs (take (2 * n) v) out = rw (fj, fr) at e₀ in
      let wj = ej ∙ fill_whole jc₀ _ (m * n) lj in
      let wr = er ∙ fill_whole rhs₀ _ m lr in
      let kj : length jc ≡ 2 * (m * n) = rw wj (length-list_to _ (m * n)) in
      let kr : length rhs ≡ 2 * m = rw wr (length-list_to _ m) in
      minus_solved_result r m n jc rhs (take (2 * n) v) out x (omega (arith, f.few_constraints))
      (omega (arith, f.few_variables)) kj kr (length-take-le _ _ hv) lo e ∙ along_lists wj wr

-- a refusal handed on, whatever the slices hold
pub handed_on :
    {r : Result (Unit {0}) LinearError} {k : LinearError} (x y : List Float) {s : Res (List Float)}
    (f : List Float → Res (List Float)) →
    r ≡ Err k → done_of r x ≡ s → done_of (Err k) y ≡ bind s f
unfolding bind
handed_on x y f h e = rw (← e, h)

-- what follows a call that ended well; x' is the front of the array that it wrote
pub went_on :
    {r : Result (Unit {0}) LinearError} {x x' : List Float} {s y : Res (List Float)}
    (f : List Float → Res (List Float)) → r ≡ Ok tt →
    done_of r x ≡ s → x' ≡ x → y ≡ f x' → y ≡ bind s f
unfolding bind
went_on f h e k ey = rw (← e, h, ← k) ey

pub turned_is :
    (n : ℕ) (e e' : Evaluation) (lambda : List Float) {r₀ r y : List Float} → r₀ ≡ zeros 48 →
    r ≡ chosen_of r₀ e'.sum.list e'.sum.values e'.sum.count →
    y ≡ fill_to vector 0 (lagrangian_change_at e e' lambda r) n → y ≡ lagrangian_change n e e' lambda
unfolding lagrangian_change
turned_is n e e' lambda e₀ er ey = rw (ey, er, e₀)

module _ (n : ℕ) (b y bs s : List Float) {v : List Float} {d vs : Scalar} {t : Bool}
    (ev : v ≡ fill_to vector 0 (λ i. choose_of (sub_of (at y i) (at bs i))) n) (ed : d ≡ dot_to (at v) (at s) n)
    (es : vs ≡ choose_of d) (et : t ≡ definitely_not_equal vs zero_s) where
  decided : pick t (rank_one_of n b v vs) (ok b) ≡ corrected_by n b y bs s
  unfolding corrected_by
  decided = rw (et, es, ed, ev)

  pub corrected : {r : Res (List Float)} → t ≡ true → r ≡ rank_one_of n b v vs → r ≡ corrected_by n b y bs s
  corrected h e = e ∙ (rw h at decided)

  pub uncorrected : t ≡ false → ok b ≡ corrected_by n b y bs s
  uncorrected h = rw h at decided

-- B s, filled row by row
bent_is :
    (n : ℕ) (b s : List Float) {bs₀ bs : List Float} → bs₀ ≡ vector →
    bs ≡ fill_to bs₀ 0 (λ i. dot_to (along b (i * n) 1) (at s) n) n → bs ≡ curvature_times n b s
bent_is n b s e₀ e =
    let same : (j : ℕ) → j * n + 0 ≡ j * n = λ j. omega arith in
    rw (e, e₀) (fill_ext vector 0 _ _ n (λ j h. rw (same j)))

-- sᵀ B s, from B s
pub bent_products :
    (n : ℕ) (b s : List Float) {bs₀ bs : List Float} →
    n ≤ 12 →
    bs₀ ≡ vector →
    bs ≡ fill_to bs₀ 0 (λ i. dot_to (along b (i * n) 1) (at s) n) n →
    dot_to (along s 0 1) (along bs 0 1) n ≡ curvature_along n b s
bent_products n b s {bs₀} {bs} h e₀ e =
    rw (along_start s, along_start bs, bent_is n b s e₀ e)
    (dot_to-ext (at s) (at s) (at (curvature_times n b s)) (λ i. dot_to (curvature_row n b i) (at s) n) n (λ i l. refl)
    (filled vector (λ i. dot_to (curvature_row n b i) (at s) n) n (omega arith)))

module _ (n : ℕ) (c : Rows) (b y s : List Float) {bs₀ bs : List Float} {p q d : Scalar} {t : Bool}
    (e₀ : bs₀ ≡ vector) (eb : bs ≡ fill_to bs₀ 0 (λ i. dot_to (along b (i * n) 1) (at s) n) n)
    (ep : p ≡ dot_to (at y) (at s) n) (eq : q ≡ dot_to (at bs) (at s) n) (ed : d ≡ sub_of p q)
    (et : t ≡ definitely_not_equal d zero_s) where
  asked : pick t (bind (along_of c y) (λ z. corrected_by n b z bs s)) (ok b) ≡ updated_by n c b y s
  unfolding updated_by
  asked = rw (et, ed, ep, eq, bent_is n b s e₀ eb)

  pub updates :
      {r : Res (List Float)} → t ≡ true → r ≡ bind (along_of c y) (λ z. corrected_by n b z bs s) →
      r ≡ updated_by n c b y s
  updates h e = e ∙ (rw h at asked)

  pub leaves : t ≡ false → ok b ≡ updated_by n c b y s
  leaves h = rw h at asked

-- the whole update, from y
pub update_is :
    (n : ℕ) (b step : List Float) (e e' : Evaluation) (lambda : List Float) {y : List Float} {r : Res (List Float)} →
    y ≡ lagrangian_change n e e' lambda → r ≡ updated_along n e.constraints b y step →
    r ≡ update_curvature n b step e e' lambda
unfolding update_curvature
update_is n b step e e' lambda ey er = rw (← ey) er
