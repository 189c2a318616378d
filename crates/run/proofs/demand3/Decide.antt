-- A landed point: taken, it stands with its rows and the filter gains the pair of the point it replaced; not taken,
-- what stood still stands.
use Rattle.std.specs.Prelude.{Option, Some}
use Prim.Native.Nat.{ℕ, ◌+◌, ◌*◌, ◌≤◌, ◌<◌}
use mathlib.Core.Bool.{Bool, true, not, ◌&&◌, ◌||◌}
use mathlib.Core.Logic.{inl, inr, ⊎_elim, ◌≢◌}
use mathlib.Core.Path.{◌≡◌, refl, sym, ap, ap₂, ◌∙◌, subst}
use mathlib.Core.List.{List, [], ◌∷◌, ◌++◌, append_assoc}
use native.Mathlib.Omega.{arith}
use lib.Ieee.{Float}
use lib.ListN.{length, length-append}
use Rattle.interval.specs.declared.Scalar.{Scalar}
use Rattle.interval.specs.Result.{Res, ok}
use Rattle.interval.specs.Scalar.{degenerate, div_of, sub_of}
use Rattle.interval.specs.Scaling.{three64}
use Rattle.linear.specs.Flat.{at}
use Rattle.linear.proofs.Folds.{bind_value}
use Rattle.linear.proofs.Lists.{at_append, at_seam}
use Rattle.interval.proofs.Given.{yes}
use Rattle.interval.proofs.Results.{ok_inj}
use Rattle.run.specs.Residuals.{sum_squared, violation_of}
use Rattle.run.specs.Area.{Memory, with_taken, pairs_in}
use Rattle.run.specs.Curvature.{update_curvature}
use Rattle.run.specs.Judgement.{sum_change, rises, indefinite, contracts, Judged, judged_by, judge_of}
use Rattle.run.specs.Filter.{beats_to, filter_sum, filter_violation, pair_numbers, filter_with}
use Rattle.run.specs.Area.{standing_at, landed_at, curvature_of}
use Rattle.run.specs.Decide.{linear_of, take, not_lower, was_taken, decide, judge}
use Rattle.run.specs.Damping.{shrunk}
use Rattle.run.specs.Endings.{AfterSlots, or_refuse}
use Rattle.run.specs.Iterate.{iterate}
use Rattle.run.specs.Radius.{radius_after}
use Rattle.run.specs.State.{standing_on}
use Rattle.linear.specs.Norm.{norm_of}
use Rattle.run.specs.Demand.{
  In,
  Answer,
  AnsweredRows,
  Answered,
  sum_in,
  LowerRows,
  Lower,
  UndecidedRows,
  Undecided,
  next_mu,
}
use Rattle.run.specs.declared.state.Sizes.{Sizes}
use Rattle.run.specs.declared.state.State.{State}
use Rattle.run.specs.declared.state.Stop.TheVariants as stop
use Rattle.run.proofs.Booleans.{and_left, and_right, or_either}
use Rattle.run.proofs.LengthsKept.{length_filter}
use Rattle.run.proofs.RefusalLaws.{div_yields, judge_yields, linear_yields, curvature_yields}
use Rattle.run.proofs.DampingGrowth.{growth_none, growth_third, next_mu_is}
use Rattle.run.proofs.demand3.ExactLaws.{ExactLaws}
use Rattle.run.proofs.demand3.Invariant.{
  FittingRows,
  standing_answer,
  landed_answer,
  Pairs,
  Stands,
  CountBounds,
  CallContext,
  Halves,
  Forward,
  Way,
  moved,
  Consistent,
  After,
}
use Rattle.run.proofs.demand3.Endings.{either_after, or_refuse_after, finish_after}
use Rattle.run.proofs.demand3.Iterate.{bounds_few, iterate_after, not_lower_after}
use Rattle.run.proofs.demand3.Judgement.{of_rows, lower_definite, undecided_rows, lower_pairs}

-- A point has landed, with so many questions since the last turn-down or iteration; what stood before the call still
-- stands, in its iteration.
pub record Landing (S : CallContext) (st : State) (w : Memory) (since : ℕ) : Type 0 where
  pub consistent : Consistent S st S.history.mu w
  pub still : st.counts.standing ≡ S.history.standing
  pub still_before : consistent.before ≡ S.before
  pub newer : (e : ℕ) → In e S.history.stood → e < st.counts.landed
  pub landed_asked : st.counts.landed ≤ st.counts.question
  pub landed-rows : FittingRows st.sizes (S.rows st.counts.landed) (landed_answer st w)
  pub landed_point : w.landed ≡ S.history.points st.counts.landed
  pub count_bounds : CountBounds S.history.mu st.counts st.search since
  pub below_limit : st.counts.iterations < st.sizes.limit
  pub mu_same : S.run.state.search.mu ≡ st.search.mu
  pub last_same : S.run.state.last ≡ st.last

-- ---- rows of points that stood

rowed_answered : {z : Sizes} {x : AnsweredRows} {a : Answer} → FittingRows z x a → Answered z x
rowed_answered {z} r = subst (Answered z) (sym r.given_is) r.fitting

pairs_answered :
    (z : Sizes) (rows : ℕ → AnsweredRows) (filter : List Float) (es : List ℕ) →
    Pairs z rows filter es → (e : ℕ) → In e es → Answered z (rows e)
unfolding In
pairs_answered z rows filter [] p e i = absurd i
pairs_answered z rows filter (d ∷ es) p e (inl q) =
    subst (λ (k : ℕ). Answered z (rows k)) (sym q) (rowed_answered p.0.rowed)
pairs_answered z rows filter (d ∷ es) p e (inr i) = pairs_answered z rows filter es p.1 e i

-- ---- a step taken

-- pairs in another filter
pairs_filter :
    (z : Sizes) (rows : ℕ → AnsweredRows) (f f' : List Float) (es : List ℕ) →
    ((i : ℕ) → i < 2 * length es → at f' i ≡ at f i) → Pairs z rows f es → Pairs z rows f' es
pairs_filter z rows f f' [] h p = tt
pairs_filter z rows f f' (e ∷ es) h p =
    let i = length es in (
      record {
        rows = p.0.rows;
        rowed = p.0.rowed;
        pair_sum = h (2 * i) (omega arith) ∙ p.0.pair_sum;
        pair_violation = p.0.pair_violation ∙ ap ok (sym (h (2 * i + 1) (omega arith)));
      },
      pairs_filter z rows f f' es (λ j l. h j (omega arith)) p.1,
    )

-- the filter with one pair more
module _ (filter : List Float) (count : ℕ) (f theta : Scalar) (long : length filter ≡ 4 * count) where
  filter_kept : (i : ℕ) → i < 2 * count → at (filter_with filter f theta) i ≡ at filter i
  unfolding filter_with
  filter_kept i h = at_append filter (pair_numbers f theta) i (omega (arith, long))

  filter-sum : filter_sum (filter_with filter f theta) count ≡ f
  unfolding filter_with
  filter-sum = at_seam filter (theta.lo ∷ (theta.hi ∷ [])) (2 * count) f (omega (arith, long))

  filter-violation : filter_violation (filter_with filter f theta) count ≡ theta
  unfolding filter_with
  filter-violation =
      let front : List Float = filter ++ (f.lo ∷ (f.hi ∷ [])) in
      ap (λ (xs : List Float). at xs (2 * count + 1))
      (sym (append_assoc filter (f.lo ∷ (f.hi ∷ [])) (theta.lo ∷ (theta.hi ∷ []))))
      ∙ at_seam front [] (2 * count + 1) theta (length-append filter _ ∙ omega (arith, long))

module _ (S : CallContext) (st : State) (w : Memory) (since : ℕ) (L : Landing S st w since) (theta : Scalar)
    (theta-is : violation_of (standing_at st w).constraints ≡ ok theta) where
  filter' : List Float
  filter' = filter_with w.filter (sum_squared (standing_at st w).sum) theta

  -- the point that stood, as the newest pair, and those before it
  taken_stands :
      Stands st.sizes S.rows st.counts.landed (st.counts.standing ∷ L.consistent.before)
      (landed_answer st w) filter'
  unfolding filter'
  taken_stands =
      let f = sum_squared (standing_at st w).sum in
      let s = L.consistent.stands in
      let before = L.consistent.before in
      let count = length before in
      record {
        rowed = L.landed-rows;
        pairs = (
          record {
            rows = standing_answer st w;
            rowed = s.rowed;
            pair_sum = filter-sum w.filter count f theta s.long;
            pair_violation = theta-is ∙ ap ok (sym (filter-violation w.filter count f theta s.long));
          },
          pairs_filter st.sizes S.rows w.filter filter' before
              (λ i h. filter_kept w.filter count f theta s.long i h) s.pairs,
        );
        long = length_filter w.filter f theta count s.long ∙ omega arith;
      }

  taken_new : st.counts.landed ≢ S.history.standing
  unfolding In
  taken_new e =
      let k = S.history.standing in
      let h = L.newer k (subst (In k) (sym S.stood_is) (inl refl)) in
      omega arith

  taken_below : (e : ℕ) → In e (st.counts.landed ∷ (st.counts.standing ∷ L.consistent.before))
      → e ≤ st.counts.question
  unfolding In
  taken_below e (inl q) = let h = L.landed_asked in omega arith
  taken_below e (inr i) = L.consistent.below e i

  -- the landed point stands
  taken_point : (b filter : List Float) → (with_taken w b filter).standing ≡ S.history.points st.counts.landed
  taken_point b filter = L.landed_point

  -- under its number: a change of standing
  taken_way :
      (length mu radius : Scalar) →
      mu ≡ next_mu S.run.state.search.mu →
      Forward S st.sizes st.counts.landed (Some length) →
      Way S st.sizes (standing_on st length mu radius).counts.standing
      (st.counts.standing ∷ L.consistent.before) (Some length) mu
  taken_way length mu radius next f =
      moved taken_new (ap₂ (λ (e : ℕ) (es : List ℕ). e ∷ es) L.still L.still_before) next f

  taken_consistent :
      (length mu radius : Scalar) (b : List Float) →
      mu ≡ next_mu S.run.state.search.mu →
      Forward S st.sizes st.counts.landed (Some length) →
      Consistent S (standing_on st length mu radius) mu (with_taken w b filter')
  unfolding filter'
  taken_consistent length mu radius b next f =
      let v = L.consistent in
      record {
        before = st.counts.standing ∷ v.before;
        way = taken_way length mu radius next f;
        before_many = let m = v.before_many in omega arith;
        below = taken_below;
        stands = taken_stands;
        point = taken_point b filter';
        sizes-fit = v.sizes-fit;
        within = let b = L.below_limit in omega arith;
        few_asked = v.few_asked;
        few_corrections = v.few_corrections;
      }

  -- what is learned, and the iteration that follows
  learned : Res (List Float)
  learned =
      update_curvature st.sizes.n (curvature_of st w) w.step (standing_at st w) (landed_at st w) w.multipliers

  next : Scalar → Bool → Scalar → List Float → AfterSlots
  next length linear third b =
      iterate
      (standing_on st length (shrunk st.search.mu third)
      (radius_after length st.search.radius st.max_step linear))
      (with_taken w b filter')

  next_after :
      since ≤ 5 →
      (length : Scalar) (linear : Bool) (third : Scalar) →
      div_of st.search.mu (degenerate three64) ≡ ok third →
      Forward S st.sizes st.counts.landed (Some length) →
      (b : List Float) → After S st.sizes (next length linear third b)
  unfolding next
  next_after few length linear third is_third f b =
      let mu = st.search.mu in
      let t = bounds_few S.history.mu st.counts st.search since L.count_bounds in
      let q = L.count_bounds.few in
      let radius = radius_after length st.search.radius st.max_step linear in
      let shrunk-is : shrunk mu third ≡ next_mu S.run.state.search.mu =
      next_mu_is mu third is_third ∙ ap next_mu (sym L.mu_same) in
      iterate_after S (standing_on st length (shrunk mu third) radius) (with_taken w b filter') (shrunk mu third)
      (taken_consistent length (shrunk mu third) radius b shrunk-is f)
      (record {
        growths = 0;
        growth = growth_third L.count_bounds.growth is_third;
        fresh = λ e. refl;
        turned = omega arith;
        few = omega arith;
      })

  pub take_after :
      since ≤ 5 →
      (length : Scalar) →
      Forward S st.sizes st.counts.landed (Some length) → After S st.sizes (take st w theta length)
  unfolding take filter' learned next
  take_after few length f =
      let z = st.sizes in
      let mu = st.search.mu in
      or_refuse_after S z st w (linear_of st w theta)
      (λ linear.
      or_refuse st w (div_of mu (degenerate three64)) (λ third. or_refuse st w learned (next length linear third)))
      (linear_yields st w theta)
      (λ linear u v.
      or_refuse_after S z st w (div_of mu (degenerate three64))
      (λ third. or_refuse st w learned (next length linear third))
      (div_yields mu (degenerate three64))
      (λ third is_third v.
      or_refuse_after S z st w learned (next length linear third)
      (curvature_yields (lib.ListN.length (curvature_of st w)) z.n (curvature_of st w) w.step (standing_at st w)
      (landed_at st w) w.multipliers refl)
      (λ b u v. next_after few length linear third is_third f b)))

-- ---- the judgement

module _ (law : ExactLaws) (S : CallContext) (st : State) (w : Memory) (since : ℕ) (L : Landing S st w since)
    (theta new : Scalar) (theta-is : violation_of (standing_at st w).constraints ≡ ok theta)
    (New-is : violation_of (landed_at st w).constraints ≡ ok new) (length : Scalar) where
  z : Sizes
  z = st.sizes

  x : FittingRows z (S.rows st.counts.standing) (standing_answer st w)
  unfolding z
  x = L.consistent.stands.rowed

  y : FittingRows z (S.rows st.counts.landed) (landed_answer st w)
  unfolding z
  y = L.landed-rows

  change : Scalar
  change = sum_change (standing_at st w).sum (landed_at st w).sum

  beats : Bool
  beats = beats_to w.filter (sum_squared (landed_at st w).sum) new st.counts.iterations

  j : Judged
  j = judged_by change (sub_of theta new) beats length st.last

  -- every point that stood, and the landed one, had rows
  all_answered : (e : ℕ) → In e (st.counts.landed ∷ S.history.stood) → Answered z (S.rows e)
  unfolding z In
  all_answered e (inl q) = subst (λ (k : ℕ). Answered z (S.rows k)) (sym q) (rowed_answered L.landed-rows)
  all_answered e (inr i) = by (subst (In e) S.stood_is i)
    where
      by : In e (S.history.standing ∷ S.before) → Answered z (S.rows e)
      by (inl q) =
          subst (λ (k : ℕ). Answered z (S.rows k)) (L.still ∙ sym q)
          (rowed_answered L.consistent.stands.rowed)
      by (inr k) =
          pairs_answered z S.rows w.filter L.consistent.before L.consistent.stands.pairs e
          (subst (In e) (sym L.still_before) k)

  -- lower than each that stood
  lower_all : j.lower ≡ true → (e : ℕ) → In e S.history.stood → Lower z (S.rows e) (S.rows st.counts.landed)
  unfolding j z x y change beats In
  lower_all h e i = by (subst (In e) S.stood_is i)
    where
      beaten :
          beats_to w.filter (sum_squared (sum_in z (landed_answer st w))) new (lib.ListN.length L.consistent.before)
          ≡ true
      beaten = rw L.consistent.before_many (and_right (rises change || rises (sub_of theta new)) beats h)

      by : In e (S.history.standing ∷ S.before) → Lower z (S.rows e) (S.rows st.counts.landed)
      by (inl q) =
          subst (λ (k : ℕ). Lower z (S.rows k) (S.rows st.counts.landed)) (L.still ∙ sym q)
          (of_rows (LowerRows z) x.given_is y.given_is
          (lower_definite law z (standing_answer st w) (landed_answer st w) x.good y.good theta new theta-is New-is
          (and_left (rises change || rises (sub_of theta new)) beats h)))
      by (inr k) =
          lower_pairs law z S.rows w.filter (S.rows st.counts.landed) (landed_answer st w) y new New-is
          L.consistent.before L.consistent.stands.pairs beaten e (subst (In e) (sym L.still_before) k)

  -- undecided, before the damping grew, and half as long as the last
  halves_last :
      (st.search.first && j.undecided && j.contracting) ≡ true → Halves S z st.counts.landed (Some length)
  unfolding j z x y change
  halves_last h =
      let u = indefinite change && indefinite (sub_of theta new) in
      let c = contracts st.last length in
      let f = st.search.first in
      let fu : (f && u) ≡ true = and_left (f && u) c h in
      record {
        not_damped =
            L.mu_same ∙ growth_none L.count_bounds.growth (L.count_bounds.fresh (and_left f u fu));
        undecided =
            subst (λ (k : ℕ). Undecided z (S.rows k) (S.rows st.counts.landed)) L.still
            (of_rows (UndecidedRows z) x.given_is y.given_is
            (undecided_rows law z (standing_answer st w) (landed_answer st w) x.good y.good theta new theta-is
            New-is (and_right f u fu)));
        shorter = yes (ap (λ (b : Option Scalar). contracts b length) L.last_same ∙ and_right (f && u) c h);
      }

  decide_after : since ≤ 5 → After S st.sizes (decide st w theta j)
  unfolding decide j z x y
  decide_after few =
      let q = L.count_bounds.few in
      let p : CountBounds S.history.mu st.counts st.search 5 =
      record {
        growths = L.count_bounds.growths;
        growth = L.count_bounds.growth;
        fresh = L.count_bounds.fresh;
        turned = L.count_bounds.turned;
        few = omega arith;
      } in
      let b = st.search.first && j.undecided && j.contracting in
      either_after S z (st.search.first && j.undecided && was_taken st.last && not j.contracting) _ _
      (λ e.
      finish_after S st w stop.Undecided S.history.mu L.consistent
      (omega (arith, bounds_few S.history.mu st.counts st.search since L.count_bounds)))
      (λ e.
      either_after S z (j.lower || b) (take st w theta length) (not_lower st w)
      (λ t.
      take_after S st w since L theta theta-is few length
      (record {
        answered = all_answered;
        exact = ⊎_elim (λ h. inl (lower_all h)) (λ h. inr (halves_last h)) (or_either j.lower b t);
      }))
      (λ t. not_lower_after S st w S.history.mu L.consistent p L.below_limit))

pub judge_after :
    (law : ExactLaws) (S : CallContext) (st : State) (w : Memory) (since : ℕ) →
    Landing S st w since →
    since ≤ 5 →
    (theta : Scalar) →
    violation_of (standing_at st w).constraints ≡ ok theta → After S st.sizes (judge st w theta)
unfolding judge judge_of
judge_after law S st w since L few theta theta-is =
    or_refuse_after S st.sizes st w
    (judge_of st.sizes.n (standing_at st w) (landed_at st w) theta w.filter (pairs_in st) st.last
    w.step) _
    (judge_yields st.sizes.n (standing_at st w) (landed_at st w) theta w.filter (pairs_in st) st.last
    w.step)
    (λ j e u.
    let a = bind_value (norm_of (at w.step) st.sizes.n) _ e in
    let b = bind_value (violation_of (landed_at st w).constraints) _ a.2 in
    subst (λ (k : Judged). After S st.sizes (decide st w theta k)) (ok_inj b.2)
    (unfold z change beats j in decide_after law S st w since L theta b.0 theta-is b.1 a.0 few))
