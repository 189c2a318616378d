-- The begin of a sheet passes its checks: whole numbers up to 10,000,000 are floats of just their size, which the
-- domain's 2^400 exceeds by far. Each reply to an open question then passes: the invariant of run's demand 3 keeps
-- number 4 away, a sheet's rows have their length, and what is outside the domain is answered with none. A reply that
-- asks raises the question's number, which is within 5,500 times the limit, so none is left after that many and one.
use Rattle.run.specs.declared.refusal.Refusal.{Refusal}
use Rattle.run.specs.declared.refusal.Refusal.TheVariants.{Altered, OutsideDomain, TooMany, WrongLength}
use Rattle.std.specs.Prelude.{Option, Some}
use Prim.Native.Nat.{ℕ, zero, suc, ◌+◌, ◌*◌, ◌/◌, ◌%◌, ◌^◌, ◌<◌, ◌≤◌}
use mathlib.Core.Bool.{Bool, true, false, true≢false, not, ◌&&◌, ◌||◌}
use mathlib.Core.List.{List, [], ◌∷◌, ◌++◌}
use mathlib.Core.Path.{◌≡◌, refl, sym, ap, ◌∙◌, subst}
use native.Mathlib.Nat.{le_trans, mul-le-mul_right, mul-add, add-mul, mul-one}
use native.Mathlib.Omega.{arith}
use borrow.Author.Tests.{le-leb, leb-true, lt-ltb, eq-eqb}
use lib.Dec.{eqb, leb, lit≤}
use lib.Ieee.{Float, nan, inf, fin, binary64, fits, up, down, round, of_int, of_bits, neg, lt, le, eq, level}
use lib.Ieee.Back.{round_whole}
use lib.Ieee.Exact.{HasValue}
use lib.Ieee.Fits.{down_pos, neg-fits}
use lib.IntN.{ℤ, pos, negsuc, nat_abs}
use lib.ListN.{length, get_or, length-append}
use Rattle.interval.specs.Enclosure.{Fits}
use Rattle.interval.specs.Result.{Res, ok, refused}
use Rattle.interval.specs.Scalar.{zero64, zero_s, degenerate, definitely_greater, definitely_less, from_i64, pick}
use Rattle.interval.specs.Scalar.{is_finite, div_of, mul_of, sub_of, neg_of, sharpen}
use Rattle.interval.specs.Scaling.{three64, four64}
use Rattle.interval.specs.declared.Scalar.{Scalar}
use Rattle.interval.proofs.OneSided.Ends.{outward_fits, zero_fits}
use Rattle.linear.specs.Flat.{at, list_to}
use Rattle.linear.proofs.Lists.{length-list_to, at-list_to}
use Rattle.run.specs.Answered.{started, answered, answered_none}
use Rattle.run.specs.Area.{Memory, memory_of, area_length, standing_at, landed_at, rows_at, curvature_of}
use Rattle.run.specs.Area.{pairs_in, with_start, with_taken, with_landed, with_asked}
use Rattle.run.specs.Calls.{AfterCall, unchanged, Accepted, begun_of, begin_of, checks, reply_open, reply_of, none_open}
use Rattle.run.specs.Calls.{reply_none_of, point_of, refused_by_check, Follows}
use Rattle.run.specs.Checks.{sizes_fit, constraints_fit, in_domain, all_in_domain, step_fits, valid, most_questions}
use Rattle.run.specs.Cleared.{Replied}
use Rattle.run.specs.Corrected.{to, stay, shift_of, shift_from, shifted_step, correct, land_trial, keep, land_correction}
use Rattle.run.specs.Curvature.{learned_of, update_curvature}
use Rattle.run.specs.Damping.{grown, shrunk}
use Rattle.run.specs.Decide as run
use Rattle.run.specs.Decide.{grow, turn_down, not_lower, linear_of, was_taken, decide, judge}
use Rattle.run.specs.Demand.{same, Floats, rows, none, run_of, call_result, History, begun, entered, is_arithmetic}
use Rattle.run.specs.Endings.{AfterSlots, or_refuse, question}
use Rattle.run.specs.Filter.{filter_with}
use Rattle.run.specs.Iterate.{standing_of, left_at, search, iterate}
use Rattle.run.specs.Judgement.{judge_of}
use Rattle.run.specs.declared.judgement.Judged.{Judged}
use Rattle.run.specs.Limits.{AREA, MOST, CORRECTIONS}
use Rattle.run.specs.Questions.{is_question}
use Rattle.run.specs.Radius.{radius_after}
use Rattle.run.specs.Residuals.{sum_squared, violation_of, moving_of}
use Rattle.run.specs.Rows.{row_numbers, row_counts}
use Rattle.run.specs.Search.{Found, asks, stops, refuses, search_of}
use Rattle.run.specs.State.{rejected_for, with_radius, retried, searching, starting, landing, standing_on}
use Rattle.run.specs.Vectors.{all_to}
use Rattle.run.specs.declared.state.Event.{Event}
use Rattle.run.specs.declared.state.Event.TheVariants.{Question, Finish, Refused}
use Rattle.run.specs.declared.state.Kind.{Kind}
use Rattle.run.specs.declared.state.Kind.TheVariants as kind
use Rattle.run.specs.declared.state.Rejection.{Rejection}
use Rattle.run.specs.declared.state.Rejection.TheVariants as why
use Rattle.run.specs.declared.state.Sizes.{Sizes}
use Rattle.run.specs.declared.state.State.{State}
use Rattle.run.proofs.CheckLaws.{checked}
use Rattle.run.proofs.Cleared.{reply_kept, reply_none_kept, reply_leaves, reply_none_leaves, begin_cleared}
use Rattle.run.proofs.demand3.Demand.{call_step, begin_holds}
use Rattle.run.proofs.demand3.Endings.{sound_valid, inv_between}
use Rattle.run.proofs.demand3.ExactSums.{exact_laws}
use Rattle.run.proofs.demand3.Invariant.{Inv}
use Rattle.sheet.specs.Ranges.{InRange}
use Rattle.sheet.specs.Rows.{difference_of, value_of, slope_by, one_s, two_s, slope_of, rule_at, rows_of}
use Rattle.sheet.specs.Rule.{by_kind}
use Rattle.sheet.specs.declared.sheet.Kind as rule
use Rattle.sheet.specs.declared.sheet.Kind.TheVariants.{Span, Level, Plumb}
use Rattle.sheet.specs.Runs.{RunsEnd, begin_at, settled_at}
use Rattle.sheet.specs.Settling.{is_outside, answer_of, answers_to, point_at, sizes_of, most_replies}
use Rattle.sheet.specs.Sheet.{Sheet, most_length}
use Rattle.sheet.specs.declared.sheet.Rule.{Rule}
use Rattle.sheet.proofs.SettlingLaws.{answers_more, answers_over}

-- ---- whole numbers as floats

-- 2^400
abbrev FAR : ℕ
FAR = 2 ^ 400

most_is : MOST ≡ fin false 1 (pos 400)
unfolding of_bits
most_is = refl

least_is : neg MOST ≡ fin true 1 (pos 400)
unfolding of_bits neg
least_is = refl

or_first : (a b : Bool) → a ≡ true → (a || b) ≡ true
or_first true b e = refl
or_first false b e = absurd (true≢false (sym e))

or_second : (a b : Bool) → b ≡ true → (a || b) ≡ true
or_second true b e = refl
or_second false b e = e

scaled : (far n d : ℕ) {k : ℕ} → k ≡ n * d → n < far → 0 < d → k < far * d
scaled far n d e h p = let g : (n + 1) * d ≤ far * d = mul-le-mul_right d (omega (arith, h)) in omega (arith, e, g, p)

some_first : (a b : ℕ) → a < b → 0 < b + a
some_first a b h = omega (arith, h)

some_second : (a b : ℕ) → a < b → 0 < a + b
some_second a b h = omega (arith, h)

-- a float whose size is a whole number below 2^400
module _ (m : ℕ) (e : ℤ) (n : ℕ) (v : m * up e * 1 ≡ n * down e) (few : n ≤ most_length) where
  below_most : suc n ≤ suc most_length
  below_most = omega (arith, few)

  smaller : m * up e * 1 < FAR * down e
  smaller = scaled FAR n (down e) v (le_trans below_most (lit≤ tt)) (down_pos e)

  above : (s : Bool) → le (fin true 1 (pos 400)) (fin s m e) ≡ true
  unfolding le lt
  above true = or_first _ _ (lt-ltb (m * up e * 1) (FAR * down e) smaller)
  above false = or_first _ _ (lt-ltb 0 (FAR * down e + m * up e * 1) (some_first (m * up e * 1) (FAR * down e) smaller))

  under : (s : Bool) → le (fin s m e) (fin false 1 (pos 400)) ≡ true
  unfolding le lt
  under true = or_first _ _ (lt-ltb 0 (m * up e * 1 + FAR * down e) (some_second (m * up e * 1) (FAR * down e) smaller))
  under false = or_first _ _ (lt-ltb (m * up e * 1) (FAR * down e) smaller)

same_level : (s : Bool) (a : ℕ) → level s a s a ≡ true
same_level true a = rw (eq-eqb a a refl) refl
same_level false a = rw (eq-eqb a a refl) refl

same_size : (s : Bool) (m : ℕ) (e : ℤ) → le (fin s m e) (fin s m e) ≡ true
unfolding le eq
same_size s m e = or_second (lt (fin s m e) (fin s m e)) _ (same_level s (m * up e * down e))

value_domain : (x : Float) (s : Bool) (n : ℕ) → HasValue x s n 1 → n ≤ most_length
    → in_domain (record { lo = x; hi = x }) ≡ true
value_domain nan s n v h = absurd v
value_domain (inf t) s n v h = absurd v
value_domain (fin t m e) s n v h =
    rw (least_is, most_is, above m e n v.1 h t, same_size t m e, under m e n v.1 h t) refl

exact : (n : ℕ) → n ≤ most_length → (s : Bool) → HasValue (round binary64 s n 1) s n 1
exact n h s = round_whole binary64 s n (omega (arith, h))

whole_domain : (z : ℤ) → nat_abs z ≤ most_length → in_domain (from_i64 z) ≡ true
unfolding of_int
whole_domain (pos n) h = value_domain (round binary64 false n 1) false n (exact n h false) h
whole_domain (negsuc n) h = value_domain (round binary64 true (suc n) 1) true (suc n) (exact (suc n) h true) h

value_positive : (x : Float) (n : ℕ) → HasValue x false n 1 → 1 ≤ n → lt zero64 x ≡ true
value_positive nan n v h = absurd v
value_positive (inf t) n v h = absurd v
value_positive (fin true m e) n v h = absurd (let z : ◌≡◌ {A = ℕ} 0 1 = cc in omega arith)
value_positive (fin false m e) n v h = unfold lt in
    let p = down_pos e in
    let k : 1 * down e ≤ n * down e = mul-le-mul_right (down e) h in
    lt-ltb (0 * down e) (m * up e * 1) (omega (arith, v.1, k, p))

positive : (n : ℕ) → 1 ≤ n → n ≤ most_length → definitely_greater (from_i64 (pos n)) zero_s ≡ true
unfolding of_int
positive n l h = value_positive (round binary64 false n 1) n (exact n h false) l

reach_fits : (n : ℕ) → 1 ≤ n → n ≤ most_length → step_fits (from_i64 (pos n)) ≡ true
reach_fits n l h = rw (whole_domain (pos n) h) (positive n l h)

-- ---- the start

all_true : (p : ℕ → Bool) (k : ℕ) → ((i : ℕ) → i < k → p i ≡ true) → all_to p k ≡ true
unfolding all_to
all_true p zero h = refl
all_true p (suc k) h = rw (all_true p k (λ i l. h i (omega (arith, l))), h k (omega arith)) refl

start_domain : (xs : List ℤ) → ((i : ℕ) → i < length xs → nat_abs (get_or xs i (pos 0)) ≤ most_length)
    → all_in_domain (point_at xs) (length xs) ≡ true
start_domain xs h =
    all_true _ (length xs)
    (λ i l.
    ap in_domain (at-list_to (λ j. from_i64 (get_or xs j (pos 0))) (length xs) i l)
    ∙ whole_domain (get_or xs i (pos 0)) (h i l))

-- ---- the begin

pub sizes-fit : (s : Sheet) → InRange s → sizes_fit (sizes_of s) ≡ true
sizes-fit s r =
    let p = r.few_points in
    let e = r.even in
    rw (
      le-leb (length s.coordinates) 12 (omega (arith, p, e)),
      le-leb (length s.coordinates) 24 (omega (arith, p, e)),
      le-leb s.limit 200 r.few_iterations,
    ) refl

pub rules_fit : (s : Sheet) → InRange s → constraints_fit (length s.rules) ≡ true
rules_fit s r = le-leb (length s.rules) 12 r.few_rules

pub begin_is : (s : Sheet) → InRange s → (a : List Float) → length a ≡ AREA
    → begin_at s a ≡ begun_of (sizes_of s) (point_at s.coordinates) (from_i64 (pos s.reach))
unfolding begin_of
begin_is s r a l =
    rw (
      sizes-fit s r,
      eq-eqb _ _ (length-list_to (λ i. from_i64 (get_or s.coordinates i (pos 0))) (length s.coordinates)),
      eq-eqb _ _ l,
      start_domain s.coordinates r.near,
      reach_fits s.reach r.some_reach r.small_reach,
    ) refl

begin_accepted : (s : Sheet) → InRange s → (a : List Float) → length a ≡ AREA → Accepted (begin_at s a)
begin_accepted s r a l = ap (λ (b : AfterCall). b.event) (begin_is s r a l)

-- ---- a question that is asked is open

abbrev Opened : Option Kind → Type 0
Opened p = (k : Kind) × (p ≡ Some k)

abbrev Asks : Event → Option Kind → Type 0
Asks e p = is_question e ≡ true → Opened p

abbrev AsksOpen : AfterSlots → Type 0
AsksOpen o = Asks o.event o.state.phase

unasked : {A : Type 0} → false ≡ true → A
unasked e = absurd (true≢false (sym e))

or_refuse_asks : (st : State) (w : Memory) {A : Type 0} (x : Res A) (next : A → AfterSlots)
    → ((a : A) → AsksOpen (next a)) → AsksOpen (or_refuse st w x next)
or_refuse_asks st w (ok a) next h = h a
or_refuse_asks st w (refused k) next h = λ e. unasked e

either_asks : (b : Bool) (o o' : AfterSlots) → AsksOpen o → AsksOpen o' → AsksOpen (pick b o o')
either_asks true o o' h k = h
either_asks false o o' h k = k

left_asks : (st : State) (w : Memory) (f : Found) → AsksOpen (left_at st w f)
unfolding left_at
left_asks st w (asks x t) e = (kind.Trial, refl)
left_asks st w (stops x s) e = unasked e
left_asks st w (refuses x k) e = unasked e

search_asks : (st : State) (w : Memory) → AsksOpen (search st w)
unfolding search
search_asks st w =
    or_refuse_asks st w (violation_of (standing_at st w).constraints) _
    (λ theta. left_asks st w (search_of (standing_of st w theta) st.max_step st.search))

iterate_asks : (st : State) (w : Memory) → AsksOpen (iterate st w)
unfolding iterate
iterate_asks st w =
    either_asks (leb st.sizes.limit st.counts.iterations) _ _ (λ e. unasked e) (search_asks st w)

grow_asks : (st : State) (w : Memory) → AsksOpen (grow st w)
unfolding grow
grow_asks st w =
    let x = grown st.search in
    either_asks (is_finite x.mu) _ _ (search_asks (searching st x) w) (λ e. unasked e)

turn_down_asks : (st : State) (w : Memory) (r : Rejection) → AsksOpen (turn_down st w r)
unfolding turn_down
turn_down_asks st w r =
    let x = rejected_for st.search r in
    or_refuse_asks (searching st x) w (div_of st.trial.tried (degenerate four64)) _
    (λ q. grow_asks (searching st (with_radius x (sharpen q))) w)

not_lower_asks : (st : State) (w : Memory) → AsksOpen (not_lower st w)
unfolding not_lower
not_lower_asks st w =
    either_asks (not st.search.plain && learned_of st.sizes.n w.curvature) _ _
    (search_asks (searching st (retried (rejected_for st.search why.NotLower))) w)
    (turn_down_asks st w why.NotLower)

module _ (st : State) (w : Memory) (theta : Scalar) where
  take_asks : (length : Scalar) → AsksOpen (run.take st w theta length)
  unfolding run.take
  take_asks length =
      or_refuse_asks st w (linear_of st w theta) _
      (λ linear.
      or_refuse_asks st w (div_of st.search.mu (degenerate three64)) _
      (λ third.
      or_refuse_asks st w
      (update_curvature st.sizes.n (curvature_of st w) w.step (standing_at st w) (landed_at st w) w.multipliers) _
      (λ b.
      iterate_asks
      (standing_on st length (shrunk st.search.mu third)
      (radius_after length st.search.radius st.max_step linear))
      (with_taken w b (filter_with w.filter (sum_squared (standing_at st w).sum) theta)))))

  decide_asks : (j : Judged) → AsksOpen (decide st w theta j)
  unfolding decide
  decide_asks j =
      either_asks (st.search.first && j.undecided && was_taken st.last && not j.contracting) _ _
      (λ e. unasked e)
      (either_asks (j.lower || (st.search.first && j.undecided && j.contracting)) _ _ (take_asks j.length)
      (not_lower_asks st w))

  judge_asks : AsksOpen (judge st w theta)
  unfolding judge
  judge_asks =
      or_refuse_asks st w
      (judge_of st.sizes.n (standing_at st w) (landed_at st w) theta w.filter (pairs_in st) st.last w.step) _
      (λ j. decide_asks j)

  correct_asks : AsksOpen (correct st w theta)
  unfolding correct
  correct_asks =
      or_refuse_asks st w (shift_from st.moving (landed_at st w).constraints w.landed) _
      (λ s. elim s as (λ x. AsksOpen (elim x as (λ y. AfterSlots) [
        | to next ↦ question st (with_asked st w next) kind.Correction st.counts.corrections
        | stay ↦ judge st w theta
      ])) [
        | to next ↦ λ e. (kind.Correction, refl)
        | stay ↦ judge_asks
      ])

module _ (st : State) (w : Memory) (m : ℕ) (rows : List Float) where
  land_trial_asks : (theta : Scalar) → AsksOpen (land_trial st w m rows theta)
  unfolding land_trial
  land_trial_asks theta =
      let t = landing st m 0 in
      let v = with_landed w rows w.step in
      or_refuse_asks t v (violation_of (landed_at t v).constraints) _
      (λ new. either_asks (definitely_greater new theta) _ _ (correct_asks t v theta) (judge_asks t v theta))

  keep_asks : (theta : Scalar) → AsksOpen (keep st w m rows theta)
  unfolding keep
  keep_asks theta =
      or_refuse_asks st w (shift_of st.moving (landed_at st w).constraints) _
      (λ d.
      let t = landing st m (st.counts.corrections + 1) in
      let v = with_landed w rows (shifted_step st.sizes.n w.step d) in
      either_asks (leb CORRECTIONS t.counts.corrections) _ _ (judge_asks t v theta) (correct_asks t v theta))

  land_correction_asks : (theta : Scalar) → AsksOpen (land_correction st w m rows theta)
  unfolding land_correction
  land_correction_asks theta =
      or_refuse_asks st w (violation_of (rows_at st m rows).constraints) _
      (λ new.
      or_refuse_asks st w (violation_of (landed_at st w).constraints) _
      (λ old. either_asks (definitely_less new old) _ _ (keep_asks theta) (judge_asks st w theta)))

  answered_asks : (k : Kind) → AsksOpen (answered k st w m rows)
  unfolding started
  answered_asks kind.Start =
      iterate_asks (starting st m (moving_of st.sizes.n (rows_at st m rows))) (with_start st w rows)
  answered_asks kind.Trial =
      or_refuse_asks st w (violation_of (standing_at st w).constraints) _ (λ theta. land_trial_asks theta)
  answered_asks kind.Correction =
      or_refuse_asks st w (violation_of (standing_at st w).constraints) _ (λ theta. land_correction_asks theta)

none_asks : (st : State) (w : Memory) (k : Kind) → AsksOpen (answered_none k st w)
none_asks st w kind.Start = λ e. unasked e
none_asks st w kind.Trial = turn_down_asks st w why.Infeasible
none_asks st w kind.Correction =
    or_refuse_asks st w (violation_of (standing_at st w).constraints) _ (λ theta. judge_asks st w theta)

-- ---- a sheet's rows are floats, as many as a reply has

pick_fits : (b : Bool) (x y : Scalar) → Fits x → Fits y → Fits (pick b x y)
pick_fits true x y p q = p
pick_fits false x y p q = q

neg_fit : (x : Scalar) → Fits x → Fits (neg_of x)
neg_fit x p = (neg-fits binary64 x.hi p.1, neg-fits binary64 x.lo p.0)

slope_by_fits : (i j : ℕ) (s : Scalar) (v : ℕ) (other : Scalar) → Fits s → Fits other → Fits (slope_by i j s v other)
slope_by_fits i j s v other p q = pick_fits (eqb v i) s _ p (pick_fits (eqb v j) (neg_of s) other (neg_fit s p) q)

one_fits : Fits one_s
unfolding fits
one_fits = (tt, tt)

kind_fits : (k : rule.Kind) (x y z : Scalar) → Fits x → Fits y → Fits z → Fits (by_kind k x y z)
kind_fits Span x y z p q r = p
kind_fits Level x y z p q r = q
kind_fits Plumb x y z p q r = r

value_fits : (x : List Float) (r : Rule) → Fits (value_of x r)
unfolding value_of
value_fits x r =
    kind_fits r.kind _ _ _ (outward_fits _ _) (outward_fits _ _) (outward_fits _ _)

slope_fits : (x : List Float) (r : Rule) (v : ℕ) → Fits (slope_of x r v)
unfolding slope_of
slope_fits x r v =
    let xi = 2 * r.first in
    let xj = 2 * r.second in
    kind_fits r.kind _ _ _
    (slope_by_fits xi xj (mul_of two_s (difference_of x xi xj)) v _ (outward_fits _ _)
    (slope_by_fits (xi + 1) (xj + 1) (mul_of two_s (difference_of x (xi + 1) (xj + 1))) v zero_s (outward_fits _ _)
    zero_fits))
    (slope_by_fits (xi + 1) (xj + 1) one_s v zero_s one_fits zero_fits)
    (slope_by_fits xi xj one_s v zero_s one_fits zero_fits)

floats_append : (xs ys : List Float) → Floats xs → Floats ys → Floats (xs ++ ys)
floats_append [] ys p q = q
floats_append (x ∷ xs) ys p q = (p.0, floats_append xs ys p.1 q)

floats-list_to : (f : ℕ → Scalar) → ((i : ℕ) → Fits (f i)) → (n : ℕ) → Floats (list_to f n)
unfolding list_to
floats-list_to f h zero = tt
floats-list_to f h (suc n) = floats_append (list_to f n) _ (floats-list_to f h n) ((h n).0, ((h n).1, tt))

module _ (n : ℕ) (rules : List Rule) (x aims : List Float) where
  rows_floats : Floats (rows_of n rules x aims)
  unfolding rows_of
  rows_floats =
      floats_append (list_to (λ k. value_of x (rule_at rules k)) (length rules)) _
      (floats-list_to _ (λ k. value_fits x (rule_at rules k)) (length rules))
      (floats_append (list_to (λ p. slope_of x (rule_at rules (p / n)) (p % n)) (length rules * n)) _
      (floats-list_to _ (λ p. slope_fits x (rule_at rules (p / n)) (p % n)) (length rules * n))
      (floats_append (list_to (λ i. sub_of (at x i) (at aims i)) n) _ (floats-list_to _ (λ i. outward_fits _ _) n)
      (floats-list_to _ (λ p. pick_fits (eqb (p / n) (p % n)) one_s zero_s one_fits zero_fits) (n * n))))

  pub rows_length : length (rows_of n rules x aims) ≡ 2 * ((length rules + n) * (n + 1))
  unfolding rows_of
  rows_length =
      let m = length rules in
      let c : (m + n) * (n + 1) ≡ m + m * n + n + n * n = simp (add-mul, mul-add, mul-one) (omega arith) in
      let f : ℕ → Scalar = λ k. value_of x (rule_at rules k) in
      let g : ℕ → Scalar = λ p. slope_of x (rule_at rules (p / n)) (p % n) in
      let h : ℕ → Scalar = λ i. sub_of (at x i) (at aims i) in
      let k : ℕ → Scalar = λ p. pick (eqb (p / n) (p % n)) one_s zero_s in
      four_long (list_to f m) (list_to g (m * n)) (list_to h n) (list_to k (n * n)) m (m * n) n (n * n)
      (length-list_to f m) (length-list_to g (m * n)) (length-list_to h n) (length-list_to k (n * n)) ∙ omega (arith, c)
    where
      four_long : (a b c d : List Float) (i j k l : ℕ) → length a ≡ 2 * i → length b ≡ 2 * j
          → length c ≡ 2 * k → length d ≡ 2 * l → length (a ++ (b ++ (c ++ d))) ≡ 2 * (i + j + k + l)
      four_long a b c d i j k l p q r s =
          length-append a (b ++ (c ++ d))
          ∙ omega (arith, length-append b (c ++ d), length-append c d, p, q, r, s)

-- ---- a reply to an open question

-- a question of a run of these sizes is open
record Going (z : Sizes) (b : AfterCall) : Type 0 where
  pub history : History
  pub inv : Inv z history (run_of b)
  pub opened : Opened b.state.phase
  pub whole : length b.area ≡ AREA

-- what a reply leaves: no refusal by 1 to 4, and where it asks, the next question
record Turn (z : Sizes) (b l : AfterCall) : Type 0 where
  pub passed : refused_by_check l.event ≡ false
  pub goes : is_question l.event ≡ true → Going z l
  pub next : is_question l.event ≡ true → l.state.counts.question ≡ b.state.counts.question + 1

passes : (P : AfterCall → Type 0) (b : Bool) (k : Refusal) (back : Refusal → AfterCall) (next : AfterCall) → b ≡ true → P next
    → P (checks b k back next)
passes P true k back next e p = p
passes P false k back next e p = unasked e

plain_question : (e : Event) → is_question e ≡ true → is_arithmetic e ≡ false
plain_question (Question k t s) h = refl
plain_question (Finish e i t s) h = refl
plain_question (Refused k) h = unasked h

next_number : (q : ℕ) (st : State) (e : Event) → is_question e ≡ true → Follows q st e → st.counts.question ≡ q + 1
next_number q st (Question k t s) h f = f.1 ∙ f.0
next_number q st (Finish e i t s) h f = unasked h
next_number q st (Refused k) h f = unasked h

module _ (z : Sizes) (b : AfterCall) (g : Going z b) where
  is_valid : valid b.state ≡ true
  is_valid = sound_valid b.state g.inv.sound

  -- a call that passed, with what it asks open
  turned : (l : AfterCall) → Replied b.state b.area l → refused_by_check l.event ≡ false
      → Asks l.event l.state.phase → (is_arithmetic l.event ≡ false → (h : History) × Inv z h (run_of l))
      → Turn z b l
  turned l r p o i = record {
    passed = p;
    goes = λ q.
        let v = i (plain_question l.event q) in
        record { history = v.0; inv = v.1; opened = o q; whole = (r.cleared p).whole };
    next = λ q. next_number b.state.counts.question l.state l.event q (r.follows p);
  }

  none_turn : Turn z b (reply_none_of b.state b.area)
  none_turn =
      turned (reply_none_of b.state b.area) (reply_none_leaves b.state b.area) past.0 past.1
      (λ q. (
        entered g.history (run_of b) (none same) (call_result (run_of b) (none same)),
        (call_step exact_laws z g.history (run_of b) (none same) g.inv tt q).0,
      ))
    where
      Past : AfterCall → Type 0
      Past l = (refused_by_check l.event ≡ false) × Asks l.event l.state.phase

      past : Past (reply_none_of b.state b.area)
      past =
          let s = b.state in
          let a = b.area in
          let k = g.opened.0 in
          unfold reply_none_of in
          passes Past (valid s) Altered (unchanged s a) _ is_valid
          (subst (λ (p : Option Kind). Past (none_open s a p)) (sym g.opened.1)
          (passes Past (eqb (length a) (area_length s.sizes)) WrongLength (unchanged s a) _ (eq-eqb _ _ g.whole)
          ((reply_none_kept s a is_valid g.whole k g.opened.1).past_checks, none_asks s (memory_of s a) k)))

  rows_turn : (m : ℕ) → constraints_fit m ≡ true → (xs : List Float) → Floats xs
      → length xs ≡ row_numbers (row_counts z m) → is_outside (reply_of b.state b.area m xs).event ≡ false
      → Turn z b (reply_of b.state b.area m xs)
  rows_turn m few xs f many inside =
      turned (reply_of b.state b.area m xs) (reply_leaves b.state b.area m xs) (past inside).0
      (past inside).1
      (λ q. (
        entered g.history (run_of b) (rows same m xs f) (call_result (run_of b) (rows same m xs f)),
        (call_step exact_laws z g.history (run_of b) (rows same m xs f) g.inv tt q).0,
      ))
    where
      Past : AfterCall → Type 0
      Past l = is_outside l.event ≡ false
          → (refused_by_check l.event ≡ false) × Asks l.event l.state.phase

      own : length xs ≡ row_numbers (row_counts b.state.sizes m)
      own = many ∙ ap (λ (y : Sizes). row_numbers (row_counts y m)) (sym g.inv.sizes_are)

      past : Past (reply_of b.state b.area m xs)
      past =
          let s = b.state in
          let a = b.area in
          let k = g.opened.0 in
          unfold reply_of in
          passes Past (valid s) Altered (unchanged s a) _ is_valid
          (subst (λ (p : Option Kind). Past (reply_open s a m xs p)) (sym g.opened.1)
          (passes Past (constraints_fit m) TooMany (unchanged s a) _ few
          (passes Past (eqb (length a) (area_length s.sizes) && eqb (length xs) (row_numbers (row_counts s.sizes m)))
          WrongLength (unchanged s a) _ (rw (eq-eqb _ _ g.whole, eq-eqb _ _ own) refl)
          (checked Past (all_in_domain xs ((m + s.sizes.s) * (s.sizes.n + 1))) OutsideDomain (unchanged s a) _
          (λ e. absurd (true≢false e))
          (λ d e. (
            (reply_kept s a is_valid g.whole m (leb-true _ _ few) xs own k g.opened.1).past_checks,
            answered_asks s (memory_of s a) m xs k,
          ))))))

-- ---- the loop

module _ (s : Sheet) (r : InRange s) (aims : List Float) where
  turn : (b : AfterCall) → Going (sizes_of s) b → Turn (sizes_of s) b (answer_of s aims b)
  unfolding answer_of
  turn b g = by (is_outside (reply_of b.state b.area (length s.rules) xs).event) refl
    where
      xs : List Float
      xs = rows_of (length s.coordinates) s.rules (point_of b.state b.area) aims

      by : (o : Bool) → is_outside (reply_of b.state b.area (length s.rules) xs).event ≡ o
          → Turn (sizes_of s) b
          (pick o (reply_none_of b.state b.area) (reply_of b.state b.area (length s.rules) xs))
      by true e = none_turn (sizes_of s) b g
      by false e =
          rows_turn (sizes_of s) b g (length s.rules) (rules_fit s r) xs
          (rows_floats (length s.coordinates) s.rules (point_of b.state b.area) aims)
          (rows_length (length s.coordinates) s.rules (point_of b.state b.area) aims) e

  abbrev Ended : AfterCall → Type 0
  Ended l = (is_question l.event ≡ false) × (refused_by_check l.event ≡ false)

  -- with more replies left than questions
  ends : (n : ℕ) (b : AfterCall) → Going (sizes_of s) b → is_question b.event ≡ true
      → 1 + most_questions (sizes_of s) ≤ n + b.state.counts.question → Ended (answers_to n s aims b)
  ends zero b g q h =
      let f = (inv_between (sizes_of s) g.history (run_of b) g.inv).few_questions in
      absurd (omega (arith, f, h))
  ends (suc n) b g q h =
      subst Ended (sym (answers_more s aims n b q))
      (by (is_question (answer_of s aims b).event) refl (λ w e k. ends n (answer_of s aims b) w e k))
    where
      by : (o : Bool) → is_question (answer_of s aims b).event ≡ o
          → (Going (sizes_of s) (answer_of s aims b) → is_question (answer_of s aims b).event ≡ true
          → 1 + most_questions (sizes_of s) ≤ n + (answer_of s aims b).state.counts.question
          → Ended (answers_to n s aims (answer_of s aims b))) → Ended (answers_to n s aims (answer_of s aims b))
      by true e more =
          let t = turn b g in
          let k = t.next e in
          more (t.goes e) e (omega (arith, h, k))
      by false e more =
          subst Ended (sym (answers_over s aims n (answer_of s aims b) e)) (e, (turn b g).passed)

module _ (s : Sheet) (r : InRange s) (a : List Float) (l : length a ≡ AREA) where
  begin_going : Going (sizes_of s) (begin_at s a)
  begin_going =
      let z = sizes_of s in
      let start = point_at s.coordinates in
      let max = from_i64 (pos s.reach) in
      let q = begin_accepted s r a l in
      record {
        history = begun (run_of (begin_at s a));
        inv = begin_holds z start max a q;
        opened = (kind.Start, ap (λ (b : AfterCall). b.state.phase) (begin_is s r a l));
        whole = (begin_cleared z start max a q).whole;
      }

  all_ended : (aims : List Float) → Ended s r aims (settled_at s aims a)
  all_ended aims =
      let few = r.few_iterations in
      let none : (begin_at s a).state.counts.question ≡ 0 =
      ap (λ (b : AfterCall). b.state.counts.question) (begin_is s r a l) in
      ends s r aims most_replies (begin_at s a) begin_going (ap is_question (begin_accepted s r a l))
      (omega (arith, few, none))

pub runs_end : RunsEnd
runs_end = record {
  begun = begin_accepted;
  ended = λ s r aims a l. (all_ended s r a l aims).0;
  not_refused = λ s r aims a l. (all_ended s r a l aims).1;
}
