-- The step, put together from its parts: along what is left free, with its multipliers, over the kept variables, and
-- over all.
use Rattle.std.specs.Prelude.{Err, None, Ok, Option, Result, Some}
use Prim.Native.Nat.{ℕ, ◌+◌, ◌*◌, ◌-◌, ◌≤◌}
use mathlib.Core.Bool.{Bool, true, false, ◌&&◌}
use mathlib.Core.Path.{◌≡◌, refl, sym, ap, ap₂, ◌∙◌}
use mathlib.Core.List.{List, [], ◌++◌, append-nil}
use native.Mathlib.Omega.{arith}
use lib.Ieee.{Float}
use lib.ListN.{length, take, drop, length-drop, drop_of_length-le, replicate-append-replicate}
use lib.Seq.{take-length, take_at, drop_at, take-append-le, drop-append-le}
use Rattle.interval.specs.declared.Scalar.{Scalar}
use Rattle.interval.specs.Result.{Res, ok, refused}
use Rattle.interval.specs.Scalar.{zero64, zero_s, pick, is_finite}
use Rattle.linear.specs.Flat.{at, zeros}
use Rattle.linear.specs.LinearResult.{number_of, done_of}
use Rattle.linear.specs.Results.{bind}
use Rattle.linear.specs.declared.results.LinearError.{LinearError}
use Rattle.linear.specs.Cholesky.{Factor, cholesky_of}
use Rattle.run.specs.Vectors.{matrix, all_finite, spread_to}
use Rattle.run.specs.Rows.{Evaluation}
use Rattle.run.specs.Problem.{Kept, kept_to, Problem, problem_of}
use Rattle.run.specs.program.Problem.{kept_by, problem_in, damped_by, damped_from, gradient_in}
use Rattle.run.specs.Basis.{Basis, basis_of, correction_of, multiplier_step, multipliers_of}
use Rattle.run.specs.program.Basis.{basis_by, problem_by, ranked_of, bare, without_gram}
use Rattle.run.specs.declared.step.Prepared.{Prepared}
use Rattle.run.specs.NullSpace.{Directions, directions_of}
use Rattle.run.specs.program.NullSpace.{span_of, found_of}
use Rattle.run.specs.Step.{Stepped, not_positive, stepped_by, along_z, free_step, kept_step, spread_step, step_of}
use Rattle.run.specs.Reduced.{force_of, pull_of, reduced_of, against_of, Weights, weights, none, weights_of}
use Rattle.run.specs.program.Reduced.{curved, spanned, solved_with, added_to, free_part}
use Rattle.run.specs.program.Step.{with_multipliers, end_of, spread_end, basis_for, step_from_correction}
use Rattle.run.specs.program.Step.{step_from_basis}
use Rattle.run.specs.program.Step.{tested_step, Few, ready_step, step_from_factors, damped_step}
use Rattle.run.specs.program.Step.{factors_in, prepared_step}
use Rattle.run.proofs.AreaLaws.{length_clear}
use Rattle.run.proofs.BasisLaws.{basis_reads, take_replicate}
use Rattle.run.proofs.NullSpaceLaws.{directions_few}
use Rattle.run.proofs.VectorLaws.{at_rows_behind, at_clear, all_behind}
use Rattle.run.proofs.Concatenation.{length_both, first_of_four, second_of_four, third_of_four, fourth_of_four}

-- the kept step, once its part along Z is added
abbrev pub onward : Problem → Basis → Weights → Res Stepped
onward P b (weights kept) = stepped_by P b kept
onward P b none = ok not_positive

module _ (P : Problem) (b : Basis) (delta : List Float) (d : Directions) where
  weighed : (y : Res Weights) → bind (bind y (λ w. ok (added_to P delta d w))) (onward P b)
      ≡ bind y (λ w. along_z P b delta d w)
  unfolding bind
  weighed (ok (weights w)) = refl
  weighed (ok none) = refl
  weighed (refused e) = refl

  factored : (x : Res Factor) (g : Factor → Res Weights) →
      bind (bind (bind x g) (λ w. ok (added_to P delta d w))) (onward P b)
      ≡ bind x (λ f. bind (g f) (λ w. along_z P b delta d w))
  unfolding bind
  factored (ok f) g = weighed (g f)
  factored (refused e) g = refl

  pub free_step_lem : {x : Res Weights} → x ≡ free_part P delta d → bind x (onward P b) ≡ free_step P b delta d
  unfolding free_step free_part solved_with
  free_step_lem e =
      rw e
      (factored (cholesky_of d.count (reduced_of P d)) (λ f. weights_of d.count f (against_of P d (force_of P delta))))

-- only the curvature and the gradient are read, and of the directions no remainder
module _ (P : Problem) (delta : List Float) (d : Directions) where
  added : (x : Res Weights) →
      bind x (λ w. ok (added_to (curved P.k P.h P.g) delta (spanned d.count d.z) w))
      ≡ bind x (λ w. ok (added_to P delta d w))
  unfolding bind
  added (ok (weights w)) = refl
  added (ok none) = refl
  added (refused e) = refl

  pub free_curved : free_part (curved P.k P.h P.g) delta (spanned d.count d.z) ≡ free_part P delta d
  unfolding free_part force_of reduced_of against_of
  free_curved = added (solved_with d.count (reduced_of P d) (against_of P d (force_of P delta)))

module _ (P : Problem) (b : Basis) where
  onward_read : (x : Res Weights) →
      bind x (onward (curved P.k P.h P.g) (basis_for b.rank b.q b.coefficients b.order))
      ≡ bind x (onward P b)
  unfolding bind stepped_by pull_of multipliers_of multiplier_step
  onward_read (ok (weights w)) = refl
  onward_read (ok none) = refl
  onward_read (refused e) = refl

  pub free_read : (delta : List Float) (d : Directions)
      → free_step (curved P.k P.h P.g) (basis_for b.rank b.q b.coefficients b.order) delta
      (spanned d.count d.z) ≡ free_step P b delta d
  free_read delta d =
      sym (free_step_lem (curved P.k P.h P.g) (basis_for b.rank b.q b.coefficients b.order) delta
      (spanned d.count d.z) (sym (free_curved P delta d)))
      ∙ onward_read (free_part P delta d)
      ∙ free_step_lem P b delta d refl

-- the multipliers, where the step and what pulls against it are finite
module _ (P : Problem) (b : Basis) (kept : List Float) {pull : List Float} {finite : Bool}
    (ep : pull ≡ pull_of (curved P.k P.h P.g) kept)
    (ef : finite ≡ (all_finite kept 12 && all_finite pull 12)) where
  both : finite ≡ (all_finite kept 12 && all_finite (pull_of P kept) 12)
  unfolding pull_of
  both = rw ep at ef

  pub stepped_not : finite ≡ false → ok not_positive ≡ stepped_by P b kept
  unfolding stepped_by
  stepped_not e = rw (← both, e)

  pub stepped_on : {x : Res (List Float)} → finite ≡ true → x ≡ multipliers_of P.k b pull →
      with_multipliers kept b.rank x ≡ stepped_by P b kept
  unfolding stepped_by with_multipliers pull_of
  stepped_on e ex = rw (← both, e, ex, ep)

-- from the correction on
module _ (P : Problem) (b : Basis) (delta : List Float) where
  span_read : (x : Res Directions)
      → bind (span_of x) (λ d. free_step (curved P.k P.h P.g)
      (basis_for b.rank b.q b.coefficients b.order) delta d) ≡ bind x (λ d. free_step P b delta d)
  unfolding bind span_of
  span_read (ok d) = free_read P b delta d
  span_read (refused e) = refl

  pub corrected-by : {x : Res Directions} → x ≡ span_of (directions_of P.k b.rank b.q)
      → bind x (λ d. free_step (curved P.k P.h P.g)
      (basis_for b.rank b.q b.coefficients b.order) delta d) ≡ step_from_correction P b delta
  unfolding step_from_correction
  corrected-by e = rw e (span_read (directions_of P.k b.rank b.q))

  each_read : (x : Res Directions)
      → bind x (λ d. free_step (curved P.k P.h P.g)
      (basis_for b.rank b.q b.coefficients b.order) delta d) ≡ bind x (λ d. free_step P b delta d)
  unfolding bind
  each_read (ok d) =
      sym (free_read (curved P.k P.h P.g) (basis_for b.rank b.q b.coefficients b.order) delta d)
      ∙ free_read P b delta d
  each_read (refused e) = refl

  pub corrected_read : step_from_correction (curved P.k P.h P.g)
      (basis_for b.rank b.q b.coefficients b.order) delta ≡ step_from_correction P b delta
  unfolding step_from_correction
  corrected_read = each_read (directions_of P.k b.rank b.q)

-- from the basis on, and over the kept variables
module _ (P : Problem) where
  pub based_refused : (b : Basis) {e : ℕ} → refused e ≡ correction_of P b → refused e ≡ step_from_basis P b
  unfolding step_from_basis bind
  based_refused b e = rw (← e)

  pub based_on : (b : Basis) {delta : List Float} {x : Res Stepped} → ok delta ≡ correction_of P b
      → x ≡ step_from_correction P b delta → x ≡ step_from_basis P b
  unfolding step_from_basis bind
  based_on b e ex = rw (← e) ex

  -- only the constraint values, the curvature and the gradient are read, and of the basis no Gram matrix
  abbrev plain : Problem
  plain = problem_in P.k P.m P.c [] [] P.h P.g

  module _ (b : Basis) where
    all_read : (x : Res (List Float))
        → bind x (λ delta. step_from_correction plain (bare b) delta) ≡ bind x (λ delta. step_from_correction P b delta)
    unfolding bind
    all_read (ok delta) = sym (corrected_read plain (bare b) delta) ∙ corrected_read P b delta
    all_read (refused e) = refl

    based_read : step_from_basis plain (bare b) ≡ step_from_basis P b
    unfolding step_from_basis correction_of
    based_read = all_read (correction_of P b)

  kept_by_lem : kept_step P ≡ bind (basis_of P) (λ b. step_from_basis P b)
  unfolding kept_step step_from_basis step_from_correction
  kept_by_lem = refl

  each_based : (x : Res Basis) → bind (without_gram x) (step_from_basis plain) ≡ bind x (λ b. step_from_basis P b)
  unfolding bind
  each_based (ok b) = based_read b
  each_based (refused e) = refl

  module _ (q coefficients dependent : List Float) (order : List ℕ) (x : Result ℕ LinearError)
      (e
      : ranked_of x q [] coefficients dependent order
      ≡ without_gram (basis_of (problem_by P.k P.m (λ _. zero_s) P.wide P.jc))) where
    kept_based : {y : Res Stepped}
        → y ≡ bind (ranked_of x q [] coefficients dependent order) (step_from_basis plain) → y ≡ kept_step P
    kept_based ey =
        ey
        ∙ ap (λ z. bind z (step_from_basis plain)) e
        ∙ each_based (basis_of (problem_by P.k P.m (λ _. zero_s) P.wide P.jc))
        ∙ ap (λ z. bind z (λ b. step_from_basis P b)) (basis_reads P)
        ∙ sym kept_by_lem

    pub kept_on : {r : ℕ} {y : Res Stepped} → x ≡ Ok r
        → y ≡ step_from_basis plain (basis_by r q [] coefficients dependent order) → y ≡ kept_step P
    unfolding bind
    kept_on ex ey = kept_based (rw ex ey)

    pub kept_refused : {o : LinearError} → x ≡ Err o → refused (number_of o) ≡ kept_step P
    unfolding bind
    kept_refused ex = kept_based (rw ex)

-- ---- what no damping changes

-- a factors, as it is read
framed_is : (x : Result Prepared LinearError) (P : Problem) (order : List ℕ) (factors q c delta z : List Float)
    → length q ≡ 288
    → length c ≡ 288 → length delta ≡ 24 → length z ≡ 288 → factors ≡ q ++ (c ++ (delta ++ z))
    → step_from_factors x P order factors ≡ ready_step x P q c order delta z
framed_is x P order factors q c delta z lq lc ld lz e =
    rw (
      first_of_four factors q c delta z lq lc ld lz e,
      second_of_four factors q c delta z lq lc ld lz e,
      third_of_four factors q c delta z lq lc ld lz e,
      fourth_of_four factors q c delta z lq lc ld lz e,
    )

-- the step from it, as the correction and the directions ended
module _ (P : Problem) (b : Basis) (delta z : List Float) {d : Result (Unit {0}) LinearError}
    (ec : done_of d delta ≡ correction_of P b) where
  pub ready_uncorrected : {e : LinearError} → d ≡ Err e → refused (number_of e) ≡ step_from_basis P b
  ready_uncorrected ed = based_refused P b (rw ed at ec)

  module _ {f : Result ℕ LinearError} (ed : d ≡ Ok tt)
      (ef : found_of f z ≡ span_of (directions_of P.k b.rank b.q)) where
    pub ready_undirected : {e : LinearError} → f ≡ Err e → refused (number_of e) ≡ step_from_basis P b
    unfolding bind
    ready_undirected e = based_on P b (rw ed at ec) (corrected-by P b delta (rw e at ef))

    ready_is : {free : ℕ} → f ≡ Ok free
        → ready_step (Ok (record { independent = b.rank; free = free })) (curved P.k P.h P.g) b.q b.coefficients b.order
        delta z ≡ step_from_basis P b
    unfolding bind
    ready_is e = based_on P b (rw ed at ec) (corrected-by P b delta (rw e at ef))

    pub ready_framed : {free : ℕ} (factors : List Float) → f ≡ Ok free → length b.q ≡ 288
        → length b.coefficients ≡ 288 → length delta ≡ 24 → length z ≡ 288
        → factors ≡ b.q ++ (b.coefficients ++ (delta ++ z))
        → step_from_factors (Ok (record { independent = b.rank; free = free })) (curved P.k P.h P.g) b.order factors
        ≡ step_from_basis P b
    ready_framed {free} factors e lq lc ld lz ef =
        framed_is (Ok (record { independent = b.rank; free = free })) (curved P.k P.h P.g) b.order factors b.q
        b.coefficients delta z lq lc ld lz ef
        ∙ ready_is e

-- at most twelve of each
pub refused_few : {e : LinearError} → Few (Err e)
refused_few = record { independent = omega arith; free = omega arith }

pub ready_few : (k r : ℕ) (q z : List Float) → k ≤ 12 → r ≤ 12 → {f : Result ℕ LinearError} {free : ℕ}
    → f ≡ Ok free → found_of f z ≡ span_of (directions_of k r q) → Few (Ok (record { independent = r; free = free }))
ready_few k r q z hk hr e ef =
    record { independent = hr; free = omega (arith, directions_few k r q (rw e at ef), hk) }

-- H is finite where its first k rows are: behind them it is clear
rows_finite : (k : ℕ) (fixed : List Float) (mu : Scalar) → k ≤ 12 →
    all_finite (damped_from k fixed mu) 144 ≡ all_finite (damped_from k fixed mu) (12 * k)
unfolding damped_by
rows_finite k fixed mu h =
    let m : (144 - 12 * k) + 12 * k ≡ 144 = omega (arith, h) in
    rw m at (all_behind (λ i. is_finite (at (damped_from k fixed mu) i)) (144 - 12 * k) (12 * k)
    (λ t a b. ap is_finite (at_rows_behind matrix _ k k t h a ∙ at_clear 288 t (omega (arith, b, m)))))

-- where H is finite
module _ (k : ℕ) (x : Result Prepared LinearError) (order : List ℕ) (fixed : List Float) (mu : Scalar)
    {h : List Float} {finite : Bool} (hk : k ≤ 12) (eh : h ≡ damped_from k fixed mu)
    (ef : finite ≡ all_finite h (12 * k)) where
  whole : finite ≡ all_finite (damped_from k fixed mu) 144
  whole = rw eh at ef ∙ sym (rows_finite k fixed mu hk)

  pub damped_not : finite ≡ false → ok not_positive ≡ damped_step k x order fixed mu
  unfolding damped_step
  damped_not q = rw (← whole, q)

  pub damped_on : {y : Res Stepped} → finite ≡ true →
      y ≡ step_from_factors x (curved k h (gradient_in fixed)) order (factors_in fixed) →
      y ≡ damped_step k x order fixed mu
  unfolding damped_step
  damped_on q ey = rw (← whole, q, ← eh) ey

-- over all
spread_tested : (k : Kept) (finite : Bool) (x : Res Stepped) →
    spread_end k (pick finite x (ok not_positive)) ≡ pick finite (bind x (λ y. ok (spread_step k y))) (ok not_positive)
unfolding spread_end bind
spread_tested k true x = refl
spread_tested k false x = refl

pub end_spread : (x : Result (Option ℕ) LinearError) (k : Kept) (kept lambda : List Float) {delta : List Float} →
    delta ≡ spread_to k.index kept k.count → end_of x delta lambda ≡ spread_end k (end_of x kept lambda)
unfolding spread_end bind
end_spread (Ok (Some r)) k kept lambda e = rw e
end_spread (Ok None) k kept lambda e = refl
end_spread (Err o) k kept lambda e = refl

pub step_is : (n : ℕ) (e : Evaluation) (b : List Float) (moving : List Bool) (mu : Scalar) {k : Kept}
    {x y : Res Stepped} →
    k ≡ kept_to moving n → x ≡ tested_step (problem_of n k e b mu) → y ≡ spread_end k x → y ≡ step_of n e b moving mu
unfolding step_of tested_step
step_is n e b moving mu {k} ek ex ey =
    ey ∙ ap (spread_end k) ex
    ∙ spread_tested k (all_finite (problem_of n k e b mu).h 144) (kept_step (problem_of n k e b mu)) ∙ rw ek

module _ (n : ℕ) (moving : List Bool) (x : Result Prepared LinearError) (order : List ℕ) (fixed : List Float)
    (mu : Scalar) {k : Kept}
    (ek : k ≡ kept_to moving n) where
  pub prepared_by : {y z : Res Stepped} → y ≡ damped_step k.count x order fixed mu → z ≡ spread_end k y →
      z ≡ prepared_step n moving x order fixed mu
  unfolding prepared_step
  prepared_by ey ez = ez ∙ ap (spread_end k) ey ∙ rw ek

-- ---- what is undamped and the factors, in one list

rest_clear : drop 336 (zeros 1224) ≡ zeros 888
rest_clear =
    ap (drop 336) (sym (replicate-append-replicate 336 888 zero64))
    ∙ drop_at (zeros 336) (zeros 888) 336 (length_clear 336)

none_left : drop 888 (zeros 888) ≡ []
none_left = let l : length (zeros 888) ≤ 888 = omega (arith, length_clear 888) in drop_of_length-le (zeros 888) l

-- each in its part of a list that was clear
module _ (a : List Float) (clear : a ≡ zeros 1224) where
  pub clear_long : length a ≡ 1224
  clear_long = ap length clear ∙ length_clear 1224

  pub first_clear : take 336 (drop 0 a) ≡ zeros 336
  first_clear = rw clear (take_replicate 336 1224 zero64 (omega arith))

  module _ (u : List Float) (lu : length u ≡ 336) where
    abbrev pub with_first : List Float
    with_first = take 0 a ++ (u ++ drop 336 (drop 0 a))

    first_written : with_first ≡ u ++ zeros 888
    first_written = ap (λ (x : List Float). u ++ drop 336 x) clear ∙ ap (λ (x : List Float). u ++ x) rest_clear

    pub first_long : length with_first ≡ 1224
    first_long = ap length first_written ∙ length_both u (zeros 888) lu (length_clear 888)

    behind_first : drop 336 with_first ≡ zeros 888
    behind_first = ap (drop 336) first_written ∙ drop_at u (zeros 888) 336 lu

    pub second_clear : take 888 (drop 336 with_first) ≡ zeros 888
    second_clear = ap (take 888) behind_first ∙ take_replicate 888 888 zero64 (omega arith)

    pub both_written : (f : List Float) → take 336 with_first ++ (f ++ drop 888 (drop 336 with_first)) ≡ u ++ f
    both_written f =
        let front : take 336 with_first ≡ u = ap (take 336) first_written ∙ take_at u (zeros 888) 336 lu in
        let rest : f ++ drop 888 (drop 336 with_first) ≡ f =
        ap (λ (x : List Float). f ++ drop 888 x) behind_first ∙ ap (λ (x : List Float). f ++ x) none_left
        ∙ append-nil f in
        ap₂ ◌++◌ front rest

-- what is read of it
module _ (k : ℕ) (mu : Scalar) (fixed u f : List Float) (e : fixed ≡ u ++ f) (lu : length u ≡ 336)
    (lf : length f ≡ 888) where
  damped_first : damped_from k fixed mu ≡ damped_from k u mu
  damped_first =
      let l₁ : 288 ≤ length u = omega (arith, lu) in
      let l₂ : 24 ≤ length (drop 288 u) = omega (arith, lu, length-drop 288 u) in
      rw (e, take-append-le 288 u f l₁, drop-append-le 288 u f l₁, take-append-le 24 (drop 288 u) f l₂)

  gradient_first : gradient_in fixed ≡ gradient_in u
  gradient_first =
      let l₁ : 312 ≤ length u = omega (arith, lu) in
      let l₂ : 24 ≤ length (drop 312 u) = omega (arith, lu, length-drop 312 u) in
      rw (e, drop-append-le 312 u f l₁, take-append-le 24 (drop 312 u) f l₂)

  factors_second : factors_in fixed ≡ f
  factors_second = rw (e, drop_at u f 336 lu) (rw lf at (take-length f))

  -- what is prepared gives the step of the definition
  pub prepared_is : (n : ℕ) (moving : List Bool) (x : Result Prepared LinearError) (order : List ℕ) {index : List ℕ} →
      kept_by k index ≡ kept_to moving n →
      (v : Evaluation) (b : List Float) (m : ℕ) (c : ℕ → Scalar) (wide jc : List Float) →
      problem_in k m c wide jc (damped_from k u mu) (gradient_in u) ≡ problem_of n (kept_by k index) v b mu →
      ((h g : List Float) → step_from_factors x (curved k h g) order f ≡ kept_step (problem_in k m c wide jc h g)) →
      prepared_step n moving x order fixed mu ≡ step_of n v b moving mu
  unfolding damped_step tested_step
  prepared_is n moving x order ek v b m c wide jc ep q =
      let h : List Float = damped_from k u mu in
      let tested : damped_step k x order fixed mu ≡ tested_step (problem_in k m c wide jc h (gradient_in u)) =
      rw (damped_first, gradient_first, factors_second)
      (ap (λ (y : Res Stepped). pick (all_finite h 144) y (ok not_positive)) (q h (gradient_in u))) in
      sym (prepared_by n moving x order fixed mu ek refl refl)
      ∙ step_is n v b moving mu ek (tested ∙ ap tested_step ep) refl
