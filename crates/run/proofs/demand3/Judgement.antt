-- What a judgement says of the exact sums: a lower point is lower than each that stood, and an undecided one is
-- undecided of the rows as they were answered.
use Prim.Native.Nat.{ℕ}
use mathlib.Core.Bool.{Bool, true, ◌&&◌, ◌||◌}
use mathlib.Core.Logic.{inl, inr, ⊎_elim}
use mathlib.Core.Path.{◌≡◌, refl, sym, subst}
use mathlib.Core.List.{List, [], ◌∷◌}
use lib.Ieee.{Float}
use lib.ListN.{length}
use Rattle.interval.specs.declared.Scalar.{Scalar}
use Rattle.interval.specs.Result.{ok}
use Rattle.interval.specs.Scalar.{sub_of, definitely_less}
use Rattle.interval.proofs.Given.{yes}
use Rattle.run.specs.Residuals.{sum_squared, violation_of}
use Rattle.run.specs.Vectors.{all_to}
use Rattle.run.specs.Judgement.{sum_change, rises, indefinite}
use Rattle.run.specs.Filter.{beats_to, filter_sum, filter_violation}
use Rattle.run.specs.Demand.{In, Answer, AnsweredRows, has_rows, BothWith, constraints_in, sum_in, LowerRows}
use Rattle.run.specs.Demand.{Lower, UndecidedRows}
use Rattle.run.specs.declared.state.Sizes.{Sizes}
use Rattle.run.proofs.Booleans.{and_left, and_right, or_either}
use Rattle.run.proofs.demand3.ExactLaws.{Good, ExactLaws}
use Rattle.run.proofs.demand3.Invariant.{FittingRows, Pairs}

-- of the rows that two questions were answered with
pub of_rows :
    (P : Answer → Answer → Type 0) {x y : AnsweredRows} {a b : Answer} →
    x ≡ has_rows a → y ≡ has_rows b → P a b → BothWith P x y
of_rows P {x} {y} {a} {b} e e' p =
    subst (λ (g : AnsweredRows). BothWith P g y) (sym e)
    (subst (λ (g : AnsweredRows). BothWith P (has_rows a) g) (sym e') p)

module _ (law : ExactLaws) (z : Sizes) (x y : Answer) (gx : Good z x) (gy : Good z y) (theta theta' : Scalar)
    (e : violation_of (constraints_in z x) ≡ ok theta) (e' : violation_of (constraints_in z y) ≡ ok theta') where
  -- the sum change or the fall of the violation is definite
  pub lower_definite :
      (rises (sum_change (sum_in z x) (sum_in z y)) || rises (sub_of theta theta')) ≡ true → LowerRows z x y
  lower_definite h =
      let a = rises (sum_change (sum_in z x) (sum_in z y)) in
      let b = rises (sub_of theta theta') in
      ⊎_elim (λ r. inl (law.change_falls (sum_in z x) (sum_in z y) refl gx.sum_finite gy.sum_finite (yes r)))
      (λ r. inr (law.violation_falls (constraints_in z x) (constraints_in z y) gx.constraints_finite
      gy.constraints_finite theta theta' e e' (yes r)))
      (or_either a b h)

  -- f or the violation is definitely less
  lower_less :
      (definitely_less (sum_squared (sum_in z y)) (sum_squared (sum_in z x)) || definitely_less theta' theta) ≡ true →
      LowerRows z x y
  lower_less h =
      let a = definitely_less (sum_squared (sum_in z y)) (sum_squared (sum_in z x)) in
      let b = definitely_less theta' theta in
      ⊎_elim (λ r. inl (law.sum_less (sum_in z x) (sum_in z y) gx.sum_finite gy.sum_finite (yes r)))
      (λ r. inr (law.violation_less (constraints_in z x) (constraints_in z y) gx.constraints_finite
      gy.constraints_finite theta theta' e e' (yes r)))
      (or_either a b h)

  pub undecided_rows :
      (indefinite (sum_change (sum_in z x) (sum_in z y)) && indefinite (sub_of theta theta')) ≡ true →
      UndecidedRows z x y
  undecided_rows h =
      let a = indefinite (sum_change (sum_in z x) (sum_in z y)) in
      let b = indefinite (sub_of theta theta') in
      record {
        before = theta;
        after = theta';
        before_is = e;
        after_is = e';
        sum_undecided = yes (and_left a b h);
        violation_undecided = yes (and_right a b h);
      }

-- against the points that stood before, by their pairs
module _ (law : ExactLaws) (z : Sizes) (rows : ℕ → AnsweredRows) (filter : List Float) (y : AnsweredRows)
    (own : Answer) (r : FittingRows z y own) (theta' : Scalar) (e' : violation_of (constraints_in z own) ≡ ok theta')
  where
    beats : List ℕ → Bool
    beats es = beats_to filter (sum_squared (sum_in z own)) theta' (length es)

    one : List ℕ → Bool
    one es =
        definitely_less (sum_squared (sum_in z own)) (filter_sum filter (length es))
        || definitely_less theta' (filter_violation filter (length es))

    pub lower_pairs :
        (es : List ℕ) →
        Pairs z rows filter es →
        beats_to filter (sum_squared (sum_in z own)) theta' (length es) ≡ true → (e : ℕ) → In e es → Lower z (rows e) y
    unfolding beats_to all_to In beats one
    lower_pairs [] p b e i = absurd i
    lower_pairs (d ∷ es) p b e (inl q) =
        let stood = p.0.rowed in
        subst (λ (k : ℕ). Lower z (rows k) y) (sym q)
        (of_rows (LowerRows z) stood.given_is r.given_is
        (lower_less law z p.0.rows own stood.good r.good (filter_violation filter (length es)) theta'
        p.0.pair_violation e' (rw (← p.0.pair_sum) (and_right (beats es) (one es) b))))
    lower_pairs (d ∷ es) p b e (inr i) = lower_pairs es p.1 (and_left (beats es) (one es) b) e i
