-- The laws of exact sums of squares that demand 3 rests on: of finite rows, each of the four definite answers of a
-- judgement makes one exact sum lower.
use Prim.Native.Nat.{ℕ}
use mathlib.Core.Path.{◌≡◌}
use lib.Dec.{T}
use lib.IntN.{ℤ}
use lib.ListN.{length}
use lib.Signed.{lt_z}
use Rattle.interval.specs.declared.Scalar.{Scalar}
use Rattle.interval.specs.Result.{ok}
use Rattle.interval.specs.Scalar.{sub_of, definitely_less}
use Rattle.linear.specs.Squares as squares
use Rattle.linear.specs.Squares.{squares_to, Chosen}
use Rattle.linear.proofs.SquareLaws.{chosen_rescaled}
use Rattle.run.specs.Rows.{Rows, row_numbers, value_at, row_counts}
use Rattle.run.specs.Residuals.{sum_squared, violation_of}
use Rattle.run.specs.Judgement.{sum_change, rises}
use Rattle.run.specs.Demand.{Answer, constraints_in, sum_in, Falls}
use Rattle.run.specs.declared.state.Sizes.{Sizes}

-- the values are pairs of finite floats
abbrev pub FiniteRows : Rows → Type 0
FiniteRows e = squares.Rows (value_at e) e.count

-- `Falls` of choices over one power of two that all share
abbrev pub FallsTogether : Rows → Rows → Type 0
FallsTogether e e' =
    (p q : ℕ → ℤ) (k : ℕ) → Chosen (value_at e) e.count p k → Chosen (value_at e') e'.count q k →
    T (lt_z (squares_to q e'.count) (squares_to p e.count))

-- choices with a power for each, rescaled, share one
pub falls_each : (e e' : Rows) → FallsTogether e e' → Falls e e'
falls_each e e' h p q j k c a b =
    h _ _ c (chosen_rescaled (value_at e) e.count p j c a) (chosen_rescaled (value_at e') e'.count q k c b)

-- rows as they are answered: of the right length, with finite values
pub record Good (z : Sizes) (x : Answer) : Type 0 where
  pub size : length x.numbers ≡ row_numbers (row_counts z x.m)
  pub constraints_finite : FiniteRows (constraints_in z x)
  pub sum_finite : FiniteRows (sum_in z x)

pub record ExactLaws : Type 0 where
  pub change_falls : (e e' : Rows) → e.count ≡ e'.count → FiniteRows e → FiniteRows e' → T (rises (sum_change e e'))
      → Falls e e'
  pub sum_less : (e e' : Rows) → FiniteRows e → FiniteRows e' → T (definitely_less (sum_squared e') (sum_squared e))
      → Falls e e'
  pub violation_falls : (e e' : Rows) → FiniteRows e → FiniteRows e' → (v v' : Scalar) → violation_of e ≡ ok v
      → violation_of e' ≡ ok v' → T (rises (sub_of v v')) → Falls e e'
  pub violation_less : (e e' : Rows) → FiniteRows e → FiniteRows e' → (v v' : Scalar) → violation_of e ≡ ok v
      → violation_of e' ≡ ok v' → T (definitely_less v' v) → Falls e e'
