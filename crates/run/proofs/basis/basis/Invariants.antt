-- `basis` meets its contract: the invariant is the fold at the rows passed, not refused.
use mathlib.Core.List.{List}
use mathlib.Core.Path.{◌≡◌}
use Prim.Native.Nat.{ℕ, ◌≤◌, ◌-◌}
use lib.Ieee.{Float}
use lib.ListN.{length}
use Rattle.interval.specs.Result.{ok}
use Rattle.interval.specs.Scalar.{zero_s}
use Rattle.linear.specs.Results.{fold_r}
use Rattle.run.specs.Basis.{no_rows, row_step}
use Rattle.run.specs.program.Basis.{basis_by, problem_by}
use Rattle.run.proofs.basis.basis.Given as goal

-- after the rows 0 to i - 1: what was written is the basis of them, and each slice is as long as it was
pub record Passed (k m : ℕ) (wide jc q₀ coefficients₀ dependent₀ : List Float) (order₀ : List ℕ)
    (q gram coefficients dependent : List Float) (order : List ℕ) (r i : ℕ) : Type 0 where
  pub few : i ≤ m
  pub independent : r ≤ i
  pub q-length : length q ≡ length q₀
  pub gram-length : length gram ≡ 288
  pub coefficients-length : length coefficients ≡ length coefficients₀
  pub dependent-length : length dependent ≡ length dependent₀
  pub order-length : length order ≡ length order₀
  pub rows : fold_r (row_step (problem_by k m (λ _. zero_s) wide jc)) no_rows i
      ≡ ok (basis_by r q gram coefficients dependent order)

abbrev pub invariant-loop-i : goal.invariant-loop-i
invariant-loop-i l =
    Passed l.k l.m l.wide l.jc l.initial.q l.initial.coefficients l.initial.dependent l.initial.order
    l.q l.gram l.coefficients l.dependent l.order l.r l.i

abbrev pub decreases-loop-i : goal.decreases-loop-i
decreases-loop-i l = l.m - l.i
