-- One reflection, law by law as the code takes it: the normal, a column reflected, and the marks beside it. Each takes
-- what the calls gave, one equation a call, since the scalars' operations are written out wherever they stand.
use Rattle.std.specs.Prelude.{Result, Ok, Err}
use Prim.Native.Nat.{ℕ, zero, suc, ◌*◌, ◌<◌}
use mathlib.Core.Bool.{Bool}
use mathlib.Core.List.{List}
use mathlib.Core.Path.{◌≡◌, sym}
use native.Mathlib.Nat.{mul-zero, not-suc-le-zero}
use native.Mathlib.Omega.{arith}
use lib.Ieee.{Float}
use Rattle.interval.specs.declared.Scalar.{Scalar}
use Rattle.interval.specs.Result.{Res, ok, refused}
use Rattle.interval.specs.Scalar.{two64, degenerate, sub_of, mul_of, div_of}
use Rattle.linear.specs.declared.results.LinearError.{LinearError}
use Rattle.linear.specs.LinearResult.{done_of}
use Rattle.linear.specs.Flat.{at, put, along}
use Rattle.linear.specs.Dot.{dot_to}
use Rattle.linear.specs.Choose.{choose_of}
use Rattle.linear.specs.Cholesky.{factor_of}
use Rattle.linear.specs.Scaled.{minus_scaled}
use Rattle.linear.specs.Householder.{alpha_of, normal_of, reflect_step, with_marks}
use Rattle.linear.proofs.Folds.{bind_ok, bind_refused}

-- a place in them is in a row
pub rows_positive : (k m : ℕ) {p : ℕ} → p < k * m → 0 < m
rows_positive k zero h = absurd (not-suc-le-zero (rw mul-zero at h))
rows_positive k (suc m) h = omega arith

-- ---- the steps

pub normal_is : (xs : List Float) (size : Scalar) {x a s v : Scalar} {xs' : List Float} → x ≡ at xs 0
    → a ≡ alpha_of x size → s ≡ sub_of x a → v ≡ choose_of s → xs' ≡ put xs 0 v → xs' ≡ normal_of xs size
unfolding normal_of
normal_is xs size ex ea es ev e = rw (e, ev, es, ea, ex)

module _ (v : List Float) (vv : Scalar) (n base : ℕ) (cols : List Float) {s p : Scalar}
    (es : s ≡ dot_to (at v) (along cols base 1) n) (ep : p ≡ mul_of s (degenerate two64)) where
  pub reflect_ok : {f : Scalar} {c : List Float} → ok f ≡ div_of p vv → c ≡ minus_scaled cols base f v 0 n
      → ok c ≡ reflect_step v vv n base cols
  unfolding reflect_step
  reflect_ok ef e = rw e (sym (bind_ok _ (sym (rw (ep, es) at ef))))

  pub reflect_refused : {k : ℕ} → refused k ≡ div_of p vv → refused k ≡ reflect_step v vv n base cols
  unfolding reflect_step
  reflect_refused e = sym (bind_refused _ (sym (rw (ep, es) at e)))

pub with-marks : (r : Result (Unit {0}) LinearError) (cols : List Float) (left : List Bool) (s : Res (List Float))
    → done_of r cols ≡ s
    → done_of r (factor_of cols left) ≡ with_marks left s
with-marks (Ok u) cols left s e = rw (← e)
with-marks (Err k) cols left s e = rw (← e)
