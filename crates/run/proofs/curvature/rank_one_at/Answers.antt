-- `rank_one_at` meets its contract: the definition's step, from what each call gives.
use mathlib.Core.List.{List}
use mathlib.Core.Path.{◌≡◌}
use Prim.Native.Nat.{ℕ, ◌/◌, ◌%◌}
use lib.Ieee.{Float}
use Rattle.interval.specs.declared.Scalar.{Scalar}
use Rattle.interval.specs.Result.{Res}
use Rattle.interval.specs.Scalar.{mul_of, div_of}
use Rattle.linear.specs.Flat.{at}
use Rattle.linear.specs.Substitution.{store_r}
use Rattle.run.specs.Curvature.{chosen_sum, rank_one_step}
use Rattle.run.proofs.curvature.rank_one_at.Goals as goal

step :
    (n : ℕ) (v : List Float) (vs : Scalar) (b : List Float) (p : ℕ) {x w y : Scalar} {q : Res Scalar}
    {r : Res (List Float)} →
    x ≡ at v (p / n) → w ≡ at v (p % n) → y ≡ mul_of x w → q ≡ div_of y vs → r ≡ store_r b p (chosen_sum (at b p) q) →
    r ≡ rank_one_step n v vs b p
unfolding rank_one_step
step n v vs b p ex ew ey eq er = rw (er, eq, ey, ex, ew)

pub returns : goal.returns
returns c = λ vs e.
    let a = c.args in
    step a.n a.v.now vs a.b.now a.p
    c.at-x.ensures
    c.at.ensures
    c.mul-y.ensures.value
    (c.quotient.ensures vs e) c.add_chosen.ensures
