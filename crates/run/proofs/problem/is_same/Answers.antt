-- `is_same` meets its contract: numbers that compare equal are no NaN, and with the same bits they are the same.
use mathlib.Core.Path.{sym, subst}
use borrow.Author.Tests.{eqb-true}
use lib.Dec.{T}
use Rattle.interval.proofs.Commutation.{same_bits}
use Rattle.run.proofs.Symmetry.{numbers}
use Rattle.run.proofs.problem.is_same.Goals as goal

pub float_to_bits-result-then-x-y : goal.float_to_bits-result-then-x-y
float_to_bits-result-then-x-y c = (numbers _ _ c.if-x-y.true).1

pub returns-then-x-y : goal.returns-then-x-y
returns-then-x-y c = λ e.
    same_bits c.args.x c.args.y (subst T (sym c.well_formed.0.1) tt) (subst T (sym c.well_formed.1.0.1) tt)
    (eqb-true _ _ e)
