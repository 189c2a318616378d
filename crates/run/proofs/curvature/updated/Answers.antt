-- `updated` meets its contract: the test decides whether there is an update, by what lies along the constraints, or its
-- refusal.
use Rattle.std.proofs.lemmas.Result.{err_from_is_err_and}
use mathlib.Core.Path.{refl}
use lib.Ieee.{of_bits}
use Rattle.run.specs.Rows.{constraints_of}
use Rattle.run.proofs.CurvatureLaws.{handed_on, went_on, updates, leaves}
use Rattle.run.proofs.Prefixes.{front_kept}
use Rattle.run.proofs.RowLaws.{short}
use Rattle.run.proofs.curvature.updated.Goals as goal

pub returns-then-not-definitely_not_equal : goal.returns-then-not-definitely_not_equal
unfolding of_bits
returns-then-not-definitely_not_equal c = λ xs f.
    let a = c.args in
    leaves a.c.n (constraints_of a.c xs) a.b.now a.y.now a.s.now refl
    c.products.ensures
    c.dot_of.ensures c.dot_of-2.ensures
    c.sub-d.ensures.value c.definitely_not_equal.ensures (c.if-not-definitely_not_equal.true)

pub returns-in_err-along_factored : goal.returns-in_err-along_factored
unfolding of_bits
returns-in_err-along_factored c = λ xs f.
    let a = c.args in
    let p = err_from_is_err_and c.from_residual.result c.from_residual.ensures.1 in
    rw (p.1, p.2)
    (updates a.c.n (constraints_of a.c xs) a.b.now a.y.now a.s.now refl
    c.products.ensures
    c.dot_of.ensures
    c.dot_of-2.ensures
    c.sub-d.ensures.value
    c.definitely_not_equal.ensures (c.if-not-definitely_not_equal.false)
    (handed_on _ a.b.now _ c.in_err-along_factored.was (c.along_factored.ensures xs f)))

pub returns : goal.returns
unfolding of_bits
returns c = λ xs f.
    let a = c.args in
    let front = front_kept _
    c.along_factored.new.out _
    (short c.requires.0.few_variables) c.along_factored.auto.out in
    updates a.c.n (constraints_of a.c xs) a.b.now a.y.now a.s.now refl
    c.products.ensures
    c.dot_of.ensures
    c.dot_of-2.ensures
    c.sub-d.ensures.value
    c.definitely_not_equal.ensures (c.if-not-definitely_not_equal.false) (went_on _
    c.in_ok-along_factored.was
    (c.along_factored.ensures xs f) front
    c.corrected_by.ensures)
