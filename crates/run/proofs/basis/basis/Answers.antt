-- `basis` meets its contract: the invariant is the fold at the rows passed, not refused.
use Rattle.std.proofs.lemmas.Result.{err_from_is_err_and}
use borrow.Author.Rules.{rules}
use mathlib.Core.Path.{refl, sym, ap, ◌∙◌}
use native.Mathlib.Nat.{le_antisymm}
use native.Mathlib.Omega.{arith}
use lib.Ieee.{of_bits}
use Rattle.interval.specs.Result.{ok}
use Rattle.interval.specs.Scalar.{zero_s}
use Rattle.linear.specs.Results.{fold_r}
use Rattle.run.specs.Basis.{basis_of}
use Rattle.run.specs.program.Basis.{basis_by, problem_by, without_gram}
use Rattle.run.proofs.BasisLaws.{rank_next, rows_next, rows_refused}
use Rattle.run.proofs.basis.basis.Goals as goal

pub loop-i-init : goal.loop-i-init
unfolding fold_r of_bits
loop-i-init c =
    record {
      few = omega arith;
      independent = omega arith;
      q-length = refl;
      gram-length = refl;
      coefficients-length = refl;
      dependent-length = refl;
      order-length = refl;
      rows = ap ok (sym c.requires.clear);
    }

pub returns-in_err-r : goal.returns-in_err-r
returns-in_err-r c =
    let a =
    c.args in
    let l =
    c.loop-i in
    let n =
    c.next_row in
    let P = problem_by a.k a.m (λ _. zero_s) a.wide.now a.jc.now in
    let b = basis_by l.r l.q l.gram l.coefficients l.dependent l.order in
    let q = n.new.q in
    let gram = n.new.gram in
    let coefficients = n.new.coefficients in
    let dependent = n.new.dependent in
    let order = n.new.order in
    let p = err_from_is_err_and c.from_residual.result c.from_residual.ensures.1 in
    rw (p.1, p.2)
    (rows_refused P b l.i q gram coefficients dependent order n.result l.invariant.rows n.ensures
    c.loop-i-test.true c.in_err-r.was)

pub loop-i-preserved : goal.loop-i-preserved
loop-i-preserved c =
    let a =
    c.args in
    let l =
    c.loop-i in
    let n =
    c.next_row in
    let P = problem_by a.k a.m (λ _. zero_s) a.wide.now a.jc.now in
    let b = basis_by l.r l.q l.gram l.coefficients l.dependent l.order in
    let q = n.new.q in
    let gram = n.new.gram in
    let coefficients = n.new.coefficients in
    let dependent = n.new.dependent in
    let order = n.new.order in
    let known = c.in_ok-r.was in
    let more = rank_next P b l.i q gram coefficients dependent order n.result l.invariant.rows n.ensures known in
    record {
      few = search rules;
      independent = omega (arith, more, l.invariant.independent);
      q-length = n.auto.q ∙ l.invariant.q-length;
      gram-length = n.auto.gram ∙ l.invariant.gram-length;
      coefficients-length = n.auto.coefficients ∙ l.invariant.coefficients-length;
      dependent-length = n.auto.dependent ∙ l.invariant.dependent-length;
      order-length = n.auto.order ∙ l.invariant.order-length;
      rows =
          rows_next P b l.i q gram coefficients dependent order n.result l.invariant.rows n.ensures known;
    }

pub returns : goal.returns
unfolding basis_of
returns c =
    let l = c.loop-i in
    ap without_gram (sym (rw (le_antisymm l.invariant.few c.loop-i-test.false) at l.invariant.rows))
