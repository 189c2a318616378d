-- `judge` meets its contract: the length, then the violation, and the refusal of the first that is refused.
use Rattle.std.specs.Prelude.{Option}
use Prim.Native.Nat.{ℕ}
use mathlib.Core.List.{List}
use mathlib.Core.Path.{◌≡◌, ap, sym, ◌∙◌}
use lib.Ieee.{Float}
use Rattle.interval.specs.Result.{ok}
use Rattle.interval.specs.declared.Scalar.{Scalar}
use Rattle.linear.specs.LinearResult.{result_of}
use Rattle.linear.proofs.Folds.{bind_ok, bind_refused}
use Rattle.run.specs.Filter.{beats_to}
use Rattle.run.specs.Judgement.{Judged, sum_change, judged_by, judge_of}
use Rattle.run.specs.Rows.{rows_in}
use Rattle.run.specs.declared.rows.RowSet.{RowSet}
use Rattle.std.proofs.lemmas.Result.{err_from_is_err_and}
use Rattle.run.proofs.judgement.judge.Goals as goal

-- a change between equal row sets
changed :
    (xs ys : List Float) {e f p q : RowSet} {x : Scalar} → e ≡ p → f ≡ q →
    x ≡ sum_change (rows_in xs e) (rows_in ys f) → x ≡ sum_change (rows_in xs p) (rows_in ys q)
changed xs ys ee ef ex = rw (ex, ee, ef)

-- a judgement from an equal change and an equal f
equal :
    (fall theta length : Scalar) (filter : List Float) (count : ℕ) (last : Option Scalar)
    {x x' f f' : Scalar} {r : Judged} →
    x ≡ x' → f ≡ f' → r ≡ judged_by x fall (beats_to filter f theta count) length last →
    r ≡ judged_by x' fall (beats_to filter f' theta count) length last
equal fall theta length filter count last ex ef er = rw (er, ex, ef)

pub returns-in_err-length : goal.returns-in_err-length
unfolding judge_of
returns-in_err-length c v =
    let p = err_from_is_err_and c.from_residual.result c.from_residual.ensures.1 in
    rw (p.1, p.2) (sym (bind_refused _ (sym c.norm_of.ensures ∙ ap result_of c.in_err-length.was)))

pub returns-in_err-theta : goal.returns-in_err-theta
unfolding judge_of
returns-in_err-theta c v =
    let p = err_from_is_err_and c.from_residual-in_err-theta.result c.from_residual-in_err-theta.ensures.1 in
    let f = sym c.norm_of.ensures ∙ ap result_of c.in_ok-length.was in
    let g = sym v ∙ ap result_of c.in_err-theta.was in
    rw (p.1, p.2) (sym (bind_ok _ f ∙ bind_refused _ g))

pub returns : goal.returns
unfolding judge_of
returns c v =
    let a = c.args in
    let f = sym c.norm_of.ensures ∙ ap result_of c.in_ok-length.was in
    let g = sym v ∙ ap result_of c.in_ok-theta.was in
    let change = changed a.xs.now a.next.now c.sum.ensures
    c.sum-2.ensures
    c.sum_change-change.ensures in
    let judged =
    equal _ _ _ a.filter.now a.base.pairs a.base.last change c.sum_squared-f.ensures
    c.judged_by.ensures in
    ap ok judged ∙ sym (bind_ok _ f ∙ bind_ok _ g)
