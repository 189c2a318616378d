-- `judge` meets its contract: where the checks passed the counts and lengths fit.
use native.Mathlib.Omega.{arith}
use borrow.Author.Tests.{le-leb, lt-leb}
use Rattle.run.specs.Pieces.{judge_reply}
use Rattle.run.proofs.PieceLaws.{finished, both_passed, wants_passed}
use Rattle.std.proofs.lemmas.Result.{err_from_is_err_and}
use Rattle.run.proofs.pieces.judge.Goals as goal

pub returns-then-count-gt-ITERATIONS : goal.returns-then-count-gt-ITERATIONS
unfolding judge_reply
returns-then-count-gt-ITERATIONS c = rw (lt-leb _ _ c.if-count-gt-ITERATIONS.true)

pub returns-in_err-wants : goal.returns-in_err-wants
unfolding judge_reply
returns-in_err-wants c =
    let p = err_from_is_err_and c.from_residual.result c.from_residual.ensures.1 in
    rw (
      p.1,
      p.2,
      le-leb _ _ c.if-count-gt-ITERATIONS.false,
      ← c.both_sized.ensures,
      ← c.wants-fit.ensures,
      ← c.wants.ensures,
      c.in_err-wants.was,
    )

pub violation-landed-requires : goal.violation-landed-requires
violation-landed-requires c =
    let p = wants_passed _ _ _ (finished c.in_ok-wants.was) c.wants.ensures in
    let q = wants_passed _ _ _ p.0 c.wants-fit.ensures in
    (both_passed q.0 c.both_sized.ensures).second.counts.few_constraints

pub judge-requires : goal.judge-requires
judge-requires c =
    let p = wants_passed _ _ _ (finished c.in_ok-wants.was)
    c.wants.ensures in
    let q = wants_passed _ _ _ p.0 c.wants-fit.ensures in
    let z = both_passed q.0 c.both_sized.ensures in
    record {
      counts = z.first.counts;
      next-counts = z.second.counts;
      few_pairs = omega (arith, c.if-count-gt-ITERATIONS.false);
      step_is = omega (arith, p.1, z.first.counts.few_variables);
    }

pub returns : goal.returns
unfolding judge_reply
returns c =
    rw (
      le-leb _ _ c.if-count-gt-ITERATIONS.false,
      ← c.both_sized.ensures,
      ← c.wants-fit.ensures,
      ← c.wants.ensures,
      c.in_ok-wants.was,
    )
    (c.judge.ensures c.violation-landed.ensures)
