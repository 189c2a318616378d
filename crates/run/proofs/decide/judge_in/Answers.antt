-- `judge_in` meets its contract: each part of the area is its slot.
use native.Mathlib.Omega.{arith}
use Rattle.run.proofs.DecideLaws.{judged_is, step_part}
use Rattle.run.proofs.MemoryLaws.{standing_rows_of, landed_rows_of}
use Rattle.run.proofs.decide.judge_in.Goals as goal

pub judge-requires : goal.judge-requires
judge-requires c =
    let u = c.requires.1 in
    let b = u.bounded in
    rw (
      c.standing_counts-c.ensures,
      c.landed_counts-d.ensures,
      c.pairs_in-pairs.ensures,
      c.step.ensures,
    )
    (record {
      counts = standing_rows_of b;
      next-counts = landed_rows_of b;
      few_pairs = omega (arith, u.below, b.few_iterations);
      step_is = omega (arith, step_part c.args.st.sizes c.args.area.now b.few_variables c.requires.0);
    })

pub returns : goal.returns
returns c w h =
    judged_is c.args.st h
    c.standing_counts-c.ensures
    c.landed_counts-d.ensures
    c.pairs_in-pairs.ensures
    c.standing_rows.ensures c.landed_rows.ensures
    c.filter.ensures
    c.step.ensures c.judge.ensures
