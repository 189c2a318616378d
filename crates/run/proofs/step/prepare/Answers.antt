-- `prepare` meets its contract: the kept variables, the problem, from clear arrays, and what follows from its
-- constraints.
use mathlib.Core.List.{List}
use mathlib.Core.Path.{◌≡◌, refl, ap, ◌∙◌}
use native.Mathlib.Omega.{arith}
use lib.Ieee.{Float, of_bits}
use lib.ListN.{length, take, drop}
use Rattle.linear.specs.Flat.{zeros}
use Rattle.run.specs.program.Step.{fixed_len}
use Rattle.run.specs.program.Problem.{KeptFits}
use Rattle.run.proofs.Concatenation.{length_both}
use Rattle.run.proofs.EndingLaws.{cut_length}
use Rattle.run.proofs.ProblemLaws.{kept_few, kept_near}
use Rattle.run.proofs.StepLaws.{clear_long, first_clear, with_first, first_long, second_clear, both_written}
use Rattle.run.proofs.StepLaws.{prepared_is}
use Rattle.run.proofs.step.prepare.Goals as goal

-- what is undamped keeps its length
undamped-long : (a u : List Float) → a ≡ zeros fixed_len → length u ≡ length (take 336 (drop 0 a))
    → length u ≡ 336
undamped-long a u clear e = e ∙ cut_length 336 0 a (omega (arith, clear_long a clear))

pub problem-requires : goal.problem-requires
unfolding of_bits
problem-requires c =
    let few = c.requires.0.few_variables in
    let k = c.keep-k in
    let fits : KeptFits k.result k.new.index = record {
      few = omega (arith, kept_few _ _ k.ensures, few);
      long = k.auto.index;
      near = kept_near _ _ k.ensures few;
    } in
    record {
      few_rows = (c.requires.0, fits);
      wide_value = (refl, refl, first_clear c.args.fixed.now c.requires.3);
    }

pub prepare_kept-requires : goal.prepare_kept-requires
prepare_kept-requires c =
    let p = c.requires in
    let k = c.keep-k in
    let u = c.problem.new.undamped in
    let lu : length u ≡ 336 = undamped-long c.args.fixed.now u p.3 c.problem.auto.undamped in (
      omega (arith, kept_few _ _ k.ensures, p.0.few_variables),
      (p.0.few_constraints, (p.2, second_clear c.args.fixed.now p.3 u lu)),
    )

pub returns : goal.returns
returns c =
    let p = c.requires in
    let a = c.args.fixed.now in
    let k = c.keep-k in
    let f = c.prepare_kept in
    let u = c.problem.new.undamped in
    let lu : length u ≡ 336 = undamped-long a u p.3 c.problem.auto.undamped in
    let l = first_long a p.3 u lu in
    let lf = f.auto.factors ∙ cut_length 888 336 (with_first a p.3 u lu) (omega (arith, l)) in
    let factors = f.new.factors in
    let e = both_written a p.3 u lu factors in
    record {
      sizes = record {
        few = f.ensures.1;
        order_length = f.auto.order ∙ ap length p.2;
        fixed_length = ap length e ∙ length_both u factors lu lf;
      };
      steps = λ mu.
          prepared_is _ mu _ u factors e lu lf _ _ _ _ k.ensures _ _ _ _ _ _ (c.problem.ensures mu)
          (rw c.constraints.ensures at f.ensures.0);
    }
