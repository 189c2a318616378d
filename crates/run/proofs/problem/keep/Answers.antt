-- `keep` meets its contract: the invariant is the definition at the variables passed.
use borrow.Author.Rules.{rules}
use mathlib.Core.Path.{ap}
use mathlib.Core.Bool.{false}
use native.Mathlib.Omega.{arith}
use lib.ListN.{get_or}
use Rattle.run.specs.program.Problem.{kept_by}
use Rattle.run.specs.Problem.{kept_to}
use Rattle.run.proofs.ProblemLaws.{keep_turn, count_more}
use Rattle.run.proofs.problem.keep.Goals as goal

pub loop-i-init : goal.loop-i-init
unfolding kept_to
loop-i-init c = (search rules, search rules, search rules, ap (kept_by 0) c.requires.2)

pub loop-i-preserved : goal.loop-i-preserved
loop-i-preserved c =
    let a = c.args in
    let l = c.loop-i in
    let m = get_or a.moving.now l.i false in (
      search rules,
      omega (
        arith,
        l.invariant.1,
        count_more m (kept_by l.count l.index) l.i c.keep_next-count.ensures,
      ),
      search rules,
      keep_turn a.moving.now l.i l.invariant.3 c.keep_next-count.ensures,
    )
