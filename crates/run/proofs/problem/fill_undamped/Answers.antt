-- `fill_undamped` meets its contract: the rows are filled from a clear slice, one more in each turn.
use borrow.Author.Rules.{rules}
use mathlib.Core.List.{List}
use mathlib.Core.Path.{◌≡◌, refl, ap, ◌∙◌}
use Prim.Native.Nat.{ℕ, ◌+◌, ◌*◌}
use native.Mathlib.Omega.{arith}
use lib.Ieee.{Float}
use lib.ListN.{length}
use Rattle.interval.specs.declared.Scalar.{Scalar}
use Rattle.linear.specs.Flat.{at, zeros}
use Rattle.run.specs.program.Problem.{undamped_between}
use Rattle.run.specs.Vectors.{fill_rows}
use Rattle.run.proofs.VectorLaws.{fill_rows_turn, at_fill_rows}
use Rattle.run.proofs.problem.fill_undamped.Goals as goal

pub loop-i-init : goal.loop-i-init
unfolding fill_rows
loop-i-init c = (search rules, search rules, c.requires.2)

pub undamped_row-requires : goal.undamped_row-requires
undamped_row-requires c =
    let a = c.args in
    let p = c.requires in
    let l = c.loop-i in
    let z : length (zeros 336) ≡ 336 = refl in
    let f : ℕ → ℕ → Scalar = undamped_between a.n a.index.now a.jr.now a.s a.b.now in (
      p.0,
      p.1,
      c.loop-i-test.true,
      λ t j ht hj.
          ap (λ (x : List Float). at x (12 * t + j)) l.invariant.2
          ∙ at_fill_rows (zeros 336) f a.k l.i t j p.0 ht hj (omega
          (arith, z, p.0, c.loop-i-test.true)),
    )

pub loop-i-preserved : goal.loop-i-preserved
loop-i-preserved c =
    let l = c.loop-i in
    (search rules, search rules, c.undamped_row.ensures ∙ fill_rows_turn _ _ _ l.i l.invariant.2)
