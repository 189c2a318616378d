-- `reduced` meets its contract: the slice starts with the products stored so far, and is else as it was.
use mathlib.Core.Path.{sym, ◌∙◌}
use Prim.Native.Nat.{ℕ, ◌/◌, ◌%◌}
use native.Mathlib.Omega.{arith}
use borrow.Author.Rules.{rules}
use Rattle.interval.specs.declared.Scalar.{Scalar}
use Rattle.linear.proofs.Lists.{list_to-none, list_to-more}
use Rattle.run.specs.program.Reduced.{lower_at}
use Rattle.run.proofs.reduced.reduced.Goals as goal

pub loop-p-init : goal.loop-p-init
loop-p-init c = (search rules, search rules, sym (list_to-none _ _))

pub loop-p-preserved : goal.loop-p-preserved
loop-p-preserved c =
    let l = c.loop-p in
    let a = c.args in
    let f : ℕ → Scalar = λ j. lower_at a.k a.z.now a.hz.now (j / a.count) (j % a.count) in
    let e = rw (l.invariant.2, c.reduced_at.ensures) at c.put.ensures in
    (search rules, search rules, e ∙ list_to-more f l.p a.out.now (omega (arith, c.requires)))
