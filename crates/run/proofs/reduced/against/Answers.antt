-- `against` meets its contract: the slice starts with the products stored so far, and is else as it was.
use mathlib.Core.Path.{◌≡◌, sym, ◌∙◌}
use Prim.Native.Nat.{ℕ}
use native.Mathlib.Omega.{arith}
use borrow.Author.Rules.{rules}
use Rattle.interval.specs.declared.Scalar.{Scalar}
use Rattle.interval.specs.Scalar.{neg_of}
use Rattle.linear.specs.Choose.{choose_of}
use Rattle.linear.specs.Dot.{dot_to}
use Rattle.linear.specs.Flat.{at}
use Rattle.linear.proofs.Lists.{list_to-none, list_to-more}
use Rattle.linear.proofs.Sums.{along_start}
use Rattle.run.specs.Vectors.{row}
use Rattle.run.proofs.reduced.against.Goals as goal

pub loop-t-init : goal.loop-t-init
loop-t-init c = (search rules, search rules, sym (list_to-none _ _))

pub loop-t-preserved : goal.loop-t-preserved
loop-t-preserved c =
    let l = c.loop-t in
    let a = c.args in
    let f : ℕ → Scalar = λ j. choose_of (neg_of (dot_to (row a.z.now j) (at a.force.now) a.k)) in
    let v : c.choose.result ≡ f l.t = rw (
      ← rw along_start at c.row_dot-x.ensures,
      ← c.neg.ensures.value,
    ) c.choose.ensures in
    let e = rw (l.invariant.2, v) at c.put.ensures in (
      search rules,
      search rules,
      e
          ∙ list_to-more f l.t a.out.now
          (omega (
            arith,
            c.requires,
            c.loop-t-test.true,
          )),
    )
