-- `sides` meets its contract: the slice starts with the values stored so far, and is else as it was.
use borrow.Author.Rules.{rules}
use mathlib.Core.Path.{◌≡◌, sym, ◌∙◌}
use mathlib.Core.List.{List, []}
use Prim.Native.Nat.{ℕ}
use native.Mathlib.Omega.{arith}
use Rattle.interval.specs.declared.Scalar.{Scalar}
use Rattle.interval.specs.Scalar.{neg_of}
use Rattle.linear.specs.Choose.{choose_of}
use Rattle.linear.proofs.Lists.{list_to-none, list_to-more}
use Rattle.run.specs.program.Basis.{basis_by}
use Rattle.run.specs.Basis.{order_at}
use Rattle.run.specs.Rows.{Rows, rows_in, value_at}
use Rattle.run.proofs.basis.sides.Invariants.{side_at}
use Rattle.run.proofs.basis.sides.Goals as goal

side : (r : ℕ) (order : List ℕ) (e : Rows) (t : ℕ) {o : ℕ} {c d v : Scalar}
    → o ≡ order_at (basis_by r [] [] [] [] order) t → c ≡ value_at e o → d ≡ choose_of c → v ≡ neg_of d
    → v ≡ side_at r order e t
side r order e t eo ec ed ev = rw (ev, ed, ec, eo)

pub loop-t-init : goal.loop-t-init
loop-t-init c = (search rules, search rules, sym (list_to-none _ _))

pub loop-t-preserved : goal.loop-t-preserved
loop-t-preserved c =
    let a = c.args in
    let v =
    side a.r a.order.now (rows_in a.xs.now a.e)
    c.loop-t.t
    c.order_at.ensures
    c.value_of-c.ensures
    c.choose.ensures c.neg.ensures.value in
    let e =
    rw (
      c.loop-t.invariant.2,
      v,
    ) at c.put.ensures in (
      search rules,
      search rules,
      e
          ∙ list_to-more (side_at a.r a.order.now (rows_in a.xs.now a.e))
          c.loop-t.t a.rhs.now
          (omega
          (arith, c.requires.1.1, c.loop-t-test.true)),
    )
