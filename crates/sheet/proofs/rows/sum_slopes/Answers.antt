-- `sum_slopes` meets its contract: the places so far are filled.
use borrow.Author.Rules.{rules}
use borrow.Author.Tests.{eq-eqb, ne_eqb}
use mathlib.Core.Path.{refl, ◌∙◌}
use Prim.Native.Nat.{◌/◌, ◌%◌}
use lib.Dec.{eqb}
use lib.Ieee.{of_bits}
use Rattle.interval.specs.Scalar.{zero_s, pick}
use Rattle.linear.specs.Flat.{fill_to}
use Rattle.linear.proofs.FillLaws.{fill_turn}
use Rattle.sheet.specs.Rows.{one_s}
use Rattle.sheet.proofs.rows.sum_slopes.Goals as goal
use Rattle.sheet.proofs.rows.sum_slopes.Goals.{then-p-n, else-p-n}

pub loop-p-init : goal.loop-p-init
unfolding fill_to
loop-p-init c = (search rules, refl, refl)

pub loop-p-preserved : goal.loop-p-preserved
unfolding of_bits
loop-p-preserved c =
    let n = c.args.n in
    let l = c.loop-p in (
      search rules,
      search rules,
      c.put.ensures
          ∙ fill_turn _ _ (λ q. pick (eqb (q / n) (q % n)) one_s zero_s) l.p l.invariant.2
          (elim c.if-p-n.branch [
            | then-p-n w ↦ rw (eq-eqb _ _ w.if-p-n.true) w.slope-is
            | else-p-n w ↦ rw (ne_eqb _ _ w.if-p-n.false) w.slope-is
          ]),
    )
