-- `longest` meets its contract: the choice so far is the definition's.
use native.Mathlib.Omega.{arith}
use Rattle.run.specs.NullSpace.{longest_to}
use Rattle.run.proofs.NullSpaceLaws.{longest_turn}
use Rattle.run.proofs.null_space.longest.Goals as goal

pub loop-p-init : goal.loop-p-init
unfolding longest_to
loop-p-init c = (omega arith, omega arith, rw c.square.ensures)

pub loop-p-preserved : goal.loop-p-preserved
loop-p-preserved c =
    let l = c.loop-p in (
      omega arith,
      omega arith,
      longest_turn _ _ l.p l.invariant.0 l.invariant.2 c.square-in-loop-p.ensures c.longer-best.ensures,
    )
