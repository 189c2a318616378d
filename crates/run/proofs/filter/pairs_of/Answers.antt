-- `pairs_of` meets its contract: the pairs so far are stored.
use borrow.Author.Rules.{rules}
use native.Mathlib.Omega.{arith}
use mathlib.Core.Path.{refl}
use Rattle.run.specs.program.Filter.{pairs_to}
use Rattle.run.proofs.FilterLaws.{pairs_turn}
use Rattle.run.proofs.filter.pairs_of.Goals as goal

pub loop-i-init : goal.loop-i-init
unfolding pairs_to
loop-i-init c = (search rules, search rules, refl)

pub loop-i-preserved : goal.loop-i-preserved
loop-i-preserved c =
    (search rules, search rules, pairs_turn _ _ _ (omega arith) c.loop-i.invariant.2 c.pair_at.ensures)
