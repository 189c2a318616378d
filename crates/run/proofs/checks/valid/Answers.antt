-- `valid` meets its contract: the checks are the definition's, one after the other.
use Rattle.std.proofs.Common.{rules}
use Rattle.run.specs.Checks.{valid}
use Rattle.run.proofs.checks.valid.Goals as goal

pub returns-then-counts_fit : goal.returns-then-counts_fit
unfolding valid
returns-then-counts_fit c = search rules

pub returns-else-counts_fit : goal.returns-else-counts_fit
unfolding valid
returns-else-counts_fit c = search rules
