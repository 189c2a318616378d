-- `still_beats` meets its contract: each branch's tests say which case holds.
use Rattle.std.proofs.Common.{rules}
use Rattle.run.specs.program.Filter.{beats_pair}
use Rattle.run.proofs.filter.still_beats.Goals as goal

pub returns-then-definitely_less : goal.returns-then-definitely_less
unfolding beats_pair
returns-then-definitely_less c = search rules

pub returns-else-definitely_less : goal.returns-else-definitely_less
unfolding beats_pair
returns-else-definitely_less c = search rules
