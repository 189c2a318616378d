-- `weigh` meets its contract: the part of the array has the length asked, and the weights are solved for from what the
-- calls before wrote.
use Rattle.run.proofs.ReducedLaws.{weighed_front}
use Rattle.run.proofs.Prefixes.{front_kept}
use Rattle.run.proofs.RowLaws.{room}
use Rattle.run.proofs.reduced.weigh.Goals as goal

pub returns : goal.returns
returns c =
    weighed_front _ _ _ _ _
    c.h_times_rows.ensures
    c.reduced.ensures
    c.against.ensures
    (front_kept _
    c.reduced.new.out _
    (room c.requires.1.0 c.requires.1.0)
    c.reduced.auto.out) c.weights_for.ensures
