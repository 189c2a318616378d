-- `seek_standing` meets its contract: the violation decides, and then the search from what the area holds.
use mathlib.Core.Path.{ap}
use Rattle.linear.specs.LinearResult.{result_of}
use Rattle.run.proofs.IterateLaws.{sought_by}
use Rattle.run.proofs.iterate.seek_standing.Goals as goal

pub returns-in-Ok : goal.returns-in-Ok
returns-in-Ok c w h =
    let k = c.seek in
    sought_by c.args.st k.new.delta k.new.lambda k.result h
    (ap result_of c.in-Ok.is)
    c.requires.1.few_variables c.search_origin.ensures
    k.ensures
