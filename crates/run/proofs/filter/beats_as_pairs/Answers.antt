-- `beats_as_pairs` meets its contract: the pairs asked are those of the flat filter.
use mathlib.Core.Path.{◌∙◌, ap}
use Rattle.run.specs.program.Filter.{beats_pairs}
use Rattle.run.proofs.FilterLaws.{beats_same}
use Rattle.run.proofs.filter.beats_as_pairs.Goals as goal

pub returns : goal.returns
returns c =
    let a = c.args in
    c.beats_first.ensures ∙ ap (λ pairs. beats_pairs pairs a.f a.theta) c.pairs_of.ensures
    ∙ beats_same a.filter.now a.f a.theta a.count
