-- `norm_of` meets its contract: its part of the slice has 2 k numbers.
use mathlib.Core.Path.{◌∙◌}
use Rattle.run.proofs.VectorLaws.{norm_part}
use Rattle.run.proofs.vectors.norm_of.Goals as goal

pub returns : goal.returns
returns c =
    c.norm.ensures ∙ norm_part c.args.xs.now c.args.k c.requires.0 c.requires.1
