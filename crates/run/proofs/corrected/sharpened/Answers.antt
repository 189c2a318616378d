-- `sharpened` meets its contract: the vector is filled so far.
use mathlib.Core.Path.{sym, ap, ◌∙◌}
use borrow.Author.Rules.{rules}
use Rattle.interval.specs.declared.Scalar.{Scalar}
use Rattle.interval.specs.Scalar.{sharpen}
use Rattle.run.specs.Vectors.{vector}
use Rattle.run.proofs.VectorLaws.{fill_none, fill_first}
use Rattle.run.proofs.corrected.sharpened.Goals as goal
use Rattle.run.proofs.corrected.sharpened.Invariants.{sharp}

pub loop-i-init : goal.loop-i-init
loop-i-init c = (
  search rules,
  search rules,
  rw c.requires
      at c.clear.ensures ∙ sym (fill_none _ _),
)

pub loop-i-preserved : goal.loop-i-preserved
loop-i-preserved c = (
  search rules,
  search rules,
  c.put.ensures
      ∙ fill_first vector
      (sharp c.args.from.now) c.loop-i.i
      c.loop-i.invariant.2
      (c.sharpen.ensures
      ∙ ap (λ (v : Scalar). sharpen v) c.at-v.ensures),
)
