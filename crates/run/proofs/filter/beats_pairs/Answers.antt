-- `beats_pairs` meets its contract: `so_far` is the answer for the pairs passed.
use borrow.Author.Rules.{rules}
use mathlib.Core.Path.{refl, ◌∙◌}
use native.Mathlib.Nat.{le_antisymm}
use native.Mathlib.Numerals.{add-one}
use Rattle.run.specs.Vectors.{all_to}
use Rattle.run.specs.program.Filter.{no_pair, beats_pairs}
use Rattle.std.proofs.lemmas.List.{get_or_default}
use Rattle.run.proofs.filter.beats_pairs.Goals as goal

pub loop-pair-init : goal.loop-pair-init
unfolding all_to
loop-pair-init c = (search rules, refl)

pub loop-pair-preserved : goal.loop-pair-preserved
unfolding all_to
loop-pair-preserved c =
    let l = c.loop-pair in (
      search rules,
      rw add-one (c.still_beats-so_far.ensures
          ∙ rw (l.invariant.1, get_or_default c.args.pairs.now l.pair-index _ no_pair c.loop-pair-test.true)),
    )

pub returns : goal.returns
unfolding beats_pairs
returns c = rw (le_antisymm c.loop-pair.invariant.0 c.loop-pair-test.false) at c.loop-pair.invariant.1
