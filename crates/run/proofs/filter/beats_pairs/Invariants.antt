-- `beats_pairs` meets its contract: `so_far` is the answer for the pairs passed.
use Rattle.std.proofs.Common.{length, ◌≤◌, ◌≡◌, get_or}
use Rattle.run.specs.Vectors.{all_to}
use Rattle.run.specs.program.Filter.{no_pair, beats_pair}
use Rattle.run.proofs.filter.beats_pairs.Given as goal

abbrev pub invariant-loop-pair : goal.invariant-loop-pair
invariant-loop-pair l = (l.pair-index ≤ length l.pairs)
    × (l.so_far ≡ all_to (λ i. beats_pair (get_or l.pairs i no_pair) l.f l.theta) l.pair-index)
