-- `spread` meets its contract: those so far are stored in a clear vector.
use borrow.Author.Rules.{rules}
use mathlib.Core.Path.{◌≡◌, ap, ◌∙◌}
use mathlib.Core.List.{List}
use Prim.Native.Nat.{ℕ, ◌+◌}
use native.Mathlib.Numerals.{add-one}
use lib.Ieee.{Float, of_bits}
use lib.ListN.{get_or}
use Rattle.interval.specs.declared.Scalar.{Scalar}
use Rattle.linear.specs.Flat.{at, put, zeros}
use Rattle.run.specs.Vectors.{spread_to}
use Rattle.run.proofs.vectors.spread.Goals as goal

-- one scalar more
turn : (places : List ℕ) (from s : List Float) (t : ℕ) {x : Scalar} {r : List Float}
    → s ≡ spread_to places from t → x ≡ at from t → r ≡ put s (get_or places t 0) x → r ≡ spread_to places from (t + 1)
unfolding spread_to
turn places from s t es ex er = rw (add-one, er, ex, es)

pub loop-t-init : goal.loop-t-init
unfolding spread_to of_bits
loop-t-init c = (
  search rules,
  search rules,
  c.clear.ensures
      ∙ ap zeros c.requires.0,
)

pub loop-t-preserved : goal.loop-t-preserved
loop-t-preserved c =
    let l = c.loop-t in (
      search rules,
      search rules,
      turn _ _ _ l.t l.invariant.2 c.at.ensures c.put.ensures,
    )
