-- `combine` meets its contract: the rows so far are added.
use borrow.Author.Rules.{rules}
use mathlib.Core.Path.{◌≡◌, refl}
use mathlib.Core.List.{List}
use Prim.Native.Nat.{ℕ, ◌+◌, ◌*◌}
use native.Mathlib.Numerals.{add-one}
use lib.Ieee.{Float}
use Rattle.interval.specs.declared.Scalar.{Scalar}
use Rattle.interval.specs.Scalar.{neg_of}
use Rattle.linear.specs.Flat.{at}
use Rattle.run.specs.Vectors.{minus_scaled, combined_to}
use Rattle.run.proofs.vectors.combine.Goals as goal

-- one row more
turn : (k : ℕ) (weights rows d₀ d : List Float) (t : ℕ) {w v : Scalar} {r : List Float}
    → d ≡ combined_to k weights rows d₀ t → w ≡ at weights t → v ≡ neg_of w
    → r ≡ minus_scaled d 0 v rows (12 * t) k → r ≡ combined_to k weights rows d₀ (t + 1)
unfolding combined_to
turn k weights rows d₀ d t ed ew ev er = rw (add-one, er, ev, ew, ed)

pub loop-t-init : goal.loop-t-init
unfolding combined_to
loop-t-init c = (search rules, refl, refl)

pub loop-t-preserved : goal.loop-t-preserved
loop-t-preserved c =
    let l = c.loop-t in (
      search rules,
      search rules,
      turn _ _ _ _ _ l.t l.invariant.2 c.at-w.ensures
          c.neg.ensures.value c.minus_scaled.ensures,
    )
