-- A variable with its step added, sharp, and the point of all of them.
use Prim.Native.Nat.{ℕ}
use mathlib.Core.List.{List}
use mathlib.Core.Path.{◌≡◌, ◌∙◌}
use lib.Ieee.{Float}
use lib.ListN.{length, length-replicate}
use Rattle.interval.specs.declared.Scalar.{Scalar}
use Rattle.interval.specs.Scalar.{zero64, add_of, sharpen}
use Rattle.linear.specs.Flat.{at}
use Rattle.run.specs.Vectors.{moved_of}
use Rattle.run.specs.Vectors.{vector}
use Rattle.run.proofs.VectorLaws.{length-fill_to}

abbrev pub sharp_sum : List Float → List Float → ℕ → Scalar
sharp_sum x d i = sharpen (add_of (at x i) (at d i))

pub sharp-sum : (x d : List Float) (i : ℕ) {a b s v : Scalar} → a ≡ at x i → b ≡ at d i → s ≡ add_of a b → v ≡ sharpen s
    → v ≡ sharp_sum x d i
sharp-sum x d i ea eb es ev = rw (ev, es, ea, eb)

pub length_moved : (n : ℕ) (x d : List Float) → length (moved_of n x d) ≡ 24
unfolding moved_of
length_moved n x d = length-fill_to vector 0 (sharp_sum x d) n ∙ length-replicate 24 zero64
