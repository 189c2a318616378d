-- `step_on` meets its contract: the pattern less twice its sign, and the step found, is that of the next float up.
use mathlib.Core.Path.{◌≡◌, refl}
use mathlib.Core.Bool.{Bool, true, false, not, cond}
use Prim.Native.Nat.{ℕ}
use native.Mathlib.Omega.{arith}
use lib.Dec.{T}
use lib.Ieee.{Float, binary64, le, fits, is_nan, to_bits, of_bits}
use lib.Ieee.Bits.{to_bits-lt}
use Rattle.std.specs.Int.{from_bool}
use Rattle.interval.proofs.Given.{yes}
use Rattle.interval.proofs.Bounds.{Kept, Step, step, most64}
use Rattle.linear.proofs.bounds.step_on.Goals as goal

bit : (b : Bool) → from_bool b ≡ cond b 1 0
bit false = refl
bit true = refl

found : (x : Float) {d : ℕ} → T (fits binary64 x) → T (not (is_nan x)) → Kept x → d ≡ from_bool (le x most64)
    → Step x (to_bits binary64 x) d
found x t h k e = rw (e, bit) (step x t h k)

at_entry : (c : goal.Start) → Step c.args.x (to_bits binary64 c.args.x) (cond (le c.args.x most64) 1 0)
at_entry c = step c.args.x (yes c.well_formed.0.1) c.requires.0 c.requires.1

pub overflow_mul-result : goal.overflow_mul-result
overflow_mul-result c = omega (arith, (at_entry c).some, to_bits-lt binary64 c.args.x (yes c.well_formed.0.1))

pub overflow_add-result : goal.overflow_add-result
unfolding of_bits
overflow_add-result c =
    omega (arith, (found c.args.x (yes c.well_formed.0.1) c.requires.0 c.requires.1 c.from.ensures).room)

pub float_from_bits-result : goal.float_from_bits-result
unfolding of_bits
float_from_bits-result c =
    (found c.args.x (yes c.well_formed.0.1) c.requires.0 c.requires.1 c.from.ensures).number

pub returns : goal.returns
unfolding of_bits
returns c =
    (found c.args.x (yes c.well_formed.0.1) c.requires.0 c.requires.1 c.from.ensures).next
