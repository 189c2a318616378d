-- `square` meets its contract: each product of the ends ±2^-1074 is a zero, from which the steps lead back to them.
use mathlib.Core.Path.{◌≡◌, refl, sym, ap, ◌∙◌, subst}
use mathlib.Core.Logic.{inl, inr}
use mathlib.Core.Bool.{Bool, true, false}
use Prim.Native.Nat.{zero, suc}
use lib.Dec.{T}
use lib.IntN.{negsuc}
use lib.Ieee.{Float, nan, inf, fin, binary64, add, mul, neg, lt, eq, ne, fits, round, of_bits}
use Rattle.interval.specs.declared.Scalar.{Scalar}
use Rattle.interval.specs.Float.{lesser, greater, fmin, fmax, least, greatest}
use Rattle.interval.specs.Scalar.{mul_of}
use Rattle.interval.specs.Step.{next_up}
use Rattle.interval.proofs.Given.{yes}
use Rattle.interval.proofs.Points.{Same, eq_same}
use Rattle.linear.specs.Bounds.{bounds_of, unsigned}
use Rattle.linear.proofs.bounds.square.Goals as goal

tiny : Bool → Float
tiny s = fin s 1 (negsuc 1073)

same : (s : Bool) (x : Float) → Same x (tiny s) → x ≡ tiny s
unfolding tiny
same s x (inl h) = h
same s x (inr w) = absurd (subst (λ (z : Float). T (some z)) w.1.2 tt)
  where
    some : Float → Bool
    some nan = false
    some (inf s) = false
    some (fin s zero e) = false
    some (fin s (suc m) e) = true

is-tiny : (s : Bool) (x : Float) → T (fits binary64 x) → eq x (tiny s) ≡ true → x ≡ tiny s
unfolding fits tiny
is-tiny s x t h = same s x (eq_same x (tiny s) t tt (yes h))

abbrev ends : Scalar
ends = record { lo = fin true 1 (negsuc 1073); hi = fin false 1 (negsuc 1073) }

fixed : ends ≡ mul_of ends ends
unfolding mul round neg lesser greater fmin fmax least greatest ne eq lt next_up of_bits
fixed = refl

-- the bounds of that square, with -0 made +0, are 2^-1074 both
square-bounds : (q : Scalar) → q.lo ≡ tiny true → q.hi ≡ tiny false
    → record { below = tiny false; above = tiny false } ≡ unsigned (bounds_of (mul_of q q))
unfolding tiny neg add round
square-bounds q l h =
    let e : q ≡ ends = λ i. record { lo = l i; hi = h i } in
    ap (λ (z : Scalar). unsigned (bounds_of z)) (fixed ∙ ap (λ (z : Scalar). mul_of z z) (sym e))

pub returns-then-q-2 : goal.returns-then-q-2
unfolding of_bits neg tiny
returns-then-q-2 c =
    let g = c.well_formed.0.1.1 in
    square-bounds c.args.q (is-tiny true c.args.q.lo (yes g.0.1) c.if-q-2.true)
    (is-tiny false c.args.q.hi (yes g.1.0.1) c.if-q.true)
