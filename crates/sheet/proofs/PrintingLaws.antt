-- The lines of a print: those of the points, one more at a time.
use Prim.Native.Nat.{ℕ, ◌+◌, ◌*◌}
use mathlib.Core.List.{List, [], ◌++◌}
use mathlib.Core.Path.{◌≡◌, refl, sym, ap}
use native.Mathlib.Numerals.{add-one}
use lib.Ieee.{Float}
use Rattle.interval.specs.declared.Scalar.{Scalar}
use Rattle.linear.specs.Flat.{at}
use Rattle.sheet.specs.Printing.{point_line, point_lines}

pub lines_none : (p : List Float) → [] ≡ point_lines p 0
unfolding point_lines
lines_none p = refl

pub lines_more : (p : List Float) (i : ℕ) {x y : Scalar} → x ≡ at p (2 * i) → y ≡ at p (2 * i + 1)
    → point_lines p i ++ point_line x y ≡ point_lines p (i + 1)
unfolding point_lines
lines_more p i {x} {y} ex ey = rw (ex, ey) (ap (point_lines p) (sym (add-one i)))
