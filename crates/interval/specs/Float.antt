-- Rust's functions on f64 that the scalars use: min, max and abs. Of a NaN and a number, min and max give the number.
-- Rust leaves open which zero they give for -0 and +0; here it is the first of two equal numbers (PROTOCOL, Scalars:
-- the
-- second only if it compares above the first).
use Rattle.std.specs.Prelude.{true, false, cond, Float}
use Rattle.std.specs.Float.{nan, inf, fin}
use Rattle.std.specs.Float.Ieee.{lt, ne}

-- b where it compares below a, else a: also where b is a NaN
unfoldable pub lesser : Float → Float → Float
lesser a b = cond (lt b a) b a

-- b where it compares above a, else a
unfoldable pub greater : Float → Float → Float
greater a b = cond (lt a b) b a

-- f64::min
unfoldable pub fmin : Float → Float → Float
fmin a b = cond (ne a a) b (lesser a b)

-- f64::max
unfoldable pub fmax : Float → Float → Float
fmax a b = cond (ne a a) b (greater a b)

-- f64::abs
unfoldable pub fabs : Float → Float
fabs nan = nan
fabs (inf s) = inf false
fabs (fin s m e) = fin false m e

-- four numbers folded by f64::min from infinity, and by f64::max from minus infinity: a NaN is skipped
unfoldable pub least : Float → Float → Float → Float → Float
least p q r s = fmin (fmin (fmin (fmin (inf false) p) q) r) s

unfoldable pub greatest : Float → Float → Float → Float → Float
greatest p q r s = fmax (fmax (fmax (fmax (inf true) p) q) r) s
