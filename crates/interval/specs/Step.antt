-- The float next above and next below (PROTOCOL, Scalars), by one bit pattern. From either zero they go to
-- the smallest subnormal.
use Rattle.std.specs.Prelude.{zero, suc, ◌+◌, ◌-◌, true, false, from_bits, to_bits, Float}
use Rattle.std.specs.Float.{nan, inf, fin, binary64}
use Rattle.std.specs.Float.Ieee.{neg}

-- of a positive number: one pattern further from zero, and one nearer
abbrev pub outer : Float → Float
outer x = from_bits binary64 (to_bits binary64 x + 1)

abbrev pub inner : Float → Float
inner x = from_bits binary64 (to_bits binary64 x - 1)

unfoldable pub next_up : Float → Float
next_up nan = nan
next_up (inf false) = inf false
next_up (inf true) = neg (inner (inf false))
next_up (fin s zero e) = from_bits binary64 1
next_up (fin false (suc m) e) = outer (fin false (suc m) e)
next_up (fin true (suc m) e) = neg (inner (fin false (suc m) e))

abbrev pub next_down : Float → Float
next_down x = neg (next_up (neg x))
