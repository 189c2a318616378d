-- How a case of a list compares: whether the list says the same, or none where it is malformed.
use Rattle.std.specs.Prelude.{Bool, ◌&&◌, Option, Some, None}

-- of two parts of a case
abbrev pub both_of : Option Bool → Option Bool → Option Bool
both_of None b = None
both_of (Some x) None = None
both_of (Some x) (Some y) = Some (x && y)
