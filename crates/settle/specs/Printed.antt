-- What the program prints of a slot.
use Rattle.std.specs.Prelude.{◌≡◌, ◌≤◌, ℕ, List, [], ◌∷◌, eqb, length, take}
use Rattle.interval.specs.Scalar.{pick}

-- the bytes before the first zero byte
unfoldable pub before_zero : List ℕ → List ℕ
before_zero [] = []
before_zero (b ∷ slot) = pick (eqb b 0) [] (b ∷ before_zero slot)

-- n counts bytes at the start of a slot: `&slot[..n]` is within it and has n of them
abbrev pub IsPrefixLen : ℕ → List ℕ → Type 0
IsPrefixLen n slot = (n ≤ length slot) × (n ≡ length (take n slot))
