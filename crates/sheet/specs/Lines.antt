-- Lines of text, each ended by a line feed (requests (i) and (ii)), and a text in lent bytes, with zeros behind it.
use Rattle.std.specs.Prelude.{ℕ, ◌-◌, List, [], ◌∷◌, ◌++◌, length, replicate}
use Rattle.sheet.specs.Numbers.{line_feed}

-- a key and what it is given
abbrev pub line_of : List ℕ → List ℕ → List ℕ
line_of key value = key ++ (value ++ (line_feed ∷ []))

-- so many bytes in all
abbrev pub padded_to : ℕ → List ℕ → List ℕ
padded_to size text = text ++ replicate (size - length text) 0
