-- What serves the functions that write lines: lent bytes in which so many are written, with zeros behind them, and a
-- text appended to these.
use Rattle.std.specs.Prelude.{ℕ, List, ◌++◌, ◌≡◌, length, drop}
use Rattle.sheet.specs.Lines.{padded_to}
use Rattle.sheet.specs.declared.lines.Digits.{Digits}

-- the text stands in so many bytes and ends at the place
pub record Printed (size : ℕ) (text out : List ℕ) (place : ℕ) : Type 0 where
  pub is : out ≡ padded_to size text
  pub ends : place ≡ length text

-- whatever was printed, the text is printed behind it
pub record Appends (out : List ℕ) (place : ℕ) (text after : List ℕ) (end : ℕ) : Type 0 where
  pub printed : {size : ℕ} {before : List ℕ} → Printed size before out place → Printed size (before ++ text) after end

-- the digits from the first one on
abbrev pub digits_in : Digits → List ℕ
digits_in d = drop d.first d.digits
