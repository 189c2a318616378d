-- What the one spelling gives (request (ii)): every sheet within its ranges is read from its spelling. Of all texts and
-- over all lent bytes: what was written reads as the text did, two accepted texts get the same bytes exactly when they
-- say the same, spelling twice changes nothing, and no text that says the same is shorter.
use Rattle.std.specs.Prelude.{ℕ, ◌≤◌, List, ◌≡◌, length, take}
use Rattle.interval.specs.Result.{ok}
use Rattle.sheet.specs.Ranges.{InRange}
use Rattle.sheet.specs.Sheet.{Sheet, most_bytes, read_of}
use Rattle.sheet.specs.Spelling.{spelling_of, spell_text_of}

-- the text is accepted, and so many bytes are written of it
abbrev pub Writes : List ℕ → List ℕ → ℕ → Type 0
Writes text out n = (spell_text_of text out).returned ≡ ok n

-- what was written
abbrev pub bytes_of : List ℕ → List ℕ → List ℕ
bytes_of text out = (spell_text_of text out).out

pub record OneSpelling : Type 0 where
  pub read_spelling : (s : Sheet) → InRange s → read_of (spelling_of s) ≡ ok s
  -- the numbers and rules of the text are read from what was written
  pub read_back : (text out : List ℕ) (n : ℕ) → Writes text out n → read_of (take n (bytes_of text out)) ≡ read_of text
  -- equal numbers and rules get equal bytes
  pub same_bytes :
      (text₁ text₂ out₁ out₂ : List ℕ) (n₁ n₂ : ℕ) → Writes text₁ out₁ n₁ → Writes text₂ out₂ n₂ →
      read_of text₁ ≡ read_of text₂ → bytes_of text₁ out₁ ≡ bytes_of text₂ out₂
  -- and only they
  pub same_sheet :
      (text₁ text₂ out₁ out₂ : List ℕ) (n₁ n₂ : ℕ) → Writes text₁ out₁ n₁ → Writes text₂ out₂ n₂ →
      bytes_of text₁ out₁ ≡ bytes_of text₂ out₂ → read_of text₁ ≡ read_of text₂
  -- what was written is spelled as it is
  pub twice :
      (text out again : List ℕ) (n : ℕ) → Writes text out n → length again ≡ most_bytes →
      spell_text_of (take n (bytes_of text out)) again ≡ spell_text_of text out
  -- no text that says the same is shorter: no plus signs, leading zeros or minus zeros are kept
  pub shortest : (text out : List ℕ) (n : ℕ) → Writes text out n → n ≤ length text
