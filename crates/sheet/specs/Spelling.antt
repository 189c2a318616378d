-- The one spelling of a sheet (request (ii)): its lines, with every number without plus sign, leading zeros or minus
-- zero; and the call that writes it.
use Rattle.std.specs.Prelude.{ℕ, List, [], ◌∷◌, ◌++◌, eqb, ℤ, length, Result, Ok, Err}
use Rattle.interval.specs.Result.{Res, ok, refused}
use Rattle.interval.specs.Scalar.{pick}
use Rattle.sheet.specs.Decimal.{decimal_of, whole_text}
use Rattle.sheet.specs.Fault.{fault_number}
use Rattle.sheet.specs.Lines.{line_of, padded_to}
use Rattle.sheet.specs.Numbers.{COMMA}
use Rattle.sheet.specs.Printing.{error_of}
use Rattle.sheet.specs.Rule.{by_kind}
use Rattle.sheet.specs.Sheet.{Sheet, point_count, most_bytes, read_of}
use Rattle.sheet.specs.Sheet.{points_key, at_key, limit_key, reach_key, rules_key, span_key, level_key, plumb_key}
use Rattle.sheet.specs.Text.{wrong_length}
use Rattle.sheet.specs.declared.fault.Fault.{Fault}
use Rattle.sheet.specs.declared.sheet.Rule.{Rule}

-- ---- lines

abbrev pub count_text : List ℕ → ℕ → List ℕ
count_text key v = line_of key (decimal_of v)

-- at=X,Y
abbrev pub point_text : ℤ → ℤ → List ℕ
point_text x y = line_of at_key (whole_text x ++ (COMMA ∷ whole_text y))

-- x and y of each point, one after the other
unfoldable pub point_texts : List ℤ → List ℕ
point_texts [] = []
point_texts (x ∷ []) = []
point_texts (x ∷ y ∷ coordinates) = point_text x y ++ point_texts coordinates

-- I,J
abbrev pub pair_text : Rule → List ℕ
pair_text r = decimal_of r.first ++ (COMMA ∷ decimal_of r.second)

-- span=I,J,D, level=I,J or plumb=I,J
unfoldable pub rule_text : Rule → List ℕ
rule_text r =
    by_kind r.kind (line_of span_key (pair_text r ++ (COMMA ∷ decimal_of r.length)))
    (line_of level_key (pair_text r)) (line_of plumb_key (pair_text r))

unfoldable pub rule_texts : List Rule → List ℕ
rule_texts [] = []
rule_texts (r ∷ rules) = rule_text r ++ rule_texts rules

-- ---- the sheet

unfoldable pub spelling_of : Sheet → List ℕ
spelling_of s =
    count_text points_key (point_count s.coordinates)
    ++ (point_texts s.coordinates
    ++ (count_text limit_key s.limit
    ++ (count_text reach_key s.reach
    ++ (count_text rules_key (length s.rules) ++ rule_texts s.rules))))

-- ---- the call

-- how many bytes were written, or the number of the refusal; and the lent bytes afterwards
pub record AfterSpelling : Type 0 where
  pub returned : Res ℕ
  pub out : List ℕ

abbrev pub after_spelling : Res ℕ → List ℕ → AfterSpelling
after_spelling returned out = record { returned = returned; out = out }

-- a text and zeros behind it
abbrev pub written_text : List ℕ → AfterSpelling
written_text text = after_spelling (ok (length text)) (padded_to most_bytes text)

-- a refusal writes nothing
abbrev pub refused_text : ℕ → List ℕ → AfterSpelling
refused_text k out = after_spelling (refused k) out

abbrev pub spelled_sheet : List ℕ → Res Sheet → AfterSpelling
spelled_sheet out (ok s) = written_text (spelling_of s)
spelled_sheet out (refused k) = refused_text k out

unfoldable pub spell_text_of : List ℕ → List ℕ → AfterSpelling
spell_text_of text out =
    pick (eqb (length out) most_bytes) (spelled_sheet out (read_of text)) (refused_text wrong_length out)

-- what a call returns
abbrev pub returned_in : Result ℕ Fault → Res ℕ
returned_in (Ok n) = ok n
returned_in (Err e) = refused (fault_number e)

-- ---- what the program prints

-- of a text: its one spelling, or the line of its error
abbrev pub printed_spelling : Res Sheet → List ℕ
printed_spelling (ok s) = spelling_of s
printed_spelling (refused k) = error_of k

unfoldable pub print_spelling_of : List ℕ → List ℕ → AfterSpelling
print_spelling_of text out =
    pick (eqb (length out) most_bytes) (written_text (printed_spelling (read_of text))) (refused_text wrong_length out)
