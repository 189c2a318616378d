-- `spelling` meets its contract: lent bytes of the right length are not refused, so they begin with what is printed,
-- and its count is returned.
use mathlib.Core.List.{List}
use mathlib.Core.Path.{◌≡◌, sym, ap, ◌∙◌}
use Prim.Native.Nat.{ℕ, ◌-◌}
use native.Mathlib.Omega.{arith}
use borrow.Author.Rules.{rules}
use borrow.Author.Tests.{eq-eqb}
use lib.ListN.{length, replicate, take, length-append}
use lib.Seq.{take_at, length-take-le}
use Rattle.std.specs.Prelude.{Result, Ok, Err, IsOk}
use Rattle.interval.specs.Result.{ok}
use Rattle.interval.proofs.Results.{refused_ok}
use Rattle.spell.specs.Counts.{IsPrefixLen}
use Rattle.sheet.specs.Lines.{padded_to}
use Rattle.sheet.specs.Sheet.{most_bytes, read_of}
use Rattle.sheet.specs.Spelling.{AfterSpelling, after_spelling, returned_in, written_text}
use Rattle.sheet.specs.Spelling.{printed_spelling, print_spelling_of}
use Rattle.sheet.specs.declared.fault.Fault.{Fault}
use Rattle.sheet.proofs.SheetLaws.{same}
use Rattle.spell.proofs.WholeText.{print_of}
use Rattle.spell.proofs.spelling.Goals as goal

-- what a call leaves in bytes of the right length
is_written : (text out : List ℕ) → length out ≡ most_bytes → print_spelling_of text out ≡ written_text (print_of text)
unfolding print_spelling_of
is_written text out l = rw (eq-eqb (length out) most_bytes l)

-- the first bytes of a text with zeros behind it
begins : (size : ℕ) (text out : List ℕ) (n : ℕ) → out ≡ padded_to size text → n ≡ length text →
    IsPrefixLen n out × (take n out ≡ text)
begins size text out n e l =
    let zeros : List ℕ = replicate (size - length text) 0 in
    let long = ap length e ∙ length-append text zeros in (
      (omega (arith, l, long), sym (length-take-le n out (omega (arith, l, long)))),
      ap (take n) e ∙ take_at text zeros n (sym l),
    )

module _ (text out : List ℕ) (fits : length out ≡ most_bytes) (r : Result ℕ Fault) {after : List ℕ}
    (e : after_spelling (returned_in r) after ≡ print_spelling_of text out) where
  returned : returned_in r ≡ ok (length (print_of text))
  returned = ap (λ (a : AfterSpelling). a.returned) (e ∙ is_written text out fits)

  printed : (n : ℕ) → r ≡ Ok n → IsPrefixLen n after × (take n after ≡ print_of text)
  printed n q =
      begins most_bytes (print_of text) after n (ap (λ (a : AfterSpelling). a.out) (e ∙ is_written text out fits))
      (same (sym (ap returned_in q) ∙ returned))

-- a call that is not refused
accepted : {n : ℕ} (r : Result ℕ Fault) → returned_in r ≡ ok n → IsOk r
accepted (Ok n) e = search rules
accepted (Err f) e = absurd (refused_ok e)

pub unwrap-requires : goal.unwrap-requires
unwrap-requires c =
    let p = c.print_spelling in
    accepted p.result (returned c.args.text.now c.args.out.now c.requires p.result p.ensures)

pub returns : goal.returns
returns c =
    let p = c.print_spelling in
    let q = printed c.args.text.now c.args.out.now c.requires p.result p.ensures _ (search rules) in
    record { prefix_len = q.0; out_after = q.1 }
