-- A text written behind another in lent bytes: it stands between what was written and the zeros that are left. Texts
-- that are written one behind the other are written as one.
use Prim.Native.Nat.{ℕ, zero, suc, ◌+◌, ◌-◌}
use mathlib.Core.List.{List, [], ◌++◌, append_assoc, append-nil}
use mathlib.Core.Path.{◌≡◌, refl, sym, ap, ◌∙◌}
use native.Mathlib.Omega.{arith}
use borrow.Rule.Slice.PartMut.{put_mid}
use lib.ListN.{length, take, drop, replicate, length-append}
use lib.Seq.{take-length, take_at, drop-append-add, drop-drop, paste}
use Rattle.sheet.specs.Lines.{padded_to}
use Rattle.sheet.specs.program.Lines.{Printed, Appends}

abbrev zeros : ℕ → List ℕ
zeros n = replicate n 0

drop_zeros : (k i : ℕ) → drop i (zeros k) ≡ zeros (k - i)
drop_zeros k zero = let e : k ≡ k - 0 = omega arith in ap zeros e
drop_zeros zero (suc i) = let e : 0 ≡ 0 - suc i = omega arith in ap zeros e
drop_zeros (suc k) (suc i) = let e : k - i ≡ suc k - suc i = omega arith in drop_zeros k i ∙ ap zeros e

padded_more : (size : ℕ) (s t : List ℕ) →
    paste (padded_to size s) (length s) t (length t) ≡ padded_to size (s ++ t)
padded_more size s t =
    let front : take (length s) (padded_to size s) ≡ s = take_at s _ (length s) refl in
    let left : size - length s - length t ≡ size - length (s ++ t) = simp length-append (omega arith) in
    let back : drop (length s + length t) (padded_to size s) ≡ zeros (size - length (s ++ t)) =
    drop-append-add s (zeros (size - length s)) (length t) ∙ drop_zeros (size - length s) (length t) ∙ ap zeros left in
    rw (front, take-length t, back)

printed_more : (size : ℕ) (s t : List ℕ) {out : List ℕ} {place : ℕ} → Printed size s out place →
    Printed size (s ++ t) (paste out place t (length t)) (place + length t)
printed_more size s t {out} {place} p = record {
  is = rw (p.is, p.ends) (padded_more size s t);
  ends = ap (λ (k : ℕ). k + length t) p.ends ∙ sym (length-append s t);
}

-- the same text
printed_as : {size : ℕ} {s t out : List ℕ} {place : ℕ} → Printed size s out place → s ≡ t → Printed size t out place
printed_as {size} p e = record { is = p.is ∙ ap (padded_to size) e; ends = p.ends ∙ ap length e }

-- ---- texts one behind the other

pub appends_none : {out : List ℕ} {place : ℕ} → Appends out place [] out place
appends_none = record { printed = λ {size} {before} p. printed_as p (sym (append-nil before)) }

pub appends_as : {out after s t : List ℕ} {place end : ℕ} → Appends out place s after end → s ≡ t →
    Appends out place t after end
appends_as x e = record {
  printed = λ {size} {before} p. printed_as (x.printed p) (ap (λ (u : List ℕ). before ++ u) e);
}

pub then : {out middle after s t : List ℕ} {place behind end : ℕ} → Appends out place s middle behind →
    Appends middle behind t after end → Appends out place (s ++ t) after end
then {s = s} {t = t} x y = record {
  printed = λ {size} {before} p. printed_as (y.printed (x.printed p)) (append_assoc before s t);
}

-- a text in bytes that are all 0
pub appends_all : {size : ℕ} {out after t : List ℕ} {end : ℕ} → Printed size [] out 0 → Appends out 0 t after end →
    (end ≡ length t) × (after ≡ padded_to size t)
appends_all p x = let q = x.printed p in (q.ends, q.is)

-- a text that was copied to its place
pub put_appends : (out : List ℕ) (place : ℕ) (text : List ℕ) {copied : List ℕ} {k : ℕ} → copied ≡ text → k ≡ length text
    → Appends out place text (put_mid place k out copied) (place + length text)
put_appends out place text {copied} {k} e f =
    let q : put_mid place k out copied ≡ paste out place text (length text) =
    rw (e, f, take-length text, drop-drop (length text) place out) (sym (append_assoc (take place out) text _)) in
    record { printed = λ {size} {before} p. rw q (printed_more size before text p) }
