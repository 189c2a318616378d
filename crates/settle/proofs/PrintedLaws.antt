-- What is printed of a sheet has no zero byte, so in a slot it is what stands before the first one.
use Rattle.run.specs.Refusal.{number_of}
use Prim.Native.Nat.{ℕ, zero, suc, ◌+◌, ◌-◌, ◌*◌, ◌/◌, ◌%◌, ◌≤◌}
use mathlib.Core.Bool.{Bool, true, false, cond}
use mathlib.Core.List.{List, [], ◌∷◌, ◌++◌, append_assoc, append-nil}
use mathlib.Core.Path.{◌≡◌, refl, sym, ap, ◌∙◌}
use native.Mathlib.Omega.{arith}
use borrow.Author.Tests.{ne_eqb}
use lib.Dec.{ltb}
use lib.Ieee.{Float, binary64, to_bits}
use lib.ListN.{length, replicate}
use Rattle.std.specs.Prelude.{Result, Ok, Err, IsOk, ⊤}
use Rattle.float_bits.specs.Word.{digit_of, digits_to}
use Rattle.interval.specs.Result.{Res, ok, refused}
use Rattle.interval.specs.Scalar.{pick, sharpen}
use Rattle.interval.specs.declared.Scalar.{Scalar}
use Rattle.linear.specs.Flat.{at, zeros}
use Rattle.run.specs.Calls.{AfterCall, point_of}
use Rattle.run.specs.Limits.{AREA}
use Rattle.run.specs.declared.state.Event.{Event}
use Rattle.run.specs.declared.state.Event.TheVariants.{Question, Finish, Refused}
use Rattle.run.specs.declared.state.Stop.{Stop}
use Rattle.run.specs.declared.state.Stop.TheVariants as stop
use Rattle.sheet.specs.Decimal.{DIGITS, decimal_to, decimal_of}
use Rattle.sheet.specs.Lines.{line_of}
use Rattle.sheet.specs.Numbers.{COMMA, line_feed}
use Rattle.sheet.specs.Printing.{stop_key, iterations_key, turned_key, error_key, name_of, middle_of}
use Rattle.sheet.specs.Printing.{point_line, point_lines, error_of, finish_of, SLOT, padded}
use Rattle.sheet.specs.Settling.{point_at, settled_of, printed_of, printed_sheet, print_of}
use Rattle.sheet.specs.Settling.{AfterText, after_text, number_in, settle_text_of}
use Rattle.sheet.specs.Sheet.{Sheet, at_key, read_of}
use Rattle.sheet.specs.declared.fault.Fault.{Fault}
use Rattle.sheet.specs.declared.fault.Fault.TheVariants.{WrongLength, Malformed, OutOfRange, NoPoint}
use Rattle.settle.specs.Printed.{before_zero}

-- no zero stands in a text: the search for one goes on behind it
abbrev Passes : List ℕ → Type 0
Passes s = (t : List ℕ) → before_zero (s ++ t) ≡ s ++ before_zero t

byte : (b : ℕ) → 1 ≤ b → Passes (b ∷ [])
unfolding before_zero
byte b h t = let n : b ≡ 0 → ⊥ = λ e. omega (arith, h, e) in rw (ne_eqb b 0 n) refl

both : (a b : List ℕ) → Passes a → Passes b → Passes (a ++ b)
both a b ha hb t =
    ap before_zero (append_assoc a b t)
    ∙ ha (b ++ t)
    ∙ ap (λ (u : List ℕ). a ++ u) (hb t)
    ∙ sym (append_assoc a b (before_zero t))

either : (c : Bool) (a b : List ℕ) → Passes a → Passes b → Passes (pick c a b)
either true a b ha hb = ha
either false a b ha hb = hb

-- ---- digits

decimal-to : (k v : ℕ) → Passes (decimal_to k v)
unfolding decimal_to
decimal-to zero v = λ t. refl
decimal-to (suc k) v =
    either (ltb v 10) ((48 + v) ∷ []) (decimal_to k (v / 10) ++ ((48 + v % 10) ∷ [])) (byte (48 + v) (omega arith))
    (both (decimal_to k (v / 10)) ((48 + v % 10) ∷ []) (decimal-to k (v / 10)) (byte (48 + v % 10) (omega arith)))

digit_above : (d : ℕ) → 1 ≤ digit_of d
digit_above d = by (ltb d 10)
  where
    by : (c : Bool) → 1 ≤ cond c (48 + d) (55 + d)
    by true = omega arith
    by false = omega arith

word_to : (k v : ℕ) → Passes (digits_to k v)
unfolding digits_to
word_to zero v = λ t. refl
word_to (suc k) v =
    both (digits_to k (v / 16)) (digit_of (v % 16) ∷ []) (word_to k (v / 16))
    (byte (digit_of (v % 16)) (digit_above (v % 16)))

-- ---- lines

line : (key value : List ℕ) → Passes key → Passes value → Passes (line_of key value)
line key value hk hv =
    both key (value ++ (line_feed ∷ [])) hk (both value (line_feed ∷ []) hv (byte line_feed (omega arith)))

count_line : (key : List ℕ) (v : ℕ) → Passes key → Passes (line_of key (decimal_of v))
count_line key v hk = line key (decimal_of v) hk (decimal-to DIGITS v)

name : (s : Stop) → Passes (name_of s)
unfolding before_zero
name stop.Infeasible = λ t. refl
name (stop.NoChange r) = λ t. refl
name stop.Undecided = λ t. refl
name (stop.Flat independent constraints) = λ t. refl
name (stop.Damped r) = λ t. refl
name stop.Budget = λ t. refl

middle : (x : Scalar) → Passes (middle_of x)
middle x = word_to 16 (to_bits binary64 (sharpen x).lo)

at-key : Passes at_key
unfolding before_zero
at-key t = refl

point-line : (x y : Scalar) → Passes (point_line x y)
point-line x y =
    line at_key (middle_of x ++ (COMMA ∷ middle_of y)) at-key
    (both (middle_of x) (COMMA ∷ middle_of y) (middle x)
    (both (COMMA ∷ []) (middle_of y) (byte COMMA (omega arith)) (middle y)))

point-lines : (p : List Float) (k : ℕ) → Passes (point_lines p k)
unfolding point_lines
point-lines p zero = λ t. refl
point-lines p (suc k) =
    both (point_lines p k) (point_line (at p (2 * k)) (at p (2 * k + 1))) (point-lines p k)
    (point-line (at p (2 * k)) (at p (2 * k + 1)))

-- ---- a whole print

error-key : Passes error_key
unfolding before_zero
error-key t = refl

error : (k : ℕ) → Passes (error_of k)
error k = count_line error_key k error-key

stop-key : Passes stop_key
unfolding before_zero
stop-key t = refl

iterations-key : Passes iterations_key
unfolding before_zero
iterations-key t = refl

turned-key : Passes turned_key
unfolding before_zero
turned-key t = refl

finish : (s : Stop) (iterations turned : ℕ) (p : List Float) → Passes (finish_of s iterations turned p)
finish s iterations turned p =
    let first = line_of stop_key (name_of s) in
    let second = line_of iterations_key (decimal_of iterations) in
    let third = line_of turned_key (decimal_of turned) in
    let last = point_lines p (length p / 4) in
    both first (second ++ (third ++ last)) (line stop_key (name_of s) stop-key (name s))
    (both second (third ++ last) (count_line iterations_key iterations iterations-key)
    (both third last (count_line turned_key turned turned-key) (point-lines p (length p / 4))))

run : (b : AfterCall) → Passes (printed_of b)
run b = by b.event refl
  where
    by : (e : Event) → e ≡ b.event → Passes (printed_of b)
    by (Question k t s) q = rw (sym q) (error 0)
    by (Finish e i t s) q = rw (sym q) (finish e i t (point_of b.state b.area))
    by (Refused r) q = rw (sym q) (error (number_of r))

sheet : (r : Res Sheet) → Passes (printed_sheet r)
sheet (ok s) = let start = point_at s.coordinates in run (settled_of s start start)
sheet (refused k) = error k

text : (t : List ℕ) → Passes (print_of t)
text t = sheet (read_of t)

-- ---- in a slot

none_left : (k : ℕ) → before_zero (replicate k 0) ≡ []
unfolding before_zero
none_left zero = refl
none_left (suc k) = refl

pub before_padded : (t : List ℕ) → before_zero (padded (print_of t)) ≡ print_of t
before_padded t =
    let s = print_of t in
    text t (replicate (SLOT - length s) 0)
    ∙ ap (λ (u : List ℕ). s ++ u) (none_left (SLOT - length s))
    ∙ append-nil s

-- what a call leaves in a slot of the right length
pub settled_slot : (t : List ℕ) (area : List Float) (slot : List ℕ) {r : ℕ} {area' : List Float} {slot' : List ℕ}
    → length area ≡ AREA → length slot ≡ SLOT → after_text r area' slot' ≡ settle_text_of t area slot
    → slot' ≡ padded (print_of t)
unfolding settle_text_of
settled_slot t area slot ea es e =
    let q : settle_text_of t area slot ≡ after_text 0 (zeros AREA) (padded (print_of t)) = rw (ea, es) refl in
    ap (λ (a : AfterText). a.slot) (e ∙ q)

-- nor is it refused
pub settled_ok : (t : List ℕ) (area : List Float) (slot : List ℕ) (r : Result ⊤ Fault) {area' : List Float}
    {slot' : List ℕ} → length area ≡ AREA → length slot ≡ SLOT
    → after_text (number_in r) area' slot' ≡ settle_text_of t area slot → IsOk r
unfolding settle_text_of
settled_ok t area slot r ea es e =
    let q : settle_text_of t area slot ≡ after_text 0 (zeros AREA) (padded (print_of t)) = rw (ea, es) refl in
    by r (ap (λ (a : AfterText). a.number) (e ∙ q))
  where
    by : (r : Result ⊤ Fault) → number_in r ≡ 0 → IsOk r
    by (Ok u) z = refl
    by (Err WrongLength) z = absurd (omega (arith, z))
    by (Err Malformed) z = absurd (omega (arith, z))
    by (Err OutOfRange) z = absurd (omega (arith, z))
    by (Err NoPoint) z = absurd (omega (arith, z))
