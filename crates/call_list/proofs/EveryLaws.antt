-- Every list of calls is played by some codes, counts and numbers: a call that is refused for its m or for a length is
-- refused as one over no numbers is, and rows of k numbers are code 2 k + 2 or 2 k + 3 with them in front.
use Rattle.run.specs.declared.refusal.Refusal.TheVariants.{Altered, TooMany, WrongLength}
use Rattle.std.specs.Prelude.{None, Option, Some}
use Rattle.run.specs.declared.state.Kind.{Kind}
use Prim.Native.Nat.{ℕ, ◌+◌, ◌*◌, ◌%◌, ◌<◌}
use mathlib.Core.Path.{◌≡◌, refl, sym, ap, ◌∙◌, subst}
use mathlib.Core.Logic.{◌⊎◌, ◌≢◌, inl, inr}
use mathlib.Core.Bool.{Bool, true, false, ◌&&◌}
use mathlib.Core.List.{List, [], ◌∷◌, ◌++◌}
use native.Mathlib.Omega.{arith}
use borrow.Author.Tests.{eq-eqb, ne_eqb, le-ltb, lt-leb}
use lib.Dec.{eqb, ltb}
use lib.Ieee.{Float}
use lib.ListN.{length, take, drop}
use lib.Seq.{take-append_seam, drop-append_seam}
use Rattle.run.specs.Calls.{reply_open, reply_of, none_open, reply_none_of, checks, unchanged}
use Rattle.run.specs.Checks.{valid, constraints_fit}
use Rattle.run.specs.Demand.{same, other, Floats, Call, rows, none, Allowed, Run, CallResult, call_result_by, call_result}
use Rattle.run.specs.Area.{area_length}
use Rattle.run.specs.Limits.{CONSTRAINTS}
use Rattle.run.specs.Rows.{row_numbers, row_counts}
use Rattle.run.specs.declared.state.Sizes.{Sizes}
use Rattle.run.specs.declared.state.State.{State}
use Rattle.run.proofs.Cleared.{demand1}
use Rattle.call_list.specs.CallList.{
  no_area,
  count_of,
  call_of,
  floats_take,
  floats_drop,
  calls_of,
  played_to,
  Named,
  EveryList,
}

-- ---- a call that is refused for its m or for a length

module _ (st : State) (a own : List Float) where
  none_refused :
      length a ≢ area_length st.sizes →
      (v : Bool) (p : Option Kind) →
      call_result_by (checks v Altered (unchanged st a) (none_open st a p)) own
      ≡ call_result_by (checks v Altered (unchanged st []) (none_open st [] p)) own
  none_refused x false p = refl
  none_refused x true None = refl
  none_refused x true (Some k) = rw (ne_eqb (length a) (area_length st.sizes) x) refl

  -- the area or the rows have another length
  lengths :
      (xs : List Float) (whole count : ℕ) →
      (length a ≢ whole) ⊎ (length xs ≢ count) → (eqb (length a) whole && eqb (length xs) count) ≡ false
  lengths xs whole count (inl x) = rw (ne_eqb (length a) whole x)
  lengths xs whole count (inr x) = rw (ne_eqb (length xs) count x) (and_false (eqb (length a) whole))
    where
      and_false : (b : Bool) → (b && false) ≡ false
      and_false true = refl
      and_false false = refl

  rows_refused :
      (m : ℕ) (xs : List Float) →
      (CONSTRAINTS < m) ⊎ ((length a ≢ area_length st.sizes) ⊎ (length xs ≢ row_numbers (row_counts st.sizes m))) →
      (v : Bool) (p : Option Kind) →
      call_result_by (checks v Altered (unchanged st a) (reply_open st a m xs p)) own
      ≡ call_result_by (checks v Altered (unchanged st []) (reply_open st [] m xs p)) own
  rows_refused m xs x false p = refl
  rows_refused m xs x true None = refl
  rows_refused m xs (inl x) true (Some k) = rw (lt-leb m CONSTRAINTS x) refl
  rows_refused m xs (inr x) true (Some k) =
      rw (lengths xs (area_length st.sizes) (row_numbers (row_counts st.sizes m)) x)
      (either (constraints_fit m))
    where
      either : (b : Bool) → call_result_by (checks b TooMany (unchanged st a) (unchanged st a WrongLength)) own
          ≡ call_result_by (checks b TooMany (unchanged st []) (unchanged st [] WrongLength)) own
      either true = refl
      either false = refl

none_other :
    (r : Run) (a : List Float) →
    Allowed r.state.sizes (none (other a)) → call_result r (none no_area) ≡ call_result r (none (other a))
unfolding reply_none_of
none_other r a x = sym (none_refused r.state a r.area x (valid r.state) r.state.phase)

rows_other :
    (r : Run) (a : List Float) (m : ℕ) (xs : List Float) (f g : Floats xs) →
    Allowed r.state.sizes (rows (other a) m xs f)
    → call_result r (rows no_area m xs g) ≡ call_result r (rows (other a) m xs f)
unfolding reply_of
rows_other r a m xs f g x = sym (rows_refused r.state a r.area m xs x (valid r.state) r.state.phase)

-- ---- one call in front

floats_append : (xs ys : List Float) → Floats xs → Floats ys → Floats (xs ++ ys)
floats_append [] ys f g = g
floats_append (x ∷ xs) ys f g = (f.0, floats_append xs ys f.1 g)

-- a call keeps the sizes of the run
played_sizes : (r : Run) (c : Call) → (call_result r c).run.state.sizes ≡ r.state.sizes
played_sizes r (rows same m xs f) = (demand1.replied r.state r.area m xs).sizes_kept
played_sizes r (rows (other a) m xs f) = (demand1.replied r.state a m xs).sizes_kept
played_sizes r (none same) = (demand1.replied_none r.state r.area).sizes_kept
played_sizes r (none (other a)) = (demand1.replied_none r.state a).sizes_kept

front :
    (z : Sizes) (code m : ℕ) (c : Call) (cs : List Call) (xs : List Float) →
    Floats xs →
    count_of code ≡ length xs →
    ((r : Run) (f : Floats xs) → r.state.sizes ≡ z → call_result r (call_of code m xs f) ≡ call_result r c) →
    Named z cs → Named z (c ∷ cs)
unfolding played_to calls_of
front z code m c cs xs g count_is call-is n =
    record {
      codes = code ∷ n.codes;
      ms = m ∷ n.ms;
      numbers = ys;
      floats = floats_append xs n.numbers g n.floats;
      leaves = leaves;
    }
  where
    ys : List Float
    ys = xs ++ n.numbers

    k : ℕ
    k = count_of code

    first :
        (r : Run) (f : Floats (take k ys)) → r.state.sizes ≡ z
        → call_result r (call_of code m (take k ys) f) ≡ call_result r c
    first r =
        subst
        (λ (l : List Float). (f : Floats l) → r.state.sizes ≡ z → call_result r (call_of code m l f) ≡ call_result r c)
        (sym (ap (λ (j : ℕ). take j ys) count_is ∙ take-append_seam xs n.numbers)) (call-is r)

    rest :
        (p : CallResult) (f : Floats (drop k ys)) →
        p.run.state.sizes ≡ z → played_to p (calls_of n.codes n.ms (drop k ys) f) ≡ played_to p cs
    rest p =
        subst
        (λ (l : List Float).
        (f : Floats l) → p.run.state.sizes ≡ z → played_to p (calls_of n.codes n.ms l f) ≡ played_to p cs)
        (sym (ap (λ (j : ℕ). drop j ys) count_is ∙ drop-append_seam xs n.numbers)) (λ f. n.leaves f p)

    leaves :
        (f : Floats ys) (p : CallResult) →
        p.run.state.sizes ≡ z → played_to p (calls_of (code ∷ n.codes) (m ∷ n.ms) ys f) ≡ played_to p (c ∷ cs)
    leaves f p e =
        ap (λ (q : CallResult). played_to q (calls_of n.codes n.ms (drop k ys) (floats_drop k ys f)))
        (first p.run (floats_take k ys f) e)
        ∙ rest (call_result p.run c) (floats_drop k ys f) (played_sizes p.run c ∙ e)

-- ---- the codes of rows

module _ (n : ℕ) where
  is_rows : (b : ℕ) → ltb (2 * n + 2 + b) 2 ≡ false
  is_rows b = le-ltb (2 * n + 2 + b) 2 (omega arith)

  even : eqb ((2 * n + 2 + 0) % 2) 0 ≡ true
  even = eq-eqb ((2 * n + 2 + 0) % 2) 0 (omega arith)

  odd : eqb ((2 * n + 2 + 1) % 2) 0 ≡ false
  odd = ne_eqb ((2 * n + 2 + 1) % 2) 0 (λ e. omega (arith, e))

  count_even : count_of (2 * n + 2 + 0) ≡ n
  count_even = omega arith

  count_odd : count_of (2 * n + 2 + 1) ≡ n
  count_odd = omega arith

pub every_list : EveryList
unfolding played_to calls_of
every_list z [] x = record { codes = []; ms = []; numbers = []; floats = tt; leaves = λ f p e. refl }
every_list z (none same ∷ cs) x = front z 0 0 (none same) cs [] tt refl (λ r f e. refl) (every_list z cs x.1)
every_list z (none (other a) ∷ cs) x =
    front z 1 0 (none (other a)) cs [] tt refl
    (λ r f e. none_other r a (subst (λ (y : Sizes). Allowed y (none (other a))) (sym e) x.0))
    (every_list z cs x.1)
every_list z (rows same m xs g ∷ cs) x =
    let n = length xs in
    front z (2 * n + 2 + 0) m (rows same m xs g) cs xs g (count_even n) (λ r f e. rw (is_rows n 0, even n) refl)
    (every_list z cs x.1)
every_list z (rows (other a) m xs g ∷ cs) x =
    let n = length xs in
    front z (2 * n + 2 + 1) m (rows (other a) m xs g) cs xs g (count_odd n)
    (λ r f e.
    let allowed = subst (λ (y : Sizes). Allowed y (rows (other a) m xs g)) (sym e) x.0 in
    rw (is_rows n 1, odd n) (rows_other r a m xs g f allowed))
    (every_list z cs x.1)
