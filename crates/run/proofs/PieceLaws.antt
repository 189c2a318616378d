-- Checks one after the other: what those that passed say, and what a call gives then.
use Rattle.std.specs.Prelude.{Ok, Result}
use Rattle.linear.specs.declared.results.LinearError.{LinearError}
use Prim.Native.Nat.{ℕ, ◌+◌, ◌*◌, ◌≤◌}
use mathlib.Core.Bool.{Bool, true, false, ◌&&◌}
use mathlib.Core.Path.{◌≡◌, refl, sym, ◌∙◌}
use mathlib.Core.List.{List}
use native.Mathlib.Nat.{mul-le-mul}
use native.Mathlib.Omega.{arith}
use borrow.Author.Tests.{leb-true, eqb-true}
use lib.Dec.{leb, eqb}
use lib.Ieee.{Float}
use lib.ListN.{length}
use Rattle.interval.specs.Result.{Res, ok, refused}
use Rattle.interval.proofs.Results.{refused_ok}
use Rattle.linear.specs.LinearResult.{done_of}
use Rattle.linear.specs.Replies.{checked_value}
use Rattle.linear.specs.Results.{bind}
use Rattle.run.specs.Rows.{row_numbers}
use Rattle.run.specs.Checks.{sizes_fit}
use Rattle.run.specs.Pieces.{sized_of, next_counts, both_sized, wants_of}
use Rattle.run.specs.program.Rows.{FewRows}
use Rattle.run.specs.declared.rows.RowCounts.{RowCounts}
use Rattle.run.proofs.Booleans.{never}

-- the scalars of an answer
pub answer_small : {n m s : ℕ} → n ≤ 12 → m ≤ 12 → s ≤ 24 → (m + s) * (n + 1) ≤ 468
answer_small {n} {m} {s} hn hm hs =
    let a : m + s ≤ 36 = omega arith in
    let b : n + 1 ≤ 13 = omega arith in
    mul-le-mul a b

-- sizes of which one is above its limit
one_refused :
    (a b d : Bool) (r : Res (Unit {0})) → (a && (d && true)) ≡ false →
    refused 1 ≡ checked_value a 1 (checked_value b 1 (checked_value d 1 r))
one_refused true true true r e = never (sym e)
one_refused true true false r e = refl
one_refused true false d r e = refl
one_refused false b d r e = refl

pub too_many :
    (c : RowCounts) (count : ℕ) → sizes_fit (record { n = c.n; s = c.s; limit = 0 }) ≡ false →
    refused 1 ≡ sized_of c count
unfolding sized_of
too_many c count e = one_refused (leb c.n 12) (leb c.m 12) (leb c.s 24) _ e

-- a check that passed
checked_ok : {A : Type 0} {x : A} (b : Bool) (k : ℕ) (r : Res A) → checked_value b k r ≡ ok x → (b ≡ true) × (r ≡ ok x)
checked_ok true k r e = (refl, e)
checked_ok false k r e = absurd (refused_ok e)

pub record Sized (c : RowCounts) (count : ℕ) : Type 0 where
  pub counts : FewRows c
  pub whole : count ≡ row_numbers c

sized_ok : {c : RowCounts} {count : ℕ} → sized_of c count ≡ ok tt → Sized c count
unfolding sized_of
sized_ok {c} {count} e =
    let a = checked_ok (leb c.n 12) 1 _ e in
    let b = checked_ok (leb c.m 12) 1 _ a.1 in
    let d = checked_ok (leb c.s 24) 1 _ b.1 in
    let f = checked_ok (eqb count (row_numbers c)) 2 (ok tt) d.1 in
    record {
      counts = record {
        few_variables = leb-true _ _ a.0;
        few_constraints = leb-true _ _ b.0;
        few_sums = leb-true _ _ d.0;
      };
      whole = eqb-true _ _ f.0;
    }

-- of checks after others
then_ok : (r s : Res (Unit {0})) → bind r (λ _. s) ≡ ok tt → (r ≡ ok tt) × (s ≡ ok tt)
unfolding bind
then_ok (ok _) s e = (refl, e)
then_ok (refused k) s e = absurd (refused_ok e)

wants_ok : (count wanted : ℕ) (r : Res (Unit {0})) → wants_of r count wanted ≡ ok tt → (r ≡ ok tt) × (count ≡ wanted)
unfolding wants_of
wants_ok count wanted r e =
    let p = then_ok r _ e in (p.0, eqb-true _ _ (checked_ok (eqb count wanted) 2 (ok tt) p.1).0)

-- of the rows of two answers
pub record Both (c : RowCounts) (rows : List Float) (m : ℕ) (next : List Float) : Type 0 where
  pub first : Sized c (length rows)
  pub second : Sized (next_counts c m) (length next)

both_ok : {c : RowCounts} {rows : List Float} {m : ℕ} {next : List Float} → both_sized c rows m next ≡ ok tt
    → Both c rows m next
unfolding both_sized
both_ok {c} {rows} {m} {next} e =
    let p = then_ok (sized_of c (length rows)) _ (checked_ok (leb m 12) 1 _ e).1 in
    record { first = sized_ok p.0; second = sized_ok p.1 }

-- of the rows and two counts
pub record Fitting (c : RowCounts) (count a wanted b wanted' : ℕ) : Type 0 where
  pub sized : Sized c count
  pub first : a ≡ wanted
  pub second : b ≡ wanted'

fits_ok :
    {c : RowCounts} {count a wanted b wanted' : ℕ} →
    wants_of (wants_of (sized_of c count) a wanted) b wanted' ≡ ok tt → Fitting c count a wanted b wanted'
fits_ok e =
    let p = wants_ok _ _ _ e in
    let q = wants_ok _ _ _ p.0 in
    record { sized = sized_ok q.0; first = q.1; second = p.1 }

-- the same of a check's answer x
pub finished : {r : Result (Unit {0}) LinearError} → r ≡ (Ok _) → done_of r (tt {0}) ≡ ok (tt {0})
finished e = rw e

module _ {x : Res (Unit {0})} where
  pub sized_passed : {c : RowCounts} {count : ℕ} → x ≡ ok tt → x ≡ sized_of c count → Sized c count
  sized_passed h e = sized_ok (sym e ∙ h)

  pub both_passed : {c : RowCounts} {rows : List Float} {m : ℕ} {next : List Float} → x ≡ ok tt
      → x ≡ both_sized c rows m next → Both c rows m next
  both_passed h e = both_ok (sym e ∙ h)

  pub wants_passed :
      (count wanted : ℕ) (before : Res (Unit {0})) → x ≡ ok tt → x ≡ wants_of before count wanted →
      (before ≡ ok tt) × (count ≡ wanted)
  wants_passed count wanted before h e = wants_ok count wanted before (sym e ∙ h)

  pub fits_passed :
      {c : RowCounts} {count a wanted b wanted' : ℕ} →
      x ≡ ok tt → x ≡ wants_of (wants_of (sized_of c count) a wanted) b wanted' → Fitting c count a wanted b wanted'
  fits_passed h e = fits_ok (sym e ∙ h)
