-- Rows at their places in an answered list: products of counts are small, so the places are, a slope by its row and by
-- its variable, and the moving marks one by one.
use Prim.Native.Nat.{ℕ, ◌+◌, ◌*◌, ◌/◌, ◌%◌, ◌<◌, ◌≤◌}
use mathlib.Core.Bool.{Bool, true, false}
use mathlib.Core.Path.{◌≡◌, refl, ap}
use mathlib.Core.List.{List, []}
use native.Mathlib.Nat.{mul-le-mul, div-add-mod'}
use native.Mathlib.Omega.{arith}
use borrow.Author.Tests.{ltb-true, ltb-false}
use lib.Dec.{ltb}
use lib.Ieee.{Float}
use lib.ListN.{length, get_or}
use Rattle.interval.specs.Scalar.{pick}
use Rattle.linear.specs.Cholesky.{marks_to}
use Rattle.linear.specs.Flat.{at}
use Rattle.linear.proofs.Marks.{is-marks_to}
use Rattle.run.specs.Rows.{Rows, rows_in, first_rows, constraint_set, sum_set, slope_at}
use Rattle.run.specs.program.Rows.{Small, FewRows}
use Rattle.run.specs.declared.rows.RowCounts.{RowCounts}
use Rattle.run.specs.declared.rows.RowSet.{RowSet}

-- products of counts
pub few : {m n : ℕ} → m ≤ 12 → n ≤ 12 → m * n ≤ 144
few h k = mul-le-mul h k

-- the parts of the arrays that are used lie within them
pub room : {m n : ℕ} → m ≤ 12 → n ≤ 12 → 2 * (m * n) ≤ 288
room h k = omega (arith, few h k)

pub short : {n : ℕ} → n ≤ 12 → 2 * n ≤ 24
short h = omega (arith, h)

pub few_rows : {m n : ℕ} → m ≤ 12 → n ≤ 12 → m * (n + 1) ≤ 156
few_rows {m} {n} h k = mul-le-mul {n₁ = m} {m₁ = n + 1} {n₂ = 12} {m₂ = 13} h (omega arith)

pub constraints_small : {c : RowCounts} → FewRows c → Small (constraint_set c)
constraints_small f =
    let h = f.few_constraints in
    record {
      few_variables = f.few_variables;
      few_rows = omega (arith, h);
      values_near = omega arith;
      slopes_near = omega (arith, h);
    }

pub sum_small : {c : RowCounts} → FewRows c → Small (sum_set c)
sum_small {c} f =
    let p = few_rows {m = c.m} {n = c.n} f.few_constraints f.few_variables in
    record {
      few_variables = f.few_variables;
      few_rows = f.few_sums;
      values_near = omega (arith, p);
      slopes_near = omega (arith, p, f.few_sums);
    }

-- of the first k rows, which stand where the rows do
pub first_small :
    (k : ℕ) {e f : RowSet} → ((xs : List Float) → rows_in xs f ≡ first_rows k (rows_in xs e)) → Small e → Small f
first_small k {e} {f} h s =
    let q = h [] in
    record {
      few_variables = rw (ap (λ (r : Rows). r.n) q) s.few_variables;
      few_rows = rw (ap (λ (r : Rows). r.count) q) (fewer (ltb k e.count) refl);
      values_near = rw (ap (λ (r : Rows). r.values) q) s.values_near;
      slopes_near = rw (ap (λ (r : Rows). r.slopes) q) s.slopes_near;
    }
  where
    fewer : (b : Bool) → ltb k e.count ≡ b → pick b k e.count ≤ 24
    fewer true l = omega (arith, ltb-true k e.count l, s.few_rows)
    fewer false l = s.few_rows

-- a slope by its place among all
pub slope_among : (e : Rows) (p : ℕ) → slope_at e (p / e.n) (p % e.n) ≡ at e.list (e.slopes + p)
slope_among e p =
    let h : e.slopes + p / e.n * e.n + p % e.n ≡ e.slopes + p = omega (arith, div-add-mod' p e.n) in rw h

-- a list of 12 marks whose first j are those of g, and which has no other
pub record Marked (g : ℕ → Bool) (j : ℕ) (xs : List Bool) : Type 0 where
  pub long : length xs ≡ 12
  pub so : (i : ℕ) → i < j → get_or xs i false ≡ g i
  pub clear : (i : ℕ) → j ≤ i → i < 12 → get_or xs i false ≡ false

module _ (g : ℕ → Bool) where
  pub marked_all : (n : ℕ) (xs : List Bool) → Marked g n xs → xs ≡ marks_to (λ j. pick (ltb j n) (g j) false) 12
  marked_all n xs m = is-marks_to (λ j. pick (ltb j n) (g j) false) 12 xs m.long (λ i h. picked i h (ltb i n) refl)
    where
      picked : (i : ℕ) → i < 12 → (b : Bool) → ltb i n ≡ b → get_or xs i false ≡ pick b (g i) false
      picked i h true e = m.so i (ltb-true i n e)
      picked i h false e = m.clear i (ltb-false i n e) h
