-- The steps of specs/CholeskyRows, row by row, give the entries and marks of specs/Cholesky: after i rows the first i
-- rows of the list are the factor's and the others +0, and after j columns of row i that row is `row_to` j. The root of
-- a row before stands on its diagonal, so a division by it is never refused; what remains are the pivots' refusals,
-- number 5.
use Prim.Native.Nat.{ℕ, zero, suc, ◌+◌, ◌*◌, ◌/◌, ◌%◌, ◌≤◌, ◌<◌}
use mathlib.Core.Bool.{true, false}
use mathlib.Core.Logic.{◌≢◌, ⊎_elim}
use mathlib.Core.Path.{◌≡◌, refl, sym, ap, ◌∙◌}
use mathlib.Core.List.{List}
use native.Mathlib.Nat.{not-suc-le-zero, le_of_suc-le-suc, eq-or-lt_of_le, div-add-mod'}
use native.Mathlib.Omega.{arith}
use borrow.Author.Count.{below_more}
use borrow.Author.Tests.{lt-ltb}
use lib.Ieee.{Float, nan}
use lib.ListN.{length, get_or, set, length-set, length-replicate, get_or-replicate}
use lib.Seq.{get_or-set_same, get_or-set_other}
use Rattle.interval.specs.declared.Scalar.{Scalar}
use Rattle.interval.specs.Result.{Res, ok, refused}
use Rattle.interval.specs.Scalar.{zero64, zero_s, mul_of, inverse}
use Rattle.linear.specs.Flat.{at, put, along, zeros}
use Rattle.linear.specs.Results.{bind, fold_r}
use Rattle.linear.specs.Dot.{minus_to}
use Rattle.linear.specs.Cholesky.{Pivot, root, left_out_pivot, pivot_of, row_to, pivot_at, is_refused, mark_at}
use Rattle.linear.specs.Cholesky.{factor_at}
use Rattle.linear.specs.Cholesky.{refused_to, Factor, factor_of, entry, cholesky_of}
use Rattle.linear.specs.CholeskyRows.{entry_step, clear_row, settle, pivot_step, row_step}
use Rattle.linear.specs.Calls.{blank}
use Rattle.linear.proofs.FlatLaws.{at_inside, length_put, at_put_same, at_put_other}
use Rattle.linear.proofs.Lists.{is-list_to}
use Rattle.linear.proofs.Marks.{is-marks_to}
use Rattle.linear.proofs.Sums.{along_row}
use Rattle.linear.proofs.Agree.{minus_to-ext}
use Rattle.linear.proofs.Cells.{cell_inside, cell_row, cell_column, place_row, place_column}
use Rattle.linear.proofs.Pivots.{root_divides, refused_five}
use Rattle.linear.proofs.FactorEntries.{same_or_not, rest, row_beyond, row_other, row_new, mark_is, factor_out}
use Rattle.linear.proofs.FactorEntries.{factor_diagonal, factor_below, factor_off, none_refused}

-- ---- the state between two rows, and between two columns of row i

record Rows (n : ℕ) (a : List Float) (i : ℕ) (f : Factor) : Type 0 where
  size : length f.l ≡ 2 * (n * n)
  marks : length f.left_out ≡ n
  done : (r k : ℕ) → r < i → k < n → at f.l (r * n + k) ≡ factor_at (entry n a) r k
  todo : (r k : ℕ) → i ≤ r → r < n → k < n → at f.l (r * n + k) ≡ zero_s
  marked : (r : ℕ) → r < i → get_or f.left_out r false ≡ mark_at (entry n a) r
  unmarked : (r : ℕ) → i ≤ r → r < n → get_or f.left_out r false ≡ false
  passed : (r : ℕ) → r < i → is_refused (pivot_at (entry n a) r) ≡ false

record Columns (n : ℕ) (a l : List Float) (i j : ℕ) (m : List Float) : Type 0 where
  size : length m ≡ 2 * (n * n)
  others : (r k : ℕ) → r ≢ i → k < n → at m (r * n + k) ≡ at l (r * n + k)
  row : (k : ℕ) → k < n → at m (i * n + k) ≡ row_to (entry n a) j i k

abbrev RowsOf : ℕ → List Float → ℕ → Res Factor → Type 0
RowsOf n a i (ok f) = Rows n a i f
RowsOf n a i (refused k) = (k ≡ 5) × (refused_to (entry n a) i ≡ true)

abbrev ColumnsOf : ℕ → List Float → List Float → ℕ → ℕ → Res (List Float) → Type 0
ColumnsOf n a l i j (ok m) = Columns n a l i j m
ColumnsOf n a l i j (refused k) = ⊥

-- ---- what is stored in row i

module _ (n : ℕ) (m : List Float) (i j : ℕ) (v : Scalar) (size : length m ≡ 2 * (n * n)) (hi : i < n) (hj : j < n) where
  stored : at (put m (i * n + j) v) (i * n + j) ≡ v
  stored = at_put_same m (i * n + j) v (cell_inside hi hj size)

  stored_column : (k : ℕ) → k < n → k ≢ j → at (put m (i * n + j) v) (i * n + k) ≡ at m (i * n + k)
  stored_column k hk h = at_put_other m (i * n + j) (i * n + k) v (λ e. h (cell_column i i hk hj e))

  stored_row : (r k : ℕ) → r ≢ i → k < n → at (put m (i * n + j) v) (r * n + k) ≡ at m (r * n + k)
  stored_row r k h hk = at_put_other m (i * n + j) (r * n + k) v (λ e. h (cell_row r i hk hj e))

module _ (n : ℕ) (m : List Float) (i : ℕ) (size : length m ≡ 2 * (n * n)) (hi : i < n) where
  clear_size : (j : ℕ) → length (clear_row n i m j) ≡ 2 * (n * n)
  unfolding clear_row
  clear_size zero = size
  clear_size (suc j) = length_put (clear_row n i m j) (i * n + j) zero_s ∙ clear_size j

  clear_others : (j : ℕ) → j ≤ n → (r k : ℕ) → r ≢ i → k < n → at (clear_row n i m j) (r * n + k) ≡ at m (r * n + k)
  unfolding clear_row
  clear_others zero h r k q hk = refl
  clear_others (suc j) h r k q hk =
      stored_row n (clear_row n i m j) i j zero_s (clear_size j) hi h r k q hk ∙ clear_others j (omega arith) r k q hk

  clear-row : (j : ℕ) → j ≤ n → (k : ℕ) → k < j → at (clear_row n i m j) (i * n + k) ≡ zero_s
  unfolding clear_row
  clear-row zero h k l = absurd (not-suc-le-zero l)
  clear-row (suc j) h k l =
      ⊎_elim
      (λ e. rw e (stored n (clear_row n i m j) i j zero_s (clear_size j) hi h))
      (λ q. stored_column n (clear_row n i m j) i j zero_s (clear_size j) hi h k (omega arith) (λ e. omega arith)
      ∙ clear-row j (omega arith) k q)
      (eq-or-lt_of_le (le_of_suc-le-suc l))

-- ---- a column

module _ (n : ℕ) (a : List Float) (f : Factor) (i j : ℕ) (m : List Float) (v : Rows n a i f)
    (w : Columns n a f.l i j m) (hi : i < n) (hj : j < i) where
  -- row j stands as the factor has it
  read : (k : ℕ) → k < n → at m (j * n + k) ≡ factor_at (entry n a) j k
  read k hk = w.others j k (λ q. omega arith) hk ∙ v.done j k hj hk

  rest_is : mark_at (entry n a) j ≡ false
      → minus_to (along m (i * n) 1) (along m (j * n) 1) (at a (i * n + j)) j ≡ rest (entry n a) i j
  rest_is e =
      minus_to-ext _ _ _ _ _ j
      (λ k h. along_row m (i * n) k ∙ w.row k (omega arith))
      (λ k h. along_row m (j * n) k ∙ read k (omega arith) ∙ factor_below (entry n a) j e k h)

  -- under a pivot that is kept
  kept_step : (r : Scalar) → pivot_at (entry n a) j ≡ ok (root r)
      → entry_step n a f.left_out i m j ≡ ok (put m (i * n + j) (mul_of (rest (entry n a) i j) (inverse r)))
  unfolding entry_step
  kept_step r e =
      let mark : mark_at (entry n a) j ≡ false = mark_is (entry n a) j e in
      let d : at m (j * n + j) ≡ r = read j (omega arith) ∙ factor_diagonal (entry n a) j mark e in
      rw (v.marked j hj, mark, rest_is mark, d, root_divides _ r (rest (entry n a) i j) e)

  kept_columns : (r : Scalar) → pivot_at (entry n a) j ≡ ok (root r)
      → Columns n a f.l i (suc j) (put m (i * n + j) (mul_of (rest (entry n a) i j) (inverse r)))
  kept_columns r e =
      let s : Scalar = mul_of (rest (entry n a) i j) (inverse r) in
      let hn : j < n = omega arith in
      record {
        size = length_put m (i * n + j) s ∙ w.size;
        others = λ r k h hk. stored_row n m i j s w.size hi hn r k h hk ∙ w.others r k h hk;
        row = λ k hk.
            ⊎_elim
            (λ q. rw q (stored n m i j s w.size hi hn ∙ sym (row_new (entry n a) j i e)))
            (λ q. stored_column n m i j s w.size hi hn k hk q ∙ w.row k hk ∙ sym (row_other (entry n a) j i k q))
            (same_or_not k j);
      }

  -- under one that is left out
  out_step : pivot_at (entry n a) j ≡ ok left_out_pivot → entry_step n a f.left_out i m j ≡ ok m
  unfolding entry_step
  out_step e = rw (v.marked j hj, mark_is (entry n a) j e)

  out_columns : pivot_at (entry n a) j ≡ ok left_out_pivot → Columns n a f.l i (suc j) m
  out_columns e =
      record {
        size = w.size;
        others = w.others;
        row = λ k hk.
            w.row k hk
            ∙ ⊎_elim
            (λ q. rw q (row_beyond (entry n a) j i j (omega arith) ∙ sym (row_new (entry n a) j i e)))
            (λ q. sym (row_other (entry n a) j i k q))
            (same_or_not k j);
      }

  by_pivot : (p : Res Pivot) → pivot_at (entry n a) j ≡ p
      → ColumnsOf n a f.l i (suc j) (entry_step n a f.left_out i m j)
  by_pivot (ok (root r)) e = rw (kept_step r e) (kept_columns r e)
  by_pivot (ok left_out_pivot) e = rw (out_step e) (out_columns e)
  by_pivot (refused k) e = let z : ◌≡◌ {A = ℕ} 0 1 = cc (ap is_refused e, v.passed j hj) in absurd (omega arith)

module _ (n : ℕ) (a : List Float) (f : Factor) (i : ℕ) (v : Rows n a i f) (hi : i < n) where
  more_columns : (j : ℕ) → j < i → (x : Res (List Float)) → ColumnsOf n a f.l i j x
      → ColumnsOf n a f.l i (suc j) (bind x (λ m. entry_step n a f.left_out i m j))
  unfolding bind
  more_columns j hj (ok m) w = by_pivot n a f i j m v w hi hj _ refl
  more_columns j hj (refused k) w = absurd w

  columns : (j : ℕ) → j ≤ i → ColumnsOf n a f.l i j (fold_r (entry_step n a f.left_out i) f.l j)
  unfolding fold_r bind row_to
  columns zero h = record { size = v.size; others = λ r k q hk. refl; row = λ k hk. v.todo i k (omega arith) hi hk }
  columns (suc j) h = more_columns j h (fold_r (entry_step n a f.left_out i) f.l j) (columns j (omega arith))

-- ---- a row

module _ (n : ℕ) (a : List Float) (f : Factor) (i : ℕ) (m : List Float) (v : Rows n a i f)
    (w : Columns n a f.l i i m) (hi : i < n) where
  pivot_is : pivot_step n a f.left_out i m ≡ settle n f.left_out i m (pivot_at (entry n a) i)
  unfolding pivot_step
  pivot_is =
      let h : (k : ℕ) → k < i → along m (i * n) 1 k ≡ row_to (entry n a) i i k =
      λ k l. along_row m (i * n) k ∙ w.row k (omega arith) in
      ap (λ s. settle n f.left_out i m (pivot_of s)) (minus_to-ext _ _ _ _ _ i h h)

  kept_row : (r : Scalar) → pivot_at (entry n a) i ≡ ok (root r)
      → Rows n a (suc i) (factor_of (put m (i * n + i) r) f.left_out)
  kept_row r e =
      let mark : mark_at (entry n a) i ≡ false = mark_is (entry n a) i e in
      let other : (s k : ℕ) → s ≢ i → k < n → at (put m (i * n + i) r) (s * n + k) ≡ at f.l (s * n + k) =
      λ s k q hk. stored_row n m i i r w.size hi hi s k q hk ∙ w.others s k q hk in
      record {
        size = length_put m (i * n + i) r ∙ w.size;
        marks = v.marks;
        done = λ s k hs hk.
            below_more (λ s. at (put m (i * n + i) r) (s * n + k) ≡ factor_at (entry n a) s k) i
            (λ s l. other s k (λ q. omega arith) hk ∙ v.done s k l hk)
            (⊎_elim
            (λ q. rw q (stored n m i i r w.size hi hi ∙ sym (factor_diagonal (entry n a) i mark e)))
            (λ q. stored_column n m i i r w.size hi hi k hk q ∙ w.row k hk
            ∙ sym (factor_off (entry n a) i mark k q))
            (same_or_not k i))
            s (omega arith);
        todo = λ s k l hs hk. other s k (λ q. omega arith) hk ∙ v.todo s k (omega arith) hs hk;
        marked = λ s l. below_more (λ s. get_or f.left_out s false ≡ mark_at (entry n a) s) i v.marked
            (v.unmarked i (omega arith) hi ∙ sym mark) s (omega arith);
        unmarked = λ s l hs. v.unmarked s (omega arith) hs;
        passed = λ s l.
            below_more (λ s. is_refused (pivot_at (entry n a) s) ≡ false) i v.passed (ap is_refused e) s (omega arith);
      }

  out_row : pivot_at (entry n a) i ≡ ok left_out_pivot
      → Rows n a (suc i) (factor_of (clear_row n i m n) (set f.left_out i true))
  out_row e =
      let mark : mark_at (entry n a) i ≡ true = mark_is (entry n a) i e in
      let inside : i < length f.left_out = omega (arith, v.marks) in
      let other : (s k : ℕ) → s ≢ i → k < n → at (clear_row n i m n) (s * n + k) ≡ at f.l (s * n + k) =
      λ s k q hk. clear_others n m i w.size hi n (omega arith) s k q hk ∙ w.others s k q hk in
      record {
        size = clear_size n m i w.size hi n;
        marks = length-set f.left_out i true ∙ v.marks;
        done = λ s k hs hk.
            below_more (λ s. at (clear_row n i m n) (s * n + k) ≡ factor_at (entry n a) s k) i
            (λ s l. other s k (λ q. omega arith) hk ∙ v.done s k l hk)
            (clear-row n m i w.size hi n (omega arith) k hk ∙ sym (factor_out (entry n a) i k mark))
            s (omega arith);
        todo = λ s k l hs hk. other s k (λ q. omega arith) hk ∙ v.todo s k (omega arith) hs hk;
        marked = λ s l.
            below_more (λ s. get_or (set f.left_out i true) s false ≡ mark_at (entry n a) s) i
            (λ s l. get_or-set_other f.left_out i s true false (λ q. omega arith) ∙ v.marked s l)
            (get_or-set_same f.left_out i true false inside ∙ sym mark)
            s (omega arith);
        unmarked =
            λ s l hs. get_or-set_other f.left_out i s true false (λ q. omega arith) ∙ v.unmarked s (omega arith) hs;
        passed = λ s l.
            below_more (λ s. is_refused (pivot_at (entry n a) s) ≡ false) i v.passed (ap is_refused e) s (omega arith);
      }

  refused_row : {k : ℕ} → pivot_at (entry n a) i ≡ refused k → (k ≡ 5) × (refused_to (entry n a) (suc i) ≡ true)
  unfolding refused_to
  refused_row e = (refused_five _ e, rw (none_refused (entry n a) i v.passed, e))

  by_own_pivot : (p : Res Pivot) → pivot_at (entry n a) i ≡ p → RowsOf n a (suc i) (settle n f.left_out i m p)
  by_own_pivot (ok (root r)) e = kept_row r e
  by_own_pivot (ok left_out_pivot) e = out_row e
  by_own_pivot (refused k) e = refused_row e

  settled : RowsOf n a (suc i) (pivot_step n a f.left_out i m)
  settled = rw pivot_is (by_own_pivot _ refl)

-- ---- all rows

at_zeros : (n i : ℕ) → 2 * i + 1 < n → at (zeros n) i ≡ zero_s
at_zeros n i h =
    let h₀ : 2 * i < n = omega arith in
    let m : 2 * i + 1 < length (zeros n) = simp length-replicate h in
    rw (
      at_inside (zeros n) i (lt-ltb _ _ m),
      get_or-replicate n (2 * i) zero64 nan h₀,
      get_or-replicate n (2 * i + 1) zero64 nan h,
    )

module _ (n : ℕ) (a : List Float) where
  after_columns : (f : Factor) (i : ℕ) → Rows n a i f → i < n → (x : Res (List Float)) → ColumnsOf n a f.l i i x
      → RowsOf n a (suc i) (bind x (pivot_step n a f.left_out i))
  unfolding bind
  after_columns f i v hi (ok m) w = settled n a f i m v w hi
  after_columns f i v hi (refused k) w = absurd w

  more_rows : (i : ℕ) → i < n → (x : Res Factor) → RowsOf n a i x → RowsOf n a (suc i) (bind x (λ f. row_step n a f i))
  unfolding bind row_step refused_to
  more_rows i hi (ok f) v =
      after_columns f i v hi (fold_r (entry_step n a f.left_out i) f.l i) (columns n a f i v hi i (omega arith))
  more_rows i hi (refused k) w = (w.0, rw w.1)

  rows : (i : ℕ) → i ≤ n → RowsOf n a i (fold_r (row_step n a) (blank n) i)
  unfolding fold_r
  rows zero h =
      record {
        size = length-replicate _ _;
        marks = length-replicate _ _;
        done = λ r k l. absurd (not-suc-le-zero l);
        todo = λ r k l hr hk. at_zeros (2 * (n * n)) (r * n + k) (cell_inside hr hk refl);
        marked = λ r l. absurd (not-suc-le-zero l);
        unmarked = λ r l hr. get_or-replicate n r false false hr;
        passed = λ r l. absurd (not-suc-le-zero l);
      }
  rows (suc i) h = more_rows i h (fold_r (row_step n a) (blank n) i) (rows i (omega arith))

  all_rows : (x : Res Factor) → RowsOf n a n x → x ≡ cholesky_of n a
  unfolding cholesky_of
  all_rows (ok f) v =
      let l = is-list_to (λ p. factor_at (entry n a) (p / n) (p % n)) (n * n) f.l v.size
      (λ p h. sym (ap (at f.l) (div-add-mod' p n)) ∙ v.done (p / n) (p % n) (place_row h) (place_column h)) in
      let left = is-marks_to (mark_at (entry n a)) n f.left_out v.marks v.marked in
      rw (none_refused (entry n a) n v.passed, ← l, ← left)
  all_rows (refused k) w = rw (w.1, w.0)

  pub rows_are_entries : fold_r (row_step n a) (blank n) n ≡ cholesky_of n a
  rows_are_entries = all_rows _ (rows n (omega arith))
