-- The variables kept, one after the other, and the entries of H, from what each call gives.
use Prim.Native.Nat.{ℕ, zero, suc, ◌+◌, ◌*◌, ◌<◌, ◌≤◌}
use mathlib.Core.Bool.{Bool, true, false}
use mathlib.Core.Logic.{⊎_elim, ◌≢◌}
use mathlib.Core.Path.{◌≡◌, refl, sym, ap, ◌∙◌}
use mathlib.Core.List.{List, [], ◌∷◌, ◌++◌, append_assoc}
use native.Mathlib.Numerals.{add-one}
use native.Mathlib.Omega.{arith}
use borrow.Author.Tests.{eq-eqb, ne_eqb}
use lib.Dec.{eqb}
use lib.Ieee.{Float, lt, le, eq}
use lib.ListN.{length, get_or, set, take, drop, replicate, length-replicate, replicate-append-replicate}
use Rattle.interval.specs.declared.Scalar.{Scalar}
use Rattle.interval.proofs.Rank.{le_or_lt}
use Rattle.interval.specs.Scalar.{zero64, zero_s, pick, add_of, mul_of}
use Rattle.linear.specs.Choose.{choose_of}
use Rattle.linear.specs.Dot.{plus_to}
use Rattle.linear.specs.Flat.{at, along, zeros}
use Rattle.linear.proofs.Lists.{ext_at}
use Rattle.run.specs.Curvature.{curvature_at}
use Rattle.run.specs.Problem.{Kept, keep_next, kept_to, variable, squeezed_of, scaling_at, damped_at, damped_of}
use Rattle.run.specs.Problem.{gradient_of, problem_of}
use Rattle.run.specs.program.Problem.{squeezed_as, problem_in, undamped_at, undamped_between, undamped_of, scalings_of}
use Rattle.run.specs.program.Problem.{damped_entry, damped_by, damped_from, gradient_in, gradient_at}
use Rattle.run.specs.Rows.{Rows, rows_in, constraint_set, sum_set, constraints_of, evaluation_of, value_at, slope_at}
use Rattle.run.specs.Vectors.{vector, matrix, column, fill_to, fill_rows, chosen_of}
use Rattle.run.specs.declared.rows.RowCounts.{RowCounts}
use Rattle.run.specs.declared.rows.RowSet.{RowSet}
use Rattle.run.proofs.Concatenation.{length_both, first_of_three, second_of_three, third_of_three}
use Rattle.run.proofs.Sublists.{fill_front, fill_behind, rows_front, at_part}
use Rattle.run.proofs.VectorLaws.{length-fill_to, at_fill_in, at_fill_other, filled, at_take, length-fill_rows}
use Rattle.run.proofs.VectorLaws.{fill_rows_ext, at_fill_rows, at_rows_behind, at_rows_through, at_clear}

pub keep_turn : (moving : List Bool) (i : ℕ) {k k' : Kept} → k ≡ kept_to moving i →
    k' ≡ keep_next (get_or moving i false) k i → k' ≡ kept_to moving (i + 1)
unfolding kept_to
keep_turn moving i e h = rw (add-one, ← e) h

-- at most one more
count_next : (b : Bool) (k : Kept) (i : ℕ) → (keep_next b k i).count ≤ k.count + 1
count_next true k i = omega arith
count_next false k i = omega arith

pub count_more : (b : Bool) (k : Kept) (i : ℕ) {k' : Kept} → k' ≡ keep_next b k i → k'.count ≤ k.count + 1
count_more b k i e = rw e (count_next b k i)

-- how many, and which: none beyond those passed
kept_count : (moving : List Bool) (n : ℕ) → (kept_to moving n).count ≤ n
unfolding kept_to
kept_count moving zero = omega arith
kept_count moving (suc n) = omega (arith, kept_count moving n, count_next (get_or moving n false) (kept_to moving n) n)

set_below : (b : ℕ) (l : List ℕ) (i a j : ℕ) → ((k : ℕ) → get_or l k 0 ≤ b) → a ≤ b → get_or (set l i a) j 0 ≤ b
set_below b [] i a j h ha = h j
set_below b (x ∷ l) zero a zero h ha = ha
set_below b (x ∷ l) zero a (suc j) h ha = h (suc j)
set_below b (x ∷ l) (suc i) a zero h ha = h zero
set_below b (x ∷ l) (suc i) a (suc j) h ha = set_below b l i a j (λ k. h (suc k)) ha

next_below : (b : Bool) (n : ℕ) (k : Kept) → ((p : ℕ) → get_or k.index p 0 ≤ n) → (p : ℕ) →
    get_or (keep_next b k n).index p 0 ≤ suc n
next_below true n k h p = set_below (suc n) k.index k.count n p (λ j. omega (arith, h j)) (omega arith)
next_below false n k h p = omega (arith, h p)

zeros_below : (n p : ℕ) → get_or (replicate n 0) p 0 ≤ 0
zeros_below zero p = omega arith
zeros_below (suc n) zero = omega arith
zeros_below (suc n) (suc p) = zeros_below n p

kept_below : (moving : List Bool) (n p : ℕ) → get_or (kept_to moving n).index p 0 ≤ n
unfolding kept_to
kept_below moving zero p = zeros_below 12 p
kept_below moving (suc n) p = next_below (get_or moving n false) n (kept_to moving n) (kept_below moving n) p

module _ {k : Kept} (moving : List Bool) (n : ℕ) (e : k ≡ kept_to moving n) where
  pub kept_few : k.count ≤ n
  kept_few = rw e (kept_count moving n)

  pub kept_near : n ≤ 12 → (p : ℕ) → get_or k.index p 0 < 65536
  kept_near h p = rw e (omega (arith, h, kept_below moving n p))

-- an entry of B, read along its column
pub curvature-along : (n : ℕ) (b : List Float) (i j : ℕ) → along b j n i ≡ curvature_at n b i j
unfolding along
curvature-along n b i j = let e : j + i * n ≡ i * n + j = omega arith in rw e

-- an entry that is not damped, and one of H, from what each call gives
module _ (jr : List Float) (s : ℕ) (b : Scalar) (i j : ℕ) {v : Scalar}
    (ev : v ≡ plus_to (column jr i) (column jr j) b s) where
  pub undamped_on : i ≡ j → v ≡ undamped_at jr s b i j
  unfolding undamped_at
  undamped_on h = rw (ev, eq-eqb _ _ h)

  pub undamped_off : {r : Scalar} → i ≢ j → r ≡ choose_of v → r ≡ undamped_at jr s b i j
  unfolding undamped_at
  undamped_off h er = rw (er, ev, ne_eqb _ _ h)

module _ (v d mu : Scalar) (i j : ℕ) where
  pub damped_on : {p w r : Scalar} → i ≡ j → p ≡ mul_of mu d → w ≡ add_of v p → r ≡ choose_of w →
      r ≡ damped_entry v d mu i j
  unfolding damped_entry
  damped_on h ep ew er = rw (er, ew, ep, eq-eqb _ _ h)

  pub damped_off : i ≢ j → v ≡ damped_entry v d mu i j
  unfolding damped_entry
  damped_off h = rw (ne_eqb _ _ h)

-- damped after or at once: the same entry
either : (diagonal : Bool) (v d mu : Scalar) →
    pick diagonal (choose_of (add_of (pick diagonal v (choose_of v)) (mul_of mu d))) (pick diagonal v (choose_of v))
    ≡ choose_of (pick diagonal (add_of v (mul_of mu d)) v)
either true v d mu = refl
either false v d mu = refl

entry_damped : (jr : List Float) (s : ℕ) (jc : List Float) (m : ℕ) (mu b : Scalar) (i j : ℕ) →
    damped_entry (undamped_at jr s b i j) (scaling_at jr s jc m i) mu i j ≡ damped_at jr s jc m mu b i j
unfolding damped_entry undamped_at damped_at
entry_damped jr s jc m mu b i j = either (eqb i j) (plus_to (column jr i) (column jr j) b s) (scaling_at jr s jc m i) mu

-- what is undamped, filled part by part
filled_is : (u : ℕ → ℕ → Scalar) (d g : ℕ → Scalar) (k : ℕ) → k ≤ 12 →
    fill_to (fill_to (fill_rows (zeros 336) u k k) 144 d k) 156 g k
    ≡ fill_rows matrix u k k ++ (fill_to vector 0 d k ++ fill_to vector 0 g k)
filled_is u d g k h =
    let us : List Float = fill_rows matrix u k k in
    let ds : List Float = fill_to vector 0 d k in
    let lu : length us ≡ 288 = length-fill_rows matrix u k k in
    let ld : length ds ≡ 24 = length-fill_to vector 0 d k in
    let lv : length vector ≡ 24 = refl in
    let lm : length matrix ≡ 288 = refl in
    let lz : length (zeros 48) ≡ 48 = refl in
    let z : zeros 336 ≡ matrix ++ zeros 48 = sym (replicate-append-replicate 288 48 zero64) in
    let y : zeros 48 ≡ vector ++ vector = sym (replicate-append-replicate 24 24 zero64) in
    let e₁ : fill_rows (zeros 336) u k k ≡ us ++ zeros 48 =
    ap (λ (x : List Float). fill_rows x u k k) z ∙ rows_front matrix (zeros 48) u k k h (omega (arith, lm, h)) in
    let e₂ : fill_to (zeros 48) 0 d k ≡ ds ++ vector =
    ap (λ (x : List Float). fill_to x 0 d k) y ∙ fill_front vector vector 0 d k (omega (arith, lv, h)) in
    let e₃ : fill_to (fill_rows (zeros 336) u k k) 144 d k ≡ (us ++ ds) ++ vector =
    ap (λ (x : List Float). fill_to x 144 d k) e₁
    ∙ fill_behind us (zeros 48) 144 d k lu (omega (arith, lz, h))
    ∙ ap (λ (x : List Float). us ++ x) e₂
    ∙ sym (append_assoc us ds vector) in
    ap (λ (x : List Float). fill_to x 156 g k) e₃
    ∙ fill_behind (us ++ ds) vector 156 g k (length_both us ds lu ld) (omega (arith, lv, h))
    ∙ append_assoc us ds (fill_to vector 0 g k)

pub undamped_filled : (n : ℕ) (k : Kept) (jr : List Float) (s : ℕ) (jc : List Float) (m : ℕ) (b : List Float) (e : Rows)
    {u₁ u₂ u₃ : List Float} → k.count ≤ 12 →
    u₁ ≡ fill_rows (zeros 336) (undamped_between n k.index jr s b) k.count k.count →
    u₂ ≡ fill_to u₁ 144 (scaling_at jr s jc m) k.count → u₃ ≡ fill_to u₂ 156 (gradient_at k e) k.count →
    u₃ ≡ undamped_of n k jr s b ++ (scalings_of k.count jr s jc m ++ gradient_of k e)
unfolding undamped_of scalings_of gradient_of
undamped_filled n k jr s jc m b e h e₁ e₂ e₃ =
    e₃
    ∙ ap (λ (x : List Float). fill_to x 156 (gradient_at k e) k.count)
    (e₂ ∙ ap (λ (x : List Float). fill_to x 144 (scaling_at jr s jc m) k.count) e₁)
    ∙ filled_is _ (scaling_at jr s jc m) (gradient_at k e) k.count h

-- H, read from what is undamped
pub damped_read : (k : ℕ) (undamped : List Float) (mu : Scalar) → k ≤ 12 → 336 ≤ length undamped →
    fill_rows matrix (λ i j. damped_entry (at undamped (12 * i + j)) (at undamped (144 + i)) mu i j) k k
    ≡ damped_from k undamped mu
unfolding damped_by
damped_read k undamped mu h l =
    fill_rows_ext matrix (λ i j. damped_entry (at undamped (12 * i + j)) (at undamped (144 + i)) mu i j)
    (λ i j. damped_entry (at (take 288 undamped) (12 * i + j)) (at (take 24 (drop 288 undamped)) i) mu i j) k k
    (λ i j hi hj.
    rw (
      at_take undamped 144 (12 * i + j) (omega arith) (omega (arith, l)),
      at_part undamped 144 12 i (omega arith) (omega (arith, l)),
    ))

module _ (n : ℕ) (k : Kept) (jr : List Float) (s : ℕ) (jc : List Float) (m : ℕ) (b : List Float) where
  -- what is filled before it is damped
  abbrev before : ℕ → ℕ → Scalar
  before i j = undamped_between n k.index jr s b i j

  damped_is : (mu : Scalar) → k.count ≤ 12 →
      damped_by k.count (undamped_of n k jr s b) (scalings_of k.count jr s jc m) mu ≡ damped_of n k jr s jc m b mu
  unfolding damped_by undamped_of scalings_of damped_of
  damped_is mu h =
      let r : ℕ = k.count in
      let lm : length matrix ≡ 288 = refl in
      let lv : length vector ≡ 24 = refl in
      let ds : List Float = fill_to vector 0 (scaling_at jr s jc m) r in
      fill_rows_ext matrix
      (λ i j. damped_entry (at (fill_rows matrix before r r) (12 * i + j)) (at ds i) mu i j)
      (λ i j. damped_at jr s jc m mu (curvature_at n b (variable k i) (variable k j)) i j) r r
      (λ i j hi hj.
      let z : 0 + i ≡ i = omega arith in
      let e : at ds i ≡ scaling_at jr s jc m i =
      rw z at (at_fill_in vector 0 (scaling_at jr s jc m) r i hi (omega (arith, lv, h))) in
      rw (at_fill_rows matrix before r r i j h hi hj (omega (arith, lm, h)), e)
      (entry_damped jr s jc m mu (curvature_at n b (variable k i) (variable k j)) i j))

  length_undamped : length (undamped_of n k jr s b) ≡ 288
  unfolding undamped_of
  length_undamped = length-fill_rows matrix before k.count k.count

  length_scalings : length (scalings_of k.count jr s jc m) ≡ 24
  unfolding scalings_of
  length_scalings = length-fill_to vector 0 (scaling_at jr s jc m) k.count

  module _ (e : Rows) where
    length_gradient : length (gradient_of k e) ≡ 24
    unfolding gradient_of
    length_gradient = length-fill_to vector 0 _ k.count

    -- each part, as it is read
    module _ {undamped : List Float}
        (ec : undamped ≡ undamped_of n k jr s b ++ (scalings_of k.count jr s jc m ++ gradient_of k e)) where
      pub undamped_damped : (mu : Scalar) → k.count ≤ 12 →
          damped_from k.count undamped mu ≡ damped_of n k jr s jc m b mu
      undamped_damped mu h =
          let u : List Float = undamped_of n k jr s b in
          let d : List Float = scalings_of k.count jr s jc m in
          let g : List Float = gradient_of k e in
          rw (
            first_of_three undamped u d g length_undamped length_scalings length_gradient ec,
            second_of_three undamped u d g length_undamped length_scalings length_gradient ec,
          )
          (damped_is mu h)

      pub undamped_gradient : gradient_in undamped ≡ gradient_of k e
      undamped_gradient =
          third_of_three undamped (undamped_of n k jr s b) (scalings_of k.count jr s jc m) (gradient_of k e)
          length_undamped length_scalings length_gradient ec

-- ---- slopes chosen as they are read

choose_zero : choose_of zero_s ≡ zero_s
unfolding choose_of le lt eq
choose_zero = refl

-- rows of choices are the choices of the rows: the places between and behind the rows hold zero, of which zero is
-- chosen
rows_chosen : (n : ℕ) (f : ℕ → ℕ → Scalar) (k r : ℕ) → k ≤ 12 → 12 * r ≤ n →
    fill_rows (zeros (2 * n)) (λ i p. choose_of (f i p)) k r
    ≡ chosen_of (zeros (2 * n)) (fill_rows (zeros (2 * n)) f k r) 0 (12 * r)
rows_chosen n f k r hk hr =
    let clear = zeros (2 * n) in
    let l : length clear ≡ 2 * n = length-replicate (2 * n) zero64 in
    let choices : ℕ → Scalar = λ i. choose_of (at (fill_rows clear f k r) (0 + i)) in
    ext_at n _ (chosen_of clear (fill_rows clear f k r) 0 (12 * r)) (length-fill_rows clear _ k r ∙ l)
    (length-fill_to clear 0 choices (12 * r) ∙ l)
    (λ i h.
    let e : 0 + i ≡ i = omega arith in
    let z : at clear i ≡ zero_s = at_clear (2 * n) i (omega arith) in
    ⊎_elim
    (λ b. at_rows_behind clear _ k r i hk b ∙ sym (at_fill_other clear 0 choices (12 * r) i (λ j m q. omega arith)))
    (λ b.
    at_rows_through choose_of i clear f k r (omega (arith, l)) (z ∙ sym (ap choose_of z ∙ choose_zero))
    ∙ sym (filled clear choices (12 * r) (omega (arith, l)) i b ∙ ap (λ j. choose_of (at (fill_rows clear f k r) j)) e))
    (le_or_lt (12 * r) i))

pub squeezed_plain : (k : Kept) (e : Rows) (clear : List Float) → squeezed_as false k e clear ≡ squeezed_of k e clear
unfolding squeezed_as squeezed_of
squeezed_plain k e clear = refl

pub squeezed_chosen : (k : Kept) (e : Rows) {jr₀ jr : List Float} → k.count ≤ 12 → e.count ≤ 24 → jr₀ ≡ zeros 576 →
    jr ≡ squeezed_as true k e jr₀ → jr ≡ chosen_of (zeros 576) (squeezed_of k e (zeros 576)) 0 (12 * e.count)
unfolding squeezed_as squeezed_of
squeezed_chosen k e hk he ej₀ ej =
    ej ∙ ap (λ (x : List Float). squeezed_as true k e x) ej₀
    ∙ rows_chosen 288 (λ i p. slope_at e i (variable k p)) k.count e.count hk (omega arith)

-- ---- the whole problem, from what each call gives

pub problem_is : (c : RowCounts) (k : Kept) (xs b : List Float) (mu : Scalar) {e h : RowSet}
    {wide₀ jc₀ wide jc jr hessian g : List Float}
    → e ≡ sum_set c → h ≡ constraint_set c → wide₀ ≡ matrix → jc₀ ≡ matrix
    → wide ≡ squeezed_of k (rows_in xs h) wide₀ → jc ≡ chosen_of jc₀ wide 0 (12 * h.count)
    → jr ≡ chosen_of (zeros 576) (squeezed_of k (rows_in xs e) (zeros 576)) 0 (12 * e.count)
    → hessian ≡ damped_of c.n k jr e.count jc c.m b mu → g ≡ gradient_of k (rows_in xs e)
    → problem_in k.count c.m (value_at (constraints_of c xs)) wide jc hessian g
    ≡ problem_of c.n k (evaluation_of c xs) b mu
unfolding problem_of
problem_is c k xs b mu ee ec ew₀ ej₀ ew ej er eh eg = rw (eg, eh, er, ej, ew, ej₀, ew₀, ec, ee)
