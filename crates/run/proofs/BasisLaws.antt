-- The basis row by row: each step from what the calls give, never more vectors than rows, and what is read of a problem
-- and of a basis.
use Rattle.std.specs.Prelude.{Err, Ok, Result}
use Prim.Native.Nat.{ℕ, zero, suc, ◌+◌, ◌*◌, ◌-◌, ◌/◌, ◌%◌, ◌<◌, ◌≤◌}
use mathlib.Core.Bool.{Bool, true, false}
use mathlib.Core.Path.{◌≡◌, refl, sym, ap, ◌∙◌}
use mathlib.Core.List.{List, []}
use native.Mathlib.Nat.{lt-suc_self}
use native.Mathlib.Numerals.{add-one}
use native.Mathlib.Omega.{arith}
use lib.Ieee.{Float}
use lib.ListN.{length, take, drop, set, replicate, length-drop, length-replicate, replicate-append-replicate}
use lib.Seq.{take_at}
use Rattle.interval.specs.declared.Scalar.{Scalar}
use Rattle.interval.specs.Result.{Res, ok, refused}
use Rattle.interval.specs.Scalar.{zero_s, pick, neg_of, div_of, sqrt_of, sharpen, definitely_greater}
use Rattle.interval.proofs.Results.{ok_inj, refused_ok}
use Rattle.linear.specs.LinearResult.{number_of, result_of, done_of}
use Rattle.linear.specs.Choose.{choose_of, sharp_of}
use Rattle.linear.specs.Dot.{dot_to, minus_to}
use Rattle.linear.specs.Flat.{at, along, put, list_to}
use Rattle.linear.specs.Householder.{least_squares_of}
use Rattle.linear.specs.Norm.{norm_of}
use Rattle.linear.specs.Results.{bind, fold_r}
use Rattle.linear.specs.Substitution.{store_r}
use Rattle.linear.specs.declared.results.LinearError.{LinearError}
use Rattle.linear.proofs.Agree.{norm_of-ext, minus_to-ext, dot_to-ext}
use Rattle.linear.proofs.Folds.{turn, ends, bind_value, bind_ok, bind_refused}
use Rattle.linear.proofs.Sums.{along_start, minus_to-commutes}
use Rattle.run.specs.Problem.{Problem}
use Rattle.run.specs.Basis.{Basis, Taken, no_rows, coefficients_in, outside_at, part_out, parts_out}
use Rattle.run.specs.Basis.{gram_step, gram_row, extended, with_dependent, row_step, basis_of, order_at}
use Rattle.run.specs.Basis.{coefficient_at, correction_of, multiplier_step, multipliers_of}
use Rattle.run.specs.program.Basis.{basis_by, taken_by, problem_by, row_problem, measured_by, ranked_of, without_gram}
use Rattle.run.specs.Vectors.{vector, row, column, entry, fill_to, minus_scaled, unit_at, combined_to, spread_to}
use Rattle.run.proofs.Sublists.{at_behind, along_behind, along_take}
use Rattle.run.proofs.VectorLaws.{at_take, fill_ext}

pub part_turn : (k r : ℕ) (q : List Float) (z : Taken) (j : ℕ) {s t : Taken} → s ≡ parts_out k r q z j
    → t ≡ part_out k r q s j → t ≡ parts_out k r q z (j + 1)
unfolding parts_out
part_turn k r q z j es et = rw (add-one, ← es) et

-- one part, from what each call gives
pub part_is : (k r : ℕ) (q v c : List Float) (j : ℕ) {d a : Scalar} {v' c' : List Float}
    → d ≡ dot_to (along v 0 1) (row q j) k → a ≡ choose_of d → v' ≡ minus_scaled v 0 a q (12 * j) k
    → c' ≡ put c (12 * r + j) a
    → taken_by v' c' ≡ part_out k r q (taken_by v c) j
part_is k r q v c j ed ea ev ec = rw (ec, ev, ea, ed, along_start)

-- ---- the first scalars of a list that is longer

-- a list with one value throughout
pub take_replicate : {A : Type 0} (r n : ℕ) (v : A) → r ≤ n → take r (replicate n v) ≡ replicate r v
take_replicate r n v h =
    let m : r + (n - r) ≡ n = omega arith in
    ap (λ k. take r (replicate k v)) (sym m) ∙ ap (take r) (sym (replicate-append-replicate r (n - r) v))
    ∙ take_at (replicate r v) (replicate (n - r) v) r (length-replicate r v)

-- what is left of a row reads only the first coefficients
-- an entry of what is left of a row, from products with their factors exchanged
pub outside_exchanged : (wide q a : List Float) (i p r : ℕ) {y s : Scalar} → y ≡ entry wide i p →
    s ≡ minus_to (column q p) (along a 0 1) y r → s ≡ minus_to (at a) (column q p) (entry wide i p) r
outside_exchanged wide q a i p r ey es =
    (rw (along_start, ey) at es) ∙ minus_to-commutes (column q p) (at a) (entry wide i p) r

pub left_take : (k r i : ℕ) (wide q a : List Float) → 2 * r ≤ length a
    → norm_of (λ p. minus_to (at a) (column q p) (entry wide i p) r) k
    ≡ norm_of (λ p. minus_to (at (take (2 * r) a)) (column q p) (entry wide i p) r) k
left_take k r i wide q a h =
    norm_of-ext _ _ k (λ p _. minus_to-ext _ _ _ _ _ r (λ j l. sym (at_take a r j l h)) (λ j _. refl))

-- ---- an independent row, from what each call gives

done_bind : {A B : Type 0} (d : Result (Unit {0}) LinearError) (x : A) (f : A → B)
    → done_of d (f x) ≡ bind (done_of d x) (λ y. ok (f y))
unfolding bind
done_bind (Ok _) x f = refl
done_bind (Err e) x f = refl

module _ (k r i : ℕ) (jc q gram c w : List Float) (o : List ℕ) (v v' c' : List Float) (a : Result Scalar LinearError)
    (ev : v ≡ fill_to vector 0 (row jc i) k) (et : taken_by v' c' ≡ parts_out k r q (taken_by v c) r)
    (el : result_of a ≡ norm_of (at v') k) where
  -- the steps after the parts are out
  abbrev vector_of : Scalar → List Float
  vector_of l = fill_to q (12 * r) (unit_at (along v' 0 1) (sharpen l)) k

  abbrev grown : Scalar → Res Basis
  grown l =
      bind (gram_row k r (vector_of l) gram)
      (λ g. ok (basis_by (r + 1) (vector_of l) g (put c' (12 * r + r) (sharpen l)) w (set o r i)))

  steps : extended (row_problem k [] jc) (basis_by r q gram c w o) i ≡ bind (result_of a) grown
  unfolding extended
  steps = rw (el, ← ev, ← et)

  pub new_refused : {e : LinearError} → a ≡ Err e
      → refused (number_of e) ≡ extended (row_problem k [] jc) (basis_by r q gram c w o) i
  unfolding bind
  new_refused ea = sym (rw ea at steps)

  pub new_added : {l l' : Scalar} {q' c'' : List Float} (gram' : List Float) (d : Result (Unit {0}) LinearError)
      → a ≡ Ok l
      → l' ≡ sharpen l → q' ≡ fill_to q (12 * r) (unit_at (along v' 0 1) l') k → c'' ≡ put c' (12 * r + r) l'
      → done_of d gram' ≡ gram_row k r q' gram
      → done_of d (basis_by (r + 1) q' gram' c'' w (set o r i))
      ≡ extended (row_problem k [] jc) (basis_by r q gram c w o) i
  unfolding bind
  new_added {l} {l'} {q'} {c''} gram' d ea es eq ec eg =
      let h : extended (row_problem k [] jc) (basis_by r q gram c w o) i ≡ grown l = rw ea at steps in
      let g : grown l ≡ bind (done_of d gram') (λ g. ok (basis_by (r + 1) q' g c'' w (set o r i))) =
      rw (ec, eg, eq, es) in
      done_bind d gram' (λ g. basis_by (r + 1) q' g c'' w (set o r i)) ∙ sym g ∙ sym h

-- the Gram factor's newest row, from what each call gives
module _ (k r : ℕ) (q gram gram' : List Float) (d : Result (Unit {0}) LinearError)
    (eg : done_of d gram' ≡ fold_r (gram_step k r q) gram r) where
  pub gram_on : {z s : Scalar} {y : Res Scalar} {x : Res (List Float)}
      → d ≡ Ok tt → z ≡ dot_to (row q r) (row q r) k → s ≡ minus_to (row gram' r) (row gram' r) z r
      → y ≡ sqrt_of s → x ≡ store_r gram' (12 * r + r) y → x ≡ gram_row k r q gram
  unfolding gram_row
  gram_on ed ez es ey ex = (rw (ey, es, ez) at ex) ∙ sym (bind_ok _ (sym (rw ed at eg)))

  pub gram_refused : {e : LinearError} → d ≡ Err e → refused (number_of e) ≡ gram_row k r q gram
  unfolding gram_row
  gram_refused ed = sym (bind_refused _ (sym (rw ed at eg)))

-- ---- one row, from what each call gives

module _ (k r i : ℕ) (wide jc q gram c w : List Float) (o : List ℕ) (x : Result Scalar LinearError) (a : List Float)
    (measured
    : (f : List Float → Scalar → Res Basis)
    → bind (result_of x) (f a) ≡ measured_by (row_problem k wide []) (basis_by r q gram [] [] []) i f) where
  abbrev before : Basis
  before = basis_by r q gram c w o

  abbrev decided : List Float → Scalar → Res Basis
  decided a l =
      pick (definitely_greater l zero_s) (extended (row_problem k wide jc) before i) (ok (with_dependent before i a))

  row_is : row_step (row_problem k wide jc) before i ≡ bind (result_of x) (decided a)
  unfolding row_step coefficients_in
  row_is = sym (measured decided)

  pub row_refused : {e : LinearError} → x ≡ Err e
      → refused (number_of e) ≡ row_step (row_problem k wide jc) before i
  unfolding bind
  row_refused e = sym (rw e at row_is)

  pub row_new : {l : Scalar} {s : Bool} {b : Res Basis} → x ≡ Ok l → s ≡ definitely_greater l zero_s
      → s ≡ true → b ≡ extended (row_problem k [] jc) before i → b ≡ row_step (row_problem k wide jc) before i
  unfolding bind extended
  row_new {l} e es et eb =
      let h : row_step (row_problem k wide jc) before i ≡ decided a l = rw e at row_is in
      let t : definitely_greater l zero_s ≡ true = sym es ∙ et in
      let p : decided a l ≡ extended (row_problem k wide jc) before i = rw t in
      eb ∙ sym (h ∙ p)

  pub row_dependent : {l : Scalar} {s : Bool} {w' : List Float} (y : List Float) → a ≡ take (2 * r) y
      → 2 * r ≤ length y → x ≡ Ok l → s ≡ definitely_greater l zero_s → s ≡ false
      → w' ≡ fill_to w (12 * (i - r)) (λ j. choose_of (at y j)) r
      → ok (basis_by r q gram c w' (set o (12 + (i - r)) i)) ≡ row_step (row_problem k wide jc) before i
  unfolding bind
  row_dependent {l} y ea ly e es et ew =
      let f =
      fill_ext w (12 * (i - r)) (λ j. choose_of (at y j)) (λ j. choose_of (at a j)) r
      (λ j h. ap choose_of (sym (ap (λ (z : List Float). at z j) ea ∙ at_take y r j h ly))) in
      let h : row_step (row_problem k wide jc) before i ≡ decided a l = rw e at row_is in
      let t : definitely_greater l zero_s ≡ false = sym es ∙ et in
      let p : decided a l ≡ ok (with_dependent before i a) = rw t in
      ap (λ (z : List Float). ok (basis_by r q gram c z (set o (12 + (i - r)) i))) (ew ∙ f) ∙ sym (h ∙ p)

-- ---- never more vectors than rows

rank_extended : (P : Problem) (b : Basis) (i : ℕ) {b' : Basis} → extended P b i ≡ ok b' → b'.rank ≡ b.rank + 1
unfolding extended
rank_extended P b i e =
    let r = b.rank in
    let t = parts_out P.k r b.q (taken_by (fill_to vector 0 (row P.jc i) P.k) b.coefficients) r in
    let newest : Scalar → List Float = λ l. fill_to b.q (12 * r) (unit_at (along t.v 0 1) (sharpen l)) P.k in
    let added : Scalar → List Float → Res Basis =
    λ l g. ok
    (basis_by (r + 1) (newest l) g (put t.coefficients (12 * r + r) (sharpen l)) b.dependent
    (set b.order r i)) in
    let (l, _, e₁) =
    bind_value (norm_of (at t.v) P.k) (λ l. bind (gram_row P.k r (newest l) b.gram) (added l)) e in
    let (g, _, e₂) = bind_value (gram_row P.k r (newest l) b.gram) (added l) e₁ in
    sym (ap (λ (b : Basis). b.rank) (ok_inj e₂))

rank_decided : (s : Bool) (b : Basis) {x : Res Basis} (y : Basis) {b' : Basis}
    → ((b'' : Basis) → x ≡ ok b'' → b''.rank ≡ b.rank + 1) → y.rank ≡ b.rank → pick s x (ok y) ≡ ok b'
    → b'.rank ≤ b.rank + 1
rank_decided true b y {b'} h hy e = omega (arith, h b' e)
rank_decided false b y h hy e = let q = ap (λ (b : Basis). b.rank) (ok_inj e) in omega (arith, q, hy)

pub rank_more : (P : Problem) (b : Basis) (i : ℕ) {b' : Basis} → row_step P b i ≡ ok b' → b'.rank ≤ b.rank + 1
unfolding row_step
rank_more P b i e =
    let next : List Float → Scalar → Res Basis =
    λ a l. pick (definitely_greater l zero_s) (extended P b i) (ok (with_dependent b i a)) in
    let (a, _, e₁) = bind_value (coefficients_in P b i) (λ a. bind (norm_of (outside_at P b i a) P.k) (next a)) e in
    let (l, _, e₂) = bind_value (norm_of (outside_at P b i a) P.k) (next a) e₁ in
    rank_decided (definitely_greater l zero_s) b (with_dependent b i a) (λ b'' h. rank_extended P b i h) refl e₂

pub rank_few : (P : Problem) (n : ℕ) {b : Basis} → fold_r (row_step P) no_rows n ≡ ok b → b.rank ≤ n
unfolding fold_r
rank_few P zero e = let q = ap (λ (b : Basis). b.rank) (ok_inj e) in omega (arith, q)
rank_few P (suc n) e =
    let (s, e₁, e₂) = bind_value (fold_r (row_step P) no_rows n) (λ s. row_step P s n) e in
    omega (arith, rank_few P n e₁, rank_more P s n e₂)

-- of the whole basis
rank_read : (n : ℕ) (x : Res Basis) {b : Basis}
    → ((b' : Basis) → x ≡ ok b' → b'.rank ≤ n) → ok b ≡ without_gram x → b.rank ≤ n
rank_read n (ok b') {b} h e =
    let r : b.rank ≡ b'.rank = ap (λ (b : Basis). b.rank) (ok_inj e) in omega (arith, r, h b' refl)
rank_read n (refused e) h q = absurd (refused_ok (sym q))

pub rank_bound : (P : Problem) {b : Basis} → ok b ≡ without_gram (basis_of P) → b.rank ≤ P.m
unfolding basis_of
rank_bound P e = rank_read P.m (basis_of P) (λ _ h. rank_few P P.m h) e

-- ---- what is read of a problem and of a basis

pub row_reads : (P : Problem) (b : Basis) (i : ℕ) → row_step (row_problem P.k P.wide P.jc) b i ≡ row_step P b i
unfolding row_step coefficients_in extended
row_reads P b i = refl

pub basis_reads : (P : Problem) → basis_of (problem_by P.k P.m (λ _. zero_s) P.wide P.jc) ≡ basis_of P
unfolding basis_of row_step coefficients_in extended
basis_reads P = refl

-- one row more, or its refusal, from what the call gives
module _ (P : Problem) (b : Basis) (i : ℕ) (q gram c w : List Float) (o : List ℕ) (x : Result ℕ LinearError)
    (passed : fold_r (row_step P) no_rows i ≡ ok b)
    (step : ranked_of x q gram c w o ≡ row_step (row_problem P.k P.wide P.jc) b i) where
  step_is : ranked_of x q gram c w o ≡ row_step P b i
  step_is = step ∙ row_reads P b i

  pub rank_next : {s : ℕ} → x ≡ Ok s → s ≤ b.rank + 1
  rank_next e = rank_more P b i (sym (rw e at step_is))

  pub rows_next : {s : ℕ} → x ≡ Ok s → fold_r (row_step P) no_rows (i + 1) ≡ ok (basis_by s q gram c w o)
  rows_next e = turn (row_step P) no_rows i passed ∙ sym (rw e at step_is)

  pub rows_refused : {r : LinearError} → i < P.m → x ≡ Err r
      → refused (number_of r) ≡ without_gram (basis_of P)
  unfolding basis_of
  rows_refused h e = ap without_gram (sym (ends (row_step P) no_rows h passed (sym (rw e at step_is))))

-- the correction, or its refusal, from what each call gives
module _ (k m r : ℕ) (c : ℕ → Scalar) (q coefficients dependent : List Float) (order : List ℕ)
    {rows rhs : List Float} (y : List Float) (d : Result (Unit {0}) LinearError)
    (erows : rows ≡ list_to (λ p. coefficient_at (basis_by r [] [] coefficients dependent []) (p / r) (p % r)) (m * r))
    (erhs : rhs ≡ list_to (λ t. neg_of (choose_of (c (order_at (basis_by r [] [] [] [] order) t)))) m)
    (ey : done_of d y ≡ least_squares_of m r rows rhs) where
  solved_is : correction_of (problem_by k m c [] []) (basis_by r q [] coefficients dependent order)
      ≡ bind (done_of d y) (λ y. ok (combined_to k (sharp_of y r) q vector r))
  unfolding correction_of
  solved_is = rw (ey, erows, erhs)

  pub correction_is : {delta : List Float} → delta ≡ combined_to k (sharp_of y r) q vector r
      → done_of d delta ≡ correction_of (problem_by k m c [] []) (basis_by r q [] coefficients dependent order)
  correction_is e = ap (done_of d) e ∙ done_bind d y (λ y. combined_to k (sharp_of y r) q vector r) ∙ sym solved_is

pub correction_reads : (P : Problem) (b : Basis)
    → correction_of (problem_by P.k P.m P.c [] [])
    (basis_by b.rank b.q [] b.coefficients b.dependent b.order) ≡ correction_of P b
unfolding correction_of
correction_reads P b = refl

pub multipliers_reads : (k : ℕ) (b : Basis) (pull : List Float)
    → multipliers_of k (basis_by b.rank b.q [] b.coefficients [] b.order) pull ≡ multipliers_of k b pull
unfolding multipliers_of multiplier_step
multipliers_reads k b pull = refl

-- the multipliers, once the fold over the vectors ended
pub multipliers_is : (k : ℕ) (b : Basis) (pull : List Float) (byRow : List Float) (d : Result (Unit {0}) LinearError)
    {lambda : List Float}
    → done_of d byRow ≡ fold_r (multiplier_step k b pull) vector b.rank
    → lambda ≡ spread_to b.order byRow b.rank → done_of d lambda ≡ multipliers_of k b pull
unfolding multipliers_of
multipliers_is k b pull byRow d e el =
    ap (done_of d) el ∙ done_bind d byRow (λ x. spread_to b.order x b.rank)
    ∙ ap (λ x. bind x (λ y. ok (spread_to b.order y b.rank))) e

-- ---- the coefficients behind Q

-- one multiplier, from what each call gives
pub multiplier_is : (k r : ℕ) (q pull byRow : List Float) (u : ℕ) {z s d : Scalar} {y : Res Scalar}
    {x : Res (List Float)}
    → let t = r - 1 - u in
    z ≡ dot_to (row q t) (along pull 0 1) k
    → s ≡ minus_to (along q (144 + 13 * t + 12) 12) (along byRow (t + 1) 1) z u → d ≡ at q (144 + 13 * t)
    → y ≡ div_of s d → x ≡ bind y (λ v. ok (put byRow t (choose_of v)))
    → x ≡ multiplier_step k (basis_by r q [] (drop 288 q) [] []) pull byRow u
unfolding multiplier_step
multiplier_is k r q pull byRow u {z = z} ez es ed ey ex =
    let t = r - 1 - u in
    let a : along (drop 288 q) (12 * (t + 1) + t) 12 ≡ along q (144 + 13 * t + 12) 12 =
    along_behind q 144 (12 * (t + 1) + t) 12 (omega arith) in
    let e : at (drop 288 q) (12 * t + t) ≡ at q (144 + 13 * t) =
    at_behind q 144 (12 * t + t) ∙ ap (at q) (omega arith) in
    let w : z ≡ dot_to (row q t) (at pull) k = rw along_start at ez in
    rw (a, e, ← w, ← es, ← ed, ← ey) ex

bind_each : {A B : Type 0} (x : Res A) (f g : A → Res B) → ((a : A) → f a ≡ g a) → bind x f ≡ bind x g
unfolding bind
bind_each (ok a) f g h = h a
bind_each (refused e) f g h = refl

fold_each : {A : Type 0} (f g : A → ℕ → Res A) (z : A) (n : ℕ) → ((s : A) (i : ℕ) → i < n → f s i ≡ g s i)
    → fold_r f z n ≡ fold_r g z n
unfolding fold_r
fold_each f g z zero h = refl
fold_each f g z (suc n) h =
    ap (λ x. bind x (λ s. f s n)) (fold_each f g z n (λ s i l. h s i (omega arith)))
    ∙ bind_each (fold_r g z n) (λ s. f s n) (λ s. g s n) (λ s. h s n (lt-suc_self n))

module _ (k r : ℕ) (factors pull : List Float) (hk : k ≤ 12) (hr : r ≤ 12) (l : 576 ≤ length factors) where
  multiplier_part : (byRow : List Float) (u : ℕ) → u < r
      → multiplier_step k (basis_by r factors [] (drop 288 factors) [] []) pull byRow u
      ≡ multiplier_step k (basis_by r (take 288 factors) [] (take 288 (drop 288 factors)) [] []) pull byRow u
  unfolding multiplier_step
  multiplier_part byRow u h =
      let t = r - 1 - u in
      let ld : 2 * 144 ≤ length (drop 288 factors) = omega (arith, length-drop 288 factors, l) in
      let d : dot_to (row factors t) (at pull) k ≡ dot_to (row (take 288 factors) t) (at pull) k =
      sym (dot_to-ext _ _ _ _ k (along_take factors 144 (12 * t) 1 k (omega arith) (λ j hj. omega arith))
      (λ j _. refl)) in
      let m : (z : Scalar) → minus_to (along (drop 288 factors) (12 * (t + 1) + t) 12) (along byRow (t + 1) 1) z
      u ≡ minus_to (along (take 288 (drop 288 factors)) (12 * (t + 1) + t) 12) (along byRow (t + 1) 1) z u =
      λ z. sym
      (minus_to-ext _ _ _ _ z u
      (along_take (drop 288 factors) 144 (12 * (t + 1) + t) 12 u ld (λ j hj. omega arith)) (λ j _. refl)) in
      let e : at (drop 288 factors) (12 * t + t) ≡ at (take 288 (drop 288 factors)) (12 * t + t) =
      sym (at_take (drop 288 factors) 144 (12 * t + t) (omega arith) ld) in
      rw (d, m, e)

  pub multipliers_part : (order : List ℕ)
      → multipliers_of k (basis_by r factors [] (drop 288 factors) [] order) pull
      ≡ multipliers_of k (basis_by r (take 288 factors) [] (take 288 (drop 288 factors)) [] order) pull
  unfolding multipliers_of multiplier_step
  multipliers_part order =
      ap (λ x. bind x (λ byRow. ok (spread_to order byRow r)))
      (fold_each (multiplier_step k (basis_by r factors [] (drop 288 factors) [] []) pull)
      (multiplier_step k (basis_by r (take 288 factors) [] (take 288 (drop 288 factors)) [] []) pull) vector r
      multiplier_part)
