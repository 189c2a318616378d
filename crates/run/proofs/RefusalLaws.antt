-- What may be refused is refused with 5 or 6, down to the root and the division; and the lists that a step and a
-- correction give are vectors, and an update of the curvature keeps its length.
use Rattle.std.specs.Prelude.{Option}
use Prim.Native.Nat.{ℕ, zero, suc, ◌+◌, ◌-◌, ◌*◌, min}
use mathlib.Core.Bool.{Bool, true, false, not, ◌&&◌, ◌||◌}
use mathlib.Core.Path.{◌≡◌, refl, subst, ◌∙◌}
use mathlib.Core.List.{List}
use lib.Dec.{T, eqb}
use lib.Ieee.{Float, lt}
use lib.ListN.{length, get_or, replicate, length-replicate}
use Rattle.interval.specs.declared.Scalar.{Scalar}
use Rattle.interval.specs.Result.{Res, ok, refused}
use Rattle.interval.specs.Scalar.{zero64, zero_s, pick, sub_of, div_of, sqrt_of, holds_zero, definitely_greater}
use Rattle.interval.specs.Scalar.{definitely_not_equal}
use Rattle.linear.specs.Flat.{at, put, zeros}
use Rattle.linear.specs.Results.{bind, fold_r}
use Rattle.linear.specs.Dot.{dot_to}
use Rattle.linear.specs.Choose.{choose_of}
use Rattle.linear.specs.Norm.{largest_to, scaled_squares, scaled_root, norm_of}
use Rattle.linear.specs.Substitution.{store_r, forward_step, back_step, solve_of}
use Rattle.linear.specs.Cholesky.{Factor, factor_of, cholesky_of, refused_to, entry}
use Rattle.linear.specs.Householder as householder
use Rattle.linear.specs.Householder.{reflect_step, reflect_to, reflect_by, with_marks, reflect_with, householder_step}
use Rattle.linear.specs.Householder.{value_step, least_squares_of, chosen}
use Rattle.linear.specs.Solved as solved
use Rattle.linear.specs.Solved.{minus_solved_of}
use Rattle.linear.proofs.FlatLaws.{length_put}
use Rattle.run.specs.Vectors.{vector, fill_to, all_finite, any_to, chosen_of, spread_to}
use Rattle.run.specs.Rows.{Rows, Evaluation, value_at}
use Rattle.run.specs.Residuals.{violation_of, predicted_of, linearized_at, squared_of}
use Rattle.run.specs.Problem.{Problem, problem_of, Kept, kept_to}
use Rattle.run.specs.Basis.{Basis, coefficients_in, gram_step, gram_row, extended, row_step, basis_of, correction_of}
use Rattle.run.specs.Basis.{multiplier_step, multipliers_of}
use Rattle.run.specs.NullSpace.{Directions, More, more, enough, take_longest, go_on, directions_to, directions_of}
use Rattle.run.specs.Step.{Stepped, found, not_positive, stepped_by, along_z, free_step, kept_step, spread_step}
use Rattle.run.specs.Step.{step_of}
use Rattle.run.specs.Reduced.{Weights, weights, none, weights_of, pull_of}
use Rattle.run.specs.Proposal.{Standing, Trial, Proposal, no_drop, unresolved, no_change, ask, expects_of, trial_of}
use Rattle.run.specs.Proposal.{shortened_of, within_of, proposed_by, proposal_of, curvature_along}
use Rattle.run.specs.Vectors.{moved_of, same_of}
use Rattle.run.specs.Proposal as proposal
use Rattle.run.specs.Curvature.{along_of, rank_one_step, rank_one_of, corrected_by, updated_by, update_curvature}
use Rattle.run.specs.Curvature.{chosen_sum, curvature_entries, curvature_times, lagrangian_change}
use Rattle.run.specs.Judgement.{judge_of}
use Rattle.run.specs.Corrected.{Shift, to, stay, shift_of, shift_from}
use Rattle.run.specs.Area.{Memory}
use Rattle.run.specs.Area.{landed_at}
use Rattle.run.specs.Decide.{linear_of}
use Rattle.run.specs.declared.state.State.{State}
use Rattle.run.proofs.PointLaws.{length_moved}
use Rattle.run.proofs.VectorLaws.{length-fill_to}

-- a value with P, or refusal 5 or 6
pub data Yields {A : Type 0} (P : A → Type 0) : Res A → Type 0 where
  gives : {x : A} → P x → Yields P (ok x)
  refuses : {k : ℕ} → T (eqb k 5 || eqb k 6) → Yields P (refused k)

-- what is known of a value that is given
pub given : {A : Type 0} {P : A → Type 0} {x : Res A} {a : A} → x ≡ ok a → Yields P x → P a
given {A} {P} {x} {a} e y = by (subst (λ (z : Res A). Yields P z) e y)
  where
    by : Yields P (ok a) → P a
    by (gives p) = p

-- any value
abbrev pub Any : {A : Type 0} → A → Type 0
Any x = Unit

abbrev pub Long : ℕ → List Float → Type 0
Long n xs = length xs ≡ n

-- ---- how steps that may refuse are put together

pub yields_bind : {A B : Type 0} {P : A → Type 0} {Q : B → Type 0} {x : Res A} {f : A → Res B} → Yields P x
    → ((a : A) → P a → Yields Q (f a)) → Yields Q (bind x f)
unfolding bind
yields_bind (gives {x = a} p) h = h a p
yields_bind (refuses p) h = refuses p

pub yields_pick : {A : Type 0} {P : A → Type 0} {x y : Res A} (b : Bool) → Yields P x → Yields P y
    → Yields P (pick b x y)
yields_pick true p q = p
yields_pick false p q = q

pub yields_fold : {A : Type 0} {P : A → Type 0} (f : A → ℕ → Res A) (z : A) (n : ℕ) → P z
    → ((s : A) (i : ℕ) → P s → Yields P (f s i)) → Yields P (fold_r f z n)
unfolding fold_r
yields_fold f z zero p h = gives p
yields_fold f z (suc n) p h = yields_bind (yields_fold f z n p h) (λ s q. h s n q)

-- ---- linear

pub div_yields : (x y : Scalar) → Yields Any (div_of x y)
unfolding div_of
div_yields x y = yields_pick (holds_zero y) (refuses tt) (gives tt)

sqrt_yields : (x : Scalar) → Yields Any (sqrt_of x)
unfolding sqrt_of
sqrt_yields x = yields_pick (lt x.hi zero64) (refuses tt) (gives tt)

scaled_yields : (f : ℕ → Scalar) (g : Scalar) (n : ℕ) → Yields Any (scaled_squares f g n)
unfolding scaled_squares
scaled_yields f g zero = gives tt
scaled_yields f g (suc n) =
    yields_bind (scaled_yields f g n) (λ s p. yields_bind (div_yields (f n) g) (λ q r. gives tt))

norm_yields : (f : ℕ → Scalar) (n : ℕ) → Yields Any (norm_of f n)
unfolding norm_of scaled_root
norm_yields f n =
    let g = largest_to f n in
    yields_pick (definitely_greater g zero_s)
    (yields_bind (scaled_yields f g n) (λ s p. yields_bind (sqrt_yields s) (λ r q. gives tt)))
    (sqrt_yields (dot_to f f n))

-- what holds whatever is stored
store_yields : {P : List Float → Type 0} (y : List Float) (i : ℕ) {v : Res Scalar} → ((a : Scalar) → P (put y i a))
    → Yields Any v → Yields P (store_r y i v)
store_yields y i h (gives {x = v} p) = gives (h v)
store_yields y i h (refuses p) = refuses p

stored : (y : List Float) (i : ℕ) {v : Res Scalar} → Yields Any v → Yields Any (store_r y i v)
stored y i p = store_yields y i (λ a. tt) p

forward_yields : (n : ℕ) (l : List Float) (left : List Bool) (b y : List Float) (i : ℕ)
    → Yields Any (forward_step n l left b y i)
unfolding forward_step
forward_yields n l left b y i = yields_pick (get_or left i false) (gives tt) (stored y i (div_yields _ _))

back_yields : (n : ℕ) (l : List Float) (left : List Bool) (y x : List Float) (t : ℕ)
    → Yields Any (back_step n l left y x t)
unfolding back_step
back_yields n l left y x t =
    yields_pick (get_or left (n - 1 - t) false) (gives tt) (stored x (n - 1 - t) (div_yields _ _))

solve_yields : (n : ℕ) (l : List Float) (left : List Bool) (b : List Float) → Yields Any (solve_of n l left b)
unfolding solve_of
solve_yields n l left b =
    yields_bind (yields_fold {P = Any} (forward_step n l left b) (zeros (2 * n)) n tt
    (λ y i p. forward_yields n l left b y i))
    (λ y p. yields_fold (back_step n l left y) (zeros (2 * n)) n tt (λ x t q. back_yields n l left y x t))

cholesky_yields : (n : ℕ) (a : List Float) → Yields Any (cholesky_of n a)
unfolding cholesky_of
cholesky_yields n a = yields_pick (refused_to (entry n a) n) (refuses tt) (gives tt)

minus_solved_yields : (m n : ℕ) (jc rhs from : List Float) → Yields Any (minus_solved_of m n jc rhs from)
unfolding minus_solved_of solved.multipliers_of
minus_solved_yields m n jc rhs from =
    yields_bind (yields_bind (cholesky_yields m (solved.gram_of m n jc))
    (λ f p. solve_yields m f.l f.left_out rhs)) (λ k p. gives tt)

reflect_yields : (m r j : ℕ) (v cols : List Float) → Yields Any (reflect_by m r j v cols)
unfolding reflect_by reflect_to reflect_step
reflect_yields m r j v cols =
    let vv = choose_of (dot_to (at v) (at v) (m - j)) in
    yields_pick (definitely_greater vv zero_s)
    (yields_fold (λ c t. reflect_step v vv (m - j) ((j + t) * m + j) c) cols (r + 1 - j) tt
    (λ c t p. yields_bind (div_yields _ vv) (λ f q. gives tt)))
    (gives tt)

marked : (left : List Bool) {x : Res (List Float)} → Yields Any x → Yields Any (with_marks left x)
marked left (gives p) = gives tt
marked left (refuses p) = refuses p

reflected : (m r j : ℕ) (f : Factor) {x : Res Scalar} → Yields Any x → Yields Any (reflect_with m r j f x)
unfolding reflect_with
reflected m r j f (gives {x = len} p) =
    yields_pick (definitely_greater len zero_s) (marked f.left_out (reflect_yields m r j _ f.l)) (gives tt)
reflected m r j f (refuses p) = refuses p

column_yields : (m r : ℕ) (f : Factor) (j : ℕ) → Yields Any (householder_step m r f j)
unfolding householder_step
column_yields m r f j = reflected m r j f (norm_yields _ (m - j))

choosing : {x : Res Scalar} → Yields Any x → Yields Any (chosen x)
choosing (gives p) = gives tt
choosing (refuses p) = refuses p

value_yields : (m r k : ℕ) (f : Factor) (y : List Float) (t : ℕ) → Yields Any (value_step m r k f y t)
unfolding value_step
value_yields m r k f y t =
    let j = k - 1 - t in
    yields_pick (get_or f.left_out j false || not (definitely_not_equal (at f.l (j * m + j)) zero_s)) (gives tt)
    (stored y j (choosing (div_yields _ _)))

least_squares_yields : (m r : ℕ) (rows rhs : List Float) → Yields Any (least_squares_of m r rows rhs)
unfolding least_squares_of
least_squares_yields m r rows rhs =
    yields_bind (yields_fold {P = Any} (householder_step m r)
    (factor_of (householder.columns_of m r rows rhs) (replicate r false)) (min r m) tt (λ f j p. column_yields m r f j))
    (λ f p. yields_fold (value_step m r (min r m) f) (zeros (2 * r)) (min r m) tt
    (λ y t q. value_yields m r (min r m) f y t))

-- ---- a step

pub violation_yields : (e : Rows) → Yields Any (violation_of e)
unfolding violation_of
violation_yields e = norm_yields (value_at e) e.count

predicted_yields : (e : Rows) (delta : List Float) → Yields Any (predicted_of e delta)
unfolding predicted_of
predicted_yields e delta = norm_yields (linearized_at e delta e.n) e.count

coefficients_yields : (P : Problem) (b : Basis) (i : ℕ) → Yields Any (coefficients_in P b i)
unfolding coefficients_in
coefficients_yields P b i = solve_yields b.rank _ _ _

gram_yields : (k r : ℕ) (q gram : List Float) → Yields Any (gram_row k r q gram)
unfolding gram_row gram_step
gram_yields k r q gram =
    yields_bind (yields_fold {P = Any} (gram_step k r q) gram r tt (λ g j p. stored g (12 * r + j) (div_yields _ _)))
    (λ g p. stored g (12 * r + r) (sqrt_yields _))

extended_yields : (P : Problem) (b : Basis) (i : ℕ) → Yields Any (extended P b i)
unfolding extended
extended_yields P b i =
    yields_bind (norm_yields _ P.k) (λ n p. yields_bind (gram_yields P.k b.rank _ b.gram) (λ g q. gives tt))

row_yields : (P : Problem) (b : Basis) (i : ℕ) → Yields Any (row_step P b i)
unfolding row_step
row_yields P b i =
    yields_bind (coefficients_yields P b i)
    (λ a p.
    yields_bind (norm_yields _ P.k)
    (λ n q. yields_pick (definitely_greater n zero_s) (extended_yields P b i) (gives tt)))

basis_yields : (P : Problem) → Yields Any (basis_of P)
unfolding basis_of
basis_yields P = yields_fold {P = Any} (row_step P) _ P.m tt (λ b i p. row_yields P b i)

correction_yields : (P : Problem) (b : Basis) → Yields Any (correction_of P b)
unfolding correction_of
correction_yields P b = yields_bind (least_squares_yields P.m b.rank _ _) (λ y p. gives tt)

length_vector : Long 24 vector
length_vector = length-replicate 24 zero64

-- stores in any order
length_spread : (places : List ℕ) (from : List Float) (k : ℕ) → Long 24 (spread_to places from k)
unfolding spread_to
length_spread places from zero = length_vector
length_spread places from (suc k) =
    length_put (spread_to places from k) (get_or places k 0) (at from k) ∙ length_spread places from k

multipliers_yields : (k : ℕ) (b : Basis) (pull : List Float) → Yields (Long 24) (multipliers_of k b pull)
unfolding multipliers_of multiplier_step
multipliers_yields k b pull =
    yields_bind
    (yields_fold {P = Any} (multiplier_step k b pull) vector b.rank tt
    (λ y u p. yields_bind (div_yields _ _) (λ v q. gives tt)))
    (λ y p. gives (length_spread b.order y b.rank))

longest_yields : (k : ℕ) (d : Directions) → Yields Any (take_longest k d)
unfolding take_longest
longest_yields k d = yields_bind (sqrt_yields _) (λ l p. gives tt)

directions_yields : (k t : ℕ) (d : Directions) → Yields Any (directions_to k t d)
unfolding directions_to
directions_yields k zero d = gives tt
directions_yields k (suc t) d = yields_bind (longest_yields k d) (λ m p. on (λ d'. directions_yields k t d') m)
  where
    on : ((d' : Directions) → Yields Any (directions_to k t d')) → (m : More)
        → Yields Any (go_on (λ d'. directions_to k t d') d m)
    on h (more d') = h d'
    on h enough = gives tt

-- the multipliers are a vector
abbrev SteppedSized : Stepped → Type 0
SteppedSized (found s) = Long 24 s.lambda
SteppedSized not_positive = Unit

stepped_yields : (P : Problem) (b : Basis) (kept : List Float) → Yields SteppedSized (stepped_by P b kept)
unfolding stepped_by
stepped_yields P b kept =
    yields_pick (all_finite kept 12 && all_finite (pull_of P kept) 12)
    (yields_bind (multipliers_yields P.k b _) (λ l p. gives p)) (gives tt)

weights_yields : (t : ℕ) (f : Factor) (rhs : List Float) → Yields Any (weights_of t f rhs)
unfolding weights_of
weights_yields t f rhs =
    yields_pick (any_to (λ i. get_or f.left_out i false) t) (gives tt)
    (yields_bind (solve_yields t f.l f.left_out rhs) (λ w p. gives tt))

free_yields : (P : Problem) (b : Basis) (delta : List Float) (d : Directions)
    → Yields SteppedSized (free_step P b delta d)
unfolding free_step
free_yields P b delta d =
    yields_bind (cholesky_yields d.count _) (λ f p. yields_bind (weights_yields d.count f _) (λ w q. along-z w))
  where
    along-z : (w : Weights) → Yields SteppedSized (along_z P b delta d w)
    along-z (weights w) = stepped_yields P b _
    along-z none = gives tt

kept_yields : (P : Problem) → Yields SteppedSized (kept_step P)
unfolding kept_step directions_of
kept_yields P =
    yields_bind (basis_yields P)
    (λ b p.
    yields_bind (correction_yields P b)
    (λ delta q. yields_bind (directions_yields P.k (P.k - b.rank) _) (λ d r. free_yields P b delta d)))

step_yields : (n : ℕ) (e : Evaluation) (b : List Float) (moving : List Bool) (mu : Scalar)
    → Yields SteppedSized (step_of n e b moving mu)
unfolding step_of problem_of
step_yields n e b moving mu =
    let k = kept_to moving n in
    let P = problem_of n k e b mu in
    yields_pick (all_finite P.h 144) (yields_bind (kept_yields P) (λ x p. gives (spread k x p))) (gives tt)
  where
    spread : (k : Kept) (x : Stepped) → SteppedSized x → SteppedSized (spread_step k x)
    spread k (found s) p = p
    spread k not_positive p = tt

-- ---- a proposal

-- the trial's lists are vectors
pub record TrialSized (t : Trial) : Type 0 where
  pub delta_size : Long 24 t.delta
  pub lambda_size : Long 24 t.lambda
  pub next_size : Long 24 t.next

abbrev pub ProposalSized : Proposal → Type 0
ProposalSized proposal.not_positive = Unit
ProposalSized (no_drop r) = Unit
ProposalSized unresolved = Unit
ProposalSized no_change = Unit
ProposalSized (ask t) = TrialSized t

expects_yields : (S : Standing) (delta : List Float) → Yields Any (expects_of S delta)
unfolding expects_of
expects_yields S delta =
    let drop = sub_of (sub_of S.f (squared_of S.e.sum delta S.n)) (curvature_along S.n S.b delta) in
    yields_pick (definitely_greater drop zero_s) (gives tt)
    (yields_bind (predicted_yields S.e.constraints delta) (λ v p. gives tt))

trial_yields : (S : Standing) (step lambda : List Float) → Long 24 lambda
    → Yields ProposalSized (trial_of S step lambda)
unfolding trial_of
trial_yields S step lambda e =
    let delta = chosen_of vector step 0 S.n in
    let next = moved_of S.n S.x delta in
    yields_bind (predicted_yields S.e.constraints delta)
    (λ v p.
    yields_pick (same_of S.n next S.x) (gives tt)
    (yields_bind (norm_yields (at delta) S.n)
    (λ t q.
    gives {x = ask (record { delta = delta; lambda = lambda; next = next; predicted = v; tried = t })}
    (record {
      delta_size = length-fill_to vector 0 _ S.n ∙ length_vector;
      lambda_size = e;
      next_size = length_moved S.n S.x delta;
    }))))

within_yields : (S : Standing) (radius : Scalar) (delta lambda : List Float) → Long 24 lambda
    → Yields ProposalSized (within_of S radius delta lambda)
unfolding within_of shortened_of
within_yields S radius delta lambda e =
    yields_bind (norm_yields (at delta) S.n)
    (λ l p.
    yields_pick (definitely_greater l radius)
    (yields_bind (div_yields radius l)
    (λ s q. yields_bind (expects_yields S _) (λ d r. yields_pick d (trial_yields S _ lambda e) (gives tt))))
    (trial_yields S delta lambda e))

pub proposal_yields : (S : Standing) (mu radius : Scalar) → Yields ProposalSized (proposal_of S mu radius)
unfolding proposal_of
proposal_yields S mu radius = yields_bind (step_yields S.n S.e S.b S.moving mu) (λ s p. proposed s p)
  where
    proposed : (s : Stepped) → SteppedSized s → Yields ProposalSized (proposed_by S radius s)
    proposed (found s) p =
        yields_bind (expects_yields S s.delta)
        (λ d q. yields_pick d (within_yields S radius s.delta s.lambda p) (gives tt))
    proposed not_positive p = gives tt

-- ---- what follows an answer

pub judge_yields : (n : ℕ) (e e' : Evaluation) (theta : Scalar) (filter : List Float) (count : ℕ) (last : Option Scalar)
    (step : List Float) → Yields Any (judge_of n e e' theta filter count last step)
unfolding judge_of
judge_yields n e e' theta filter count last step =
    yields_bind (norm_yields (at step) n) (λ l p. yields_bind (violation_yields e'.constraints) (λ t q. gives tt))

pub linear_yields : (st : State) (w : Memory) (theta : Scalar) → Yields Any (linear_of st w theta)
linear_yields st w theta =
    by (violation_of (landed_at st w).constraints) refl (violation_yields (landed_at st w).constraints)
  where
    by : (x : Res Scalar) → violation_of (landed_at st w).constraints ≡ x → Yields Any x
        → Yields Any (linear_of st w theta)
    by (ok new) e p = rw e (yields_pick (definitely_greater theta zero_s) (gives tt) (gives tt))
    by (refused k) e (refuses p) =
        rw e (yields_pick (definitely_greater theta zero_s) (refuses p) (gives tt))

pub shift_yields : (moving : List Bool) (c : Rows) → Yields Any (shift_of moving c)
unfolding shift_of
shift_yields moving c = yields_bind (minus_solved_yields c.count c.n _ _ _) (λ d p. gives tt)

-- the point that a shift leads to is a vector
abbrev pub ShiftSized : Shift → Type 0
ShiftSized (to next) = Long 24 next
ShiftSized stay = Unit

pub shifted_yields : (moving : List Bool) (c : Rows) (landed : List Float)
    → Yields ShiftSized (shift_from moving c landed)
unfolding shift_from
shifted_yields moving c landed =
    yields_bind (shift_yields moving c)
    (λ d p.
    gives
    (either (all_finite d 12) (same_of c.n (moved_of c.n landed d) landed) (moved_of c.n landed d)
    (length_moved c.n landed d)))
  where
    either : (a b : Bool) (next : List Float) → Long 24 next → ShiftSized (pick a (pick b stay (to next)) stay)
    either true true next e = tt
    either true false next e = e
    either false b next e = tt

along_yields : (c : Rows) (v : List Float) → Yields Any (along_of c v)
unfolding along_of
along_yields c v = minus_solved_yields c.count c.n _ _ _

summed : (a : Scalar) {x : Res Scalar} → Yields Any x → Yields Any (chosen_sum a x)
summed a (gives p) = gives tt
summed a (refuses p) = refuses p

-- the update of the curvature keeps its length
module _ (k n : ℕ) where
  corrected_yields : (b y bs s : List Float) → Long k b → Yields (Long k) (corrected_by n b y bs s)
  unfolding corrected_by rank_one_of rank_one_step
  corrected_yields b y bs s e =
      let v = fill_to vector 0 (λ i. choose_of (sub_of (at y i) (at bs i))) n in
      let vs = choose_of (dot_to (at v) (at s) n) in
      yields_pick (definitely_not_equal vs zero_s)
      (yields_fold (rank_one_step n v vs) b (curvature_entries n) e
      (λ c p q. store_yields c p (λ a. length_put c p a ∙ q) (summed (at c p) (div_yields _ _))))
      (gives e)

  pub curvature_yields : (b step : List Float) (e e' : Evaluation) (lambda : List Float) → Long k b
      → Yields (Long k) (update_curvature n b step e e' lambda)
  unfolding update_curvature updated_by
  curvature_yields b step e e' lambda h =
      yields_bind (along_yields e.constraints step) (λ s p. updated (lagrangian_change n e e' lambda) s)
    where
      updated : (y s : List Float) → Yields (Long k) (updated_by n e.constraints b y s)
      updated y s =
          yields_pick (definitely_not_equal
          (sub_of (dot_to (at y) (at s) n) (dot_to (at (curvature_times n b s)) (at s) n)) zero_s)
          (yields_bind (along_yields e.constraints y) (λ y' q. corrected_yields b y' (curvature_times n b s) s h))
          (gives h)
