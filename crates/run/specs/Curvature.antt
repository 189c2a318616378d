-- The curvature B that Gauss-Newton leaves out: n rows of n, how it is updated from a step taken, and whether any was
-- learned.
use Rattle.std.specs.Prelude.{ℕ, ◌+◌, ◌*◌, ◌/◌, ◌%◌, Bool, not, ◌||◌, List, Float}
use Rattle.interval.specs.Result.{Res, ok, refused}
use Rattle.interval.specs.Scalar.{zero_s, is_sharp, definitely_not_equal, add_of, sub_of, mul_of, div_of, pick}
use Rattle.interval.specs.declared.Scalar.{Scalar}
use Rattle.linear.specs.Choose.{choose_of}
use Rattle.linear.specs.Dot.{dot_to}
use Rattle.linear.specs.Flat.{at, along, list_to, zeros}
use Rattle.linear.specs.Results.{fold_r, bind}
use Rattle.linear.specs.Solved.{minus_solved_of}
use Rattle.linear.specs.Substitution.{store_r}
use Rattle.run.specs.Residuals.{transposed_at}
use Rattle.run.specs.Rows.{Rows, first_rows, Evaluation}
use Rattle.run.specs.Vectors.{any_to, vector, fill_to, chosen_of}

-- the place of entry (i, j), the entry and the row
abbrev pub curvature_place : ℕ → ℕ → ℕ → ℕ
curvature_place n i j = i * n + j

abbrev pub curvature_at : ℕ → List Float → ℕ → ℕ → Scalar
curvature_at n b i j = at b (curvature_place n i j)

abbrev pub curvature_row : ℕ → List Float → ℕ → ℕ → Scalar
curvature_row n b i = along b (curvature_place n i 0) 1

abbrev pub curvature_entries : ℕ → ℕ
curvature_entries n = n * n

-- `learned`: an entry that is not sharp or definitely not zero
unfoldable pub learned_of : ℕ → List Float → Bool
learned_of n b = any_to (λ p. not (is_sharp (at b p)) || definitely_not_equal (at b p) zero_s) (curvature_entries n)

-- `along`: the part of v along the constraints
unfoldable pub along_of : Rows → List Float → Res (List Float)
along_of c v =
    let jc = list_to (λ p. choose_of (at c.list (c.slopes + p))) (c.count * c.n) in
    let rhs = list_to (λ i. dot_to (along jc (i * c.n) 1) (at v) c.n) c.count in
    minus_solved_of c.count c.n jc rhs (list_to (at v) c.n)

-- by how much the gradient of the Lagrangian turned, beyond what J_rᵀ J_r explains; r has the sum's new values, chosen.
-- The multipliers are those of the constraints before: of the new ones only as many are weighed
abbrev pub lagrangian_change_at : Evaluation → Evaluation → List Float → List Float → ℕ → Scalar
lagrangian_change_at e e' lambda r j =
    let next = first_rows e.constraints.count e'.constraints in
    let held = sub_of (transposed_at next lambda j) (transposed_at e.constraints lambda j) in
    sub_of (add_of held (transposed_at e'.sum r j)) (transposed_at e.sum r j)

unfoldable pub lagrangian_change : ℕ → Evaluation → Evaluation → List Float → List Float
lagrangian_change n e e' lambda =
    let r = chosen_of (zeros 48) e'.sum.list e'.sum.values e'.sum.count in
    fill_to vector 0 (lagrangian_change_at e e' lambda r) n

-- b + v vᵀ / vs, entry by entry, each chosen
abbrev pub chosen_sum : Scalar → Res Scalar → Res Scalar
chosen_sum a (ok q) = ok (choose_of (add_of a q))
chosen_sum a (refused k) = refused k

unfoldable pub rank_one_step : ℕ → List Float → Scalar → List Float → ℕ → Res (List Float)
rank_one_step n v vs b p = store_r b p (chosen_sum (at b p) (div_of (mul_of (at v (p / n)) (at v (p % n))) vs))

unfoldable pub rank_one_of : ℕ → List Float → List Float → Scalar → Res (List Float)
unfolding fold_r
rank_one_of n b v vs = fold_r (rank_one_step n v vs) b (curvature_entries n)

-- B s
abbrev pub curvature_times : ℕ → List Float → List Float → List Float
curvature_times n b s = fill_to vector 0 (λ i. dot_to (curvature_row n b i) (at s) n) n

-- with y along the constraints
unfoldable pub corrected_by : ℕ → List Float → List Float → List Float → List Float → Res (List Float)
corrected_by n b y bs s =
    let v = fill_to vector 0 (λ i. choose_of (sub_of (at y i) (at bs i))) n in
    let vs = choose_of (dot_to (at v) (at s) n) in
    pick (definitely_not_equal vs zero_s) (rank_one_of n b v vs) (ok b)

-- from y and the step along the constraints
unfoldable pub updated_by : ℕ → Rows → List Float → List Float → List Float → Res (List Float)
unfolding bind
updated_by n c b y s =
    let bs = curvature_times n b s in
    let unexplained = sub_of (dot_to (at y) (at s) n) (dot_to (at bs) (at s) n) in
    pick (definitely_not_equal unexplained zero_s) (bind (along_of c y) (λ y'. corrected_by n b y' bs s)) (ok b)

-- `update_curvature`, from the step between two points with their rows
unfoldable pub update_curvature : ℕ → List Float → List Float → Evaluation → Evaluation → List Float → Res (List Float)
unfolding bind
update_curvature n b step e e' lambda =
    bind (along_of e.constraints step)
    (λ s. updated_by n e.constraints b (lagrangian_change n e e' lambda) s)
