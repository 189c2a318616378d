-- The linearized problem over the variables that move: its slopes, its damped curvature H = J_rᵀ J_r + B + mu D, and
-- the sum's gradient. All but the constraints' slopes are chosen.
use Rattle.std.specs.Prelude.{ℕ, ◌+◌, zero, suc, ◌*◌, Bool, false, List, eqb, Float, set, get_or, replicate}
use Rattle.interval.specs.Scalar.{pick, add_of, mul_of}
use Rattle.interval.specs.declared.Scalar.{Scalar}
use Rattle.linear.specs.Choose.{choose_of}
use Rattle.linear.specs.Dot.{dot_to, plus_to}
use Rattle.linear.specs.Flat.{at, zeros}
use Rattle.run.specs.Curvature.{curvature_at}
use Rattle.run.specs.Rows.{Rows, slope_at, slopes_by, Evaluation, value_at}
use Rattle.run.specs.Vectors.{fill_rows, column, matrix, vector, fill_to, chosen_of}

-- the variables that move, in order, and how many
pub record Kept : Type 0 where
  pub count : ℕ
  pub index : List ℕ

abbrev pub keep_next : Bool → Kept → ℕ → Kept
keep_next moves k i = pick moves (record { count = k.count + 1; index = set k.index k.count i }) k

unfoldable pub kept_to : List Bool → ℕ → Kept
kept_to moving zero = record { count = 0; index = replicate 12 0 }
kept_to moving (suc i) = keep_next (get_or moving i false) (kept_to moving i) i

abbrev pub variable : Kept → ℕ → ℕ
variable k p = get_or k.index p 0

-- the slopes by the kept variables
unfoldable pub squeezed_of : Kept → Rows → List Float → List Float
squeezed_of k e clear = fill_rows clear (λ i p. slope_at e i (variable k p)) k.count e.count

-- D's entry for the i-th kept variable
unfoldable pub scaling_at : List Float → ℕ → List Float → ℕ → ℕ → Scalar
scaling_at jr s jc m i = plus_to (column jc i) (column jc i) (dot_to (column jr i) (column jr i) s) m

-- H's entry, from B's entry b
unfoldable pub damped_at : List Float → ℕ → List Float → ℕ → Scalar → Scalar → ℕ → ℕ → Scalar
damped_at jr s jc m mu b i j =
    let v = plus_to (column jr i) (column jr j) b s in
    choose_of (pick (eqb i j) (add_of v (mul_of mu (scaling_at jr s jc m i))) v)

unfoldable pub damped_of : ℕ → Kept → List Float → ℕ → List Float → ℕ → List Float → Scalar → List Float
damped_of n k jr s jc m b mu =
    fill_rows matrix (λ i j. damped_at jr s jc m mu (curvature_at n b (variable k i) (variable k j)) i j) k.count
    k.count

-- the sum's gradient J_rᵀ r over the kept variables
unfoldable pub gradient_of : Kept → Rows → List Float
gradient_of k e =
    let r = chosen_of (zeros 48) e.list e.values e.count in
    fill_to vector 0 (λ p. choose_of (dot_to (slopes_by e (variable k p)) (at r) e.count)) k.count

-- the problem: k kept variables, m constraints
pub record Problem : Type 0 where
  pub k : ℕ
  pub m : ℕ
  pub c : ℕ → Scalar  -- constraint values
  pub wide : List Float  -- the constraints' slopes
  pub jc : List Float  -- the same, chosen
  pub h : List Float
  pub g : List Float

unfoldable pub problem_of : ℕ → Kept → Evaluation → List Float → Scalar → Problem
problem_of n k e b mu =
    let m = e.constraints.count in
    let s = e.sum.count in
    let wide = squeezed_of k e.constraints matrix in
    let jc = chosen_of matrix wide 0 (12 * m) in
    let jr = chosen_of (zeros 576) (squeezed_of k e.sum (zeros 576)) 0 (12 * s) in
    record {
      k = k.count;
      m = m;
      c = value_at e.constraints;
      wide = wide;
      jc = jc;
      h = damped_of n k jr s jc m b mu;
      g = gradient_of k e.sum;
    }
