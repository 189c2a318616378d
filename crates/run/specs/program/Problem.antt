-- For private functions: a problem by its parts, and the part of it that no damping changes.
use Rattle.std.specs.Prelude.{ℕ, ◌<◌, ◌≤◌, Bool, List, ◌≡◌, eqb, Float, take, drop, length, get_or}
use Rattle.interval.specs.Scalar.{pick, add_of, mul_of}
use Rattle.interval.specs.declared.Scalar.{Scalar}
use Rattle.linear.specs.Choose.{choose_of}
use Rattle.linear.specs.Dot.{plus_to, dot_to}
use Rattle.linear.specs.Flat.{at, zeros}
use Rattle.run.specs.Curvature.{curvature_at}
use Rattle.run.specs.Limits.{VARIABLES}
use Rattle.run.specs.Problem.{Kept, Problem, variable, scaling_at}
use Rattle.run.specs.Rows.{Rows, slope_at, slopes_by}
use Rattle.run.specs.Vectors.{fill_rows, column, matrix, vector, fill_to, chosen_of, entry}

-- by its parts, as the functions have them
abbrev pub kept_by : ℕ → List ℕ → Kept
kept_by count index = record { count = count; index = index }

-- at most twelve kept variables, in a list of twelve, each within reach of its place
pub record KeptFits (k : ℕ) (index : List ℕ) : Type 0 where
  pub few : k ≤ VARIABLES
  pub long : length index ≡ 12
  pub near : (p : ℕ) → get_or index p 0 < 65536

-- by its parts, as the functions have them
abbrev pub problem_in : ℕ → ℕ → (ℕ → Scalar) → List Float → List Float → List Float → List Float → Problem
problem_in k m c wide jc h g = record { k = k; m = m; c = c; wide = wide; jc = jc; h = h; g = g }

-- ---- what the program keeps and answers

-- v, chosen or as it is, and so the slopes by the kept variables
abbrev pub chosen_if : Bool → Scalar → Scalar
chosen_if chosen v = pick chosen (choose_of v) v

unfoldable pub squeezed_as : Bool → Kept → Rows → List Float → List Float
squeezed_as chosen k e clear =
    fill_rows clear (λ i p. chosen_if chosen (slope_at e i (variable k p))) k.count e.count

-- an entry of J_rᵀ J_r + B, from B's entry b, and all: chosen off the diagonal, where mu D is still to be added
unfoldable pub undamped_at : List Float → ℕ → Scalar → ℕ → ℕ → Scalar
undamped_at jr s b i j = let v = plus_to (column jr i) (column jr j) b s in pick (eqb i j) v (choose_of v)

-- by the places of the kept variables in a list
abbrev pub undamped_between : ℕ → List ℕ → List Float → ℕ → List Float → ℕ → ℕ → Scalar
undamped_between n index jr s b i j = undamped_at jr s (curvature_at n b (get_or index i 0) (get_or index j 0)) i j

unfoldable pub undamped_of : ℕ → Kept → List Float → ℕ → List Float → List Float
undamped_of n k jr s b = fill_rows matrix (undamped_between n k.index jr s b) k.count k.count

-- D
unfoldable pub scalings_of : ℕ → List Float → ℕ → List Float → ℕ → List Float
scalings_of k jr s jc m = fill_to vector 0 (scaling_at jr s jc m) k

-- an entry of the gradient
abbrev pub gradient_at : Kept → Rows → ℕ → Scalar
gradient_at k e p =
    let r = chosen_of (zeros 48) e.list e.values e.count in
    choose_of (dot_to (slopes_by e (variable k p)) (at r) e.count)

-- H's entry, from the entry v that is not damped and D's entry d, and H from all of them
unfoldable pub damped_entry : Scalar → Scalar → Scalar → ℕ → ℕ → Scalar
damped_entry v d mu i j = pick (eqb i j) (choose_of (add_of v (mul_of mu d))) v

unfoldable pub damped_by : ℕ → List Float → List Float → Scalar → List Float
damped_by k v d mu = fill_rows matrix (λ i j. damped_entry (entry v i j) (at d i) mu i j) k k

-- H and the gradient, from a list that begins with what is undamped: J_rᵀ J_r + B, D and the gradient, one behind the
-- other
abbrev pub damped_from : ℕ → List Float → Scalar → List Float
damped_from k undamped mu = damped_by k (take 288 undamped) (take 24 (drop 288 undamped)) mu

abbrev pub gradient_in : List Float → List Float
gradient_in undamped = take 24 (drop 312 undamped)
