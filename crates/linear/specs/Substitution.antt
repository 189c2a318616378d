-- `solve_cholesky`: L y = b, then Lᵀ x = y, with places that are left out at +0. The zero terms of such places are
-- still subtracted.
use Rattle.std.specs.Prelude.{ℕ, ◌+◌, ◌*◌, ◌-◌, Bool, false, List, Float, get_or}
use Rattle.interval.specs.declared.Scalar.{Scalar}
use Rattle.interval.specs.Result.{Res, ok, refused}
use Rattle.interval.specs.Scalar.{pick, div_of}
use Rattle.linear.specs.Flat.{at, put, zeros, along}
use Rattle.linear.specs.Dot.{minus_to}
use Rattle.linear.specs.Results.{bind, fold_r}

-- y with the i-th place stored, or the refusal
abbrev pub store_r : List Float → ℕ → Res Scalar → Res (List Float)
store_r y i (ok v) = ok (put y i v)
store_r y i (refused k) = refused k

-- y i from those before it
unfoldable pub forward_step : ℕ → List Float → List Bool → List Float → List Float → ℕ → Res (List Float)
forward_step n l left b y i =
    pick (get_or left i false) (ok y)
    (store_r y i (div_of (minus_to (along l (i * n) 1) (at y) (at b i) i) (at l (i * n + i))))

-- x i, for i = n - 1 - t, from those behind it
unfoldable pub back_step : ℕ → List Float → List Bool → List Float → List Float → ℕ → Res (List Float)
back_step n l left y x t =
    let i = n - 1 - t in
    pick (get_or left i false) (ok x)
    (store_r x i (div_of (minus_to (along l ((i + 1) * n + i) n) (along x (i + 1) 1) (at y i) t) (at l (i * n + i))))

unfoldable pub solve_of : ℕ → List Float → List Bool → List Float → Res (List Float)
unfolding bind fold_r
solve_of n l left b =
    bind (fold_r (forward_step n l left b) (zeros (2 * n)) n) (λ y. fold_r (back_step n l left y) (zeros (2 * n)) n)
