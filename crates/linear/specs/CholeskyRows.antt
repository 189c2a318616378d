-- The factor worked out row by row, as the Rust does: what each step of the program promises. That these steps give the
-- entries and marks of `cholesky_of` is a theorem (proofs/CholeskyRows).
use Rattle.std.specs.Prelude.{ℕ, zero, suc, ◌+◌, ◌*◌, Bool, true, false, List, Float, get_or, set, Result, Ok, Err}
use Rattle.std.specs.Prelude.{Option, Some, None}
use Rattle.interval.specs.Result.{Res, ok, refused}
use Rattle.interval.specs.Result as scalar
use Rattle.interval.specs.declared.GeopError.{GeopError}
use Rattle.interval.specs.declared.Scalar.{Scalar}
use Rattle.interval.specs.Scalar.{zero_s, pick, div_of}
use Rattle.linear.specs.Flat.{at, put, along}
use Rattle.linear.specs.Dot.{minus_to}
use Rattle.linear.specs.Results.{bind, fold_r}
use Rattle.linear.specs.Substitution.{store_r}
use Rattle.linear.specs.Cholesky.{Pivot, root, left_out_pivot, pivot_of, Factor}

-- the program's pivot as a result
abbrev pub pivot_result : Result (Option Scalar) GeopError → Res Pivot
pivot_result (Ok (Some r)) = ok (root r)
pivot_result (Ok None) = ok left_out_pivot
pivot_result (Err e) = refused (scalar.number_of e)

-- the entry of row i and column j below the diagonal
unfoldable pub entry_step : ℕ → List Float → List Bool → ℕ → List Float → ℕ → Res (List Float)
entry_step n a left i l j =
    let s = minus_to (along l (i * n) 1) (along l (j * n) 1) (at a (i * n + j)) j in
    pick (get_or left j false) (ok l) (store_r l (i * n + j) (div_of s (at l (j * n + j))))

-- the first k entries of row i set to +0
unfoldable pub clear_row : ℕ → ℕ → List Float → ℕ → List Float
clear_row n i l zero = l
clear_row n i l (suc k) = put (clear_row n i l k) (i * n + k) zero_s

abbrev pub settle : ℕ → List Bool → ℕ → List Float → Res Pivot → Res Factor
settle n left i l (ok (root r)) = ok (record { l = put l (i * n + i) r; left_out = left })
settle n left i l (ok left_out_pivot) = ok (record { l = clear_row n i l n; left_out = set left i true })
settle n left i l (refused k) = refused k

unfoldable pub pivot_step : ℕ → List Float → List Bool → ℕ → List Float → Res Factor
pivot_step n a left i l =
    settle n left i l (pivot_of (minus_to (along l (i * n) 1) (along l (i * n) 1) (at a (i * n + i)) i))

unfoldable pub row_step : ℕ → List Float → Factor → ℕ → Res Factor
unfolding bind fold_r
row_step n a f i = bind (fold_r (entry_step n a f.left_out i) f.l i) (pivot_step n a f.left_out i)
