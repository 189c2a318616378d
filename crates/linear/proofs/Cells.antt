-- The places of an n by n matrix in a flat list, row by row: row r and column k are the place r * n + k, and no other
-- row and column are.
use Prim.Native.Nat.{ℕ, zero, suc, ◌+◌, ◌*◌, ◌/◌, ◌%◌, ◌≤◌, ◌<◌}
use mathlib.Core.Path.{◌≡◌, sym, ap, ◌∙◌}
use native.Mathlib.Nat.{not-suc-le-zero, mul-le-mul, mod-lt, div-lt_iff_lt-mul}
use native.Mathlib.Omega.{arith}
use lib.Arith.{digits_lt, digits_div, digits_mod}
use Rattle.linear.specs.Lengths.{Inside}

-- inside a flat list of n * n scalars
pub cell_inside : {n r k m : ℕ} → r < n → k < n → m ≡ 2 * (n * n) → 2 * (r * n + k) + 1 < m
cell_inside {n} {r} {k} hr hk e = omega (arith, digits_lt {q = r} {m = n} {r = k} {c = n} hr hk)

-- the first k places of row r
pub row_inside : {n r k m : ℕ} → r < n → k ≤ n → m ≡ 2 * (n * n) → Inside (r * n) 1 k m
row_inside {n} {r} {k} hr hk e t h =
    let inside : t < n = omega arith in
    omega (arith, cell_inside {n = n} {r = r} {k = t} hr inside e)

pub cell_row : {n k j : ℕ} (r s : ℕ) → k < n → j < n → r * n + k ≡ s * n + j → r ≡ s
cell_row {n} r s hk hj e = sym (digits_div r hk) ∙ ap (λ p. p / n) e ∙ digits_div s hj

pub cell_column : {n k j : ℕ} (r s : ℕ) → k < n → j < n → r * n + k ≡ s * n + j → k ≡ j
cell_column {n} r s hk hj e = sym (digits_mod r hk) ∙ ap (λ p. p % n) e ∙ digits_mod s hj

pub square_positive : (n : ℕ) {p : ℕ} → p < n * n → 0 < n
square_positive zero h = absurd (not-suc-le-zero h)
square_positive (suc n) h = omega arith

-- every place has a row and a column
pub place_row : {n p : ℕ} → p < n * n → p / n < n
place_row {n} h = (div-lt_iff_lt-mul (square_positive n h)).1 h

pub place_column : {n p : ℕ} → p < n * n → p % n < n
place_column {n} {p} h = mod-lt p (square_positive n h)

-- products of counts
pub product_small : {i n : ℕ} → i ≤ 24 → n ≤ 24 → i * n ≤ 576
product_small h k = mul-le-mul h k
