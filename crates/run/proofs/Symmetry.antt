-- The entries of J_rᵀ J_r + B across its diagonal: products commute, so where B has the same on both sides, so has the
-- sum.
use Prim.Native.Nat.{ℕ, ◌+◌, ◌*◌, ◌<◌}
use mathlib.Core.Bool.{true, false, not}
use mathlib.Core.Path.{◌≡◌, ap}
use mathlib.Core.List.{List}
use native.Mathlib.Omega.{arith}
use borrow.Author.Tests.{ne_eqb}
use lib.Dec.{T, eqb}
use lib.Ieee.{Float, nan, inf, fin, eq, is_nan}
use Rattle.interval.specs.declared.Scalar.{Scalar}
use Rattle.linear.specs.Choose.{choose_of}
use Rattle.linear.specs.Flat.{at}
use Rattle.linear.proofs.Sums.{plus_to-commutes}
use Rattle.run.specs.program.Problem.{undamped_at}
use Rattle.run.specs.Vectors.{column, fill_to}
use Rattle.run.proofs.Booleans.{never}
use Rattle.run.proofs.VectorLaws.{at_fill_other}

-- ---- numbers

pub numbers : (x y : Float) → eq x y ≡ true → T (not (is_nan x)) × T (not (is_nan y))
unfolding eq is_nan
numbers nan y e = never e
numbers (inf s) nan e = never e
numbers (inf s) (inf t) e = (tt, tt)
numbers (inf s) (fin t n d) e = never e
numbers (fin s m k) nan e = never e
numbers (fin s m k) (inf t) e = never e
numbers (fin s m k) (fin t n d) e = (tt, tt)

-- ---- the entry across the diagonal

pub undamped_across : (jr : List Float) (s : ℕ) (b : Scalar) (i j : ℕ) → j < i →
    undamped_at jr s b j i ≡ undamped_at jr s b i j
unfolding undamped_at
undamped_across jr s b i j l =
    let e : eqb i j ≡ false = ne_eqb i j (λ q. omega arith) in
    let f : eqb j i ≡ false = ne_eqb j i (λ q. omega arith) in
    rw (e, f) (ap choose_of (plus_to-commutes (column jr j) (column jr i) b s))

-- the entry across the diagonal is still there while row i is filled
pub across_kept : (xs : List Float) (f : ℕ → Scalar) (i j : ℕ) {h : List Float} →
    h ≡ fill_to xs (12 * i) f j → i < 12 → j < i → at h (12 * j + i) ≡ at xs (12 * j + i)
across_kept xs f i j e hi hj = rw e (at_fill_other xs (12 * i) f j (12 * j + i) (λ t l q. omega arith))
