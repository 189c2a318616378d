-- In a list of zeros every scalar is zero, so a test that zero passes is passed by all of them.
use Prim.Native.Nat.{ℕ, zero, suc, ◌+◌, ◌*◌, ◌<◌, ◌≤◌}
use mathlib.Core.Bool.{Bool, true}
use mathlib.Core.Path.{◌≡◌, refl}
use native.Mathlib.Omega.{arith}
use borrow.Author.Tests.{lt-ltb}
use lib.Ieee.{nan}
use lib.ListN.{length, get_or-replicate}
use Rattle.interval.specs.declared.Scalar.{Scalar}
use Rattle.interval.specs.Scalar.{zero64, zero_s}
use Rattle.linear.specs.Flat.{at, zeros}
use Rattle.linear.proofs.FlatLaws.{at_inside}
use Rattle.run.specs.Vectors.{all_to}
use Rattle.run.proofs.AreaLaws.{length_clear}

at_zeros : (n i : ℕ) → 2 * i + 1 < n → at (zeros n) i ≡ zero_s
at_zeros n i h =
    let l : 2 * i + 1 < length (zeros n) = rw (length_clear n) h in
    let h₀ : 2 * i < n = omega arith in
    rw (
      at_inside (zeros n) i (lt-ltb _ _ l),
      get_or-replicate n (2 * i) zero64 nan h₀,
      get_or-replicate n (2 * i + 1) zero64 nan h,
    )

pub zeros_all : (p : Scalar → Bool) → p zero_s ≡ true → (n k : ℕ) → 2 * k ≤ n → all_to (λ i. p (at (zeros n) i)) k ≡ true
unfolding all_to
zeros_all p e n zero h = refl
zeros_all p e n (suc k) h = rw (zeros_all p e n k (omega arith), at_zeros n k (omega arith), e)
