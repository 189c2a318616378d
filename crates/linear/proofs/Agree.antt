-- Runs whose first scalars agree give the same sums, the same norm and the same list.
use Prim.Native.Nat.{ℕ, zero, suc, ◌<◌}
use mathlib.Core.Path.{◌≡◌, refl}
use native.Mathlib.Nat.{le_trans, lt-suc_self, le-suc}
use Rattle.interval.specs.declared.Scalar.{Scalar}
use Rattle.interval.specs.Scalar.{zero_s}
use Rattle.linear.specs.Flat.{list_to}
use Rattle.linear.specs.Dot.{plus_to, minus_to, dot_to}
use Rattle.linear.specs.Results.{bind}
use Rattle.linear.specs.Norm.{largest_to, scaled_squares, norm_of}

-- the first n scalars of two runs agree
abbrev pub Agree : (ℕ → Scalar) → (ℕ → Scalar) → ℕ → Type 0
Agree f f' n = (j : ℕ) → j < n → f j ≡ f' j

fewer : {f f' : ℕ → Scalar} {n : ℕ} → Agree f f' (suc n) → Agree f f' n
fewer {n = n} p j h = p j (le_trans h (le-suc n))

module _ (f f' g g' : ℕ → Scalar) (z : Scalar) where
  pub plus_to-ext : (n : ℕ) → Agree f f' n → Agree g g' n → plus_to f g z n ≡ plus_to f' g' z n
  unfolding plus_to
  plus_to-ext zero p q = refl
  plus_to-ext (suc n) p q = rw (plus_to-ext n (fewer p) (fewer q), p n (lt-suc_self n), q n (lt-suc_self n))

  pub minus_to-ext : (n : ℕ) → Agree f f' n → Agree g g' n → minus_to f g z n ≡ minus_to f' g' z n
  unfolding minus_to
  minus_to-ext zero p q = refl
  minus_to-ext (suc n) p q = rw (minus_to-ext n (fewer p) (fewer q), p n (lt-suc_self n), q n (lt-suc_self n))

module _ (f f' : ℕ → Scalar) where
  pub dot_to-ext : (g g' : ℕ → Scalar) (n : ℕ) → Agree f f' n → Agree g g' n → dot_to f g n ≡ dot_to f' g' n
  dot_to-ext g g' = plus_to-ext f f' g g' zero_s

  pub largest_to-ext : (n : ℕ) → Agree f f' n → largest_to f n ≡ largest_to f' n
  unfolding largest_to
  largest_to-ext zero p = refl
  largest_to-ext (suc n) p = rw (largest_to-ext n (fewer p), p n (lt-suc_self n))

  pub scaled_squares-ext : (g : Scalar) (n : ℕ) → Agree f f' n → scaled_squares f g n ≡ scaled_squares f' g n
  unfolding scaled_squares bind
  scaled_squares-ext g zero p = refl
  scaled_squares-ext g (suc n) p = rw (scaled_squares-ext g n (fewer p), p n (lt-suc_self n))

  pub norm_of-ext : (n : ℕ) → Agree f f' n → norm_of f n ≡ norm_of f' n
  unfolding norm_of
  norm_of-ext n p = rw (largest_to-ext n p, scaled_squares-ext (largest_to f' n) n p, dot_to-ext f f' n p p)

  pub list_to-ext : (n : ℕ) → Agree f f' n → list_to f n ≡ list_to f' n
  unfolding list_to
  list_to-ext zero p = refl
  list_to-ext (suc n) p = rw (list_to-ext n (fewer p), p n (lt-suc_self n))
