-- Rows in the domain are finite: an end between -2^400 and 2^400 is no infinity and no NaN. And they are floats, as all
-- that were answered are.
use Prim.Native.Nat.{ℕ, zero, suc, ◌+◌, ◌*◌, ◌/◌, ◌<◌}
use mathlib.Core.Bool.{Bool, true, false, ◌&&◌}
use mathlib.Core.Logic.{⊎_elim}
use mathlib.Core.Path.{◌≡◌, refl, sym, ap, ◌∙◌}
use mathlib.Core.List.{List, [], ◌∷◌}
use native.Mathlib.Nat.{not-suc-le-zero, le_of_suc-le-suc, eq-or-lt_of_le, add-mul, mul-le-mul_left}
use native.Mathlib.Omega.{arith}
use borrow.Author.Tests.{le-ltb}
use lib.Dec.{T}
use lib.Ieee.{Float, nan, inf, fin, binary64, fits, of_bits, neg, lt, le, eq}
use lib.Ieee.Scale.{finite}
use lib.ListN.{length, get_or}
use Rattle.interval.specs.declared.Scalar.{Scalar}
use Rattle.interval.specs.Enclosure.{Fits, Finite}
use Rattle.interval.specs.Scalar.{pick}
use Rattle.linear.specs.Flat.{at, inside}
use Rattle.linear.proofs.FlatLaws.{at_outside}
use Rattle.run.specs.Vectors.{all_to}
use Rattle.run.specs.Limits.{MOST}
use Rattle.run.specs.Checks.{in_domain, all_in_domain}
use Rattle.run.specs.Demand.{Floats, Answer, Fitting}
use Rattle.run.specs.declared.state.Sizes.{Sizes}
use Rattle.run.proofs.Booleans.{and_left, and_right, never}
use Rattle.run.proofs.demand3.ExactLaws.{Good}

-- ---- floats

float_at : (xs : List Float) → Floats xs → (i : ℕ) → T (fits binary64 (get_or xs i nan))
unfolding fits
float_at [] f i = tt
float_at (x ∷ xs) f zero = f.0
float_at (x ∷ xs) f (suc i) = float_at xs f.1 i

at_fits : (xs : List Float) → Floats xs → (i : ℕ) → Fits (at xs i)
unfolding at fits
at_fits xs f i = by (inside xs i)
  where
    by : (b : Bool) → Fits
        (pick b (record { lo = get_or xs (2 * i) nan; hi = get_or xs (2 * i + 1) nan }) (record { lo = nan; hi = nan }))
    by true = (float_at xs f (2 * i), float_at xs f (2 * i + 1))
    by false = (tt, tt)

-- ---- finite

between : (l h : Float) → le (neg MOST) l ≡ true → le l h ≡ true → le h MOST ≡ true → T (finite l) × T (finite h)
unfolding le lt eq neg of_bits
between nan h p q r = never p
between (inf true) h p q r = never p
between (inf false) nan p q r = never q
between (inf false) (inf true) p q r = never q
between (inf false) (inf false) p q r = never r
between (inf false) (fin s m e) p q r = never q
between (fin s m e) nan p q r = never q
between (fin s m e) (inf true) p q r = never q
between (fin s m e) (inf false) p q r = never r
between (fin s m e) (fin t n d) p q r = (tt, tt)

domain_finite : (x : Scalar) → in_domain x ≡ true → Finite x
domain_finite x e =
    let a = le (neg MOST) x.lo in
    let b = le x.lo x.hi in
    let c = le x.hi MOST in
    let bc = and_right a (b && c) e in
    let w = between x.lo x.hi (and_left a (b && c) e) (and_left b c bc) (and_right b c bc) in
    record { lo_finite = w.0; hi_finite = w.1 }

all_of : (p : ℕ → Bool) (k : ℕ) → all_to p k ≡ true → (i : ℕ) → i < k → p i ≡ true
unfolding all_to
all_of p zero e i h = absurd (not-suc-le-zero h)
all_of p (suc k) e i h =
    ⊎_elim (λ q. ap p q ∙ and_right (all_to p k) (p k) e) (λ l. all_of p k (and_left (all_to p k) (p k) e) i l)
    (eq-or-lt_of_le (le_of_suc-le-suc h))

-- ---- outside the list: a NaN, which is in no domain

some_out : (p : ℕ → Bool) (k i : ℕ) → i < k → p i ≡ false → all_to p k ≡ false
some_out p k i h e = by (all_to p k) refl
  where
    by : (b : Bool) → all_to p k ≡ b → b ≡ false
    by true a = never (sym e ∙ all_of p k a i h)
    by false a = refl

out_of_domain : (xs : List Float) (i : ℕ) → inside xs i ≡ false → in_domain (at xs i) ≡ false
unfolding le lt eq neg of_bits
out_of_domain xs i e = ap in_domain (at_outside xs i e)

pub none_beyond : (xs : List Float) (count : ℕ) → length xs / 2 < count → all_in_domain xs count ≡ false
none_beyond xs count h =
    some_out (λ i. in_domain (at xs i)) count (length xs / 2) h
    (out_of_domain xs (length xs / 2) (le-ltb (2 * (length xs / 2) + 1) (length xs) (omega arith)))

-- ---- rows

pub domain_rows : (z : Sizes) (x : Answer) → Floats x.numbers → Fitting z x → Good z x
domain_rows z x f fit =
    record {
      size = fit.length_is;
      constraints_finite = λ i h. value (0 + i) (constraint i h);
      sum_finite = λ i h. value (x.m * (z.n + 1) + i) (residual i h);
    }
  where
    value : (i : ℕ) → i < (x.m + z.s) * (z.n + 1) → Fits (at x.numbers i) × Finite (at x.numbers i)
    value i h =
        let xs = x.numbers in (
          at_fits xs f i,
          domain_finite (at xs i)
              (all_of (λ j. in_domain (at xs j)) ((x.m + z.s) * (z.n + 1)) fit.in-domain i h),
        )

    constraint : (i : ℕ) → i < x.m → 0 + i < (x.m + z.s) * (z.n + 1)
    constraint i h = omega (arith, mul-le-mul_left {m = 1} {n = z.n + 1} (x.m + z.s) (omega arith))

    residual : (i : ℕ) → i < z.s → x.m * (z.n + 1) + i < (x.m + z.s) * (z.n + 1)
    residual i h =
        omega (arith, add-mul x.m z.s (z.n + 1), mul-le-mul_left {m = 1} {n = z.n + 1} z.s (omega arith))
