-- One pattern down from x is one pattern up from -x with the sign turned: one more with the sign's weight for a number
-- that is not positive, and one less for a positive one.
use Rattle.std.proofs.Common.{◌≡◌, ℕ, ◌+◌, ◌-◌, ◌%◌, ◌<◌, ◌≤◌, Bool, true, false, cond, not, T, pos, sym, refl, ap, ◌∙◌}
use Rattle.std.proofs.Common.{subst, true≢false, arith}
use mathlib.Core.Bool.{false≢true}
use lib.Ieee.{Float, nan, inf, fin, binary64, of_bits, to_bits, neg, is_nan, nan_bits, lt, le, fits}
use lib.Ieee.Fits.{neg-fits}
use Rattle.interval.specs.Pattern.{inf_bits}
use Rattle.interval.specs.Step.{next_down}
use Rattle.interval.proofs.Tests.{step_in}
use Rattle.interval.proofs.Patterns.{no_nan}
use Rattle.interval.proofs.NextUp.{bits_neg, of_bits-neg, no_nan_below, ends, up_side, below_zero}

turned : (x : Float) → neg (neg x) ≡ x
unfolding neg
turned nan = refl
turned (inf true) = refl
turned (inf false) = refl
turned (fin true m e) = refl
turned (fin false m e) = refl

unsigned : (n : ℕ) → (9223372036854775808 + n) % 9223372036854775808 ≡ n % 9223372036854775808
unsigned n = omega arith

-- the sign bit alone differs
same_size : (x : Float) → to_bits binary64 x % 9223372036854775808 ≡ to_bits binary64 (neg x) % 9223372036854775808
unfolding neg to_bits
same_size nan = refl
same_size (inf true) = refl
same_size (inf false) = refl
same_size (fin true m e) =
    ap (λ (n : ℕ). n % 9223372036854775808) (bits_neg m e) ∙ unsigned (to_bits binary64 (fin false m e))
same_size (fin false m e) =
    sym (ap (λ (n : ℕ). n % 9223372036854775808) (bits_neg m e) ∙ unsigned (to_bits binary64 (fin false m e)))

pub not_nan_turned : (x : Float) → lt (neg x) (inf false) ≡ true → T (not (is_nan x))
unfolding lt is_nan neg
not_nan_turned nan a = absurd (false≢true a)
not_nan_turned (inf s) a = tt
not_nan_turned (fin s m e) a = tt

pub ends_turned : (x : Float) → lt (neg x) (inf false) ≡ false → x ≡ next_down x
ends_turned x a = sym (turned x) ∙ ap neg (ends (neg x) a)

-- ---- the pattern that `pattern_below` gives, for either sign s
pub record Lowered (x : Float) (s : Bool) : Type 0 where
  pub room : s ≡ true → to_bits binary64 x % 9223372036854775808 < 9223372036854775807
  pub some : s ≡ false → 1 ≤ to_bits binary64 x
  pub number : T (not (nan_bits binary64
      (cond s (to_bits binary64 x % 9223372036854775808 + 9223372036854775809) (to_bits binary64 x - 1))))
  pub next : of_bits binary64
      (cond s (to_bits binary64 x % 9223372036854775808 + 9223372036854775809) (to_bits binary64 x - 1)) ≡ next_down x

away : (x : Float) → T (fits binary64 x) → lt (neg x) (inf false) ≡ true → le (fin false 0 (pos 0)) (neg x) ≡ true
    → Lowered x true
away x t a e =
    let r = up_side (neg x) (neg-fits binary64 x t) a e in
    let n = to_bits binary64 (neg x) % 9223372036854775808 in
    let near : n + 1 ≤ inf_bits binary64 = omega (arith, r.0) in
    let q : to_bits binary64 x % 9223372036854775808 + 9223372036854775809 ≡ 9223372036854775808 + (n + 1) =
    omega (arith, same_size x) in
    record {
      room = λ f. omega (arith, r.0, same_size x);
      some = λ f. absurd (true≢false f);
      number = subst (λ (z : ℕ). T (not (nan_bits binary64 z))) (sym q) (no_nan_below (n + 1) near);
      next = ap (of_bits binary64) q ∙ of_bits-neg (n + 1) near ∙ ap neg r.1;
    }

nearer : (x : Float) → T (fits binary64 x) → lt (neg x) (inf false) ≡ true → le (fin false 0 (pos 0)) (neg x) ≡ false
    → Lowered x false
nearer x t a e =
    let i = step_in (neg x) (neg-fits binary64 x t) (below_zero (neg x) a e) in
    let b : to_bits binary64 (neg (neg x)) ≡ to_bits binary64 x = ap (to_bits binary64) (turned x) in
    let q : to_bits binary64 x - 1 ≡ to_bits binary64 (neg (neg x)) - 1 = omega (arith, b) in
    record {
      room = λ f. absurd (false≢true f);
      some = λ f. omega (arith, b, i.0);
      number = no_nan binary64 _ (omega (arith, b, i.1));
      next = ap (of_bits binary64) q ∙ sym (turned _) ∙ ap neg i.2;
    }

pub lowered : (x : Float) → T (fits binary64 x) → lt (neg x) (inf false) ≡ true
    → Lowered x (le (fin false 0 (pos 0)) (neg x))
lowered x t a = go (le (fin false 0 (pos 0)) (neg x)) refl
  where
    go : (s : Bool) → le (fin false 0 (pos 0)) (neg x) ≡ s → Lowered x s
    go true e = away x t a e
    go false e = nearer x t a e
