-- Long division for roots: from s with s * s + r, 27 digits more by one division by 2 s; one correction suffices.
use Rattle.std.proofs.Common.{◌≡◌, ℕ, zero, suc, ◌+◌, ◌-◌, ◌*◌, ◌/◌, ◌%◌, ◌^◌, ◌<◌, ◌≤◌, Bool, true, not, T, ltb, sym}
use Rattle.std.proofs.Common.{ap, subst, le_of_lt, lt_irrefl, mod-lt, mod-eq_of_lt, mul_comm, div-lt_iff_lt-mul}
use Rattle.std.proofs.Common.{add-mul, mul-le-mul, lt_of_not-le, div-add-mod', mul-add, mul_right_comm, arith}
use native.Mathlib.Nat.{mul-mul-mul_comm}
use mathlib.Core.Bool.{false≢true}
use lib.Arith.{le→nltb}
use lib.Ieee.{Float, nan, inf, fin, eq, is_nan, nan_bits, binary64}
use lib.Ieee.Bits.{nan_bits_above}
use Rattle.interval.specs.RootSteps.{Extendable}

pub record Facts (s r u v : ℕ) : Type 0 where
  pub whole : (s * 134217728 + u) * (s * 134217728 + u) + v * 134217728 ≡ (s * s + r) * 2 ^ 54 + u * u
  pub rest : v < s * 2
  pub few : u ≤ 134217728
  pub square : u * u ≤ 2 ^ 54

expand : (s u : ℕ)
    → (s * 134217728 + u) * (s * 134217728 + u) ≡ s * s * 18014398509481984 + u * (s * 2) * 134217728 + u * u
expand s u =
    let x = s * 134217728 in
    omega (
      arith,
      add-mul x u (x + u),
      mul-add x x u,
      mul-add u x u,
      mul-mul-mul_comm s 134217728 s 134217728,
      mul_right_comm s 134217728 u,
      mul_comm u x,
      mul_comm u (s * 2),
      mul_right_comm s 2 u,
    )

pub facts : (s r : ℕ) → 2 ^ 26 ≤ s → r ≤ 2 * s → Facts s r (r * 134217728 / (s * 2)) (r * 134217728 % (s * 2))
facts s r hs hr =
    let t = r * 134217728 in
    let d = s * 2 in
    let u = t / d in
    let D : 0 < d = omega arith in
    let e : t / d * d + t % d ≡ t = div-add-mod' t d in
    let few : u ≤ 134217728 = less_eq u ((div-lt_iff_lt-mul D).1 (omega arith)) in
    record {
      whole = omega (arith, e, expand s u);
      rest = mod-lt t D;
      few = few;
      square = mul-le-mul few few;
    }
  where
    less_eq : (u : ℕ) → u < 134217729 → u ≤ 134217728
    less_eq u h = omega arith

pub some : (q c : ℕ) → c < q * q → 1 ≤ q
some zero c h = omega (arith, h)
some (suc q) c h = omega arith

pub root_lt : (q c k : ℕ) → q * q ≤ c → c < k * k → q < k
root_lt q c k a b = lt_of_not-le (λ (h : k ≤ q). lt_irrefl c (omega (arith, mul-le-mul h h)))

pub fits28 : (q : ℕ) → q < 2 ^ 28 → q * q < 2 ^ 64
fits28 q h = go (mul-le-mul (le_of_lt h) (le_of_lt h))
  where
    go : q * q ≤ 2 ^ 28 * 2 ^ 28 → q * q < 2 ^ 64
    go e = omega (arith, e)

pub next_sq : (s : ℕ) → (s + 1) * (s + 1) ≡ s * s + 2 * s + 1
next_sq s = omega (arith, add-mul s 1 (s + 1), mul-add s s 1)

pub pred : (q : ℕ) → 1 ≤ q → (q - 1) * (q - 1) + 2 * q ≡ q * q + 1
pred q h =
    let k = q - 1 in
    let e : q ≡ k + 1 = omega (arith, h) in
    omega (arith, e, ap (λ (z : ℕ). z * z) e, next_sq k)

pub no_nan : (n : ℕ) → n < 2047 * 2 ^ 52 → T (not (nan_bits binary64 n))
no_nan n h =
    subst (λ (z : Bool). T (not z)) (sym (nan_bits_above binary64 n))
    (subst (λ (z : ℕ). T (not (ltb (2047 * 2 ^ 52) z)))
    (sym (mod-eq_of_lt small)) (le→nltb (2047 * 2 ^ 52) n (le_of_lt h)))
  where
    small : n < 2 ^ 63
    small = omega (arith, h)

pub itself : (x : Float) → eq x x ≡ true → T (not (is_nan x))
unfolding eq is_nan
itself nan a = absurd (false≢true a)
itself (inf s) a = tt
itself (fin s m e) a = tt

pub ready : (c s : ℕ) → 2 ^ 52 ≤ c → c < 2 ^ 54 → s * s ≤ c → c < (s + 1) * (s + 1)
    → Extendable s (c - s * s)
ready c s a b h k = record {
  from = least (root_lt 67108864 c (s + 1) (omega (arith, a)) k);
  small = root_lt s c 134217728 h (omega (arith, b));
  rest = omega (arith, k, next_sq s);
}
  where
    least : 67108864 < s + 1 → 2 ^ 26 ≤ s
    least g = omega arith

pub done : (c s q r : ℕ) → s * s ≤ c → q * q + r ≡ (s * s + (c - s * s)) * 2 ^ 54 → r ≤ 2 * q
    → (q * q ≤ c * 2 ^ 54) × (c * 2 ^ 54 < (q + 1) * (q + 1))
done c s q r h e g =
    let n : q * q + r ≡ c * 2 ^ 54 = omega (arith, e, h) in
    (omega (arith, n), omega (arith, n, g, next_sq q))
