-- The rounded root from 54 digits q of the root of the significand: the last digit says whether the fraction is below
-- or above a half, since an odd q is never exact.
use Rattle.std.proofs.Common.{◌≡◌, ℕ, zero, suc, ◌+◌, ◌-◌, ◌*◌, ◌/◌, ◌%◌, ◌^◌, ◌<◌, ◌≤◌, Bool, true, false, cond, not}
use Rattle.std.proofs.Common.{T, eqb, ltb, leb, ◌⊎◌, sym, refl, ap, ◌∙◌, subst, inl, inr, true≢false, zero-le, le_trans}
use Rattle.std.proofs.Common.{le_of_eq, lt_of_lt_of_le, lt_of_le_of_lt, add-zero, lt_irrefl, mul-le-mul_right}
use Rattle.std.proofs.Common.{zero-lt-suc, mul_assoc, suc-mul, mul_comm, add-mul, mul-le-mul, eq-or-lt_of_le}
use Rattle.std.proofs.Common.{mul-lt-mul_of_pos_right, mul-pos, lt_of_not-le, div-add-mod', not-le_of_lt}
use Rattle.std.proofs.Common.{le_of_mul-le-mul_right, mul_left_comm, add-one, arith, eqb→eq, ltb→lt, leb→le, nltb→le}
use Rattle.std.proofs.Common.{pow_pos, pow_mono, pow-add}
use Prim.Native.Nat.{compare, Ordering}
use native.Mathlib.Nat.{eq_of_mul-eq-mul_right}
use native.Mathlib.Nat.{mul-mul-mul_comm, pow-succ', div-eq_of_lt-le, pow-le-pow_left}
use lib.Arith.{lt_of_le-ne}
use lib.Dec.{eqb_refl, is_le, compare_is_eq, nleb→lt}
use lib.Ieee.{Float, fin, down, hid, Format, prec, emax, low, size, nearest, units, to_bits, of_bits, fits}
use lib.Ieee.Digits.{size-lt, size-le}
use lib.Ieee.Nearest.{closest, closest_same, div_same}
use lib.Ieee.Order.{drop}
use lib.Ieee.Fits.{round_is, round-fits, down_pos, two, two-le_pos}
use lib.Ieee.Exact.{HasValue, units_val}
use lib.Ieee.Bits.{of_bits-to_bits}
use Rattle.interval.specs.Pattern.{inf_bits, magnitude}
use Rattle.interval.specs.Root.{IsRoot, next_digit, root_digits, isqrt, rounded_root}
use Rattle.interval.proofs.Patterns.{magnitude_at, magnitude_under, bits_val}
use Rattle.interval.proofs.Rounding.{magnitude_lt}
use Rattle.interval.proofs.Rank.{le_or_lt}

-- ---- the whole part of a root
pub sq : (r : ℕ) → 2 * r * (2 * r) ≡ 4 * (r * r)
sq r = mul-mul-mul_comm 2 r 2 r

double : (n r : ℕ) → IsRoot (n / 4) r → IsRoot n (next_digit n (2 * r))
double n r h = go (leb ((2 * r + 1) * (2 * r + 1)) n) (leb→le ((2 * r + 1) * (2 * r + 1)) n)
    (nleb→lt ((2 * r + 1) * (2 * r + 1)) n)
  where
    low_ok : 2 * r * (2 * r) ≤ n
    low_ok = omega (arith, h.0, sq r, div-add-mod' n 4)

    top : (2 * r + 1 + 1) * (2 * r + 1 + 1) ≡ 4 * ((r + 1) * (r + 1))
    top = ap (λ (z : ℕ). z * z) (omega arith) ∙ sq (r + 1)

    high_ok : n < (2 * r + 1 + 1) * (2 * r + 1 + 1)
    high_ok = omega (arith, h.1, top, div-add-mod' n 4)

    go : (b : Bool) → (T b → (2 * r + 1) * (2 * r + 1) ≤ n) → (T (not b) → n < (2 * r + 1) * (2 * r + 1))
        → IsRoot n (cond b (2 * r + 1) (2 * r))
    go true y n' = (y tt, high_ok)
    go false y n' = (low_ok, n' tt)

pub root_n-is : (k n : ℕ) → n < 4 ^ k → IsRoot n (root_digits k n)
unfolding root_digits
root_n-is zero n h = (zero-le, h)
root_n-is (suc k) n h =
    double n (root_digits k (n / 4)) (root_n-is k (n / 4) (omega (arith, div-add-mod' n 4, pow-succ' 4 k)))

pub isqrt_is : (n : ℕ) → IsRoot n (isqrt n)
unfolding isqrt
isqrt_is n = root_n-is (size n) n (lt_of_lt_of_le (size-lt n) (pow-le-pow_left (omega arith) (size n)))

-- ---- squares keep the order
pub sq_lt : (a b : ℕ) → a * a < b * b → a < b
sq_lt a b h = elim (le_or_lt b a) [ inl k ↦ absurd (not-le_of_lt h (mul-le-mul k k)) | inr k ↦ k ]

-- ---- from 54 digits: q is the root of c * 4 ^ 27, and n = c * 4 ^ 27 * (w * w)
module _ (c q n w s t : ℕ) (W : 0 < w) (ca : q * q ≤ c) (cb : c < (q + 1) * (q + 1)) (e : n ≡ c * (w * w))
    (r : IsRoot n s) where
  pub under : q * w ≤ s
  under =
      let a : q * w * (q * w) ≤ n =
      le_trans (le_of_eq (mul-mul-mul_comm q w q w)) (le_trans (mul-le-mul_right (w * w) ca) (le_of_eq (sym e))) in
      let b : q * w < s + 1 = sq_lt (q * w) (s + 1) (lt_of_le_of_lt a r.1) in
      omega arith

  pub over : s < (q + 1) * w
  over =
      let a : n < (q + 1) * w * ((q + 1) * w) = lt_of_lt_of_le (lt_of_le_of_lt (le_of_eq e)
      (mul-lt-mul_of_pos_right cb (mul-pos W W))) (le_of_eq (sym (mul-mul-mul_comm (q + 1) w (q + 1) w))) in
      sq_lt s ((q + 1) * w) (lt_of_le_of_lt r.0 a)

-- ---- to the nearest whole number, where the fraction is known to be below a half, or above
abbrev Cmp : Ordering → ℕ → ℕ → Type 0
Cmp Ordering.lt a b = a < b
Cmp Ordering.eq a b = a ≡ b
Cmp Ordering.gt a b = b < a

cmp : (a b : ℕ) → Cmp (compare a b) a b
cmp a b = go (compare a b) (leb→le a b) (nleb→lt a b) (eqb→eq a b)
    (λ (e : a ≡ b). subst (λ (x : ℕ). T (eqb a x)) e (eqb_refl a))
  where
    go : (o : Ordering) → (T (is_le o) → a ≤ b) → (T (not (is_le o)) → b < a) → (T (compare_is_eq o) → a ≡ b)
        → (a ≡ b → T (compare_is_eq o)) → Cmp o a b
    go Ordering.lt h k e n = lt_of_le-ne (h tt) n
    go Ordering.eq h k e n = e tt
    go Ordering.gt h k e n = k tt

pub closest_down : (a b g : ℕ) → 0 < b → g * b ≤ a → a * 2 < g * b * 2 + b → closest a b ≡ g
closest_down a b g B lo hi =
    let d : a / b ≡ g = div-eq_of_lt-le b lo (omega (arith, add-mul g 1 b)) in
    let m : a % b * 2 < b = omega (arith, div-add-mod' a b, ap (λ (z : ℕ). z * b) d) in
    go (compare (a % b * 2) b) (cmp (a % b * 2) b) m ∙ d
  where
    go : (o : Ordering) → Cmp o (a % b * 2) b → a % b * 2 < b → nearest (a / b) o ≡ a / b
    go Ordering.lt x m = refl
    go Ordering.eq x m = absurd (omega arith)
    go Ordering.gt x m = absurd (omega arith)

pub closest_up : (a b g : ℕ) → 0 < b → g * b * 2 + b < a * 2 → a < (g + 1) * b → closest a b ≡ suc g
closest_up a b g B lo hi =
    let d : a / b ≡ g = div-eq_of_lt-le b (omega arith) hi in
    let m : b < a % b * 2 = omega (arith, div-add-mod' a b, ap (λ (z : ℕ). z * b) d) in
    go (compare (a % b * 2) b) (cmp (a % b * 2) b) m ∙ ap suc d
  where
    go : (o : Ordering) → Cmp o (a % b * 2) b → b < a % b * 2 → nearest (a / b) o ≡ suc (a / b)
    go Ordering.lt x m = absurd (omega arith)
    go Ordering.eq x m = absurd (omega arith)
    go Ordering.gt x m = refl

-- ---- the last digit of q decides
unfoldable pub sticky : ℕ → ℕ → ℕ
sticky s n = cond (ltb (s * s) n) 1 0

pub sticky_says : (s n : ℕ) → ((sticky s n ≡ 1) × (s * s < n)) ⊎ ((sticky s n ≡ 0) × (n ≤ s * s))
unfolding sticky
sticky_says s n = go (ltb (s * s) n) (ltb→lt (s * s) n) (nltb→le (s * s) n)
  where
    go : (b : Bool) → (T b → s * s < n) → (T (not b) → n ≤ s * s)
        → ((◌≡◌ {A = ℕ} (cond b 1 0) 1) × (s * s < n)) ⊎ ((◌≡◌ {A = ℕ} (cond b 1 0) 0) × (n ≤ s * s))
    go true y k = inl (refl, y tt)
    go false y k = inr (refl, k tt)

pub odd_sq : (g c : ℕ) → (2 * g + 1) * (2 * g + 1) ≡ 2 * c → ⊥
odd_sq g c h =
    let x : (2 * g + 1) * (2 * g + 1) ≡ 2 * (g * (2 * g + 1)) + (2 * g + 1) =
    add-mul (2 * g) 1 (2 * g + 1) ∙ omega (arith, mul_assoc 2 g (2 * g + 1)) in
    omega arith

half : (q : ℕ) → (g : ℕ) × ((q ≡ 2 * g) ⊎ (q ≡ 2 * g + 1))
half q = elim (le_or_lt 1 (q % 2)) [ inl h ↦ (q / 2, inr (omega arith)) | inr h ↦ (q / 2, inl (omega arith)) ]

even_case : (g w s t : ℕ) → 0 < w → t ≤ 1 → 2 * g * w ≤ s → s < (2 * g + 1) * w → closest (2 * s + t) (4 * w) ≡ g
even_case g w s t W t1 lo hi =
    let x1 : 2 * g * w ≡ 2 * (g * w) = mul_assoc 2 g w in
    let x2 : (2 * g + 1) * w ≡ 2 * g * w + 1 * w = add-mul (2 * g) 1 w in
    let x3 : g * (4 * w) ≡ 4 * (g * w) = mul_left_comm g 4 w in
    closest_down (2 * s + t) (4 * w) g (omega arith) (omega arith) (omega arith)

odd_case : (g w s t : ℕ) → 0 < w → t ≤ 1 → (2 * g + 1) * w + (2 * g + 1) * w < 2 * s + t → s < (2 * g + 1 + 1) * w
    → closest (2 * s + t) (4 * w) ≡ suc g
odd_case g w s t W t1 lo hi =
    let x1 : 2 * g * w ≡ 2 * (g * w) = mul_assoc 2 g w in
    let x2 : (2 * g + 1) * w ≡ 2 * g * w + 1 * w = add-mul (2 * g) 1 w in
    let x3 : g * (4 * w) ≡ 4 * (g * w) = mul_left_comm g 4 w in
    let x4 : (2 * g + 1 + 1) * w ≡ (2 * g + 1) * w + 1 * w = add-mul (2 * g + 1) 1 w in
    let x5 : (g + 1) * (4 * w) ≡ g * (4 * w) + 1 * (4 * w) = add-mul g 1 (4 * w) in
    closest_up (2 * s + t) (4 * w) g (omega arith) (omega arith) (omega arith)

-- an odd q is never exact
strict : (c g n w s : ℕ) → 0 < w → (2 * g + 1) * w ≤ s → n ≡ 2 * c * (w * w) → (2 * g + 1) * (2 * g + 1) ≤ 2 * c
    → (2 * g + 1) * w + (2 * g + 1) * w < 2 * s + sticky s n
strict c g n w s W lo e ca = elim (sticky_says s n) [
  | inl k ↦ omega arith
  | inr k ↦
      elim (le_or_lt s ((2 * g + 1) * w)) [
        | inl m ↦
            let q = 2 * g + 1 in
            let i : s ≡ q * w = omega arith in
            let a : 2 * c * (w * w) ≤ q * q * (w * w) = le_trans (le_of_eq (sym e))
            (le_trans k.1 (le_of_eq (ap (λ (z : ℕ). z * z) i ∙ mul-mul-mul_comm q w q w))) in
            let b : 2 * c ≤ q * q = le_of_mul-le-mul_right a (mul-pos W W) in
            absurd (odd_sq g c (omega arith))
        | inr m ↦ omega arith
      ]
]

pub sticky_le : (s n : ℕ) → sticky s n ≤ 1
sticky_le s n = elim (sticky_says s n) [ inl k ↦ omega arith | inr k ↦ omega arith ]

pub last_digit : (c q n w s : ℕ) → 0 < w → q * q ≤ 2 * c → 2 * c < (q + 1) * (q + 1) → n ≡ 2 * c * (w * w) → IsRoot n s
    → closest (2 * s + sticky s n) (4 * w) ≡ (q + 1) / 2
last_digit c q n w s W ca cb e r =
    let lo : q * w ≤ s = under (2 * c) q n w s 0 W ca cb e r in
    let hi : s < (q + 1) * w = over (2 * c) q n w s 0 W ca cb e r in
    let h = half q in
    let g = h.0 in
    elim h.1 [
      | inl i ↦
          even_case g w s (sticky s n) W (sticky_le s n) (subst (λ (z : ℕ). z * w ≤ s) i lo)
          (subst (λ (z : ℕ). s < (z + 1) * w) i hi) ∙ omega arith
      | inr i ↦
          odd_case g w s (sticky s n) W (sticky_le s n) (strict c g n w s W (subst (λ (z : ℕ). z * w ≤ s) i lo) e
          (subst (λ (z : ℕ). z * z ≤ 2 * c) i ca)) (subst (λ (z : ℕ). s < (z + 1) * w) i hi) ∙ omega arith
    ]

-- ---- `round` at the root
size_gt : (n j : ℕ) → 2 ^ j ≤ n → j < size n
size_gt n j h = lt_of_not-le (λ (g : size n ≤ j). not-le_of_lt (lt_of_lt_of_le (size-lt n) (pow_mono g)) h)

same_scale : (a l w v : ℕ) → v ≡ 2 * w → a * l * (4 * w) ≡ a * (2 * l * v)
same_scale a l w v e = mul_assoc a l (4 * w)
    ∙ ap (λ (z : ℕ). a * z) (mul_left_comm l 4 w ∙ sym (mul-mul-mul_comm 2 l 2 w) ∙ ap (λ (z : ℕ). 2 * l * z) (sym e))

-- q has prec + 1 digits
pub near_root_is : (f : Format) (c q n j : ℕ) → 2 ^ prec f ≤ q → q < 2 ^ suc (prec f) → q * q ≤ 2 * c
    → 2 * c < (q + 1) * (q + 1) → n ≡ 2 * c * (2 ^ j * 2 ^ j) → rounded_root f n ≡ units f false ((q + 1) / 2) (suc j)
unfolding rounded_root sticky
near_root_is f c q n j qa qb ca cb e =
    let l = 2 ^ low f in
    let w = 2 ^ j in
    let s = isqrt n in
    let r = isqrt_is n in
    let t = sticky s n in
    let lo : q * w ≤ s = under (2 * c) q n w s 0 (pow_pos j) ca cb e r in
    let hi : s < (q + 1) * w = over (2 * c) q n w s 0 (pow_pos j) ca cb e r in
    let a = 2 * s + t in
    let d : a * l / (2 * l) ≡ s = div_same (a * l) (2 * l) a 2 (mul-pos (zero-lt-suc 1) (pow_pos (low f)))
    (zero-lt-suc 1) (mul_assoc a l 2 ∙ ap (λ (z : ℕ). a * z) (mul_comm l 2)) ∙ omega (arith, sticky_le s n) in
    let z1 : 2 ^ (prec f + j) ≤ s = le_trans (le_of_eq (pow-add 2 (prec f) j)) (le_trans (mul-le-mul_right w qa) lo) in
    let z2 : s < 2 ^ (suc (prec f) + j) = lt_of_lt_of_le hi (le_trans
    (mul-le-mul_right w (le_trans (le_of_eq (add-one q)) qb)) (le_of_eq (sym (pow-add 2 (suc (prec f)) j)))) in
    let z3 : size s ≡ suc (prec f) + j = omega (arith, size_gt s (prec f + j) z1, size-le s (suc (prec f) + j) z2) in
    let k : drop (prec f) (a * l) (2 * l) ≡ suc j = ap (λ (z : ℕ). size z - prec f) d ∙ omega arith in
    round_is f false a (2 * l) ∙ ap (λ (z : ℕ). units f false (closest (a * l) (2 * l * 2 ^ z)) z) k
    ∙ ap (λ (z : ℕ). units f false z (suc j))
    (closest_same (a * l) (2 * l * 2 ^ suc j) a (4 * w)
    (mul-pos (mul-pos (zero-lt-suc 1) (pow_pos (low f))) (pow_pos (suc j))) (mul-pos (zero-lt-suc 3) (pow_pos j))
    (same_scale a l w (2 ^ suc j) (pow-succ' 2 j)) ∙ last_digit c q n w s (pow_pos j) ca cb e r)

pub near_fits : (f : Format) (n : ℕ) → T (fits f (rounded_root f n))
unfolding rounded_root
near_fits f n = round-fits f false (2 * isqrt n + cond (ltb (isqrt n * isqrt n) n) 1 0) (2 * 2 ^ low f)

-- ---- the pattern of the root
pub magnitude_root : (f : Format) (k g : ℕ) → hid f ≤ g → g ≤ hid f + hid f → magnitude f (k * hid f + g) ≡ g * 2 ^ k
magnitude_root f k g lo hi = elim (eq-or-lt_of_le hi) [
  | inl e ↦
      ap (magnitude f) (omega (arith, suc-mul k (hid f), suc-mul (suc k) (hid f)))
      ∙ magnitude_at f (suc (suc k)) 0 (pow_pos (prec f - 1))
      ∙ ap (λ (z : ℕ). z * 2 ^ suc k) (add-zero (hid f)) ∙ ap (λ (z : ℕ). hid f * z) (pow-succ' 2 k)
      ∙ sym (mul_assoc (hid f) 2 (2 ^ k)) ∙ ap (λ (z : ℕ). z * 2 ^ k) (omega arith)
  | inr l ↦
      ap (magnitude f) (omega (arith, suc-mul k (hid f))) ∙ magnitude_at f (suc k) (g - hid f) (omega arith)
      ∙ ap (λ (z : ℕ). z * 2 ^ k) (omega arith)
]

same_value : (v : Float) (a b l : ℕ) → HasValue v false a l → HasValue v false b l → a ≡ b
same_value (fin s m e) a b l p q = eq_of_mul-eq-mul_right (down e) (down_pos e) a b (sym p.1 ∙ q.1)
same_value lib.Ieee.nan a b l p q = elim p [ ]
same_value (lib.Ieee.inf _) a b l p q = elim p [ ]

magnitude_inj : (f : Format) (i j : ℕ) → magnitude f i ≡ magnitude f j → i ≡ j
magnitude_inj f i j h = elim (le_or_lt i j) [
  | inl k ↦ elim (eq-or-lt_of_le k) [
    | inl e ↦ e
    | inr l ↦ absurd (lt_irrefl (magnitude f j) (subst (λ (z : ℕ). z < magnitude f j) h (magnitude_lt f i j l)))
  ]
  | inr k ↦ absurd (lt_irrefl (magnitude f i) (subst (λ (z : ℕ). z < magnitude f i) (sym h) (magnitude_lt f j i k)))
]

-- a value that the format holds is read from the pattern of its size
pub from_value : (f : Format) (v : Float) (b : ℕ) → T (fits f v) → HasValue v false (magnitude f b) (2 ^ low f)
    → v ≡ of_bits f b
from_value f (fin true m e) b t h = absurd (true≢false h.0)
from_value f (fin false m e) b t h =
    sym (of_bits-to_bits f (fin false m e) t)
    ∙ ap (of_bits f) (magnitude_inj f (to_bits f (fin false m e)) b (same_value
    (fin false m e) (magnitude f (to_bits f (fin false m e))) (magnitude f b) (2 ^ low f) (bits_val f m e t) h))
from_value f lib.Ieee.nan b t h = elim h [ ]
from_value f (lib.Ieee.inf _) b t h = elim h [ ]

pub near_root_bits : (f : Format) (c q n j : ℕ) → 2 ^ prec f ≤ q → q < 2 ^ suc (prec f) → q * q ≤ 2 * c
    → 2 * c < (q + 1) * (q + 1) → n ≡ 2 * c * (2 ^ j * 2 ^ j) → suc j * hid f + (q + 1) / 2 < inf_bits f
    → rounded_root f n ≡ of_bits f (suc j * hid f + (q + 1) / 2)
near_root_bits f c q n j qa qb ca cb e small =
    let g = (q + 1) / 2 in
    let b = suc j * hid f + g in
    let p1 : 2 ^ prec f ≡ hid f + hid f = twice (prec f) (two-le_pos (prec f) (two f)) in
    let m : magnitude f b ≡ g * 2 ^ suc j =
    magnitude_root f (suc j) g (omega arith) (omega (arith, pow-succ' 2 (prec f))) in
    let v : HasValue (units f false g (suc j)) false (magnitude f b) (2 ^ low f) =
    subst (λ (z : ℕ). HasValue (units f false g (suc j)) false z (2 ^ low f)) (sym m)
    (units_val f false g (suc j) (subst (λ (z : ℕ). z < 2 ^ (low f + suc (emax f))) m (magnitude_under f b small))) in
    from_value f (rounded_root f n) b (near_fits f n)
    (subst (λ (z : Float). HasValue z false (magnitude f b) (2 ^ low f)) (sym (near_root_is f c q n j qa qb ca cb e)) v)
  where
    twice : (p : ℕ) → 0 < p → 2 ^ p ≡ 2 ^ (p - 1) + 2 ^ (p - 1)
    twice p P = ap (λ (z : ℕ). 2 ^ z) (omega arith) ∙ pow-succ' 2 (p - 1) ∙ omega arith
