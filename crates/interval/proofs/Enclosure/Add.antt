-- The sum of two intervals holds the sum of what each holds.
use Rattle.std.proofs.Common.{◌≡◌, ℕ, ◌+◌, ◌-◌, ◌*◌, ◌/◌, ◌^◌, ◌<◌, ◌≤◌, Bool, true, false, cond, not, ◌&&◌, T, ltb, ℤ}
use Rattle.std.proofs.Common.{pos, ◌+ℤ◌, ◌*ℤ◌, sym, ap, ◌∙◌, le_trans, le_of_eq, le_refl, mul-le-mul_right, mul_assoc}
use Rattle.std.proofs.Common.{mul_comm, add-mul, mul-pos, zero-mul, mul-one, mul_right_comm, le_of_mul-le-mul_right}
use Rattle.std.proofs.Common.{arith, ltb→lt, nltb→le}
use lib.Signed.{le_z}
use lib.Ieee.{Float, fin, Format, binary64, low, up, down, round, sum, add, fits, to_bits}
use lib.Ieee.Fits.{down_pos, add-fits}
use lib.Ieee.Scale.{finite}
use Rattle.interval.specs.declared.Scalar.{Scalar}
use Rattle.interval.specs.Enclosure.{signed, units_of, Fits, Encloses}
use Rattle.interval.specs.Pattern.{inf_bits, magnitude}
use Rattle.interval.specs.Scalar.{add_of}
use Rattle.interval.specs.Step.{next_up, next_down}
use Rattle.interval.proofs.Integers.{P, N, P-neg, N-neg, P-scale, N-scale, le_of_parts, parts_of_le, add_parts}
use Rattle.interval.proofs.Patterns.{bits_val}
use Rattle.interval.proofs.Rounding.{at}
use Rattle.interval.proofs.Rank.{rank, rank_of, round_rank, none_at, count}
use Rattle.interval.proofs.Outward.{above_all, below_all, positive_fits}

-- a number with its sign, as a difference
abbrev pub pp : Bool → ℕ → ℕ
pp false a = a
pp true a = 0

abbrev pub nn : Bool → ℕ → ℕ
nn false a = 0
nn true a = a

pub to_pos : (f : Format) (p q c n : ℕ) → 0 < c → q ≤ p → p - q ≡ n → inf_bits f + at f n c ≡ rank_of f p q c
to_pos f p q c n C h e =
    let z : at f (q - p) c ≡ 0 = none_at f (q - p) c C (omega arith) in
    let y : at f (p - q) c ≡ at f n c = ap (λ (k : ℕ). at f k c) e in
    omega arith

pub to_neg : (f : Format) (p q c n : ℕ) → 0 < c → p ≤ q → q - p ≡ n → inf_bits f - at f n c ≡ rank_of f p q c
to_neg f p q c n C h e =
    let z : at f (p - q) c ≡ 0 = none_at f (p - q) c C (omega arith) in
    let y : at f (q - p) c ≡ at f n c = ap (λ (k : ℕ). at f k c) e in
    omega arith

-- ---- a sum is rounded once
pub sum_rank : (f : Format) (s : Bool) (a : ℕ) (t : Bool) (b c : ℕ) → 0 < c
    → rank f (sum f s a t b c) ≡ rank_of f (pp s a + pp t b) (nn s a + nn t b) c
unfolding sum
sum_rank f false a false b c C =
    round_rank f false (a + b) c ∙ to_pos f (a + b) (0 + 0) c (a + b) C (omega arith) (omega arith)
sum_rank f true a true b c C =
    round_rank f true (a + b) c ∙ to_neg f (0 + 0) (a + b) c (a + b) C (omega arith) (omega arith)
sum_rank f false a true b c C = go (ltb a b) (ltb→lt a b) (nltb→le a b)
  where
    go : (x : Bool) → (T x → a < b) → (T (not x) → b ≤ a)
        → rank f (cond x (round f true (b - a) c) (round f false (a - b) c)) ≡ rank_of f (a + 0) (0 + b) c
    go true y n =
        let h = y tt in round_rank f true (b - a) c ∙ to_neg f (a + 0) (0 + b) c (b - a) C (omega arith) (omega arith)
    go false y n =
        let h = n tt in round_rank f false (a - b) c ∙ to_pos f (a + 0) (0 + b) c (a - b) C (omega arith) (omega arith)
sum_rank f true a false b c C = go (ltb a b) (ltb b a) (ltb→lt a b) (nltb→le a b) (ltb→lt b a) (nltb→le b a)
  where
    go : (x z : Bool) → (T x → a < b) → (T (not x) → b ≤ a) → (T z → b < a) → (T (not z) → a ≤ b)
        → rank f (cond x (round f false (b - a) c) (round f (true && z) (a - b) c)) ≡ rank_of f (0 + b) (a + 0) c
    go true z y n v w =
        let h = y tt in round_rank f false (b - a) c ∙ to_pos f (0 + b) (a + 0) c (b - a) C (omega arith) (omega arith)
    go false true y n v w =
        let h = v tt in round_rank f true (a - b) c ∙ to_neg f (0 + b) (a + 0) c (a - b) C (omega arith) (omega arith)
    go false false y n v w = let h = n tt in
        let g = w tt in round_rank f false (a - b) c ∙ to_pos f (0 + b) (a + 0) c (a - b) C (omega arith) (omega arith)

-- ---- a finite value over any denominator that its own divides, in units
pub over : (f : Format) (s : Bool) (m : ℕ) (e : ℤ) (d : ℕ) → T (fits f (fin false m e))
    → (pp s (m * up e * d) * 2 ^ low f ≡ P (units_of f (fin s m e)) * (down e * d))
    × (nn s (m * up e * d) * 2 ^ low f ≡ N (units_of f (fin s m e)) * (down e * d))
unfolding units_of
over f s m e d t = go s
  where
    n : ℕ
    n = m * up e * 2 ^ low f / down e

    val : m * up e * d * 2 ^ low f ≡ m * up e * 2 ^ low f / down e * (down e * d)
    val =
        mul_right_comm (m * up e) d (2 ^ low f) ∙ ap (λ (z : ℕ). z * d) (bits_val f m e t).1
        ∙ mul_assoc (magnitude f (to_bits f (fin false m e))) (down e) d
        ∙ ap (λ (z : ℕ). z * (down e * d)) (sym (count f m e t))

    go : (s : Bool) → (pp s (m * up e * d) * 2 ^ low f ≡ P (signed s (m * up e * 2 ^ low f / down e)) * (down e * d))
        × (nn s (m * up e * d) * 2 ^ low f ≡ N (signed s (m * up e * 2 ^ low f / down e)) * (down e * d))
    go false = (val, zero-mul (2 ^ low f) ∙ sym (zero-mul (down e * d)))
    go true = (
      zero-mul (2 ^ low f) ∙ sym (zero-mul (down e * d))
          ∙ ap (λ (z : ℕ). z * (down e * d)) (sym (P-neg (m * up e * 2 ^ low f / down e))),
      val ∙ ap (λ (z : ℕ). z * (down e * d)) (sym (N-neg (m * up e * 2 ^ low f / down e))),
    )

pub plain_fits : (s : Bool) (m : ℕ) (e : ℤ) → T (fits binary64 (fin s m e)) → T (fits binary64 (fin false m e))
plain_fits false m e t = t
plain_fits true m e t = positive_fits m e t

-- ---- v is (p - q) / d units, rounded
pub record Rounds (v : Float) (p q d : ℕ) : Type 0 where
  pub num_p : ℕ
  pub num_q : ℕ
  pub den : ℕ
  pub den_pos : 0 < den
  pub at_rank : rank binary64 v ≡ rank_of binary64 num_p num_q den
  pub is_p : num_p * 2 ^ low binary64 * d ≡ p * den
  pub is_q : num_q * 2 ^ low binary64 * d ≡ q * den
  pub is_float : T (fits binary64 v)

scaled : (a n m b l c d p q : ℕ) → 0 < c → a * l + n * c ≤ m * c + b * l → a * l * d ≡ p * c → b * l * d ≡ q * c
    → p + n * d ≤ m * d + q
scaled a n m b l c d p q C h e g =
    let k : (a * l + n * c) * d ≤ (m * c + b * l) * d = mul-le-mul_right d h in
    let k1 : (a * l + n * c) * d ≡ a * l * d + n * c * d = add-mul (a * l) (n * c) d in
    let k2 : (m * c + b * l) * d ≡ m * c * d + b * l * d = add-mul (m * c) (b * l) d in
    let n1 : n * c * d ≡ n * d * c = mul_right_comm n c d in
    let m1 : m * c * d ≡ m * d * c = mul_right_comm m c d in
    let x : (p + n * d) * c ≡ p * c + n * d * c = add-mul p (n * d) c in
    let y : (m * d + q) * c ≡ m * d * c + q * c = add-mul (m * d) q c in
    let z : (p + n * d) * c ≤ (m * d + q) * c = omega arith in
    le_of_mul-le-mul_right z C

-- w is v, or above it. Then (p - q) / d ≤ w stepped up
pub rounds_above : (v w : Float) (p q d : ℕ) → Rounds v p q d → T (fits binary64 w) → rank binary64 v ≤ rank binary64 w
    → T (finite (next_up w))
    → p + N (units_of binary64 (next_up w)) * d ≤ P (units_of binary64 (next_up w)) * d + q
rounds_above v w p q d r t k h =
    scaled r.num_p (N (units_of binary64 (next_up w))) (P (units_of binary64 (next_up w))) r.num_q (2 ^ low binary64)
    r.den d p q r.den_pos
    (above_all w r.num_p r.num_q r.den t h r.den_pos (le_trans (le_of_eq (sym r.at_rank)) k))
    r.is_p r.is_q

scaled' : (a n m b l c d p q : ℕ) → 0 < c → m * c + b * l ≤ a * l + n * c → a * l * d ≡ p * c → b * l * d ≡ q * c
    → m * d + q ≤ p + n * d
scaled' a n m b l c d p q C h e g =
    let k : (m * c + b * l) * d ≤ (a * l + n * c) * d = mul-le-mul_right d h in
    let k1 : (a * l + n * c) * d ≡ a * l * d + n * c * d = add-mul (a * l) (n * c) d in
    let k2 : (m * c + b * l) * d ≡ m * c * d + b * l * d = add-mul (m * c) (b * l) d in
    let n1 : n * c * d ≡ n * d * c = mul_right_comm n c d in
    let m1 : m * c * d ≡ m * d * c = mul_right_comm m c d in
    let x : (p + n * d) * c ≡ p * c + n * d * c = add-mul p (n * d) c in
    let y : (m * d + q) * c ≡ m * d * c + q * c = add-mul (m * d) q c in
    let z : (m * d + q) * c ≤ (p + n * d) * c = omega arith in
    le_of_mul-le-mul_right z C

pub rounds_below : (v w : Float) (p q d : ℕ) → Rounds v p q d → T (fits binary64 w) → rank binary64 w ≤ rank binary64 v
    → T (finite (next_down w))
    → P (units_of binary64 (next_down w)) * d + q ≤ p + N (units_of binary64 (next_down w)) * d
rounds_below v w p q d r t k h =
    scaled' r.num_p (N (units_of binary64 (next_down w))) (P (units_of binary64 (next_down w))) r.num_q
    (2 ^ low binary64) r.den d p q r.den_pos
    (below_all w r.num_p r.num_q r.den t h r.den_pos (le_trans k (le_of_eq r.at_rank)))
    r.is_p r.is_q

-- ---- a sum
pub add_rounds : (x y : Float) → T (fits binary64 x) → T (finite x) → T (fits binary64 y) → T (finite y)
    → Rounds (add binary64 x y) (P (units_of binary64 x) + P (units_of binary64 y))
    (N (units_of binary64 x) + N (units_of binary64 y)) 1
unfolding add
add_rounds (fin s m e) (fin t n d) fx hx fy hy =
    let f = binary64 in
    let l = 2 ^ low f in
    let a = m * up e * down d in
    let b = n * up d * down e in
    let c = down e * down d in
    let u = over f s m e (down d) (plain_fits s m e fx) in
    let v = over f t n d (down e) (plain_fits t n d fy) in
    record {
      num_p = pp s a + pp t b;
      num_q = nn s a + nn t b;
      den = c;
      den_pos = mul-pos (down_pos e) (down_pos d);
      at_rank = sum_rank f s a t b c (mul-pos (down_pos e) (down_pos d));
      is_p = mul-one ((pp s a + pp t b) * l) ∙ both (pp s a) (pp t b) l (P (units_of f (fin s m e)))
          (P (units_of f (fin t n d))) (down e) (down d) u.0 v.0;
      is_q = mul-one ((nn s a + nn t b) * l) ∙ both (nn s a) (nn t b) l (N (units_of f (fin s m e)))
          (N (units_of f (fin t n d))) (down e) (down d) u.1 v.1;
      is_float = add-fits f (fin s m e) (fin t n d);
    }
  where
    both : (a b l x y g h : ℕ) → a * l ≡ x * (g * h) → b * l ≡ y * (h * g) → (a + b) * l ≡ (x + y) * (g * h)
    both a b l x y g h p q = add-mul a b l ∙ ap (λ (z : ℕ). z + b * l) p
        ∙ ap (λ (z : ℕ). x * (g * h) + z) (q ∙ ap (λ (z : ℕ). y * z) (mul_comm h g)) ∙ sym (add-mul x y (g * h))
add_rounds lib.Ieee.nan y fx hx fy hy = elim hx [ ]
add_rounds (lib.Ieee.inf _) y fx hx fy hy = elim hx [ ]
add_rounds (fin s m e) lib.Ieee.nan fx hx fy hy = elim hy [ ]
add_rounds (fin s m e) (lib.Ieee.inf _) fx hx fy hy = elim hy [ ]

-- ---- from the ends to what lies between
pub scaled_le : (z w : ℤ) (k l : ℕ) → T (le_z (z *ℤ pos k) (w *ℤ pos l)) → P z * k + N w * l ≤ P w * l + N z * k
scaled_le z w k l h =
    rw (P-scale z k, N-scale z k, P-scale w l, N-scale w l) at (parts_of_le (z *ℤ pos k) (w *ℤ pos l) h)

pub le_scaled : (z w : ℤ) (k l : ℕ) → P z * k + N w * l ≤ P w * l + N z * k → T (le_z (z *ℤ pos k) (w *ℤ pos l))
le_scaled z w k l h = le_of_parts (z *ℤ pos k) (w *ℤ pos l) (rw (P-scale z k, N-scale z k, P-scale w l, N-scale w l) h)

dist : (a b c k : ℕ) → (a + b + c) * k ≡ a * k + b * k + c * k
dist a b c k = add-mul (a + b) c k ∙ ap (λ (z : ℕ). z + c * k) (add-mul a b k)

-- r ≤ x + y, x * k ≤ p * l and y * k ≤ q * l give r * k ≤ (p + q) * l
pub sum_low : (r x y p q : ℤ) (k l : ℕ) → P r * 1 + (N x + N y) ≤ P x + P y + N r * 1
    → T (le_z (x *ℤ pos k) (p *ℤ pos l)) → T (le_z (y *ℤ pos k) (q *ℤ pos l))
    → T (le_z (r *ℤ pos k) ((p +ℤ q) *ℤ pos l))
sum_low r x y p q k l h a b =
    let g : (P r + N x + N y) * k ≤ (P x + P y + N r) * k = mul-le-mul_right k (omega arith) in
    let s : (P (p +ℤ q) + N p + N q) * l ≡ (P p + P q + N (p +ℤ q)) * l =
    ap (λ (z : ℕ). z * l) (omega (arith, add_parts p q)) in
    le_scaled r (p +ℤ q) k l
    (omega (
      arith,
      scaled_le x p k l a,
      scaled_le y q k l b,
      dist (P r) (N x) (N y) k,
      dist (P x) (P y) (N r) k,
      dist (P (p +ℤ q)) (N p) (N q) l,
      dist (P p) (P q) (N (p +ℤ q)) l,
    ))

pub sum_high : (r x y p q : ℤ) (k l : ℕ) → P x + P y + N r * 1 ≤ P r * 1 + (N x + N y)
    → T (le_z (p *ℤ pos l) (x *ℤ pos k)) → T (le_z (q *ℤ pos l) (y *ℤ pos k))
    → T (le_z ((p +ℤ q) *ℤ pos l) (r *ℤ pos k))
sum_high r x y p q k l h a b =
    let g : (P x + P y + N r) * k ≤ (P r + N x + N y) * k = mul-le-mul_right k (omega arith) in
    let s : (P (p +ℤ q) + N p + N q) * l ≡ (P p + P q + N (p +ℤ q)) * l =
    ap (λ (z : ℕ). z * l) (omega (arith, add_parts p q)) in
    le_scaled (p +ℤ q) r l k
    (omega (
      arith,
      scaled_le p x l k a,
      scaled_le q y l k b,
      dist (P r) (N x) (N y) k,
      dist (P x) (P y) (N r) k,
      dist (P (p +ℤ q)) (N p) (N q) l,
      dist (P p) (P q) (N (p +ℤ q)) l,
    ))

-- two finite ends: their sum, rounded and stepped outward, bounds the sum of what they bound
pub add_under : (x y : Float) (p q : ℤ) (c : ℕ) → T (fits binary64 x) → T (finite x) → T (fits binary64 y)
    → T (finite y) → T (finite (next_down (add binary64 x y)))
    → T (le_z (units_of binary64 x *ℤ pos c) (p *ℤ pos (2 ^ low binary64)))
    → T (le_z (units_of binary64 y *ℤ pos c) (q *ℤ pos (2 ^ low binary64)))
    → T (le_z (units_of binary64 (next_down (add binary64 x y)) *ℤ pos c) ((p +ℤ q) *ℤ pos (2 ^ low binary64)))
add_under x y p q c tx fx ty fy h a b =
    let v = add binary64 x y in
    let r = add_rounds x y tx fx ty fy in
    sum_low (units_of binary64 (next_down v)) (units_of binary64 x) (units_of binary64 y) p q c (2 ^ low binary64)
    (rounds_below v v _ _ 1 r r.is_float (le_refl (rank binary64 v)) h) a b

pub add_over : (x y : Float) (p q : ℤ) (c : ℕ) → T (fits binary64 x) → T (finite x) → T (fits binary64 y) → T (finite y)
    → T (finite (next_up (add binary64 x y)))
    → T (le_z (p *ℤ pos (2 ^ low binary64)) (units_of binary64 x *ℤ pos c))
    → T (le_z (q *ℤ pos (2 ^ low binary64)) (units_of binary64 y *ℤ pos c))
    → T (le_z ((p +ℤ q) *ℤ pos (2 ^ low binary64)) (units_of binary64 (next_up (add binary64 x y)) *ℤ pos c))
add_over x y p q c tx fx ty fy h a b =
    let v = add binary64 x y in
    let r = add_rounds x y tx fx ty fy in
    sum_high (units_of binary64 (next_up v)) (units_of binary64 x) (units_of binary64 y) p q c (2 ^ low binary64)
    (rounds_above v v _ _ 1 r r.is_float (le_refl (rank binary64 v)) h) a b

pub add_holds : (x y : Scalar) → Fits x → Fits y → Encloses ◌+ℤ◌ x y (add_of x y)
add_holds x y tx ty fx fy fr p q k a b = record {
  from_lo = add_under x.lo y.lo p q (2 ^ k) tx.0 fx.lo_finite ty.0 fy.lo_finite fr.lo_finite
      a.from_lo b.from_lo;
  to_hi = add_over x.hi y.hi p q (2 ^ k) tx.1 fx.hi_finite ty.1 fy.hi_finite fr.hi_finite
      a.to_hi b.to_hi;
}
