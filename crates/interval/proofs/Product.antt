-- A product is rounded once; a number that is at most the four products of the ends, stepped down, is at most every
-- product of what lies between.
use Rattle.std.proofs.Common.{◌≡◌, ℕ, ◌+◌, ◌*◌, ◌^◌, ◌<◌, ◌≤◌, Bool, true, false, not, T, ℤ, pos, ◌*ℤ◌, sym, ap, ◌∙◌}
use Rattle.std.proofs.Common.{subst, inl, inr, mul_assoc, mul_comm, add-mul, mul-pos, mul-zero, zero-mul, mul-one}
use Rattle.std.proofs.Common.{arith}
use native.Mathlib.Nat.{mul-mul-mul_comm}
use lib.Signed.{le_z}
use lib.Ieee.{Float, fin, Format, binary64, low, up, down, round, mul, neg, unlike, fits, is_nan}
use lib.Ieee.Fits.{down_pos, mul-fits}
use lib.Ieee.Scale.{finite}
use Rattle.interval.specs.Enclosure.{units_of}
use Rattle.interval.specs.Step.{next_up, next_down}
use Rattle.interval.proofs.Integers.{P, N, P-scale, N-scale, le_of_parts}
use Rattle.interval.proofs.Rank.{rank, rank_of, round_rank, neg_round}
use Rattle.interval.proofs.Rounding.{NonNegative, round_nonneg}
use Rattle.interval.proofs.Enclosure.Add.{pp, nn, to_pos, to_neg, over, plain_fits, Rounds, rounds_above}
use Rattle.interval.proofs.Enclosure.Add.{rounds_below}
use Rattle.interval.proofs.Order.{Number}
use Rattle.interval.proofs.Corners.{P-mul, N-mul, mono, unscale, corners_low, scale_scale, scale_mul}

-- ---- a product is rounded once
pub signed_rank : (f : Format) (s : Bool) (a c : ℕ) → 0 < c → rank f (round f s a c) ≡ rank_of f (pp s a) (nn s a) c
signed_rank f false a c C = round_rank f false a c ∙ to_pos f a 0 c a C (omega arith) (omega arith)
signed_rank f true a c C = round_rank f true a c ∙ to_neg f 0 a c a C (omega arith) (omega arith)

-- the parts of a product, by the signs
pp_mul : (s t : Bool) (a b : ℕ) → pp (unlike s t) (a * b) ≡ pp s a * pp t b + nn s a * nn t b
pp_mul false false a b = omega (arith, zero-mul 0)
pp_mul false true a b = omega (arith, mul-zero a, zero-mul b)
pp_mul true false a b = omega (arith, mul-zero a, zero-mul b)
pp_mul true true a b = omega (arith, zero-mul 0)

nn_mul : (s t : Bool) (a b : ℕ) → nn (unlike s t) (a * b) ≡ pp s a * nn t b + nn s a * pp t b
nn_mul false false a b = omega (arith, mul-zero a, zero-mul b)
nn_mul false true a b = omega (arith, zero-mul 0)
nn_mul true false a b = omega (arith, zero-mul 0)
nn_mul true true a b = omega (arith, mul-zero a, zero-mul b)

prod : (a b l x y g h : ℕ) → a * l ≡ x * g → b * l ≡ y * h → a * b * (l * l) ≡ x * y * (g * h)
prod a b l x y g h p q =
    mul-mul-mul_comm a b l l ∙ ap (λ (z : ℕ). z * (b * l)) p ∙ ap (λ (z : ℕ). x * g * z) q ∙ mul-mul-mul_comm x g y h

four : (a b c d l x y z w g h : ℕ) → a * l ≡ x * g → b * l ≡ y * h → c * l ≡ z * g → d * l ≡ w * h
    → (a * b + c * d) * l * l ≡ (x * y + z * w) * (g * h)
four a b c d l x y z w g h p q r s =
    mul_assoc (a * b + c * d) l l
    ∙ add-mul (a * b) (c * d) (l * l) ∙ ap (λ (k : ℕ). k + c * d * (l * l)) (prod a b l x y g h p q)
    ∙ ap (λ (k : ℕ). x * y * (g * h) + k) (prod c d l z w g h r s)
    ∙ sym (add-mul (x * y) (z * w) (g * h))

-- a finite value over its own denominator
own : (f : Format) (s : Bool) (m : ℕ) (e : ℤ) → T (fits f (fin false m e))
    → (pp s (m * up e) * 2 ^ low f ≡ P (units_of f (fin s m e)) * down e)
    × (nn s (m * up e) * 2 ^ low f ≡ N (units_of f (fin s m e)) * down e)
own f s m e t =
    let w = over f s m e 1 t in (
      ap (λ (z : ℕ). pp s z * 2 ^ low f) (sym (mul-one (m * up e))) ∙ w.0
          ∙ ap (λ (z : ℕ). P (units_of f (fin s m e)) * z) (mul-one (down e)),
      ap (λ (z : ℕ). nn s z * 2 ^ low f) (sym (mul-one (m * up e))) ∙ w.1
          ∙ ap (λ (z : ℕ). N (units_of f (fin s m e)) * z) (mul-one (down e)),
    )

pub mul_rounds : (x y : Float) → T (fits binary64 x) → T (finite x) → T (fits binary64 y) → T (finite y)
    → Rounds (mul binary64 x y) (P (units_of binary64 x *ℤ units_of binary64 y))
    (N (units_of binary64 x *ℤ units_of binary64 y)) (2 ^ low binary64)
unfolding mul
mul_rounds (fin s m e) (fin t n d) fx hx fy hy =
    let f = binary64 in
    let l = 2 ^ low f in
    let a = m * up e in
    let b = n * up d in
    let c = down e * down d in
    let C = mul-pos (down_pos e) (down_pos d) in
    let ux = units_of f (fin s m e) in
    let uy = units_of f (fin t n d) in
    let u = own f s m e (plain_fits s m e fx) in
    let v = own f t n d (plain_fits t n d fy) in
    record {
      num_p = pp (unlike s t) (a * b);
      num_q = nn (unlike s t) (a * b);
      den = c;
      den_pos = C;
      at_rank = signed_rank f (unlike s t) (a * b) c C;
      is_p = ap (λ (z : ℕ). z * l * l) (pp_mul s t a b) ∙ four (pp s a) (pp t b) (nn s a) (nn t b) l (P ux) (P uy)
          (N ux) (N uy) (down e) (down d) u.0 v.0 u.1 v.1 ∙ ap (λ (z : ℕ). z * c) (sym (P-mul ux uy));
      is_q = ap (λ (z : ℕ). z * l * l) (nn_mul s t a b) ∙ four (pp s a) (nn t b) (nn s a) (pp t b) l (P ux) (N uy)
          (N ux) (P uy) (down e) (down d) u.0 v.1 u.1 v.0 ∙ ap (λ (z : ℕ). z * c) (sym (N-mul ux uy));
      is_float = mul-fits f (fin s m e) (fin t n d);
    }
mul_rounds lib.Ieee.nan y fx hx fy hy = elim hx [ ]
mul_rounds (lib.Ieee.inf _) y fx hx fy hy = elim hx [ ]
mul_rounds (fin s m e) lib.Ieee.nan fx hx fy hy = elim hy [ ]
mul_rounds (fin s m e) (lib.Ieee.inf _) fx hx fy hy = elim hy [ ]

-- ---- a corner
pub nonneg_number : (v : Float) → NonNegative v → T (not (is_nan v)) × T (not (is_nan (neg v)))
unfolding NonNegative is_nan neg
nonneg_number v (inl e) = subst (λ (z : Float). T (not (is_nan z)) × T (not (is_nan (neg z)))) (sym e) (tt, tt)
nonneg_number v (inr w) = subst (λ (z : Float). T (not (is_nan z)) × T (not (is_nan (neg z)))) (sym w.2) (tt, tt)

pub round_number : (f : Format) (s : Bool) (a c : ℕ) → T (not (is_nan (round f s a c)))
unfolding is_nan
round_number f false a c = (nonneg_number (round f false a c) (round_nonneg f a c)).0
round_number f true a c = subst (λ (v : Float). T (not (is_nan v))) (sym (neg_round f a c))
    (nonneg_number (round f false a c) (round_nonneg f a c)).1

pub mul_number : (x y : Float) → T (finite x) → T (finite y) → Number (mul binary64 x y)
unfolding mul
mul_number (fin s m e) (fin t n d) hx hy = (
  mul-fits binary64 (fin s m e) (fin t n d),
  round_number binary64 (unlike s t) (m * up e * (n * up d)) (down e * down d),
)
mul_number lib.Ieee.nan y hx hy = elim hx [ ]
mul_number (lib.Ieee.inf _) y hx hy = elim hx [ ]
mul_number (fin s m e) lib.Ieee.nan hx hy = elim hy [ ]
mul_number (fin s m e) (lib.Ieee.inf _) hx hy = elim hy [ ]

-- w is at most the product x * y: stepped down, it is at most the exact product
pub corner_low : (x y w : Float) → T (fits binary64 x) → T (finite x) → T (fits binary64 y) → T (finite y)
    → T (fits binary64 w) → rank binary64 w ≤ rank binary64 (mul binary64 x y) → T (finite (next_down w))
    → T (le_z (units_of binary64 (next_down w) *ℤ pos (2 ^ low binary64)) (units_of binary64 x *ℤ units_of binary64 y))
corner_low x y w fx hx fy hy fw k h =
    let u = units_of binary64 (next_down w) in
    let l = 2 ^ low binary64 in
    let z = units_of binary64 x *ℤ units_of binary64 y in
    le_of_parts (u *ℤ pos l) z
    (rw (P-scale u l, N-scale u l)
    (rounds_below (mul binary64 x y) w (P z) (N z) l (mul_rounds x y fx hx fy hy) fw k h))

pub corner_high : (x y w : Float) → T (fits binary64 x) → T (finite x) → T (fits binary64 y) → T (finite y)
    → T (fits binary64 w) → rank binary64 (mul binary64 x y) ≤ rank binary64 w → T (finite (next_up w))
    → T (le_z (units_of binary64 x *ℤ units_of binary64 y) (units_of binary64 (next_up w) *ℤ pos (2 ^ low binary64)))
corner_high x y w fx hx fy hy fw k h =
    let u = units_of binary64 (next_up w) in
    let l = 2 ^ low binary64 in
    let z = units_of binary64 x *ℤ units_of binary64 y in
    le_of_parts z (u *ℤ pos l)
    (rw (P-scale u l, N-scale u l)
    (rounds_above (mul binary64 x y) w (P z) (N z) l (mul_rounds x y fx hx fy hy) fw k h))

-- ---- from the corners to what lies between
quadruple : (r a b : ℤ) (l j k : ℕ) → T (le_z (r *ℤ pos l) (a *ℤ b))
    → T (le_z ((r *ℤ pos l) *ℤ pos (j * k)) ((a *ℤ pos j) *ℤ (b *ℤ pos k)))
quadruple r a b l j k h = subst (λ (z : ℤ). T (le_z ((r *ℤ pos l) *ℤ pos (j * k)) z)) (sym (scale_mul a b j k))
    (mono (r *ℤ pos l) (a *ℤ b) (j * k) h)

turn : (r : ℤ) (l n : ℕ) → (r *ℤ pos l) *ℤ pos n ≡ (r *ℤ pos n) *ℤ pos l
turn r l n = scale_scale r l n ∙ ap (λ (z : ℕ). r *ℤ pos z) (mul_comm l n) ∙ sym (scale_scale r n l)

-- r * l is at most each product of ends; a choice is p / j, its interval's ends a and b, all over l
pub product_low : (r a b c d p q : ℤ) (l j k : ℕ) → 0 < l
    → T (le_z (r *ℤ pos l) (a *ℤ c)) → T (le_z (r *ℤ pos l) (a *ℤ d)) → T (le_z (r *ℤ pos l) (b *ℤ c))
    → T (le_z (r *ℤ pos l) (b *ℤ d))
    → T (le_z (a *ℤ pos j) (p *ℤ pos l)) → T (le_z (p *ℤ pos l) (b *ℤ pos j)) → T (le_z (c *ℤ pos k) (q *ℤ pos l))
    → T (le_z (q *ℤ pos l) (d *ℤ pos k))
    → T (le_z (r *ℤ pos (j * k)) ((p *ℤ q) *ℤ pos l))
product_low r a b c d p q l j k L ac ad bc bd ap' pb cq qd =
    let h = corners_low ((r *ℤ pos l) *ℤ pos (j * k)) (a *ℤ pos j) (p *ℤ pos l) (b *ℤ pos j) (c *ℤ pos k) (q *ℤ pos l)
    (d *ℤ pos k) ap' pb cq qd (quadruple r a c l j k ac) (quadruple r a d l j k ad) (quadruple r b c l j k bc)
    (quadruple r b d l j k bd) in
    unscale (r *ℤ pos (j * k)) ((p *ℤ q) *ℤ pos l) l L
    (subst (λ (z : ℤ). T (le_z z (((p *ℤ q) *ℤ pos l) *ℤ pos l))) (turn r l (j * k))
    (subst (λ (z : ℤ). T (le_z ((r *ℤ pos l) *ℤ pos (j * k)) z))
    (scale_mul p q l l ∙ sym (scale_scale (p *ℤ q) l l)) h))
