-- The bit patterns below an infinity's stand for whole numbers of the format's smallest value (`magnitude`), which grow
-- with the pattern; rounding keeps them.
use Rattle.interval.specs.Pattern.{inf_bits, significand, shift_of, fields_magnitude, magnitude}
use Rattle.std.proofs.Common.{◌≡◌, ℕ, zero, suc, ◌+◌, ◌-◌, ◌*◌, ◌/◌, ◌%◌, ◌^◌, ◌<◌, ◌≤◌, Bool, true, false, cond, not}
use Rattle.std.proofs.Common.{T, eqb, ltb, leb, ℤ, sym, refl, ap, ◌∙◌, subst, inl, inr, true≢false, le_of_eq}
use Rattle.std.proofs.Common.{lt_of_lt_of_le, le_of_suc-le-suc, lt_irrefl, mod-lt, mod-eq_of_lt, zero-lt-suc, mul_assoc}
use Rattle.std.proofs.Common.{suc-mul, mul_comm, div-lt_iff_lt-mul, eq-zero-or-pos, mul-lt-mul_of_pos_right, mul-pos}
use Rattle.std.proofs.Common.{div-add-mod', zero-add, zero-mul, arith, lit<, eqb→eq, ltb→lt, nltb→le, pow_pos, pow_mono}
use Rattle.std.proofs.Common.{shl_lt}
use native.Mathlib.Nat.{pow-succ'}
use lib.Dec.{not_T, nleb→lt}
use lib.Arith.{lt_of_le-ne, digits_div, digits_mod, lt→nleb, le→nltb}
use lib.Ieee.{Float, nan, inf, fin, Format, binary32, binary64, prec, emax, low, down, odd, round, fits, hid, ones, top}
use lib.Ieee.{of_fields, of_bits, nan_bits, to_bits}
use lib.Ieee.Bits.{is_false, cond_no, of_bits-to_bits, nan_bits_above}
use lib.Ieee.Exact.{HasValue, odd_sign, round_exact}
use lib.Ieee.Fits.{eq→eqb, up_pos, two, two-le_pos}
use lib.Ieee.Scale.{finite}

pub hid_pos : (f : Format) → 0 < hid f
hid_pos f = pow_pos (prec f - 1)

field_lt : (f : Format) (b : ℕ) → b < inf_bits f → b / hid f < ones f
field_lt f b h = (div-lt_iff_lt-mul (hid_pos f)).1 h

digit_lt : (f : Format) (b : ℕ) → b % hid f < hid f
digit_lt f b = mod-lt b (hid_pos f)

-- ---- what a pattern below an infinity's is read as
fields_val : (f : Format) (s : Bool) (x t : ℕ) → x < ones f
    → HasValue (of_fields f s x t) s (fields_magnitude f x t) (2 ^ low f)
unfolding of_fields
fields_val f s zero t h = odd_sign (prec f) s t 0 (low f)
fields_val f s (suc x) t h =
    subst (λ (v : Float). HasValue v s ((hid f + t) * 2 ^ x) (2 ^ low f))
    (sym (cond_no (eqb (suc x) (ones f)) (cond (eqb t 0) (inf s) nan)
    (odd (prec f) s (hid f + t) x (low f)) (not_T (eqb (suc x) (ones f)) (λ (g : T (eqb (suc x) (ones f))).
    lt_irrefl (suc x) (subst (λ (z : ℕ). suc x < z) (sym (eqb→eq (suc x) (ones f) g)) h)))))
    (odd_sign (prec f) s (hid f + t) x (low f))

infinity_top : (f : Format) (b : ℕ) → b < inf_bits f → b < top f
infinity_top f b h = omega (arith, mul_comm (hid f) (suc (ones f)), suc-mul (ones f) (hid f))

read_low : (f : Format) (b : ℕ) → b < top f → of_bits f b ≡ of_fields f false (b / hid f) (b % hid f)
unfolding of_bits
read_low f b h =
    ap (λ (s : Bool). of_fields f s (b % top f / hid f) (b % hid f)) (is_false (leb (top f) b) (lt→nleb (top f) b h))
    ∙ ap (λ (r : ℕ). of_fields f false (r / hid f) (b % hid f)) (mod-eq_of_lt h)

pub of_bits-val : (f : Format) (b : ℕ) → b < inf_bits f → HasValue (of_bits f b) false (magnitude f b) (2 ^ low f)
unfolding magnitude
of_bits-val f b h =
    subst (λ (v : Float). HasValue v false (magnitude f b) (2 ^ low f)) (sym (read_low f b (infinity_top f b h)))
    (fields_val f false (b / hid f) (b % hid f) (field_lt f b h))

-- ---- a larger pattern is a larger number
grow : (a b p : ℕ) → a < b → 0 < p → a * p < b * p
grow a b p h P = mul-lt-mul_of_pos_right h P

digits_mono : (f : Format) (x t : ℕ) → significand f x t < significand f x (suc t)
digits_mono f zero t = omega arith
digits_mono f (suc x) t = omega arith

same_field : (f : Format) (x t : ℕ) → fields_magnitude f x t < fields_magnitude f x (suc t)
same_field f x t =
    grow (significand f x t) (significand f x (suc t)) (2 ^ shift_of x) (digits_mono f x t) (pow_pos (shift_of x))

next_field : (f : Format) (x t : ℕ) → t < hid f → fields_magnitude f x t < fields_magnitude f (suc x) 0
next_field f zero t h = grow t (hid f + 0) 1 (omega arith) (pow_pos 0)
next_field f (suc x) t h =
    lt_of_lt_of_le (grow (hid f + t) (hid f * 2) (2 ^ x) (omega arith) (pow_pos x))
    (le_of_eq (mul_assoc (hid f) 2 (2 ^ x) ∙ ap (λ (z : ℕ). hid f * z) (sym (pow-succ' 2 x))
    ∙ ap (λ (z : ℕ). z * 2 ^ suc x) (sym (plus0 (hid f)))))
  where
    plus0 : (n : ℕ) → n + 0 ≡ n
    plus0 n = omega arith

pub magnitude_at : (f : Format) (x t : ℕ) → t < hid f → magnitude f (x * hid f + t) ≡ fields_magnitude f x t
unfolding magnitude
magnitude_at f x t h = ap (λ (z : ℕ). fields_magnitude f z ((x * hid f + t) % hid f)) (digits_div x h)
    ∙ ap (λ (z : ℕ). fields_magnitude f x z) (digits_mod x h)

pub magnitude_step : (f : Format) (b : ℕ) → magnitude f b < magnitude f (b + 1)
unfolding magnitude
magnitude_step f b =
    go (ltb (suc (b % hid f)) (hid f)) (ltb→lt (suc (b % hid f)) (hid f)) (nltb→le (suc (b % hid f)) (hid f))
  where
    x : ℕ
    x = b / hid f

    t : ℕ
    t = b % hid f

    go : (c : Bool) → (T c → suc (b % hid f) < hid f) → (T (not c) → hid f ≤ suc (b % hid f))
        → magnitude f b < magnitude f (b + 1)
    go true y n =
        let e : b + 1 ≡ b / hid f * hid f + suc (b % hid f) = omega (arith, div-add-mod' b (hid f)) in
        subst
        (λ (z : ℕ). magnitude f b < z) (sym (ap (magnitude f) e ∙ magnitude_at f (b / hid f) (suc (b % hid f)) (y tt)))
        (same_field f (b / hid f) (b % hid f))
    go false y n =
        let e : b + 1 ≡ suc (b / hid f) * hid f + 0 =
        omega (arith, div-add-mod' b (hid f), digit_lt f b, n tt, suc-mul (b / hid f) (hid f)) in
        subst (λ (z : ℕ). magnitude f b < z) (sym (ap (magnitude f) e ∙ magnitude_at f (suc (b / hid f)) 0 (hid_pos f)))
        (next_field f (b / hid f) (b % hid f) (digit_lt f b))

-- ---- rounding keeps what a pattern stands for
digits_fit : (f : Format) (x t : ℕ) → t < hid f → significand f x t < 2 ^ prec f
digits_fit f x t h =
    let w : 2 ^ prec f ≡ 2 * hid f = twice (prec f) (two-le_pos (prec f) (two f)) in go x
  where
    twice : (p : ℕ) → 0 < p → 2 ^ p ≡ 2 * 2 ^ (p - 1)
    twice p P = ap (λ (z : ℕ). 2 ^ z) (omega arith) ∙ pow-succ' 2 (p - 1)

    go : (x : ℕ) → significand f x t < 2 ^ prec f
    go zero = omega (arith, twice (prec f) (two-le_pos (prec f) (two f)))
    go (suc x) = omega (arith, twice (prec f) (two-le_pos (prec f) (two f)))

room : (p e x : ℕ) → 2 ≤ p → x < 2 * e + 1 → 0 < e → p + shift_of x ≤ e + p - 2 + suc e
room p e zero P X E = omega arith
room p e (suc x) P X E = omega arith

emax_pos : (f : Format) → 0 < emax f
emax_pos binary32 = lit< tt
emax_pos binary64 = lit< tt

pub magnitude_under : (f : Format) (b : ℕ) → b < inf_bits f → magnitude f b < 2 ^ (low f + suc (emax f))
unfolding magnitude
magnitude_under f b h =
    let x = b / hid f in
    lt_of_lt_of_le (shl_lt (prec f) (shift_of x) (digits_fit f x (b % hid f) (digit_lt f b)))
    (pow_mono (room (prec f) (emax f) x (two f) (field_lt f b h) (emax_pos f)))

pub magnitude_exact : (f : Format) (b : ℕ) → b < inf_bits f
    → HasValue (round f false (magnitude f b) (2 ^ low f)) false (magnitude f b) (2 ^ low f)
unfolding magnitude
magnitude_exact f b h =
    let x = b / hid f in
    let t = b % hid f in
    let d : significand f x t < 2 ^ prec f = digits_fit f x t (digit_lt f b) in
    round_exact f false (magnitude f b) (2 ^ low f) (significand f x t) (shift_of x) (pow_pos (low f)) d
    (lt_of_lt_of_le (shl_lt (prec f) (shift_of x) d)
    (pow_mono (room (prec f) (emax f) x (two f) (field_lt f b h) (emax_pos f))))
    refl

-- ---- the patterns of values
no_infinity : (f : Format) (s : Bool) (x t : ℕ) → x ≡ ones f → T (finite (of_fields f s x t)) → ⊥
unfolding of_fields
no_infinity f s zero t e h = omega (arith, e)
no_infinity f s (suc x) t e h = go (eqb (suc x) (ones f)) (eqb t 0) (eq→eqb e) h
  where
    go : (a b : Bool) → T a → T (finite (cond a (cond b (inf s) nan) (odd (prec f) s (hid f + t) x (low f)))) → ⊥
    go true true y h = h
    go true false y h = h
    go false b y h = y

fields_fin : (f : Format) (s : Bool) (x t : ℕ) (s' : Bool) (m : ℕ) (e : ℤ) → x < suc (ones f)
    → of_fields f s x t ≡ fin s' m e → (s' ≡ s) × (x < ones f)
fields_fin f s x t s' m e X h =
    let lt : x < ones f = lt_of_le-ne (le_of_suc-le-suc X)
    (λ (g : x ≡ ones f). no_infinity f s x t g (subst (λ (v : Float). T (finite v)) (sym h) tt)) in
    ((subst (λ (v : Float). HasValue v s (fields_magnitude f x t) (2 ^ low f)) h (fields_val f s x t lt)).0, lt)

under_top : (f : Format) (b : ℕ) → b % top f < suc (ones f) * hid f
under_top f b =
    lt_of_lt_of_le (mod-lt b (mul-pos (hid_pos f) (zero-lt-suc (ones f)))) (le_of_eq (mul_comm (hid f) (suc (ones f))))

not_both : true ≡ false → ⊥
not_both p = true≢false p

pub bits_under : (f : Format) (m : ℕ) (e : ℤ) → T (fits f (fin false m e)) → to_bits f (fin false m e) < inf_bits f
unfolding of_bits
bits_under f m e h =
    let b = to_bits f (fin false m e) in
    let r = fields_fin f (leb (top f) b) (b % top f / hid f) (b % hid f) false m e
    ((div-lt_iff_lt-mul (hid_pos f)).1 (under_top f b)) (of_bits-to_bits f (fin false m e) h) in
    let small : b < top f = nleb→lt (top f) b (subst (λ (z : Bool). T (not z)) r.0 tt) in
    (div-lt_iff_lt-mul (hid_pos f)).0 (subst (λ (z : ℕ). z / hid f < ones f) (mod-eq_of_lt small) r.1)

pub bits_infinity : (f : Format) → to_bits f (inf false) ≡ inf_bits f
unfolding to_bits
bits_infinity f = zero-add (inf_bits f)

pub bits_val : (f : Format) (m : ℕ) (e : ℤ) → T (fits f (fin false m e))
    → HasValue (fin false m e) false (magnitude f (to_bits f (fin false m e))) (2 ^ low f)
bits_val f m e h = subst (λ (v : Float). HasValue v false (magnitude f (to_bits f (fin false m e))) (2 ^ low f))
    (of_bits-to_bits f (fin false m e) h) (of_bits-val f (to_bits f (fin false m e)) (bits_under f m e h))

pub no_nan : (f : Format) (n : ℕ) → n ≤ inf_bits f → T (not (nan_bits f n))
no_nan f n h =
    let small : n < top f = omega (arith, mul_comm (hid f) (suc (ones f)), suc-mul (ones f) (hid f), hid_pos f) in
    subst (λ (z : Bool). T (not z)) (sym (nan_bits_above f n))
    (subst (λ (z : ℕ). T (not (ltb (inf_bits f) z))) (sym (mod-eq_of_lt small)) (le→nltb (inf_bits f) n h))

pub magnitude_zero : (f : Format) → magnitude f 0 ≡ 0
magnitude_zero f = ap (magnitude f) (sym (ap (λ (z : ℕ). z + 0) (zero-mul (hid f)))) ∙ magnitude_at f 0 0 (hid_pos f)

pub bits_pos : (f : Format) (m : ℕ) (e : ℤ) → T (fits f (fin false (suc m) e)) → 1 ≤ to_bits f (fin false (suc m) e)
bits_pos f m e h = elim (eq-zero-or-pos (to_bits f (fin false (suc m) e))) [
  | inl z ↦
      let v = bits_val f (suc m) e h in
      absurd (lt_irrefl 0 (subst (λ (n : ℕ). 0 < n) (v.1 ∙ ap (λ (n : ℕ). n * down e) (ap (magnitude f) z
      ∙ magnitude_zero f) ∙ zero-mul (down e)) (mul-pos (mul-pos (zero-lt-suc m) (up_pos e)) (pow_pos (low f)))))
  | inr p ↦ p
]
