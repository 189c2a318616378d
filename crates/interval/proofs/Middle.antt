-- The number chosen from an interval, by its two upper bounds b and a: zero is among [-b, a] where the lesser of them
-- is not negative, and the middle is half of a - b, since the order of two terms does not change their sum.
use Rattle.std.proofs.Common.{◌≡◌, ℕ, zero, suc, ◌+◌, ◌-◌, ◌*◌, ◌<◌, ◌≤◌, Bool, true, false, cond, not, ◌&&◌, ◌||◌, T}
use Rattle.std.proofs.Common.{eqb, ltb, leb, sym, refl, ap, ◌∙◌, mul_comm, add_comm, zero-mul, arith, le→leb, eqb→eq}
use Rattle.std.proofs.Common.{ltb→lt, lt→ltb, leb→le, nltb→le}
use lib.Arith.{le→nltb, lt→nleb}
use lib.Dec.{not_T}
use lib.Ieee.{Float, nan, inf, fin, binary64, up, down, round, sum, add, sub, neg, lt, le, eq, is_nan, to_bits}
use lib.Ieee.Bits.{is_true, is_false}
use Rattle.interval.specs.Float.{lesser}
use Rattle.interval.specs.Pattern.{inf_bits}
use Rattle.interval.specs.Scalar.{zero64, zero_s, could_be_equal}
use Rattle.interval.proofs.Patterns.{bits_pos}
use Rattle.interval.proofs.Rank.{rank}
use Rattle.interval.proofs.Tests.{zero_eq, eq_zero}
use Rattle.interval.proofs.Outward.{positive_fits, zero_bits}
use Rattle.interval.proofs.Order.{Number, lt_rank, nlt_rank}
use Rattle.interval.proofs.Infinite.{neg_neg}
use Rattle.interval.proofs.Bounds.{some}

-- ---- the sign of a bound
abbrev not_negative : Float → Bool
not_negative nan = false
not_negative (inf s) = not s
not_negative (fin false m e) = true
not_negative (fin true zero e) = true
not_negative (fin true (suc m) e) = false

or_last : (a b : Bool) → b ≡ true → (a || b) ≡ true
or_last true b h = refl
or_last false b h = h

zero_under : (x : Float) → le zero64 x ≡ not_negative x
unfolding le lt eq
zero_under nan = refl
zero_under (inf true) = refl
zero_under (inf false) = refl
zero_under (fin false zero e) = or_last (lt zero64 (fin false zero e)) (eq zero64 (fin false zero e)) (eq_zero false e)
zero_under (fin true zero e) = eq_zero true e
zero_under (fin false (suc m) e) = rw (is_true (ltb (0 * down e) (suc m * up e * 1))
    (lt→ltb (0 * down e) (suc m * up e * 1) (omega (arith, some m e, zero-mul (down e)))))
zero_under (fin true (suc m) e) =
    rw (is_false (eqb (0 * down e) (suc m * up e * 1)) (not_T (eqb (0 * down e) (suc m * up e * 1))
    (λ h. omega (arith, eqb→eq (0 * down e) (suc m * up e * 1) h, some m e, zero-mul (down e)))))

zero_over : (x : Float) → le x zero64 ≡ not_negative (neg x)
unfolding le lt eq neg
zero_over nan = refl
zero_over (inf true) = refl
zero_over (inf false) = refl
zero_over (fin s zero e) = or_last (lt (fin s zero e) zero64) (eq (fin s zero e) zero64) (zero_eq s e) ∙ either_sign s
  where
    either_sign : (s : Bool) → true ≡ not_negative (fin (not s) zero e)
    either_sign true = refl
    either_sign false = refl
zero_over (fin true (suc m) e) = rw (is_true (ltb 0 (suc m * up e * 1 + 0 * down e))
    (lt→ltb 0 (suc m * up e * 1 + 0 * down e) (omega (arith, some m e))))
zero_over (fin false (suc m) e) =
    rw (
      is_false (ltb (suc m * up e * 1) (0 * down e))
          (le→nltb (suc m * up e * 1) (0 * down e) (omega (arith, zero-mul (down e)))),
      is_false (eqb (suc m * up e * 1) (0 * down e)) (not_T (eqb (suc m * up e * 1) (0 * down e))
          (λ h. omega (arith, eqb→eq (suc m * up e * 1) (0 * down e) h, some m e, zero-mul (down e)))),
    )

rank_sign : (x : Float) → Number x → not_negative x ≡ leb (inf_bits binary64) (rank binary64 x)
unfolding rank is_nan
rank_sign nan n = absurd n.1
rank_sign (inf true) n = refl
rank_sign (inf false) n = refl
rank_sign (fin false m e) n =
    sym (is_true (leb (inf_bits binary64) (inf_bits binary64 + to_bits binary64 (fin false m e)))
    (le→leb (inf_bits binary64) (inf_bits binary64 + to_bits binary64 (fin false m e)) (omega arith)))
rank_sign (fin true zero e) n =
    sym (is_true (leb (inf_bits binary64) (inf_bits binary64 - to_bits binary64 (fin false zero e)))
    (le→leb (inf_bits binary64) (inf_bits binary64 - to_bits binary64 (fin false zero e))
    (omega (arith, zero_bits binary64 e (positive_fits zero e n.0)))))
rank_sign (fin true (suc m) e) n =
    sym (is_false (leb (inf_bits binary64) (inf_bits binary64 - to_bits binary64 (fin false (suc m) e)))
    (lt→nleb (inf_bits binary64) (inf_bits binary64 - to_bits binary64 (fin false (suc m) e))
    (omega (arith, bits_pos binary64 m e (positive_fits (suc m) e n.0)))))

-- of two ranks in order the lower one decides
lower_decides : (i a b : ℕ) → a ≤ b → (leb i a && leb i b) ≡ leb i a
lower_decides i a b h = go (leb i a) (leb→le i a)
  where
    go : (t : Bool) → (T t → i ≤ a) → (t && leb i b) ≡ t
    go true p = let k = p tt in is_true (leb i b) (le→leb i b (omega arith))
    go false p = refl

and_comm : (a b : Bool) → (a && b) ≡ (b && a)
and_comm true true = refl
and_comm true false = refl
and_comm false true = refl
and_comm false false = refl

lesser_sign : (a b : Float) → Number a → Number b → not_negative (lesser a b) ≡ (not_negative a && not_negative b)
unfolding lesser
lesser_sign a b na nb = go (lt b a) (lt_rank b a nb.0 na.0) (nlt_rank b a nb.0 na.0 nb.1 na.1)
  where
    go : (t : Bool) → (T t → rank binary64 b ≤ rank binary64 a) → (T (not t) → rank binary64 a ≤ rank binary64 b)
        → not_negative (cond t b a) ≡ (not_negative a && not_negative b)
    go true p q = rw (rank_sign a na, rank_sign b nb)
        (sym (lower_decides (inf_bits binary64) (rank binary64 b) (rank binary64 a) (p tt))
        ∙ and_comm (leb (inf_bits binary64) (rank binary64 b)) (leb (inf_bits binary64) (rank binary64 a)))
    go false p q = rw (rank_sign a na, rank_sign b nb)
        (sym (lower_decides (inf_bits binary64) (rank binary64 a) (rank binary64 b) (q tt)))

-- zero is among the interval where neither bound is negative
pub zero_among : (b a : Float) → Number b → Number a
    → le zero64 (lesser b a) ≡ could_be_equal (record { lo = neg b; hi = a }) zero_s
zero_among b a nb na = zero_under (lesser b a) ∙ lesser_sign b a nb na ∙ rw (zero_over (neg b), neg_neg b, zero_under a)

-- ---- the order of two terms
and_true : (a : Bool) → (a && true) ≡ a
and_true true = refl
and_true false = refl

and_false : (a : Bool) → (a && false) ≡ false
and_false true = refl
and_false false = refl

unlike_swapped : (s t : Bool) (a b c : ℕ)
    → cond (ltb a b) (round binary64 t (b - a) c) (round binary64 (s && ltb b a) (a - b) c)
    ≡ cond (ltb b a) (round binary64 s (a - b) c) (round binary64 (t && ltb a b) (b - a) c)
unlike_swapped s t a b c = go (ltb a b) (ltb b a) (ltb→lt a b) (nltb→le a b) (ltb→lt b a) (nltb→le b a)
  where
    go : (x y : Bool) → (T x → a < b) → (T (not x) → b ≤ a) → (T y → b < a) → (T (not y) → a ≤ b)
        → cond x (round binary64 t (b - a) c) (round binary64 (s && y) (a - b) c)
        ≡ cond y (round binary64 s (a - b) c) (round binary64 (t && x) (b - a) c)
    go true true p q u v = let h = p tt in let k = u tt in absurd (omega arith)
    go true false p q u v = rw (and_true t)
    go false true p q u v = rw (and_true s)
    go false false p q u v =
        let h = q tt in let k = v tt in let e : a - b ≡ b - a = omega arith in rw (and_false s, and_false t, e)

sum_swapped : (s : Bool) (a : ℕ) (t : Bool) (b c : ℕ) → sum binary64 s a t b c ≡ sum binary64 t b s a c
unfolding sum
sum_swapped true a true b c = rw (add_comm a b)
sum_swapped false a false b c = rw (add_comm a b)
sum_swapped true a false b c = unlike_swapped true false a b c
sum_swapped false a true b c = unlike_swapped false true a b c

add_swapped : (x y : Float) → add binary64 x y ≡ add binary64 y x
unfolding add
add_swapped nan nan = refl
add_swapped nan (inf t) = refl
add_swapped nan (fin t n d) = refl
add_swapped (inf s) nan = refl
add_swapped (inf true) (inf true) = refl
add_swapped (inf true) (inf false) = refl
add_swapped (inf false) (inf true) = refl
add_swapped (inf false) (inf false) = refl
add_swapped (inf s) (fin t n d) = refl
add_swapped (fin s m e) nan = refl
add_swapped (fin s m e) (inf t) = refl
add_swapped (fin s m e) (fin t n d) = sum_swapped s (m * up e * down d) t (n * up d * down e) (down e * down d)
    ∙ ap (sum binary64 t (n * up d * down e) s (m * up e * down d)) (mul_comm (down e) (down d))

pub ends_sum : (b a : Float) → sub binary64 a b ≡ add binary64 (neg b) a
unfolding sub
ends_sum b a = add_swapped a (neg b)
