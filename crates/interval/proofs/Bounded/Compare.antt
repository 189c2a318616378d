-- Bounds from comparisons of floats: `le` follows the ranks, and a float of a rank between those of two small floats is
-- small.
use Rattle.std.proofs.Common.{◌≡◌, ℕ, zero, suc, ◌+◌, ◌*◌, ◌/◌, ◌^◌, ◌<◌, ◌≤◌, Bool, true, false, not, ◌&&◌, ◌||◌, T}
use Rattle.std.proofs.Common.{eqb, ltb, leb, ℤ, pos, negsuc, neg_ℤ, sym, refl, ap, ◌∙◌, zero-le, le_trans, le_of_eq}
use Rattle.std.proofs.Common.{le_refl, lt_of_lt_of_le, lt_of_le_of_lt, le_of_lt, mul-le-mul_right}
use Rattle.std.proofs.Common.{lt_of_mul-lt-mul_right, mul-lt-mul_of_pos_right, one-mul, mul-one, mul_right_comm}
use Rattle.std.proofs.Common.{mul-div_cancel, arith, le→leb, eqb→eq, ltb→lt, lt→ltb, pow_pos, pow-add}
use lib.Arith.{le→nltb}
use lib.Pow.{pow-lt}
use lib.Signed.{le_z}
use lib.Ieee.{Float, nan, inf, fin, binary64, low, up, down, below, level, lt, le, eq, fits}
use lib.Ieee.Fits.{and_i, and_l, and_r, down_pos}
use Rattle.interval.specs.declared.Scalar.{Scalar}
use Rattle.interval.specs.Bounded.{Small, Bounded, turned, Far, Away}
use Rattle.interval.specs.Enclosure.{signed, units_of, Fits}
use Rattle.interval.proofs.Integers.{P, N, P-neg, N-neg, le_of_parts, parts_of_le}
use Rattle.interval.proofs.Corners.{le_z-trans, le_z-eq}
use Rattle.interval.proofs.Rank.{rank}
use Rattle.interval.proofs.Outward.{rank_le}
use Rattle.interval.proofs.Order.{nlt_rank, finite_number, rank_units}
use Rattle.interval.proofs.Enclosure.Neg.{parts_neg}
use Rattle.interval.proofs.Bounded.Power.{small, small_near, near_small}

-- ---- `le` follows the ranks
one_or_other : (x y : Bool) (A : Type 0) → (T x → A) → (T y → A) → T (x || (y && true)) → A
one_or_other true y A p q h = p tt
one_or_other false true A p q h = q tt
one_or_other false false A p q h = absurd h

not_above : (s : Bool) (a : ℕ) (t : Bool) (b : ℕ) → T (below s a t b || level s a t b) → T (not (below t b s a))
not_above false a false b h = le→nltb b a
    (one_or_other (ltb a b) (eqb a b) (a ≤ b) (λ p. le_of_lt (ltb→lt a b p)) (λ p. le_of_eq (eqb→eq a b p)) h)
not_above false a true b h = le→nltb 0 (b + a)
    (omega (arith, eqb→eq a b (and_l (eqb a b) (eqb a 0) h), eqb→eq a 0 (and_r (eqb a b) (eqb a 0) h)))
not_above true a false b h = tt
not_above true a true b h = le→nltb a b
    (one_or_other (ltb b a) (eqb a b) (b ≤ a) (λ p. le_of_lt (ltb→lt b a p)) (λ p. le_of_eq (sym (eqb→eq a b p))) h)

pub le_rank : (x y : Float) → T (fits binary64 x) → T (fits binary64 y) → T (le x y) → rank binary64 x ≤ rank binary64 y
unfolding le lt eq
le_rank nan y tx ty h = absurd h
le_rank (inf true) nan tx ty h = absurd h
le_rank (inf true) (inf t) tx ty h = unfold rank in zero-le
le_rank (inf true) (fin t n d) tx ty h = unfold rank in zero-le
le_rank (inf false) nan tx ty h = absurd h
le_rank (inf false) (inf true) tx ty h = absurd h
le_rank (inf false) (inf false) tx ty h = le_refl (rank binary64 (inf false))
le_rank (inf false) (fin t n d) tx ty h = absurd h
le_rank (fin s m e) nan tx ty h = absurd h
le_rank (fin s m e) (inf true) tx ty h = absurd h
le_rank (fin s m e) (inf false) tx ty h = unfold rank in rank_le (fin s m e) tx
le_rank (fin s m e) (fin t n d) tx ty h =
    nlt_rank (fin t n d) (fin s m e) ty tx (finite_number (fin t n d) ty tt).1 (finite_number (fin s m e) tx tt).1
    (not_above s (m * up e * down d) t (n * up d * down e) h)

-- ---- a float, and an interval, between two small floats
between : (w v z : Float) (k : ℕ) → Small w k → Small z k → T (fits binary64 v) → rank binary64 w ≤ rank binary64 v
    → rank binary64 v ≤ rank binary64 z → k < 2098 → Small v k
between w v z k a b t g h K = let c = small_near w k a in let d = small_near z k b in near_small v k t K (omega arith)

pub small_between : (w v z : Float) (k : ℕ) → Small w k → Small z k → T (fits binary64 v) → T (le w v) → T (le v z)
    → k < 2098 → Small v k
small_between w v z k a b t g h K =
    between w v z k a b t (le_rank w v a.is_float t g) (le_rank v z t b.is_float h) K

pub bounded_between : (w z : Float) (x : Scalar) (k : ℕ) → Small w k → Small z k → Fits x → T (le w x.lo)
    → T (le x.lo x.hi) → T (le x.hi z) → k < 2098 → Bounded x k
bounded_between w z x k a b t g o h K =
    let p = le_rank w x.lo a.is_float t.0 g in
    let q = le_rank x.lo x.hi t.0 t.1 o in
    let r = le_rank x.hi z t.1 b.is_float h in
    record {
      lo_small = between w x.lo z k a b t.0 p (le_trans q r) K;
      hi_small = between w x.hi z k a b t.1 (le_trans p q) r K;
    }

-- ---- a number with its sign
signed_le : (s : Bool) (n : ℕ) → (P (signed s n) ≤ n) × (N (signed s n) ≤ n)
signed_le false n = (le_refl n, zero-le)
signed_le true n = (le_trans (le_of_eq (P-neg n)) zero-le, le_of_eq (N-neg n))

turned_back : (s : Bool) (n : ℕ) → turned s (signed s n) ≡ pos n
turned_back false n = refl
turned_back true zero = refl
turned_back true (suc n) = refl

-- ---- 2 ^ e as a float, where it is 2 ^ k units
module _ (s : Bool) (e : ℤ) (k : ℕ) (K : k < 2098) (is : up e * 2 ^ low binary64 ≡ 2 ^ k * down e) where
  power_units : units_of binary64 (fin s 1 e) ≡ signed s (2 ^ k)
  unfolding units_of
  power_units = ap (signed s) (ap (λ (z : ℕ). z * 2 ^ low binary64 / down e) (one-mul (up e))
      ∙ ap (λ (z : ℕ). z / down e) is ∙ mul-div_cancel (2 ^ k) (down_pos e))

  deep : down e ≤ 2 ^ low binary64
  deep = go e is
    where
      go : (e : ℤ) → up e * 2 ^ low binary64 ≡ 2 ^ k * down e → down e ≤ 2 ^ low binary64
      go (pos n) h = pow_pos (low binary64)
      go (negsuc n) h = le_trans (le_of_eq (sym (one-mul (2 ^ suc n))))
          (le_trans (mul-le-mul_right (2 ^ suc n) (pow_pos k)) (le_of_eq (sym h ∙ one-mul (2 ^ low binary64))))

  short : 1 * up e < 2 ^ 1024 * down e
  short =
      lt_of_mul-lt-mul_right (2 ^ low binary64)
      (lt_of_le_of_lt (le_of_eq (ap (λ (z : ℕ). z * 2 ^ low binary64) (one-mul (up e)) ∙ is))
      (lt_of_lt_of_le (mul-lt-mul_of_pos_right (pow-lt K) (down_pos e))
      (le_of_eq (mul_right_comm (2 ^ 1024) (2 ^ low binary64) (down e)))))

  power_fits : T (fits binary64 (fin s 1 e))
  unfolding fits
  power_fits = and_i (leb (down e) (2 ^ low binary64)) (ltb (1 * up e) (2 ^ 1024 * down e))
      (le→leb (down e) (2 ^ low binary64) deep) (lt→ltb (1 * up e) (2 ^ 1024 * down e) short)

  pub power_small : Small (fin s 1 e) k
  power_small =
      let w = signed_le s (2 ^ k) in
      small (fin s 1 e) k power_fits tt (le_trans (le_of_eq (ap P power_units)) w.0)
      (le_trans (le_of_eq (ap N power_units)) w.1)

  pub power_far : Far s (fin s 1 e) k
  power_far = record {
    is_float = power_fits;
    is-finite = tt;
    at_least = le_z-eq (pos (2 ^ k)) (turned s (units_of binary64 (fin s 1 e)))
        (sym (ap (turned s) power_units ∙ turned_back s (2 ^ k)));
  }

-- ---- between -2 ^ e and 2 ^ e
pub power_whole : (s : Bool) (e : ℕ) → e < 1024 → Small (fin s 1 (pos e)) (e + 1074)
power_whole s e E = power_small s (pos e) (e + 1074) (omega arith) (sym (mul-one (2 ^ (e + 1074)) ∙ pow-add 2 e 1074))

pub small_compare : (v : Float) (e : ℕ) → e < 1024 → T (fits binary64 v) → T (le (fin true 1 (pos e)) v)
    → T (le v (fin false 1 (pos e))) → Small v (e + 1074)
small_compare v e E t g h = small_between (fin true 1 (pos e)) v (fin false 1 (pos e)) (e + 1074) (power_whole true e E)
    (power_whole false e E) t g h (omega arith)

pub bounded_compare : (x : Scalar) (e : ℕ) → e < 1024 → Fits x → T (le (fin true 1 (pos e)) x.lo)
    → T (le x.lo x.hi) → T (le x.hi (fin false 1 (pos e))) → Bounded x (e + 1074)
bounded_compare x e E t g o h = bounded_between (fin true 1 (pos e)) (fin false 1 (pos e)) x (e + 1074)
    (power_whole true e E) (power_whole false e E) t g o h (omega arith)

-- ---- beyond a float that is far from zero
turned_le : (z w : ℤ) → T (le_z z w) → T (le_z (neg_ℤ w) (neg_ℤ z))
turned_le z w h =
    let a = parts_neg z in
    let b = parts_neg w in
    le_of_parts (neg_ℤ w) (neg_ℤ z) (omega (arith, parts_of_le z w h))

pub far_above : (w v : Float) (j k : ℕ) → Far false w k → Small v j → T (le w v) → Far false v k
far_above w v j k h b g =
    let a = rank_units w v h.is_float h.is-finite b.is_float b.is-finite
    (le_rank w v h.is_float b.is_float g) in
    record {
      is_float = b.is_float;
      is-finite = b.is-finite;
      at_least = le_z-trans (pos (2 ^ k)) (units_of binary64 w) (units_of binary64 v) h.at_least a;
    }

pub far_below : (w v : Float) (j k : ℕ) → Far true w k → Small v j → T (le v w) → Far true v k
far_below w v j k h b g =
    let a = rank_units v w b.is_float b.is-finite h.is_float h.is-finite
    (le_rank v w b.is_float h.is_float g) in
    record {
      is_float = b.is_float;
      is-finite = b.is-finite;
      at_least = le_z-trans (pos (2 ^ k)) (neg_ℤ (units_of binary64 w)) (neg_ℤ (units_of binary64 v)) h.at_least
          (turned_le (units_of binary64 v) (units_of binary64 w) a);
    }

pub away_above : (x : Scalar) (j k : ℕ) → Far false x.lo k → Bounded x j → T (le x.lo x.hi) → Away x k
away_above x j k h b o = record { side = false; lo_far = h; hi_far = far_above x.lo x.hi j k h b.hi_small o }

pub away_below : (x : Scalar) (j k : ℕ) → Far true x.hi k → Bounded x j → T (le x.lo x.hi) → Away x k
away_below x j k h b o = record { side = true; lo_far = far_below x.hi x.lo j k h b.lo_small o; hi_far = h }
