-- The root r is nearer than every other finite float: a lesser one is at most the float next below r, a greater one at
-- least the float next above it, and so are the midpoints with r. The root of a zero is that zero.
use Rattle.std.proofs.Common.{◌≡◌, ℕ, zero, suc, ◌+◌, ◌*◌, ◌^◌, ◌<◌, ◌≤◌, Bool, true, false, not, T, ◌⊎◌, ℤ, pos}
use Rattle.std.proofs.Common.{negsuc, ◌+ℤ◌, ◌*ℤ◌, sym, ap, subst, inl, inr, zero-le, mul-le-mul, mul-pos, zero-mul}
use Rattle.std.proofs.Common.{arith, le→leb, ltb→lt, lt→ltb, leb→le, T_not}
use lib.Signed.{le_z, lt_z}
use lib.Ieee.{Float, fin, binary64, low, lt, fits}
use lib.Ieee.Scale.{finite}
use Rattle.interval.specs.Enclosure.{units_of}
use Rattle.interval.specs.NearestRoot.{square, fourfold, NearestRoot, NearestOfAll}
use Rattle.interval.specs.Root.{nearest_root}
use Rattle.interval.specs.Scalar.{zero64}
use Rattle.interval.specs.Step.{next_up, next_down}
use Rattle.interval.proofs.Corners.{ext}
use Rattle.interval.proofs.Enclosure.Sqrt.{zero_fits, zero_units, zero-units-N}
use Rattle.interval.proofs.Integers.{P, N, le_of_parts, parts_of_le, lt_of_parts, parts_of_lt, add_parts}
use Rattle.interval.proofs.Inverse.{sides_pos, sides_neg}
use Rattle.interval.proofs.OneSided.Mul.{above_units, below_units}
use Rattle.interval.proofs.OneSided.Sqrt.{root_fits}
use Rattle.interval.proofs.Order.{rank_units}
use Rattle.interval.proofs.OrderUnits.{units_lt}
use Rattle.interval.proofs.Outward.{up_fits, down_fits, up_rank, down_rank}
use Rattle.interval.proofs.Rank.{rank, le_or_lt}
use Rattle.interval.proofs.RootNearest.{root_nearest}

-- ---- the floats beside r bound all others
abbrev units : Float → ℤ
units v = units_of binary64 v

module _
    (r y : Float) (tr : T (fits binary64 r)) (hr : T (finite r)) (ty : T (fits binary64 y)) (hy : T (finite y)) where
  lesser_below : T (finite (next_down r)) → T (lt_z (units y) (units r))
      → T (le_z (units y) (units (next_down r)))
  lesser_below d h = elim (le_or_lt (rank binary64 r) (rank binary64 y)) [
    | inl k ↦
        let g = rank_units r y tr hr ty hy k in
        absurd (omega (arith, parts_of_lt (units y) (units r) h, parts_of_le (units r) (units y) g))
    | inr k ↦ rank_units y (next_down r) ty hy (down_fits r) d (omega (arith, down_rank r tr d))
  ]

  greater_above : T (finite (next_up r)) → T (lt_z (units r) (units y))
      → T (le_z (units (next_up r)) (units y))
  greater_above u h = elim (le_or_lt (rank binary64 y) (rank binary64 r)) [
    | inl k ↦
        let g = rank_units y r ty hy tr hr k in
        absurd (omega (arith, parts_of_lt (units r) (units y) h, parts_of_le (units y) (units r) g))
    | inr k ↦ rank_units (next_up r) y (up_fits r) u ty hy (omega (arith, up_rank r tr u))
  ]

-- ---- whole numbers: sums, and their squares, in the order of the summands
below_sum : (w d u n : ℤ) → T (le_z w d) → T (lt_z (square (d +ℤ u)) n)
    → T (lt_z (w +ℤ u) (pos 0)) ⊎ T (lt_z (square (w +ℤ u)) n)
below_sum w d u n h k =
    let g = le_of_parts (w +ℤ u) (d +ℤ u) (omega (arith, add_parts w u, add_parts d u, parts_of_le w d h)) in
    go (w +ℤ u) (d +ℤ u) g k
  where
    go : (a b : ℤ) → T (le_z a b) → T (lt_z (square b) n) → T (lt_z a (pos 0)) ⊎ T (lt_z (square a) n)
    go (negsuc a) b h k = inl tt
    go (pos a) (negsuc b) h k = absurd h
    go (pos a) (pos b) h k =
        let l = leb→le a b h in
        inr (lt_of_parts (pos (a * a)) n (omega (arith, mul-le-mul l l, parts_of_lt (pos (b * b)) n k)))

above_sum : (u v w n : ℤ) → T (le_z (pos 0) u) → T (le_z u v) → T (le_z v w) → T (lt_z n (square (u +ℤ v)))
    → T (le_z (pos 0) (u +ℤ w)) × T (lt_z n (square (u +ℤ w)))
above_sum (negsuc u) v w n h g k l = absurd h
above_sum (pos u) (negsuc v) w n h g k l = absurd g
above_sum (pos u) (pos v) (negsuc w) n h g k l = absurd k
above_sum (pos u) (pos v) (pos w) n h g k l =
    let m : u + v ≤ u + w = omega (arith, leb→le v w k) in
    let s = pos ((u + w) * (u + w)) in
    let g = parts_of_lt n (pos ((u + v) * (u + v))) l in
    (le→leb 0 (u + w) zero-le, lt_of_parts n s (omega (arith, mul-le-mul m m, g)))

pub nearest_of_all : (x r : Float) → T (fits binary64 r) → NearestRoot x r → NearestOfAll x r
nearest_of_all x r t n = record {
  finite_root = n.finite_root;
  past_lesser = λ y ty hy h.
      below_sum (units y) (units (next_down r)) (units r) (fourfold x)
      (lesser_below r y t n.finite_root ty hy n.finite_below h) n.past_lower;
  short_of_greater = λ y ty hy h.
      above_sum (units r) (units (next_up r)) (units y) (fourfold x) not_below_zero rising
      (greater_above r y t n.finite_root ty hy n.finite_above h) n.short_of_upper;
}
  where
    rising : T (le_z (units r) (units (next_up r)))
    rising =
        let u = n.finite_above in
        rank_units r (next_up r) t n.finite_root (up_fits r) u (omega (arith, up_rank r t u))

    not_below_zero : T (le_z (pos 0) (units r))
    not_below_zero =
        let d = next_down r in
        let f = n.finite_below in
        let h = rank_units d r (down_fits r) f t n.finite_root (omega (arith, down_rank r t f)) in
        le_of_parts (pos 0) (units r)
        (omega (arith, parts_of_le (units d) (units r) h, parts_of_le (pos 0) (units d) n.not_negative))

-- ---- the root of a zero
zero_below : (w u : ℤ) → u ≡ pos 0 → T (lt_z w u) → T (lt_z (w +ℤ u) (pos 0))
zero_below w u e h = lt_of_parts (w +ℤ u) (pos 0) (omega (arith, add_parts w u, parts_of_lt w u h, ap P e, ap N e))

zero_above : (w u : ℤ) (l : ℕ) → u ≡ pos 0 → T (lt_z u w)
    → T (le_z (pos 0) (u +ℤ w)) × T (lt_z (pos 4 *ℤ (u *ℤ pos l)) (square (u +ℤ w)))
zero_above w u l e h = subst (Above w) (sym e) (go w (subst (λ (z : ℤ). T (lt_z z w)) e h))
  where
    Above : ℤ → ℤ → Type 0
    Above w z = T (le_z (pos 0) (z +ℤ w)) × T (lt_z (pos 4 *ℤ (z *ℤ pos l)) (square (z +ℤ w)))

    go : (w : ℤ) → T (lt_z (pos 0) w) → Above w (pos 0)
    go (negsuc w) h = absurd h
    go (pos w) h =
        let p : 0 < 0 + w = omega (arith, ltb→lt 0 w h) in
        (le→leb 0 (0 + w) zero-le, lt→ltb (4 * (0 * l)) ((0 + w) * (0 + w)) (omega (arith, zero-mul l, mul-pos p p)))

zero_nearest : (s : Bool) (e : ℤ) → T (fits binary64 (fin s zero e)) → NearestOfAll (fin s zero e) (fin s zero e)
zero_nearest s e t =
    let z : units (fin s zero e) ≡ pos 0 = ext _ (pos 0) (zero_units s e t) (zero-units-N s e t) in
    record {
      finite_root = tt;
      past_lesser = λ y ty hy h. inl (zero_below (units y) _ z h);
      short_of_greater = λ y ty hy h. zero_above (units y) _ (2 ^ low binary64) z h;
    }

-- of every finite number that is not below 0
pub root_nearest_of_all : (x : Float) → T (fits binary64 x) → T (finite x) → T (not (lt x zero64))
    → NearestOfAll x (nearest_root x)
root_nearest_of_all (fin s zero e) t h k = unfold nearest_root in zero_nearest s e t
root_nearest_of_all (fin false (suc m) e) t h k =
    let x = fin false (suc m) e in
    let p = lt_of_parts (units zero64) (units x)
    (omega (arith, zero_units false (pos 0) zero_fits, sides_pos (suc m) e, above_units m e t)) in
    nearest_of_all x (nearest_root x) (root_fits x t) (root_nearest x t h (units_lt zero64 x zero_fits tt t h p))
root_nearest_of_all (fin true (suc m) e) t h k =
    let x = fin true (suc m) e in
    let p = lt_of_parts (units x) (units zero64)
    (omega (arith, zero-units-N false (pos 0) zero_fits, sides_neg (suc m) e, below_units m e t)) in
    absurd (T_not (lt x zero64) k (units_lt x zero64 t h zero_fits tt p))
root_nearest_of_all lib.Ieee.nan t h k = elim h [ ]
root_nearest_of_all (lib.Ieee.inf _) t h k = elim h [ ]
