-- Two numbers stepped up are the bounds of a sum, a difference or a product, and proper: a step up never gives minus
-- infinity, and the sum of two numbers above it is a number.
use mathlib.Core.Path.{◌≡◌, refl, sym, ap, ◌∙◌, subst}
use mathlib.Core.Bool.{Bool, true, false, not, ◌&&◌}
use lib.Dec.{T}
use lib.Ieee.{Float, inf, binary64, add, sub, mul, div, neg, lt, le, fits, is_nan}
use lib.Ieee.Fits.{add-fits, neg-fits}
use Rattle.interval.specs.declared.Scalar.{Scalar}
use Rattle.interval.specs.Float.{lesser, greatest}
use Rattle.interval.specs.Scalar.{zero64, two64, zero_s, degenerate, could_be_equal, add_of, sub_of, mul_of}
use Rattle.interval.specs.Step.{next_up}
use Rattle.interval.proofs.Given.{yes}
use Rattle.interval.proofs.MinMax.{lt_second}
use Rattle.interval.proofs.Order.{Number}
use Rattle.interval.proofs.Middle.{zero_among, ends_sum}
use Rattle.interval.proofs.Outward.{up_fits, down_fits}
use Rattle.interval.proofs.PlusZero.{plus_zero_kept, above_plus_zero, next_sum, sum_kept}
use Rattle.interval.proofs.Bounds.{Kept, neg_neg, add_below, sub_below, sub_above, mul_below, mul_below_second}
use Rattle.interval.proofs.Bounds.{products_number, sum_number, up_above}
use Rattle.linear.specs.declared.bounds.Bounds.{Bounds}
use Rattle.linear.specs.Bounds.{bounds_of, scalar_of, is_proper, unsigned, Bounding}
use Rattle.linear.specs.Choose.{choose_of}

both : {a b : Bool} → a ≡ true → b ≡ true → T (a && b)
both p q = rw (p, q) tt

and_first : (a b : Bool) → T (a && b) → a ≡ true
and_first true b h = λ i. true
and_first false b h = absurd h

and_second : (a b : Bool) → T (a && b) → b ≡ true
and_second true true h = λ i. true
and_second true false h = absurd h
and_second false b h = absurd h

module _ (b : Bounds) (p : T (is_proper b)) where
  below_proper : lt (inf true) b.below ≡ true
  below_proper = and_first (lt (inf true) b.below) (lt (inf true) b.above) p

  above_proper : lt (inf true) b.above ≡ true
  above_proper = and_second (lt (inf true) b.below) (lt (inf true) b.above) p

-- ---- the scalar of the bounds of a scalar, and the bounds of the scalar of bounds
pub bounds_back : {x : Scalar} {b : Bounds} → b ≡ bounds_of x → scalar_of b ≡ x
bounds_back {x} e = ap scalar_of e ∙ (λ i. record { lo = neg_neg x.lo i; hi = x.hi })

pub start_bounds : (b : Bounds) → T (is_proper b) → Bounding (scalar_of b) b
start_bounds b p = record { value = λ i. record { below = sym (neg_neg b.below) i; above = b.above }; proper = p }

pub proper_bounds : (x : Scalar) {b : Bounds} → b ≡ bounds_of x → T (is_proper (bounds_of x)) → Bounding (scalar_of b) b
proper_bounds x {b} e p = start_bounds b (rw e p)

pub bounding : {x y : Scalar} {r : Bounds} → x ≡ y → Bounding x r → Bounding y r
bounding e b = rw (← e) b

stepped : (x : Scalar) (a b : Float) {u v : Float} → Number a → Number b → u ≡ next_up a → v ≡ next_up b
    → next_up a ≡ neg x.lo → next_up b ≡ x.hi → Bounding x (record { below = u; above = v })
stepped x a b na nb eu ev el eh =
    record {
      value = λ i. record { below = (eu ∙ el) i; above = (ev ∙ eh) i };
      proper = both (ap (lt (inf true)) eu ∙ up_above a na) (ap (lt (inf true)) ev ∙ up_above b nb);
    }

-- ---- a product
module _ (x y : Scalar) {g h : Float}
    (eg : g ≡ greatest (mul binary64 (neg x.lo) y.lo) (mul binary64 (neg x.lo) y.hi)
    (mul binary64 (neg x.hi) y.lo) (mul binary64 (neg x.hi) y.hi))
    (eh : h ≡ greatest (mul binary64 x.lo y.lo) (mul binary64 x.lo y.hi) (mul binary64 x.hi y.lo)
    (mul binary64 x.hi y.hi)) where
  pub product_below : Number g
  product_below = rw eg (products_number (neg x.lo) (neg x.hi) y.lo y.hi)

  pub product_above : Number h
  product_above = rw eh (products_number x.lo x.hi y.lo y.hi)

  pub product_bounds : {u v : Float} → u ≡ next_up g → v ≡ next_up h
      → Bounding (mul_of x y) (record { below = u; above = v })
  product_bounds eu ev =
      stepped (mul_of x y) g h product_below product_above eu ev (ap next_up eg ∙ sym (mul_below x y)) (ap next_up eh)

-- the same with the signs of y turned
module _ (x y : Scalar) {g h : Float}
    (eg : g ≡ greatest (mul binary64 x.lo (neg y.lo)) (mul binary64 x.lo (neg y.hi))
    (mul binary64 x.hi (neg y.lo)) (mul binary64 x.hi (neg y.hi)))
    (eh : h ≡ greatest (mul binary64 x.lo y.lo) (mul binary64 x.lo y.hi) (mul binary64 x.hi y.lo)
    (mul binary64 x.hi y.hi)) where
  pub second_below : Number g
  second_below = rw eg (products_number x.lo x.hi (neg y.lo) (neg y.hi))

  pub second_above : Number h
  second_above = rw eh (products_number x.lo x.hi y.lo y.hi)

  pub second_bounds : {u v : Float} → u ≡ next_up g → v ≡ next_up h
      → Bounding (mul_of x y) (record { below = u; above = v })
  second_bounds eu ev =
      stepped (mul_of x y) g h second_below second_above eu ev (ap next_up eg ∙ sym (mul_below_second x y))
      (ap next_up eh)

-- ---- z + s and z - s, where p is the bounds of s
module _ (z : Bounds) (s : Scalar) {p : Bounds} (proper : T (is_proper z)) (b : Bounding s p) where
  sum_below : Number (add binary64 z.below p.below)
  sum_below = sum_number z.below p.below (below_proper z proper) (below_proper p b.proper)

  sum_above : Number (add binary64 z.above p.above)
  sum_above = sum_number z.above p.above (above_proper z proper) (above_proper p b.proper)

  sum_bounds : {u v : Float}
      → u ≡ next_up (add binary64 z.below p.below) → v ≡ next_up (add binary64 z.above p.above)
      → Bounding (add_of (scalar_of z) s) (record { below = u; above = v })
  sum_bounds eu ev =
      stepped (add_of (scalar_of z) s) (add binary64 z.below p.below)
      (add binary64 z.above p.above) sum_below sum_above eu ev
      (ap (λ (q : Bounds). next_up (add binary64 z.below q.below)) b.value ∙ ap (λ (w : Float).
      next_up (add binary64 w (neg s.lo))) (sym (neg_neg z.below)) ∙ sym (add_below (scalar_of z) s))
      (ap (λ (q : Bounds). next_up (add binary64 z.above q.above)) b.value)

  pub difference_below : Number (add binary64 z.below p.above)
  difference_below = sum_number z.below p.above (below_proper z proper) (above_proper p b.proper)

  pub difference_above : Number (add binary64 z.above p.below)
  difference_above = sum_number z.above p.below (above_proper z proper) (below_proper p b.proper)

  pub difference_bounds : {u v : Float}
      → u ≡ next_up (add binary64 z.below p.above) → v ≡ next_up (add binary64 z.above p.below)
      → Bounding (sub_of (scalar_of z) s) (record { below = u; above = v })
  difference_bounds eu ev =
      stepped (sub_of (scalar_of z) s) (add binary64 z.below p.above)
      (add binary64 z.above p.below) difference_below difference_above eu ev
      (ap (λ (q : Bounds). next_up (add binary64 z.below q.above)) b.value
      ∙ ap (λ (w : Float). next_up (add binary64 w s.hi)) (sym (neg_neg z.below)) ∙ sym (sub_below (scalar_of z) s))
      (ap (λ (q : Bounds). next_up (add binary64 z.above q.below)) b.value ∙ sym (sub_above (scalar_of z) s))

-- ---- z + x y and z - x y, where p is the bounds of x y with -0 made +0
-- a + b, where b is q with -0 made +0: a number that is not -0, and steps up as a + q does
abbrev Steady : Float → Float → Float → Type 0
Steady a q b = (T (not (is_nan (add binary64 a b))) × Kept (add binary64 a b))
    × (next_up (add binary64 a b) ≡ next_up (add binary64 a q))

steady : (a q b : Float) → lt (inf true) a ≡ true → T (fits binary64 a) → lt (inf true) q ≡ true → T (fits binary64 q)
    → b ≡ add binary64 q zero64 → Steady a q b
steady a q b ha ta hq tq e =
    let w = add binary64 q zero64 in
    subst (Steady a q) (sym e) (
      (
        (sum_number a w ha (above_plus_zero q tq ∙ hq)).1,
        sum_kept a w ta (add-fits binary64 q zero64) (plus_zero_kept q tq),
      ),
      next_sum a q ta tq,
    )

product_bounding : (x y : Scalar) → Bounding (mul_of x y) (bounds_of (mul_of x y))
product_bounding x y = let b = product_bounds x y refl refl refl refl in
    record { value = refl; proper = subst (λ (r : Bounds). T (is_proper r)) b.value b.proper }

module _ (z : Bounds) (x y : Scalar) {p : Bounds} (proper : T (is_proper z)) (tb : T (fits binary64 z.below))
    (ta : T (fits binary64 z.above)) (e : p ≡ unsigned (bounds_of (mul_of x y))) where
  to_below : (a : Float) → lt (inf true) a ≡ true → T (fits binary64 a) → Steady a (neg (mul_of x y).lo) p.below
  to_below a h t =
      steady a (neg (mul_of x y).lo) p.below h t (below_proper (bounds_of (mul_of x y)) (product_bounding x y).proper)
      (neg-fits binary64 (mul_of x y).lo (down_fits _)) (ap (λ (b : Bounds). b.below) e)

  to_above : (a : Float) → lt (inf true) a ≡ true → T (fits binary64 a) → Steady a (mul_of x y).hi p.above
  to_above a h t = steady a (mul_of x y).hi p.above h t
      (above_proper (bounds_of (mul_of x y)) (product_bounding x y).proper) (up_fits _) (ap (λ (b : Bounds). b.above) e)

  pub product_sum_below : Steady z.below (neg (mul_of x y).lo) p.below
  product_sum_below = to_below z.below (below_proper z proper) tb

  pub product_sum_above : Steady z.above (mul_of x y).hi p.above
  product_sum_above = to_above z.above (above_proper z proper) ta

  pub product_sum_bounds : {u v : Float} → u ≡ next_up (add binary64 z.below p.below)
      → v ≡ next_up (add binary64 z.above p.above)
      → Bounding (add_of (scalar_of z) (mul_of x y)) (record { below = u; above = v })
  product_sum_bounds eu ev =
      sum_bounds z (mul_of x y) proper (product_bounding x y) (eu ∙ product_sum_below.1) (ev ∙ product_sum_above.1)

  pub product_difference_below : Steady z.below (mul_of x y).hi p.above
  product_difference_below = to_above z.below (below_proper z proper) tb

  pub product_difference_above : Steady z.above (neg (mul_of x y).lo) p.below
  product_difference_above = to_below z.above (above_proper z proper) ta

  pub product_difference_bounds : {u v : Float}
      → u ≡ next_up (add binary64 z.below p.above) → v ≡ next_up (add binary64 z.above p.below)
      → Bounding (sub_of (scalar_of z) (mul_of x y)) (record { below = u; above = v })
  product_difference_bounds eu ev = difference_bounds z (mul_of x y) proper (product_bounding x y)
      (eu ∙ product_difference_below.1) (ev ∙ product_difference_above.1)

-- ---- the number chosen, by the bounds
module _ (b : Bounds) (proper : T (is_proper b)) (tb : T (fits binary64 b.below)) (ta : T (fits binary64 b.above))
    {l : Float} (el : l ≡ lesser b.below b.above) where
  among : le zero64 l ≡ could_be_equal (scalar_of b) zero_s
  among =
      ap (le zero64) el
      ∙ zero_among b.below b.above (tb, lt_second (inf true) b.below (yes (below_proper b proper)))
      (ta, lt_second (inf true) b.above (yes (above_proper b proper)))

  pub chosen_zero : le zero64 l ≡ true → degenerate zero64 ≡ choose_of (scalar_of b)
  unfolding choose_of
  chosen_zero h = rw (← among, h)

  pub chosen_middle : le zero64 l ≡ false
      → degenerate (div binary64 (sub binary64 b.above b.below) two64) ≡ choose_of (scalar_of b)
  unfolding choose_of
  chosen_middle h = rw (← among, h, ends_sum b.below b.above)

pub difference_chosen : (z s : Scalar) {b q : Bounds} → b ≡ bounds_of z → Bounding (sub_of (scalar_of b) s) q
    → choose_of (scalar_of q) ≡ choose_of (sub_of z s)
difference_chosen z s e h = ap choose_of (bounds_back h.value ∙ ap (λ (w : Scalar). sub_of w s) (bounds_back e))
