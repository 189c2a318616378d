-- Products of intervals commute: the four products of the ends are the same, the second and the third exchanged, so the
-- greatest and the least of them have the same rank, and a step from either zero is the same.
use Rattle.std.proofs.Common.{◌≡◌, ℕ, zero, suc, ◌≤◌, Bool, true, false, not, T, ℤ, sym, refl, ap, ◌∙◌, inl, inr}
use Rattle.std.proofs.Common.{zero-le, le_antisymm, arith}
use lib.Ieee.{Float, nan, inf, fin, binary64, neg, fits, is_nan, to_bits, of_bits}
use lib.Ieee.Bits.{of_bits-to_bits}
use lib.Ieee.Fits.{mul-fits, neg-fits}
use Rattle.interval.specs.declared.Scalar.{Scalar}
use Rattle.interval.specs.Float.{least, greatest}
use Rattle.interval.specs.Scalar.{mul_of}
use Rattle.interval.specs.Step.{next_up}
use Rattle.interval.proofs.Patterns.{bits_under, bits_pos}
use Rattle.interval.proofs.Rank.{rank, rank_in}
use Rattle.interval.proofs.Outward.{positive_fits}
use Rattle.interval.proofs.MinMax.{either_greatest}
use Rattle.interval.proofs.Order.{Number, greatest_any}
use Rattle.interval.proofs.Infinite.{Zero}
use Rattle.interval.proofs.Bounds.{greatest_turned}
use Rattle.interval.proofs.Points.{Same}
use Rattle.interval.proofs.OneSided.Mul.{times_comm}

-- ---- floats of one rank are the same, or both zeros

pub same_bits : (x y : Float) → T (fits binary64 x) → T (fits binary64 y) → to_bits binary64 x ≡ to_bits binary64 y →
    x ≡ y
same_bits x y tx ty h =
    sym (of_bits-to_bits binary64 x tx) ∙ ap (of_bits binary64) h ∙ of_bits-to_bits binary64 y ty

no_bits : (s : Bool) (m : ℕ) (e : ℤ) → T (fits binary64 (fin false m e)) → to_bits binary64 (fin false m e) ≡ 0 →
    Zero (fin s m e)
no_bits s zero e t h = (s, e, refl)
no_bits s (suc m) e t h = absurd (omega (arith, bits_pos binary64 m e t))

same_finite : (s : Bool) (m : ℕ) (e : ℤ) (t : Bool) (n : ℕ) (d : ℤ) → T (fits binary64 (fin s m e)) →
    T (fits binary64 (fin t n d)) → rank binary64 (fin s m e) ≡ rank binary64 (fin t n d) → Same (fin s m e) (fin t n d)
unfolding rank neg
same_finite false m e false n d tx ty h = inl (same_bits (fin false m e) (fin false n d) tx ty (omega arith))
same_finite true m e true n d tx ty h =
    let u = positive_fits m e tx in
    let v = positive_fits n d ty in
    let h : to_bits binary64 (fin false m e) ≡ to_bits binary64 (fin false n d)
    = omega (arith, bits_under binary64 m e u, bits_under binary64 n d v) in
    inl (ap neg (same_bits (fin false m e) (fin false n d) u v h))
same_finite false m e true n d tx ty h =
    let v = positive_fits n d ty in
    let b = bits_under binary64 n d v in
    inr (no_bits false m e tx (omega arith), no_bits true n d v (omega arith))
same_finite true m e false n d tx ty h =
    let u = positive_fits m e tx in
    let b = bits_under binary64 m e u in
    inr (no_bits true m e u (omega arith), no_bits false n d ty (omega arith))

same_rank : (x y : Float) → Number x → Number y → rank binary64 x ≡ rank binary64 y → Same x y
unfolding is_nan rank
same_rank nan y nx ny h = absurd nx.1
same_rank (inf s) nan nx ny h = absurd ny.1
same_rank (fin s m e) nan nx ny h = absurd ny.1
same_rank (inf true) (inf true) nx ny h = inl refl
same_rank (inf false) (inf false) nx ny h = inl refl
same_rank (inf true) (inf false) nx ny h = absurd (omega arith)
same_rank (inf false) (inf true) nx ny h = absurd (omega arith)
same_rank (inf true) (fin t n d) nx ny h = absurd (omega (arith, h, rank_in binary64 (fin t n d) ny.0 tt))
same_rank (inf false) (fin t n d) nx ny h = absurd (omega (arith, h, rank_in binary64 (fin t n d) ny.0 tt))
same_rank (fin s m e) (inf true) nx ny h = absurd (omega (arith, h, rank_in binary64 (fin s m e) nx.0 tt))
same_rank (fin s m e) (inf false) nx ny h = absurd (omega (arith, h, rank_in binary64 (fin s m e) nx.0 tt))
same_rank (fin s m e) (fin t n d) nx ny h = same_finite s m e t n d nx.0 ny.0 h

same_step : (x y : Float) → Same x y → next_up x ≡ next_up y
unfolding next_up
same_step x y (inl h) = ap next_up h
same_step x y (inr w) = ap next_up w.0.2 ∙ sym (ap next_up w.1.2)

-- ---- four numbers, the second and the third exchanged

no_greater : (p q r s : Float) → T (fits binary64 p) → T (fits binary64 q) → T (fits binary64 r) → T (fits binary64 s) →
    rank binary64 (greatest p r q s) ≤ rank binary64 (greatest p q r s)
unfolding rank
no_greater p q r s tp tq tr ts =
    let g = greatest_any p q r s tp tq tr ts in
    either_greatest (λ (x : Float). T (not (is_nan x)) → rank binary64 x ≤ rank binary64 (greatest p q r s)) p r q s
    (λ n. zero-le) g.at_p g.at_r g.at_q g.at_s (greatest_any p r q s tp tr tq ts).number.1

exchanged : (p q r s : Float) → T (fits binary64 p) → T (fits binary64 q) → T (fits binary64 r) → T (fits binary64 s) →
    next_up (greatest p q r s) ≡ next_up (greatest p r q s)
exchanged p q r s tp tq tr ts =
    same_step (greatest p q r s) (greatest p r q s)
    (same_rank (greatest p q r s) (greatest p r q s) (greatest_any p q r s tp tq tr ts).number
    (greatest_any p r q s tp tr tq ts).number
    (le_antisymm (no_greater p r q s tp tr tq ts) (no_greater p q r s tp tq tr ts)))

exchanged_least : (p q r s : Float) → T (fits binary64 p) → T (fits binary64 q) → T (fits binary64 r) →
    T (fits binary64 s) → next_up (neg (least p q r s)) ≡ next_up (neg (least p r q s))
exchanged_least p q r s tp tq tr ts =
    ap next_up (sym (greatest_turned p q r s))
    ∙ exchanged (neg p) (neg q) (neg r) (neg s) (neg-fits binary64 p tp) (neg-fits binary64 q tq)
    (neg-fits binary64 r tr) (neg-fits binary64 s ts)
    ∙ ap next_up (greatest_turned p r q s)

-- ---- products

pub mul_commutes : (x y : Scalar) → mul_of x y ≡ mul_of y x
mul_commutes x y =
    let t = mul-fits binary64 in
    let low = exchanged_least _ _ _ _ (t x.lo y.lo) (t x.lo y.hi) (t x.hi y.lo) (t x.hi y.hi) in
    let high = exchanged _ _ _ _ (t x.lo y.lo) (t x.lo y.hi) (t x.hi y.lo) (t x.hi y.hi) in
    rw (times_comm y.lo x.lo, times_comm y.lo x.hi, times_comm y.hi x.lo, times_comm y.hi x.hi)
    (λ i. record { lo = neg (low i); hi = high i })
