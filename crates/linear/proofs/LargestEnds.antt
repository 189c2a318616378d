-- The greatest size by two upper bounds, that of the lower ends with their signs turned and that of the upper ends.
-- Both start from 0, so neither is ever a NaN or below 0: such a float is told by its rank, and the greater of two has
-- the greater rank.
use mathlib.Core.Path.{◌≡◌, refl, sym, ap, ◌∙◌, subst}
use mathlib.Core.Logic.{inl, inr}
use Prim.Native.Nat.{ℕ, ◌+◌, ◌≤◌, zero-le}
use native.Mathlib.Nat.{le_refl, le_trans, le_of_eq, le_antisymm}
use native.Mathlib.Numerals.{add-one}
use native.Mathlib.Omega.{arith}
use mathlib.Core.Bool.{Bool, true, false, not, cond}
use lib.Dec.{T}
use lib.IntN.{pos}
use lib.Ieee.{Float, nan, inf, fin, binary64, neg, lt, le, ne, fits, is_nan, to_bits, of_bits}
use lib.Ieee.Bits.{of_bits-to_bits}
use lib.Ieee.Fits.{neg-fits}
use Rattle.interval.specs.declared.Scalar.{Scalar}
use Rattle.interval.specs.Enclosure.{Fits}
use Rattle.interval.specs.Float.{greater, fmax}
use Rattle.interval.specs.Pattern.{inf_bits}
use Rattle.interval.specs.Scalar.{zero64, pick, degenerate, neg_of, abs_of, max_of}
use Rattle.interval.proofs.Bounded.Compare.{le_rank}
use Rattle.interval.proofs.Enclosure.Sqrt.{zero_rank}
use Rattle.interval.proofs.MinMax.{either, fmax_number, abs_is}
use Rattle.interval.proofs.OneSided.Abs.{abs_fits}
use Rattle.interval.proofs.OneSided.Ends.{zero_fits}
use Rattle.interval.proofs.Order.{Number, greater_any}
use Rattle.interval.proofs.Outward.{rank_neg}
use Rattle.interval.proofs.Rank.{rank, nonneg_rank}
use Rattle.interval.proofs.Rounding.{NonNegative}
use Rattle.linear.specs.Norm.{largest_to}
use Rattle.linear.proofs.NormLaws.{max_sharp}

abbrev rk : Float → ℕ
rk = rank binary64

-- ---- a size, neither a NaN nor below 0
pub record Size (v : Float) : Type 0 where
  pub is_float : T (fits binary64 v)
  pub not_below : NonNegative v

pub zero_size : Size zero64
zero_size = record { is_float = zero_fits.0; not_below = unfold NonNegative in inr (0, pos 0, refl) }

size_number : (v : Float) → Size v → Number v
unfolding NonNegative is_nan
size_number v s = (s.is_float, go v s.not_below)
  where
    go : (v : Float) → NonNegative v → T (not (is_nan v))
    go v (inl e) = subst (λ (z : Float). T (not (is_nan z))) (sym e) tt
    go v (inr w) = subst (λ (z : Float). T (not (is_nan z))) (sym w.2) tt

size_rank : (v : Float) → Size v → inf_bits binary64 ≤ rk v
size_rank v s = omega (arith, (nonneg_rank binary64 v s.not_below).0)

-- the rank tells it: its zero is +0
size_same : (v w : Float) → Size v → Size w → rk v ≡ rk w → v ≡ w
size_same v w s t e =
    let p = (nonneg_rank binary64 v s.not_below).0 in
    let q = (nonneg_rank binary64 w t.not_below).0 in
    let b : to_bits binary64 v ≡ to_bits binary64 w = omega (arith, e, p, q) in
    sym (of_bits-to_bits binary64 v s.is_float) ∙ ap (of_bits binary64) b ∙ of_bits-to_bits binary64 w t.is_float

-- ---- the greater of a size and any float
above_size : (a b : Float) → NonNegative a → T (lt a b) → NonNegative b
unfolding NonNegative lt
above_size a b (inl e) h = absurd (go b (subst (λ (z : Float). T (lt z b)) e h))
  where
    go : (b : Float) → T (lt (inf false) b) → ⊥
    go nan h = h
    go (inf t) h = h
    go (fin t n d) h = h
above_size a b (inr w) h = go b (subst (λ (z : Float). T (lt z b)) w.2 h)
  where
    go : (b : Float) → T (lt (fin false w.0 w.1) b) → NonNegative b
    go nan h = absurd h
    go (inf true) h = absurd h
    go (inf false) h = inl refl
    go (fin true n d) h = absurd h
    go (fin false n d) h = inr (n, d, refl)

pub greater_size : (a b : Float) → Size a → T (fits binary64 b) → Size (greater a b)
unfolding greater
greater_size a b s t = go (lt a b) (above_size a b s.not_below)
  where
    go : (c : Bool) → (T c → NonNegative b) → Size (cond c b a)
    go true k = record { is_float = t; not_below = k tt }
    go false k = s

-- a NaN has the least rank
any_rank : (b : Float) (k : ℕ) → (T (not (is_nan b)) → rk b ≤ k) → rk b ≤ k
unfolding rank is_nan
any_rank nan k h = zero-le
any_rank (inf s) k h = h tt
any_rank (fin s m e) k h = h tt

-- g has the greater rank of a and b
record Tops (a b g : Float) : Type 0 where
  first : rk a ≤ rk g
  second : rk b ≤ rk g
  least : (k : ℕ) → rk a ≤ k → rk b ≤ k → rk g ≤ k

greater_tops : (a b : Float) → Number a → T (fits binary64 b) → Tops a b (greater a b)
greater_tops a b n t =
    let g = greater_any a b n t in
    record {
      first = g.1;
      second = any_rank b (rk (greater a b)) g.2;
      least = λ k p q. either a b (λ z. rk z ≤ k) p q;
    }

max_tops : (a b : Float) → T (fits binary64 a) → T (fits binary64 b) → Tops a b (fmax a b)
unfolding rank fmax ne is_nan
max_tops nan b s t =
    record { first = zero-le; second = le_refl (rk b); least = λ k p q. q }
max_tops (inf r) b s t = subst (Tops (inf r) b) (sym (fmax_number (inf r) b tt)) (greater_tops (inf r) b (s, tt) t)
max_tops (fin r m e) b s t =
    subst (Tops (fin r m e) b) (sym (fmax_number (fin r m e) b tt)) (greater_tops (fin r m e) b (s, tt) t)

-- ---- the size of a scalar has the greater rank of its ends, but for ranks below that of 0
zero_is : rk zero64 ≡ inf_bits binary64
zero_is = zero_rank false (pos 0) zero_fits.0

neg_under : (x : Float) → T (fits binary64 x) → inf_bits binary64 ≤ rk x → rk (neg x) ≤ inf_bits binary64
unfolding is_nan neg
neg_under x t h = any_rank (neg x) (inf_bits binary64) go
  where
    kept : (x : Float) → T (not (is_nan (neg x))) → T (not (is_nan x))
    kept nan n = n
    kept (inf s) n = n
    kept (fin s m e) n = n

    go : T (not (is_nan (neg x))) → rk (neg x) ≤ inf_bits binary64
    go n = omega (arith, h, rank_neg x t (kept x n))

record Spans (x : Scalar) (v : Float) : Type 0 where
  under : (k : ℕ) → rk (neg x.lo) ≤ k → rk x.hi ≤ k → rk v ≤ k
  first : (k : ℕ) → inf_bits binary64 ≤ k → rk v ≤ k → rk (neg x.lo) ≤ k
  second : (k : ℕ) → inf_bits binary64 ≤ k → rk v ≤ k → rk x.hi ≤ k

abs_spans : (x : Scalar) → Fits x → Spans x (abs_of x).hi
abs_spans x t =
    subst (λ (z : Scalar). Spans x z.hi) (sym (abs_is x))
    (go (le zero64 x.lo) (le x.hi zero64) (le_rank zero64 x.lo zero_fits.0 t.0)
    (le_rank x.hi zero64 t.1 zero_fits.0))
  where
    go : (a b : Bool) → (T a → rk zero64 ≤ rk x.lo) → (T b → rk x.hi ≤ rk zero64)
        → Spans x (pick a x (pick b (neg_of x) (record { lo = zero64; hi = fmax (neg x.lo) x.hi }))).hi
    go true b p q =
        record {
          under = λ k l h. h;
          first = λ k z h. le_trans (neg_under x.lo t.0 (le_trans (le_of_eq (sym zero_is)) (p tt))) z;
          second = λ k z h. h;
        }
    go false true p q =
        record {
          under = λ k l h. l;
          first = λ k z h. h;
          second = λ k z h. le_trans (q tt) (le_trans (le_of_eq zero_is) z);
        }
    go false false p q =
        let m = max_tops (neg x.lo) x.hi (neg-fits binary64 x.lo t.0) t.1 in
        record {
          under = m.least;
          first = λ k z h. le_trans m.first h;
          second = λ k z h. le_trans m.second h;
        }

-- ---- one scalar more
ends_more : (x : Scalar) (below above : Float) → Fits x → Size below → Size above
    → greater (greater below above) (abs_of x).hi ≡ greater (greater below (neg x.lo)) (greater above x.hi)
ends_more x below above t sb sa =
    let l = neg x.lo in
    let h = x.hi in
    let v = (abs_of x).hi in
    let tl = neg-fits binary64 x.lo t.0 in
    let tv = (abs_fits x t).1 in
    let so = greater_size below above sb sa.is_float in
    let sl = greater_size below l sb tl in
    let sh = greater_size above h sa t.1 in
    let o = greater_tops below above (size_number below sb) sa.is_float in
    let p = greater_tops (greater below above) v (size_number (greater below above) so) tv in
    let b = greater_tops below l (size_number below sb) tl in
    let a = greater_tops above h (size_number above sa) t.1 in
    let q = greater_tops (greater below l) (greater above h) (size_number (greater below l) sl) sh.is_float in
    let s = abs_spans x t in
    let P = rk (greater (greater below above) v) in
    let Q = rk (greater (greater below l) (greater above h)) in
    let zb : rk below ≤ P = le_trans o.first p.first in
    let z : inf_bits binary64 ≤ P = le_trans (size_rank below sb) zb in
    let to : P ≤ Q = p.least Q (o.least Q (le_trans b.first q.first) (le_trans a.first q.second))
    (s.under Q (le_trans b.second q.first) (le_trans a.second q.second)) in
    let from : Q ≤ P = q.least P (b.least P zb (s.first P z p.second))
    (a.least P (le_trans o.second p.first) (s.second P z p.second)) in
    size_same _ _ (greater_size (greater below above) v so tv)
    (greater_size (greater below l) (greater above h) sl sh.is_float) (le_antisymm to from)

-- the greatest size of the first i, by its bounds
pub record Largest (f : ℕ → Scalar) (i : ℕ) (below above : Float) : Type 0 where
  pub value : largest_to f i ≡ degenerate (greater below above)
  pub below_size : Size below
  pub above_size : Size above

pub largest_none : (f : ℕ → Scalar) → Largest f 0 zero64 zero64
unfolding largest_to
largest_none f =
    record {
      value = either zero64 zero64 (λ z. degenerate zero64 ≡ degenerate z) refl refl;
      below_size = zero_size;
      above_size = zero_size;
    }

pub largest_more : (f : ℕ → Scalar) {x : Scalar} {below above l h : Float} (i : ℕ) → Largest f i below above → Fits x
    → x ≡ f i → l ≡ greater below (neg x.lo) → h ≡ greater above x.hi → Largest f (i + 1) l h
unfolding largest_to
largest_more f {x} {below} {above} i w t ex el eh =
    rw (add-one, el, eh)
    (record {
      value = ap (λ (z : Scalar). max_of z (degenerate (abs_of (f i)).hi)) w.value
          ∙ ap (λ (z : Scalar). max_of (degenerate (greater below above)) (degenerate (abs_of z).hi)) (sym ex)
          ∙ max_sharp (greater below above) (abs_of x).hi
          ∙ ap degenerate (ends_more x below above t w.below_size w.above_size);
      below_size = greater_size below (neg x.lo) w.below_size (neg-fits binary64 x.lo t.0);
      above_size = greater_size above x.hi w.above_size t.1;
    })
