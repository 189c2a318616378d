-- What chooses among ends, or changes their sign, keeps the bound of the ends.
use Rattle.std.proofs.Common.{ℕ, ◌≤◌, Bool, true, false, sym, subst, zero-le, le_trans, le_of_eq, pow_mono}
use lib.Ieee.{Float, neg, le}
use Rattle.interval.specs.declared.Scalar.{Scalar}
use Rattle.interval.specs.Bounded.{Small, Bounded}
use Rattle.interval.specs.Enclosure.{Fits, Finite}
use Rattle.interval.specs.Float.{greater, fmax}
use Rattle.interval.specs.Scalar.{zero64, zero_s, pick, neg_of, abs_of, max_of}
use Rattle.interval.proofs.MinMax.{abs_is}
use Rattle.interval.proofs.Order.{finite_number}
use Rattle.interval.proofs.MinMax.{either, either_min, either_max}
use Rattle.interval.proofs.Enclosure.Sqrt.{zero_units, zero-units-N, zero_fits}
use Rattle.interval.proofs.Bounded.Power.{small, parts_small, neg_small}

pub bounded_fits : (x : Scalar) (k : ℕ) → Bounded x k → Fits x
bounded_fits x k h = (h.lo_small.is_float, h.hi_small.is_float)

pub bounded_finite : (x : Scalar) (k : ℕ) → Bounded x k → Finite x
bounded_finite x k h = record { lo_finite = h.lo_small.is-finite; hi_finite = h.hi_small.is-finite }

pub small_weaken : (v : Float) (j k : ℕ) → j ≤ k → Small v j → Small v k
small_weaken v j k g h =
    let w = parts_small v j h in
    small v k h.is_float h.is-finite (le_trans w.0 (pow_mono g)) (le_trans w.1 (pow_mono g))

pub bounded_weaken : (x : Scalar) (j k : ℕ) → j ≤ k → Bounded x j → Bounded x k
bounded_weaken x j k g h =
    record { lo_small = small_weaken x.lo j k g h.lo_small; hi_small = small_weaken x.hi j k g h.hi_small }

pub zero_small : (k : ℕ) → Small zero64 k
zero_small k = small zero64 k zero_fits tt (le_trans (le_of_eq (zero_units false _ zero_fits)) zero-le)
    (le_trans (le_of_eq (zero-units-N false _ zero_fits)) zero-le)

pub zero_bounded : (k : ℕ) → Bounded zero_s k
zero_bounded k = record { lo_small = zero_small k; hi_small = zero_small k }

pub neg_bounded : (x : Scalar) (k : ℕ) → Bounded x k → Bounded (neg_of x) k
neg_bounded x k h =
    record { lo_small = neg_small x.hi k h.hi_small; hi_small = neg_small x.lo k h.lo_small }

pub abs_bounded : (x : Scalar) (k : ℕ) → Bounded x k → Bounded (abs_of x) k
abs_bounded x k h = subst (λ (r : Scalar). Bounded r k) (sym (abs_is x)) (go (le zero64 x.lo) (le x.hi zero64))
  where
    go : (a b : Bool)
        → Bounded (pick a x (pick b (neg_of x) (record { lo = zero64; hi = fmax (neg x.lo) x.hi }))) k
    go true b = h
    go false true = neg_bounded x k h
    go false false =
        let n = neg_small x.lo k h.lo_small in
        record {
          lo_small = zero_small k;
          hi_small = either_max (neg x.lo) x.hi (λ (z : Float). Small z k) n h.hi_small;
        }

pub max_bounded : (x y : Scalar) (k : ℕ) → Bounded x k → Bounded y k → Bounded (max_of x y) k
max_bounded x y k h g =
    let A : Float → Type 0 = λ z. Small z k in
    let l = greater x.lo y.lo in
    let u = greater x.hi y.hi in
    let a : Small l k = either x.lo y.lo A h.lo_small g.lo_small in
    let b : Small u k = either x.hi y.hi A h.hi_small g.hi_small in
    let n = finite_number l a.is_float a.is-finite in
    record { lo_small = either_min l u A a b; hi_small = either_max l u A a b }
