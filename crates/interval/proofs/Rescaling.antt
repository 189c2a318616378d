-- A choice written over a greater power of two lies in the same interval: both sides of each bound are multiplied by
-- the quotient of the powers. So what an operation encloses over a power that its choices share, it encloses with a
-- power for each choice.
use Rattle.std.proofs.Common.{◌≡◌, ℕ, ◌-◌, ◌*◌, ◌^◌, ◌≤◌, ℤ, pos, ◌*ℤ◌, sym, ap, ◌∙◌, subst, mul_comm, arith, pow-add}
use lib.Ieee.{binary64, low}
use Rattle.interval.specs.declared.Scalar.{Scalar}
use Rattle.interval.specs.Enclosure.{units_of, HoldsQ, Holds, rescaled, Encloses, EnclosesEach}
use Rattle.interval.proofs.Corners.{mono, scale_scale}

scale_swap : (z : ℤ) (a b : ℕ) → (z *ℤ pos a) *ℤ pos b ≡ (z *ℤ pos b) *ℤ pos a
scale_swap z a b = scale_scale z a b ∙ ap (λ (n : ℕ). z *ℤ pos n) (mul_comm a b) ∙ sym (scale_scale z b a)

-- p / c is p d / (c d)
holds_scaled : (x : Scalar) (p : ℤ) (c d : ℕ) → HoldsQ x p c → HoldsQ x (p *ℤ pos d) (c * d)
holds_scaled x p c d h =
    let a = units_of binary64 x.lo in
    let b = units_of binary64 x.hi in
    let l = 2 ^ low binary64 in
    record {
      from_lo = rw (← scale_scale a c d, scale_swap p d l) (mono (a *ℤ pos c) (p *ℤ pos l) d h.from_lo);
      to_hi = rw (← scale_scale b c d, scale_swap p d l) (mono (p *ℤ pos l) (b *ℤ pos c) d h.to_hi);
    }

pub holds_rescaled : (x : Scalar) (p : ℤ) (j c : ℕ) → j ≤ c → Holds x p j → Holds x (rescaled p j c) c
unfolding rescaled
holds_rescaled x p j c l h =
    let whole : 2 ^ j * 2 ^ (c - j) ≡ 2 ^ c = sym (pow-add 2 j (c - j)) ∙ ap (λ (n : ℕ). 2 ^ n) (omega arith) in
    subst (HoldsQ x (p *ℤ pos (2 ^ (c - j)))) whole (holds_scaled x p (2 ^ j) (2 ^ (c - j)) h)

pub encloses_each : (op : ℤ → ℤ → ℤ) (x y r : Scalar) → Encloses op x y r → EnclosesEach op x y r
encloses_each op x y r e fx fy fr p q j k c a b h g =
    e fx fy fr (rescaled p j c) (rescaled q k c) c (holds_rescaled x p j c a h) (holds_rescaled y q k c b g)
