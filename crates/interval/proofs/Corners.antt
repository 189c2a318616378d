-- Whole numbers: what is at most each of the four products of the ends is at most every product of what lies between.
use Rattle.std.proofs.Common.{◌≡◌, ℕ, suc, ◌+◌, ◌*◌, ◌<◌, ◌≤◌, T, ℤ, pos, negsuc, ◌*ℤ◌, sym, ap, ◌∙◌, subst}
use Rattle.std.proofs.Common.{mul-le-mul_right, mul_assoc, add-mul, mul-zero, zero-mul, le_of_mul-le-mul_right, arith}
use native.Mathlib.Nat.{mul-mul-mul_comm}
use lib.IntN.{*ℤ_comm}
use lib.Signed.{le_z}
use Rattle.interval.proofs.Integers.{P, N, P-neg, N-neg, P-scale, N-scale, le_of_parts, parts_of_le}

pub ext : (z w : ℤ) → P z ≡ P w → N z ≡ N w → z ≡ w
ext (pos a) (pos b) p n = ap pos p
ext (pos a) (negsuc b) p n = absurd (omega arith)
ext (negsuc a) (pos b) p n = absurd (omega arith)
ext (negsuc a) (negsuc b) p n = ap negsuc (omega arith)

pub P-mul : (z w : ℤ) → P (z *ℤ w) ≡ P z * P w + N z * N w
P-mul (pos a) (pos b) = omega arith
P-mul (pos a) (negsuc b) = P-neg (a * suc b) ∙ omega (arith, mul-zero a, zero-mul (suc b))
P-mul (negsuc a) (pos b) = P-neg (suc a * b) ∙ omega (arith, zero-mul b, mul-zero (suc a))
P-mul (negsuc a) (negsuc b) = omega arith

pub N-mul : (z w : ℤ) → N (z *ℤ w) ≡ P z * N w + N z * P w
N-mul (pos a) (pos b) = omega (arith, mul-zero a, zero-mul b)
N-mul (pos a) (negsuc b) = N-neg (a * suc b) ∙ omega arith
N-mul (negsuc a) (pos b) = N-neg (suc a * b) ∙ omega arith
N-mul (negsuc a) (negsuc b) = omega (arith, mul-zero (suc a), zero-mul (suc b))

-- ---- the order
pub le_z-trans : (a b c : ℤ) → T (le_z a b) → T (le_z b c) → T (le_z a c)
le_z-trans a b c h k = le_of_parts a c (omega (arith, parts_of_le a b h, parts_of_le b c k))

pub le_z-eq : (a b : ℤ) → a ≡ b → T (le_z a b)
le_z-eq a b e = le_of_parts a b (omega (arith, ap P e, ap N e))

pub mono : (z w : ℤ) (n : ℕ) → T (le_z z w) → T (le_z (z *ℤ pos n) (w *ℤ pos n))
mono z w n h =
    let k : (P z + N w) * n ≤ (P w + N z) * n = mul-le-mul_right n (parts_of_le z w h) in
    le_of_parts (z *ℤ pos n) (w *ℤ pos n)
    (omega (arith, P-scale z n, N-scale z n, P-scale w n, N-scale w n, add-mul (P z) (N w) n, add-mul (P w) (N z) n))

pub unscale : (z w : ℤ) (n : ℕ) → 0 < n → T (le_z (z *ℤ pos n) (w *ℤ pos n)) → T (le_z z w)
unscale z w n p h =
    let k = parts_of_le (z *ℤ pos n) (w *ℤ pos n) h in
    let g : (P z + N w) * n ≤ (P w + N z) * n =
    omega (arith, P-scale z n, N-scale z n, P-scale w n, N-scale w n, add-mul (P z) (N w) n, add-mul (P w) (N z) n) in
    le_of_parts z w (le_of_mul-le-mul_right g p)

pub anti : (z w : ℤ) (n : ℕ) → T (le_z z w) → T (le_z (w *ℤ negsuc n) (z *ℤ negsuc n))
anti z w n h =
    let k : (P z + N w) * suc n ≤ (P w + N z) * suc n = mul-le-mul_right (suc n) (parts_of_le z w h) in
    le_of_parts (w *ℤ negsuc n) (z *ℤ negsuc n)
    (omega (
      arith,
      P-mul z (negsuc n),
      N-mul z (negsuc n),
      P-mul w (negsuc n),
      N-mul w (negsuc n),
      add-mul (P z) (N w) (suc n),
      add-mul (P w) (N z) (suc n),
      mul-zero (P z),
      mul-zero (N z),
      mul-zero (P w),
      mul-zero (N w),
    ))

-- a product moves with its second factor by the sign of the first
pub mono_right : (n : ℕ) (z w : ℤ) → T (le_z z w) → T (le_z (pos n *ℤ z) (pos n *ℤ w))
mono_right n z w h = subst (λ (t : ℤ). T (le_z t (pos n *ℤ w))) (*ℤ_comm z (pos n))
    (subst (λ (t : ℤ). T (le_z (z *ℤ pos n) t)) (*ℤ_comm w (pos n)) (mono z w n h))

pub anti_right : (n : ℕ) (z w : ℤ) → T (le_z z w) → T (le_z (negsuc n *ℤ w) (negsuc n *ℤ z))
anti_right n z w h = subst (λ (t : ℤ). T (le_z t (negsuc n *ℤ z))) (*ℤ_comm w (negsuc n))
    (subst (λ (t : ℤ). T (le_z (w *ℤ negsuc n) t)) (*ℤ_comm z (negsuc n)) (anti z w n h))

-- ---- the ends a ≤ x ≤ b and c ≤ y ≤ d
low_side : (r a c y d : ℤ) → T (le_z c y) → T (le_z y d) → T (le_z r (a *ℤ c)) → T (le_z r (a *ℤ d))
    → T (le_z r (a *ℤ y))
low_side r (pos n) c y d h k p q = le_z-trans r (pos n *ℤ c) (pos n *ℤ y) p (mono_right n c y h)
low_side r (negsuc n) c y d h k p q = le_z-trans r (negsuc n *ℤ d) (negsuc n *ℤ y) q (anti_right n y d k)

pub corners_low : (r a x b c y d : ℤ) → T (le_z a x) → T (le_z x b) → T (le_z c y) → T (le_z y d)
    → T (le_z r (a *ℤ c)) → T (le_z r (a *ℤ d)) → T (le_z r (b *ℤ c)) → T (le_z r (b *ℤ d)) → T (le_z r (x *ℤ y))
corners_low r a x b c (pos n) d ax xb cy yd p q u v =
    le_z-trans r (a *ℤ pos n) (x *ℤ pos n) (low_side r a c (pos n) d cy yd p q) (mono a x n ax)
corners_low r a x b c (negsuc n) d ax xb cy yd p q u v =
    le_z-trans r (b *ℤ negsuc n) (x *ℤ negsuc n) (low_side r b c (negsuc n) d cy yd u v) (anti x b n xb)

-- ---- scales
pub scale_scale : (z : ℤ) (j k : ℕ) → (z *ℤ pos j) *ℤ pos k ≡ z *ℤ pos (j * k)
scale_scale z j k = ext ((z *ℤ pos j) *ℤ pos k) (z *ℤ pos (j * k))
    (P-scale (z *ℤ pos j) k ∙ ap (λ (t : ℕ). t * k) (P-scale z j) ∙ mul_assoc (P z) j k ∙ sym (P-scale z (j * k)))
    (N-scale (z *ℤ pos j) k ∙ ap (λ (t : ℕ). t * k) (N-scale z j) ∙ mul_assoc (N z) j k ∙ sym (N-scale z (j * k)))

two : (a b c d j k : ℕ) → a * j * (b * k) + c * j * (d * k) ≡ (a * b + c * d) * (j * k)
two a b c d j k = ap (λ (t : ℕ). t + c * j * (d * k)) (mul-mul-mul_comm a j b k)
    ∙ ap (λ (t : ℕ). a * b * (j * k) + t) (mul-mul-mul_comm c j d k) ∙ sym (add-mul (a * b) (c * d) (j * k))

pub scale_mul : (z w : ℤ) (j k : ℕ) → (z *ℤ pos j) *ℤ (w *ℤ pos k) ≡ (z *ℤ w) *ℤ pos (j * k)
scale_mul z w j k = ext ((z *ℤ pos j) *ℤ (w *ℤ pos k)) ((z *ℤ w) *ℤ pos (j * k))
    (rw (
      P-mul (z *ℤ pos j) (w *ℤ pos k),
      P-scale z j,
      P-scale w k,
      N-scale z j,
      N-scale w k,
      P-scale (z *ℤ w) (j * k),
      P-mul z w,
    ) (two (P z) (P w) (N z) (N w) j k))
    (rw (
      N-mul (z *ℤ pos j) (w *ℤ pos k),
      P-scale z j,
      P-scale w k,
      N-scale z j,
      N-scale w k,
      N-scale (z *ℤ w) (j * k),
      N-mul z w,
    ) (two (P z) (N w) (N z) (P w) j k))
