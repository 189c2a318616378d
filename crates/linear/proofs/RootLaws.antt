-- Roots by choices. The root of s / c need not be a fraction, so fractions beside it speak for it: a scalar that holds
-- the root holds one at most the root, of its lower end, and one at least the root, of its upper end.
-- So the laws of fractions give a product with a root, and a definite answer about two roots.
use mathlib.Core.Path.{◌≡◌, refl, sym, ap, ◌∙◌}
use mathlib.Core.Logic.{◌⊎◌, inl, inr}
use Prim.Native.Nat.{ℕ, zero, suc, ◌+◌, ◌*◌, ◌^◌, ◌≤◌, ◌<◌, zero-le}
use native.Mathlib.Nat.{le_trans, le_of_eq, le_of_lt, lt_irrefl, lt_of_lt_of_le, lt_of_le_of_lt, zero-lt-suc, one-mul}
use native.Mathlib.Nat.{mul-one, zero-mul, mul-zero, mul_comm, mul_assoc, mul-mul-mul_comm, add-mul, mul-pos}
use native.Mathlib.Nat.{mul-le-mul, mul-le-mul_left, mul-le-mul_right, le_of_mul-le-mul_right, mul-lt-mul_of_pos_right}
use native.Mathlib.Omega.{arith}
use lib.Dec.{T, leb→le, le→leb}
use lib.Pow.{pow_pos}
use lib.IntN.{ℤ, pos, negsuc, ◌-ℤ◌, neg_ℤ, ◌*ℤ◌}
use lib.Signed.{le_z, lt_z}
use lib.Ieee.{Float, binary64, low}
use Rattle.interval.specs.declared.Scalar.{Scalar}
use Rattle.interval.specs.Enclosure.{units_of, Fits}
use Rattle.interval.specs.OneSided.{LowerBound, UpperBound, LowerRoot, UpperRoot, Within, WithinRoot}
use Rattle.interval.specs.Scalar.{mul_of, sub_of, zero_s, definitely_less, definitely_greater}
use Rattle.interval.proofs.Corners.{P-mul, N-mul, mono}
use Rattle.interval.proofs.Enclosure.Add.{scaled_le}
use Rattle.interval.proofs.Enclosure.Neg.{parts_neg}
use Rattle.interval.proofs.Enclosure.Sqrt.{one_part}
use Rattle.interval.proofs.Integers.{P, N, le_of_parts, lt_of_parts, parts_of_lt, add_parts}
use Rattle.interval.proofs.OneSided.Add.{sub_within}
use Rattle.interval.proofs.OneSided.Ends.{zero_fits, zero_within, outward_fits}
use Rattle.interval.proofs.OneSided.Max.{le_z-refl}
use Rattle.interval.proofs.OneSided.Mul.{Apart, mul_within}
use Rattle.interval.proofs.OrderUnits.{less_within, greater_within}
use Rattle.interval.proofs.Rank.{le_or_lt}

-- ---- u / l is at most, at least the root of s / c
abbrev pub Under : ℤ → ℕ → ℕ → ℕ → Type 0
Under u s c l = T (le_z u (pos 0)) ⊎ T (le_z ((u *ℤ u) *ℤ pos c) (pos (s * (l * l))))

abbrev pub Over : ℤ → ℕ → ℕ → ℕ → Type 0
Over u s c l = T (le_z (pos 0) u) × T (le_z (pos (s * (l * l))) ((u *ℤ u) *ℤ pos c))

under_says : (u : ℤ) (s c l : ℕ) → Under u s c l → (P u ≡ 0) ⊎ (P u * P u * c ≤ s * (l * l))
under_says (pos a) s c l (inl h) = inl (omega (arith, leb→le a 0 h))
under_says (pos a) s c l (inr h) = inr (leb→le (a * a * c) (s * (l * l)) h)
under_says (negsuc a) s c l h = inl refl

says_under : (u : ℤ) (s c l : ℕ) → (P u ≡ 0) ⊎ (P u * P u * c ≤ s * (l * l)) → Under u s c l
says_under (pos a) s c l (inl z) = inl (le→leb a 0 (le_of_eq z))
says_under (pos a) s c l (inr h) = inr (le→leb (a * a * c) (s * (l * l)) h)
says_under (negsuc a) s c l h = inl tt

over_says : (u : ℤ) (s c l : ℕ) → Over u s c l → (N u ≡ 0) × (s * (l * l) ≤ P u * P u * c)
over_says (pos a) s c l h = (refl, leb→le (s * (l * l)) (a * a * c) h.1)
over_says (negsuc a) s c l h = absurd h.0

says_over : (u : ℤ) (s c l : ℕ) → (N u ≡ 0) × (s * (l * l) ≤ P u * P u * c) → Over u s c l
says_over (pos a) s c l h = (le→leb 0 a zero-le, le→leb (s * (l * l)) (a * a * c) h.1)
says_over (negsuc a) s c l h = absurd (omega (arith, h.0))

-- ---- the order
square_le : (a b c : ℕ) → 0 < c → a * a * c ≤ b * b * c → a ≤ b
square_le a b c C h = elim (le_or_lt a b) [
  | inl k ↦ k
  | inr k ↦ absurd (lt_irrefl (b * b * c) (lt_of_lt_of_le (mul-lt-mul_of_pos_right
      (lt_of_le_of_lt (mul-le-mul_left b (le_of_lt k)) (mul-lt-mul_of_pos_right k (lt_of_le_of_lt zero-le k))) C) h))
]

-- what is at most the root is at most what is at least the root
between : (u v : ℤ) (s c l : ℕ) → 0 < c → Under u s c l → Over v s c l → T (le_z u v)
between u v s c l C a b =
    let w = over_says v s c l b in
    le_of_parts u v (elim (under_says u s c l
    a) [ inl z ↦ omega (arith, w.0) | inr h ↦ omega (arith, w.0, square_le (P u) (P v) c C (le_trans h w.1)) ])

-- a root with a fraction below it that is above a fraction beyond the other root is the greater one
pub roots_less : (u v : ℤ) (s r c l : ℕ) → 0 < c → Under u s c l → Over v r c l → T (lt_z v u) → r < s
roots_less u v s r c l C a b h =
    let w = over_says v r c l b in
    let k = parts_of_lt v u h in
    elim (under_says u s c l a) [
      | inl z ↦ absurd (omega (arith, w.0))
      | inr g ↦
          elim (le_or_lt s r) [
            | inr y ↦ y
            | inl y ↦ absurd (omega
                (arith, w.0, square_le (P u) (P v) c C (le_trans g (le_trans (mul-le-mul_right (l * l) y) w.1))))
          ]
    ]

-- ---- the fractions that a scalar's ends give
lower_of : (x : Float) (q : ℤ) (s c : ℕ) → 0 < c → Over q s c (2 ^ low binary64) → LowerRoot x s c
    → LowerBound x q (2 ^ low binary64)
lower_of x q s c C a (inl e) = inl e
lower_of x q s c C a (inr g) = inr (
  g.0,
  mono (units_of binary64 x) q (2 ^ low binary64) (between (units_of binary64 x) q s c (2 ^ low binary64) C g.1 a),
)

upper_of : (x : Float) (q : ℤ) (s c : ℕ) → 0 < c → Under q s c (2 ^ low binary64) → UpperRoot x s c
    → UpperBound x q (2 ^ low binary64)
upper_of x q s c C a (inl e) = inl e
upper_of x q s c C a (inr g) = inr (
  g.0,
  mono q (units_of binary64 x) (2 ^ low binary64) (between q (units_of binary64 x) s c (2 ^ low binary64) C a g.1),
)

pub lower_choice : (r : Scalar) (s c : ℕ) → 0 < c → WithinRoot r s c
    → (q : ℤ) × Within r q (2 ^ low binary64) × Under q s c (2 ^ low binary64)
lower_choice r s c C w = go w.low_end
  where
    go : LowerRoot r.lo s c → (q : ℤ) × Within r q (2 ^ low binary64) × Under q s c (2 ^ low binary64)
    go (inl e) =
        (pos 0, record { low_end = inl e; high_end = upper_of r.hi (pos 0) s c C (inl tt) w.high_end }, inl tt)
    go (inr g) =
        let u = units_of binary64 r.lo in (
          u,
          record {
            low_end = inr (g.0, le_z-refl (u *ℤ pos (2 ^ low binary64)));
            high_end = upper_of r.hi u s c C g.1 w.high_end;
          },
          g.1,
        )

-- beyond every root of s / c
far : (s c l : ℕ) → 0 < c → Over (pos (suc s * l)) s c l
far s c l C =
    says_over (pos (suc s * l)) s c l (
      refl,
      le_trans (mul-le-mul_right (l * l)
          (le_trans (le_of_eq (sym (one-mul s))) (mul-le-mul {n₁ = 1} {n₂ = suc s} (omega arith) (omega arith))))
          (le_trans (le_of_eq (mul-mul-mul_comm (suc s) (suc s) l l)) (le_trans
          (le_of_eq (sym (mul-one (suc s * l * (suc s * l))))) (mul-le-mul_left (suc s * l * (suc s * l)) C))),
    )

pub upper_choice : (r : Scalar) (s c : ℕ) → 0 < c → WithinRoot r s c
    → (q : ℤ) × Within r q (2 ^ low binary64) × Over q s c (2 ^ low binary64)
upper_choice r s c C w = go w.high_end
  where
    go : UpperRoot r.hi s c → (q : ℤ) × Within r q (2 ^ low binary64) × Over q s c (2 ^ low binary64)
    go (inl e) =
        let q = pos (suc s * 2 ^ low binary64) in
        let a = far s c (2 ^ low binary64) C in
        (q, record { low_end = lower_of r.lo q s c C a w.low_end; high_end = inl e }, a)
    go (inr g) =
        let u = units_of binary64 r.hi in (
          u,
          record {
            low_end = lower_of r.lo u s c C g.1 w.low_end;
            high_end = inr (g.0, le_z-refl (u *ℤ pos (2 ^ low binary64)));
          },
          g.1,
        )

-- ---- a definite answer about two roots
pub less_roots : (x y : Scalar) (s r c : ℕ) → 0 < c → Fits x → Fits y → WithinRoot x s c → WithinRoot y r c
    → T (definitely_less y x) → r < s
less_roots x y s r c C tx ty a b h =
    let u = lower_choice x s c C a in
    let v = upper_choice y r c C b in
    roots_less u.0 v.0 s r c (2 ^ low binary64) C u.2 v.2
    (less_within y x v.0 u.0 (2 ^ low binary64) (pow_pos (low binary64)) ty tx v.1 u.1 h)

-- the difference of two roots is definitely above 0
pub fell_roots : (x y : Scalar) (s r c : ℕ) → 0 < c → Fits x → Fits y → WithinRoot x s c → WithinRoot y r c
    → T (definitely_greater (sub_of x y) zero_s) → r < s
fell_roots x y s r c C tx ty a b h =
    let l = 2 ^ low binary64 in
    let u = lower_choice x s c C a in
    let v = upper_choice y r c C b in
    let d = sub_within x y u.0 v.0 l tx ty u.1 v.1 in
    roots_less u.0 v.0 s r c l C u.2 v.2 (apart u.0 v.0 (greater_within (sub_of x y) zero_s
    (u.0 -ℤ v.0) (pos 0) l (pow_pos (low binary64)) (outward_fits _ _) zero_fits d (zero_within l) h))
  where
    apart : (u v : ℤ) → T (lt_z (pos 0) (u -ℤ v)) → T (lt_z v u)
    apart u v h = lt_of_parts v u (omega (arith, parts_of_lt (pos 0) (u -ℤ v) h, add_parts u (neg_ℤ v), parts_neg v))

-- ---- p / j times the root of s / c
squared : (w j c : ℕ) → w * w * (j * j * c) ≡ w * j * (w * j) * c
squared w j c = sym (mul_assoc (w * w) (j * j) c) ∙ ap (λ (z : ℕ). z * c) (mul-mul-mul_comm w w j j)

times_low : (w j p q s c l : ℕ) → w * j ≤ p * q → q * q * c ≤ s * (l * l) → w * w * (j * j * c) ≤ p * p * s * (l * l)
times_low w j p q s c l h k =
    le_trans (le_of_eq (squared w j c)) (le_trans (mul-le-mul_right c (mul-le-mul h h)) (le_trans (le_of_eq
    (sym (squared p q c))) (le_trans (mul-le-mul_left (p * p) k) (le_of_eq (sym (mul_assoc (p * p) s (l * l)))))))

times_high : (w j p q s c l : ℕ) → p * q ≤ w * j → s * (l * l) ≤ q * q * c → p * p * s * (l * l) ≤ w * w * (j * j * c)
times_high w j p q s c l h k =
    le_trans (le_of_eq (mul_assoc (p * p) s (l * l))) (le_trans (mul-le-mul_left (p * p) k) (le_trans
    (le_of_eq (squared p q c)) (le_trans (mul-le-mul_right c (mul-le-mul h h)) (le_of_eq (sym (squared w j c))))))

none : (w j : ℕ) → 0 < j → w * j ≤ 0 → w ≡ 0
none zero j J h = refl
none (suc w) j J h = absurd (lt_irrefl 0 (lt_of_lt_of_le (mul-pos (zero-lt-suc w) J) h))

-- the parts of p * q, where p is not below 0
parts : (p : ℕ) (q : ℤ) → (P (pos p *ℤ q) ≡ p * P q) × (N (pos p *ℤ q) ≡ p * N q)
parts p q = (omega (arith, P-mul (pos p) q, zero-mul (N q)), omega (arith, N-mul (pos p) q, zero-mul (P q)))

parts_low : (w q : ℤ) (p j l : ℕ) → 0 < l → N w ≡ 0 → T (le_z (w *ℤ pos (j * l)) ((pos p *ℤ q) *ℤ pos l))
    → P w * j ≤ p * P q
parts_low w q p j l L z h =
    let k : P w * (j * l) ≤ P (pos p *ℤ q) * l =
    omega (arith, scaled_le w (pos p *ℤ q) (j * l) l h, ap (λ (t : ℕ). t * (j * l)) z, zero-mul (j * l)) in
    le_of_mul-le-mul_right
    (le_trans (le_of_eq (mul_assoc (P w) j l)) (le_trans k (le_of_eq (ap (λ (t : ℕ). t * l) (parts p q).0)))) L

parts_high : (w q : ℤ) (p j l : ℕ) → 0 < j → 0 < l → N q ≡ 0 → T (le_z ((pos p *ℤ q) *ℤ pos l) (w *ℤ pos (j * l)))
    → (N w ≡ 0) × (p * P q ≤ P w * j)
parts_high w q p j l J L z h =
    let m = parts p q in
    let e : N (pos p *ℤ q) * l ≡ 0 = ap (λ (t : ℕ). t * l) (m.1 ∙ ap (λ (t : ℕ). p * t) z ∙ mul-zero p) ∙ zero-mul l in
    let g : P (pos p *ℤ q) * l + N w * j * l ≤ P w * j * l =
    omega (arith, scaled_le (pos p *ℤ q) w l (j * l) h, mul_assoc (P w) j l, mul_assoc (N w) j l) in
    let k : P (pos p *ℤ q) + N w * j ≤ P w * j =
    le_of_mul-le-mul_right (le_trans (le_of_eq (add-mul (P (pos p *ℤ q)) (N w * j) l)) g) L in (
      elim (one_part w) [ inr e ↦ e | inl e ↦ none (N w) j J (omega (arith, ap (λ (t : ℕ). t * j) e, zero-mul j)) ],
      omega (arith, m.0),
    )

pub times_root : (x r : Scalar) (p j s c : ℕ) → 0 < j → 0 < c → Fits x → Fits r → Apart x r → Within x (pos p) j
    → WithinRoot r s c → WithinRoot (mul_of x r) (p * p * s) (j * j * c)
times_root x r p j s c J C tx tr t a b =
    let u = lower_choice r s c C b in
    let v = upper_choice r s c C b in
    let l = 2 ^ low binary64 in
    let L = pow_pos (low binary64) in
    record {
      low_end = lower (mul_of x r).lo u.0 u.2 (mul_within x r (pos p) u.0 j l J L tx tr t a u.1).low_end;
      high_end =
          higher (mul_of x r).hi v.0 v.2 (mul_within x r (pos p) v.0 j l J L tx tr t a v.1).high_end;
    }
  where
    under : (w q : ℤ) (l : ℕ) → 0 < l → Under q s c l → T (le_z (w *ℤ pos (j * l)) ((pos p *ℤ q) *ℤ pos l))
        → Under w (p * p * s) (j * j * c) l
    under w q l L a h = says_under w (p * p * s) (j * j * c) l (elim (one_part w) [
      | inl z ↦ inl z
      | inr z ↦
          let k = parts_low w q p j l L z h in
          elim (under_says q s c l a) [
            | inl y ↦ inl (none (P w) j J (le_trans k (le_of_eq (ap (λ (t : ℕ). p * t) y ∙ mul-zero p))))
            | inr y ↦ inr (times_low (P w) j p (P q) s c l k y)
          ]
    ])

    over : (w q : ℤ) (l : ℕ) → 0 < l → Over q s c l → T (le_z ((pos p *ℤ q) *ℤ pos l) (w *ℤ pos (j * l)))
        → Over w (p * p * s) (j * j * c) l
    over w q l L a h =
        let y = over_says q s c l a in
        let k = parts_high w q p j l J L y.0 h in
        says_over w (p * p * s) (j * j * c) l (k.0, times_high (P w) j p (P q) s c l k.1 y.1)

    lower : (x : Float) (q : ℤ) → Under q s c (2 ^ low binary64) → LowerBound x (pos p *ℤ q) (j * 2 ^ low binary64)
        → LowerRoot x (p * p * s) (j * j * c)
    lower x q a (inl e) = inl e
    lower x q a (inr g) = inr (g.0, under (units_of binary64 x) q (2 ^ low binary64) (pow_pos (low binary64)) a g.1)

    higher : (x : Float) (q : ℤ) → Over q s c (2 ^ low binary64) → UpperBound x (pos p *ℤ q) (j * 2 ^ low binary64)
        → UpperRoot x (p * p * s) (j * j * c)
    higher x q a (inl e) = inl e
    higher x q a (inr g) = inr (g.0, over (units_of binary64 x) q (2 ^ low binary64) (pow_pos (low binary64)) a g.1)

-- ---- a common factor
pub root_cancel : (x : Scalar) (d s c : ℕ) → 0 < d → WithinRoot x (d * s) (d * c) → WithinRoot x s c
root_cancel x d s c D w = record { low_end = lower w.low_end; high_end = higher w.high_end }
  where
    out : (a d b : ℕ) → a * (d * b) ≡ a * b * d
    out a d b = ap (λ (z : ℕ). a * z) (mul_comm d b) ∙ sym (mul_assoc a b d)

    out' : (d s m : ℕ) → d * s * m ≡ s * m * d
    out' d s m = mul_assoc d s m ∙ mul_comm d (s * m)

    under : (u : ℤ) (l : ℕ) → Under u (d * s) (d * c) l → Under u s c l
    under u l a = says_under u s c l (elim (under_says u (d * s) (d * c) l a) [
      | inl z ↦ inl z
      | inr h ↦ inr (le_of_mul-le-mul_right
          (le_trans (le_of_eq (sym (out (P u * P u) d c))) (le_trans h (le_of_eq (out' d s (l * l))))) D)
    ])

    over : (u : ℤ) (l : ℕ) → Over u (d * s) (d * c) l → Over u s c l
    over u l a =
        let y = over_says u (d * s) (d * c) l a in
        says_over u s c l (
          y.0,
          le_of_mul-le-mul_right
              (le_trans (le_of_eq (sym (out' d s (l * l)))) (le_trans y.1 (le_of_eq (out (P u * P u) d c)))) D,
        )

    lower : LowerRoot x.lo (d * s) (d * c) → LowerRoot x.lo s c
    lower (inl e) = inl e
    lower (inr g) = inr (g.0, under (units_of binary64 x.lo) (2 ^ low binary64) g.1)

    higher : UpperRoot x.hi (d * s) (d * c) → UpperRoot x.hi s c
    higher (inl e) = inl e
    higher (inr g) = inr (g.0, over (units_of binary64 x.hi) (2 ^ low binary64) g.1)
