-- Enclosure (PROTOCOL, Scalars): what an interval holds, over whole numbers. A finite float is a whole
-- number of units, 2 ^ -1074 each.
-- A choice inside an interval is a whole number over a power of two, p / 2 ^ k. Where operands and result are finite,
-- each operation holds the exact result for every choice inside its operands: quotients are cross-multiplied, roots
-- squared and taken of choices that are not below 0.
use Rattle.std.specs.Prelude.{◌≡◌, Result, ℕ, zero, suc, ◌+◌, ◌-◌, ◌*◌, ◌/◌, ◌^◌, ◌≤◌, Bool, true, false, cond, T, ◌⊎◌}
use Rattle.std.specs.Prelude.{ℤ, pos, negsuc, ◌*ℤ◌, neg_ℤ, int_le, unsigned_abs, Float}
use Rattle.std.specs.Float.{nan, inf, fin, Format, binary64}
use Rattle.std.specs.Float.Ieee.{up, down, fits, low}
use Rattle.std.specs.Float.Ieee.Scale.{finite}
use Rattle.interval.specs.Result.{Res, ok, result_of}
use Rattle.interval.specs.declared.Scalar.{Scalar}
use Rattle.interval.specs.declared.GeopError.{GeopError}

abbrev pub signed : Bool → ℕ → ℤ
signed false n = pos n
signed true n = neg_ℤ (pos n)

-- x in units of the format's smallest value, 2 ^ - low f
unfoldable pub units_of : Format → Float → ℤ
units_of f nan = pos 0
units_of f (inf s) = pos 0
units_of f (fin s m e) = signed s (m * up e * 2 ^ low f / down e)

-- both ends are values of binary64, as the ends of every scalar of the program are
abbrev pub Fits : Scalar → Type 0
Fits x = T (fits binary64 x.lo) × T (fits binary64 x.hi)

-- both ends are finite
pub record Finite (x : Scalar) : Type 0 where
  pub lo_finite : T (finite x.lo)
  pub hi_finite : T (finite x.hi)

-- p / c lies in x: lo * c ≤ p * 2 ^ 1074 ≤ hi * c, the ends in units
pub record HoldsQ (x : Scalar) (p : ℤ) (c : ℕ) : Type 0 where
  pub from_lo : T (int_le (units_of binary64 x.lo *ℤ pos c) (p *ℤ pos (2 ^ low binary64)))
  pub to_hi : T (int_le (p *ℤ pos (2 ^ low binary64)) (units_of binary64 x.hi *ℤ pos c))

-- the choice p / 2 ^ k lies in x
abbrev pub Holds : Scalar → ℤ → ℕ → Type 0
Holds x p k = HoldsQ x p (2 ^ k)

-- the choice p / 2 ^ j written over 2 ^ c, for a c that is at least j
unfoldable pub rescaled : ℤ → ℕ → ℕ → ℤ
rescaled p j c = p *ℤ pos (2 ^ (c - j))

-- ---- what each operation encloses

-- sum, difference and greater: of choices over a power of two that both share
abbrev pub Encloses : (ℤ → ℤ → ℤ) → Scalar → Scalar → Scalar → Type 0
Encloses op x y r = Finite x → Finite y → Finite r → (p q : ℤ) (k : ℕ) → Holds x p k → Holds y q k → Holds r (op p q) k

-- the same with a power for each choice: both are written over any 2 ^ c where c is at least each power
abbrev pub EnclosesEach : (ℤ → ℤ → ℤ) → Scalar → Scalar → Scalar → Type 0
EnclosesEach op x y r =
    Finite x → Finite y → Finite r → (p q : ℤ) (j k c : ℕ) → j ≤ c → k ≤ c →
    Holds x p j → Holds y q k → Holds r (op (rescaled p j c) (rescaled q k c)) c

-- the greater of two whole numbers
abbrev pub maxℤ : ℤ → ℤ → ℤ
maxℤ p q = cond (int_le p q) q p

abbrev pub EnclosesProduct : Scalar → Scalar → Scalar → Type 0
EnclosesProduct x y r =
    Finite x → Finite y → Finite r → (p q : ℤ) (j k : ℕ) → Holds x p j → Holds y q k → Holds r (p *ℤ q) (j + k)

abbrev pub EnclosesNegation : Scalar → Scalar → Type 0
EnclosesNegation x r = Finite x → (p : ℤ) (k : ℕ) → Holds x p k → Holds r (neg_ℤ p) k

abbrev pub EnclosesSize : Scalar → Scalar → Type 0
EnclosesSize x r = Finite x → (p : ℤ) (k : ℕ) → Holds x p k → Holds r (pos (unsigned_abs p)) k

-- (p / j) / (q / k) lies in x, for a q that is not 0: it is p * k / (j * q), with the sign of q brought above
abbrev pub HoldsRatio : Scalar → ℤ → ℕ → ℤ → ℕ → Type 0
HoldsRatio x p j (pos zero) k = Unit
HoldsRatio x p j (pos (suc n)) k = HoldsQ x (p *ℤ pos k) (j * suc n)
HoldsRatio x p j (negsuc n) k = HoldsQ x (p *ℤ neg_ℤ (pos k)) (j * suc n)

-- a divisor that is not refused holds no 0
abbrev pub EnclosesQuotient : Scalar → Scalar → Scalar → Type 0
EnclosesQuotient x y r =
    Finite x → Finite y → Finite r → (p q : ℤ) (j k : ℕ) → Holds x p j → Holds y q k → HoldsRatio r p (2 ^ j) q (2 ^ k)

-- the root of p / 2 ^ k lies in x: the lower end is at most 0 or its square at most p / 2 ^ k, the upper end is not
-- below 0 and its square is at least p / 2 ^ k
pub record HoldsRoot (x : Scalar) (p k : ℕ) : Type 0 where
  pub from_lo :
      let lo = units_of binary64 x.lo in
      T (int_le lo (pos 0)) ⊎ T (int_le ((lo *ℤ lo) *ℤ pos (2 ^ k)) (pos (p * (2 ^ low binary64 * 2 ^ low binary64))))
  pub not_below : T (int_le (pos 0) (units_of binary64 x.hi))
  pub to_hi :
      let hi = units_of binary64 x.hi in
      T (int_le (pos (p * (2 ^ low binary64 * 2 ^ low binary64))) ((hi *ℤ hi) *ℤ pos (2 ^ k)))

abbrev pub EnclosesRoot : Scalar → Scalar → Type 0
EnclosesRoot x r = Finite x → Finite r → (p k : ℕ) → Holds x (pos p) k → HoldsRoot r p k

-- ---- promises

-- r is v, and the law holds of it
pub record Gives (v : Scalar) (Law : Scalar → Type 0) (r : Scalar) : Type 0 where
  pub value : r ≡ v
  pub encloses : Law r

-- r is the result v, and where it is a value the law holds of that
pub record GivesResult (v : Res Scalar) (Law : Scalar → Type 0) (r : Result Scalar GeopError) : Type 0 where
  pub value : result_of r ≡ v
  pub encloses : (x : Scalar) → result_of r ≡ ok x → Law x
