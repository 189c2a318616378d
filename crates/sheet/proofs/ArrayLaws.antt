-- What the loops over points and over rules leave: an array with one point or rule more, and what is still to be read
-- behind it.
use Prim.Native.Nat.{ℕ, suc, ◌+◌, ◌-◌, ◌*◌, ◌≤◌, ◌<◌}
use mathlib.Core.Path.{◌≡◌, sym, ◌∙◌}
use mathlib.Core.List.{List, [], ◌∷◌, ◌++◌, append_assoc}
use native.Mathlib.Numerals.{add-one}
use native.Mathlib.Omega.{arith}
use lib.IntN.{ℤ}
use lib.ListN.{length, take, set, length-set}
use lib.Seq.{take-suc-set}
use Rattle.interval.specs.Result.{Res, ok, refused}
use Rattle.linear.proofs.Folds.{bind_ok, bind_refused}
use Rattle.sheet.specs.Text.{Part, part}
use Rattle.sheet.specs.Sheet.{point_of, points_from, rule_of, rules_from}
use Rattle.sheet.specs.declared.sheet.Rule.{Rule}

-- ---- one more, and two more, behind those that are stored

pub take_one : {A : Type 0} (xs : List A) (i : ℕ) (x : A) → i < length xs →
    take (i + 1) (set xs i x) ≡ take i xs ++ (x ∷ [])
take_one xs i x h = rw (add-one, take-suc-set)

pub take_two : {A : Type 0} (xs : List A) (i : ℕ) (x y : A) → 2 * i + 1 < length xs →
    take (2 * (i + 1)) (set (set xs (2 * i) x) (2 * i + 1) y) ≡ take (2 * i) xs ++ (x ∷ (y ∷ []))
take_two xs i x y h =
    let m : 2 * (i + 1) ≡ 2 * i + 1 + 1 = omega arith in
    let h₀ : 2 * i < length xs = omega arith in
    let h₁ : 2 * i + 1 < length (set xs (2 * i) x) = rw length-set h in
    rw (m, take_one (set xs (2 * i) x) (2 * i + 1) y h₁, take_one xs (2 * i) x h₀) (append_assoc (take (2 * i) xs) _ _)

-- ---- points

module _ (count i : ℕ) (xs : List ℤ) (text : List ℕ) {all : Res (Part (List ℤ))}
    (inv : all ≡ points_from (count - i) (take (2 * i) xs) text) where
  pub points_end : count ≤ i → i ≤ count → ok (part (take (2 * count) xs) text) ≡ all
  unfolding points_from
  points_end l h =
      let m : i ≡ count = omega arith in
      let z : count - i ≡ 0 = omega arith in
      sym (inv ∙ rw (z, m))

  module _ (h : i < count) where
    -- the next point, and what is behind it
    turn : all ≡ points_from (suc (count - (i + 1))) (take (2 * i) xs) text
    turn = let m : count - i ≡ suc (count - (i + 1)) = omega arith in rw m at inv

    pub points_more : {x x' y y' : ℤ} {rest : List ℕ} → 2 * i + 1 < length xs → point_of text ≡ ok (part (x, y) rest) →
        x' ≡ x → y' ≡ y →
        all ≡ points_from (count - (i + 1)) (take (2 * (i + 1)) (set (set xs (2 * i) x') (2 * i + 1) y')) rest
    unfolding points_from
    points_more {x} {x'} {y} {y'} l e ex ey = rw (ex, ey, take_two xs i x y l) (turn ∙ bind_ok _ e)

    pub points_fault : {k : ℕ} → point_of text ≡ refused k → refused k ≡ all
    unfolding points_from
    points_fault e = sym (turn ∙ bind_refused _ e)

-- ---- rules

module _ (points count i : ℕ) (xs : List Rule) (text : List ℕ) {all : Res (Part (List Rule))}
    (inv : all ≡ rules_from points (count - i) (take i xs) text) where
  pub rules_end : count ≤ i → i ≤ count → ok (part (take count xs) text) ≡ all
  unfolding rules_from
  rules_end l h =
      let m : i ≡ count = omega arith in
      let z : count - i ≡ 0 = omega arith in
      sym (inv ∙ rw (z, m))

  module _ (h : i < count) where
    next : all ≡ rules_from points (suc (count - (i + 1))) (take i xs) text
    next = let m : count - i ≡ suc (count - (i + 1)) = omega arith in rw m at inv

    pub rules_more : {r : Rule} {rest : List ℕ} → i < length xs → rule_of points text ≡ ok (part r rest) →
        all ≡ rules_from points (count - (i + 1)) (take (i + 1) (set xs i r)) rest
    unfolding rules_from
    rules_more {r} l e = rw (take_one xs i r l) (next ∙ bind_ok _ e)

    pub rules_fault : {k : ℕ} → rule_of points text ≡ refused k → refused k ≡ all
    unfolding rules_from
    rules_fault e = sym (next ∙ bind_refused _ e)
