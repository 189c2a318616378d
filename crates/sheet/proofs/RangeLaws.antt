-- What is read is within its ranges, since every line was tested: by what each line gives, from the numbers up to the
-- sheet. Points and rules are added one at a time behind those that are in range already.
use Prim.Native.Nat.{ℕ, zero, suc, ◌+◌, ◌*◌, ◌<◌, ◌≤◌}
use mathlib.Core.Bool.{Bool, true, false, ◌&&◌, not}
use mathlib.Core.List.{List, [], ◌∷◌, ◌++◌, append_assoc}
use mathlib.Core.Logic.{◌≢◌}
use mathlib.Core.Path.{◌≡◌, refl, sym, ap}
use native.Mathlib.Nat.{not-suc-le-zero, le_of_suc-le-suc}
use native.Mathlib.Omega.{arith}
use borrow.Author.Tests.{leb-true, ltb-true, eqb-false}
use lib.Dec.{eqb, leb, ltb}
use lib.IntN.{ℤ, pos, neg_ℤ, nat_abs}
use lib.ListN.{length, get_or, length-append}
use lib.Seq.{length-take-le, get_or-take}
use Rattle.interval.specs.Result.{ok}
use Rattle.interval.specs.Scalar.{pick}
use Rattle.linear.proofs.Folds.{bind_value}
use Rattle.run.proofs.Booleans.{and_left, and_right, negated}
use Rattle.sheet.specs.Text.{Part, part, head, behind_key}
use Rattle.sheet.specs.Numbers.{whole_of, is_natural, is_between, two_of, three_of}
use Rattle.sheet.specs.Ranges.{RuleInRange, InRange}
use Rattle.sheet.specs.Rows.{rule_at}
use Rattle.sheet.specs.Rule.{span, level}
use Rattle.sheet.specs.Sheet.{Sheet, most_bytes, most_points, most_iterations, most_rules, most_length}
use Rattle.sheet.specs.Sheet.{at_key, span_key, level_key, plumb_key, points_key, limit_key, reach_key, rules_key}
use Rattle.sheet.specs.Sheet.{is_near, is_present, are_two, natural_of, point_of, points_from, point_count, span_of}
use Rattle.sheet.specs.Sheet.{aligned_of, level_of, plumb_of, rule_of, rules_from, all_points_of, all_rules_of}
use Rattle.sheet.specs.Sheet.{behind_points_of, sheet_of, read_of}
use Rattle.sheet.specs.declared.numbers.Number.{Number}
use Rattle.sheet.specs.declared.sheet.Kind.TheVariants.{Span, Level, Plumb}
use Rattle.sheet.specs.declared.sheet.Rule.{Rule}
use Rattle.sheet.specs.declared.sheet.Sheet as declared
use Rattle.sheet.specs.program.Rows as rows
use Rattle.sheet.specs.program.Settling.{Settles}
use Rattle.sheet.specs.program.Sheet.{list_in, sheet_by}
use Rattle.sheet.proofs.SheetLaws.{checked_ok, same, between_range, natural_range}

-- ---- lists of which each element has a property

module _ {A : Type 0} (P : A → Type 0) (d : A) where
  abbrev pub All : List A → Type 0
  All xs = (k : ℕ) → k < length xs → P (get_or xs k d)

  none : All []
  none k h = absurd (not-suc-le-zero h)

  one_more : (xs : List A) (x : A) → All xs → P x → All (xs ++ (x ∷ []))
  one_more [] x a p zero h = p
  one_more [] x a p (suc k) h = absurd (not-suc-le-zero (le_of_suc-le-suc h))
  one_more (y ∷ xs) x a p zero h = a zero (omega arith)
  one_more (y ∷ xs) x a p (suc k) h =
      one_more xs x (λ i g. a (suc i) (omega (arith, g))) p k (le_of_suc-le-suc h)

-- what a part that was read has, by an equation
at_value : {A : Type 0} (P : A → Type 0) {v : A} {rest : List ℕ} {p : Part A} → ok (part v rest) ≡ ok p → P v →
    P p.value
at_value P e h = let s = ap (λ p. p.value) (same e) in rw s at h

-- what both of two choices have
pub picked : {A : Type 0} {x y z : A} {B : Type 0} (b : Bool) → pick b x y ≡ z → (x ≡ z → B) → (y ≡ z → B) → B
picked true e f g = f e
picked false e f g = g e

-- ---- points

whole-size : (negative : Bool) (size : ℕ) → nat_abs (pick negative (neg_ℤ (pos size)) (pos size)) ≡ size
whole-size true zero = refl
whole-size true (suc n) = refl
whole-size false n = refl

abbrev pub Near : ℤ → Type 0
Near x = nat_abs x ≤ most_length

near_is : (x : Number) → is_near x ≡ true → Near (whole_of x)
near_is x e = rw (whole-size x.negative x.size) (leb-true _ _ e)

point_near : (text : List ℕ) {p : Part (ℤ × ℤ)} → point_of text ≡ ok p → Near p.value.0 × Near p.value.1
unfolding point_of
point_near text e =
    let f = bind_value (behind_key at_key text) _ e in
    let v = bind_value (two_of f.0) _ f.2 in
    let x = v.0.value.0 in
    let y = v.0.value.1 in
    let c = checked_ok (is_near x && is_near y) _ _ v.2 in
    at_value (λ q. Near q.0 × Near q.1) c.1
    (near_is x (and_left (is_near x) (is_near y) c.0), near_is y (and_right (is_near x) (is_near y) c.0))

points_near : (k : ℕ) (before : List ℤ) (text : List ℕ) {p : Part (List ℤ)} → All Near (pos 0) before →
    points_from k before text ≡ ok p → All Near (pos 0) p.value × (length p.value ≡ length before + 2 * k)
unfolding points_from
points_near zero before text a e =
    at_value (λ xs. All Near (pos 0) xs × (length xs ≡ length before + 0)) e (a, omega arith)
points_near (suc k) before text a e =
    let q = bind_value (point_of text) _ e in
    let x = q.0.value.0 in
    let y = q.0.value.1 in
    let n = point_near text q.1 in
    let m : (before ++ (x ∷ [])) ++ (y ∷ []) ≡ before ++ (x ∷ (y ∷ [])) = append_assoc before _ _ in
    let b = one_more Near (pos 0) (before ++ (x ∷ [])) y (one_more Near (pos 0) before x a n.0) n.1 in
    let r = points_near k (before ++ (x ∷ (y ∷ []))) q.0.rest (rw m at b) q.2 in
    (r.0, omega (arith, r.1, length-append before (x ∷ (y ∷ []))))

-- ---- rules

present_is : (points : ℕ) (i : Number) → is_present points i ≡ true → i.size < points
present_is points i e = ltb-true _ _ (and_right (is_natural i) (ltb i.size points) e)

abbrev Two : ℕ → ℕ → ℕ → Type 0
Two points i j = (i < points) × (j < points) × (i ≢ j)

two_is : (points : ℕ) (i j : Number) → are_two points i j ≡ true → Two points i.size j.size
two_is points i j e =
    let a = is_present points i in
    let b = is_present points j in
    let c = not (eqb i.size j.size) in
    let l = and_left (a && b) c e in (
      present_is points i (and_left a b l),
      present_is points j (and_right a b l),
      eqb-false _ _ (negated (eqb i.size j.size) (and_right (a && b) c e)),
    )

module _ (points : ℕ) where
  span_in_range : (i j d : ℕ) → Two points i j → (1 ≤ d) × (d ≤ most_length) → RuleInRange points (span i j d)
  span_in_range i j d t h = record {
    first = t.0;
    second = t.1;
    distinct = t.2;
    length = h.1;
    some_length = λ e. h.0;
    no_length = λ n. absurd (n refl);
  }

  level_apart : Level ≡ Span → ⊥
  level_apart e = cc

  plumb_apart : Plumb ≡ Span → ⊥
  plumb_apart e = cc

  -- a rule without a length
  aligned_in_range : (r : Rule) → Two points r.first r.second → r.length ≡ 0 → (r.kind ≡ Span → ⊥) →
      RuleInRange points r
  aligned_in_range r t l n = record {
    first = t.0;
    second = t.1;
    distinct = t.2;
    length = omega (arith, l);
    some_length = λ e. absurd (n e);
    no_length = λ m. l;
  }

  span_range : (text : List ℕ) {p : Part Rule} → span_of points text ≡ ok p → RuleInRange points p.value
  unfolding span_of
  span_range text e =
      let f = bind_value (behind_key span_key text) _ e in
      let v = bind_value (three_of f.0) _ f.2 in
      let i = v.0.value.0 in
      let j = v.0.value.1 in
      let d = v.0.value.2 in
      let b = checked_ok (is_between 1 most_length d) _ _ v.2 in
      let c = checked_ok (are_two points i j) _ _ b.1 in
      at_value (RuleInRange points) c.1
      (span_in_range _ _ _ (two_is points i j c.0) (between_range 1 most_length d b.0))

  aligned_range : (key text : List ℕ) {p : Part (ℕ × ℕ)} → aligned_of key points text ≡ ok p →
      Two points p.value.0 p.value.1
  unfolding aligned_of
  aligned_range key text e =
      let f = bind_value (behind_key key text) _ e in
      let v = bind_value (two_of f.0) _ f.2 in
      let i = v.0.value.0 in
      let j = v.0.value.1 in
      let c = checked_ok (are_two points i j) _ _ v.2 in
      at_value (λ q. Two points q.0 q.1) c.1 (two_is points i j c.0)

  level_range : (text : List ℕ) {p : Part Rule} → level_of points text ≡ ok p → RuleInRange points p.value
  unfolding level_of
  level_range text e =
      let q = bind_value (aligned_of level_key points text) _ e in
      at_value (RuleInRange points) q.2
      (aligned_in_range _ (aligned_range level_key text q.1) refl level_apart)

  plumb_range : (text : List ℕ) {p : Part Rule} → plumb_of points text ≡ ok p → RuleInRange points p.value
  unfolding plumb_of
  plumb_range text e =
      let q = bind_value (aligned_of plumb_key points text) _ e in
      at_value (RuleInRange points) q.2
      (aligned_in_range _ (aligned_range plumb_key text q.1) refl plumb_apart)

  rule_range : (text : List ℕ) {p : Part Rule} → rule_of points text ≡ ok p → RuleInRange points p.value
  unfolding rule_of
  rule_range text e =
      picked (eqb (head text) (head span_key)) e (span_range text)
      (λ d. picked (eqb (head text) (head level_key)) d (level_range text) (plumb_range text))

  abbrev pub RulesInRange : List Rule → Type 0
  RulesInRange rules = All (RuleInRange points) (level 0 0) rules

  rules_range : (k : ℕ) (before : List Rule) (text : List ℕ) {p : Part (List Rule)} → RulesInRange before →
      rules_from points k before text ≡ ok p → RulesInRange p.value × (length p.value ≡ length before + k)
  unfolding rules_from
  rules_range zero before text a e =
      at_value (λ rs. RulesInRange rs × (length rs ≡ length before + 0)) e (a, omega arith)
  rules_range (suc k) before text a e =
      let q = bind_value (rule_of points text) _ e in
      let x = q.0.value in
      let b = one_more (RuleInRange points) (level 0 0) before x a (rule_range text q.1) in
      let r = rules_range k (before ++ (x ∷ [])) q.0.rest b q.2 in
      (r.0, omega (arith, r.1, length-append before (x ∷ [])))

-- ---- the sheet

all_points_range : (text : List ℕ) {p : Part (List ℤ)} → all_points_of text ≡ ok p →
    All Near (pos 0) p.value × (length p.value ≡ 2 * point_count p.value)
    × (1 ≤ point_count p.value) × (point_count p.value ≤ most_points)
unfolding all_points_of
all_points_range text e =
    let n = bind_value (natural_of points_key 1 most_points text) _ e in
    let m = natural_range points_key 1 most_points text n.1 in
    let r = points_near n.0.value [] n.0.rest (none Near (pos 0)) n.2 in
    let l = r.1 in
    (r.0, omega (arith, l), omega (arith, l, m.0), omega (arith, l, m.1))

all_rules_range : (points : ℕ) (text : List ℕ) {p : Part (List Rule)} → all_rules_of points text ≡ ok p →
    RulesInRange points p.value × (length p.value ≤ most_rules)
unfolding all_rules_of
all_rules_range points text e =
    let n = bind_value (natural_of rules_key 0 most_rules text) _ e in
    let m = natural_range rules_key 0 most_rules text n.1 in
    let r = rules_range points n.0.value [] n.0.rest (none (RuleInRange points) (level 0 0)) n.2 in
    (r.0, omega (arith, r.1, m.1))

sheet_range : (text : List ℕ) {p : Part Sheet} → sheet_of text ≡ ok p → InRange p.value
unfolding sheet_of behind_points_of
sheet_range text e =
    let q = bind_value (all_points_of text) _ e in
    let xs = q.0.value in
    let limit = bind_value (natural_of limit_key 0 most_iterations q.0.rest) _ q.2 in
    let reach = bind_value (natural_of reach_key 1 most_length limit.0.rest) _ limit.2 in
    let rules = bind_value (all_rules_of (point_count xs) reach.0.rest) _ reach.2 in
    let ps = all_points_range text q.1 in
    let l = natural_range limit_key 0 most_iterations q.0.rest limit.1 in
    let d = natural_range reach_key 1 most_length limit.0.rest reach.1 in
    let rs = all_rules_range (point_count xs) reach.0.rest rules.1 in
    at_value InRange rules.2
    (record {
      points = point_count xs;
      even = ps.1;
      some_points = ps.2;
      few_points = ps.3;
      near = ps.0;
      few_iterations = l.1;
      some_reach = d.0;
      small_reach = d.1;
      few_rules = rs.1;
      rules = rs.0;
    })

pub read_in_range : (text : List ℕ) (s : Sheet) → read_of text ≡ ok s → InRange s
unfolding read_of
read_in_range text s e =
    let c = checked_ok (leb (length text) most_bytes) _ _ e in
    let p = bind_value (sheet_of text) _ c.1 in
    let w = checked_ok (eqb (length p.0.rest) 0) _ _ p.2 in
    let v = same w.1 in
    rw v at (sheet_range text p.1)

-- ---- as the code has it

near_in : (points : ℕ) (r : Rule) → points ≤ most_points → RuleInRange points r → rows.Near r
near_in points r f p = record {
  first = omega (arith, p.first);
  second = omega (arith, p.second);
  length = p.length;
}

-- a sheet that was read can be settled
pub read_settles : (text : List ℕ) (s : declared.Sheet) → ok (sheet_by s) ≡ read_of text →
    s.points.count ≤ most_points → s.rules.count ≤ most_rules →
    length s.points.coordinates ≡ 12 → length s.rules.list ≡ 12 → Settles s
read_settles text s e few_points few_rules lc lr =
    let ps = s.points in
    let rs = s.rules in
    let a = read_in_range text (sheet_by s) (sym e) in
    let c = length-take-le (2 * ps.count) ps.coordinates (omega arith) in
    let n = length-take-le rs.count rs.list (omega arith) in
    record {
      few_points = few_points;
      some_points = omega (arith, c, a.even, a.some_points);
      few_iterations = a.few_iterations;
      near = record {
        few = few_rules;
        near = λ k h.
            rw (get_or-take rs.count rs.list k (level 0 0) h) at
            (near_in a.points (rule_at (list_in rs) k) a.few_points (a.rules k (rw n h)));
      };
      small_reach = a.small_reach;
      some_reach = a.some_reach;
      all_coordinates = c;
      all_rules = n;
    }
