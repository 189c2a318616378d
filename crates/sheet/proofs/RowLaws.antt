-- A rule's value and its slopes by what the calls gave, one equation a call, since the scalars' operations are written
-- out wherever they stand. And the rows one part behind the other.
use Prim.Native.Nat.{ℕ, zero, suc, ◌+◌, ◌*◌, ◌/◌, ◌%◌, ◌≤◌, ◌<◌}
use mathlib.Core.Path.{◌≡◌, refl, sym, ap, ◌∙◌}
use mathlib.Core.List.{List, [], ◌∷◌, ◌++◌, append_assoc, append-nil}
use native.Mathlib.Nat.{mul-add, add-mul, mul-one, div-lt_iff_lt-mul, not-suc-le-zero, le_of_suc-le-suc}
use native.Mathlib.Omega.{arith}
use lib.Dec.{eqb}
use lib.Ieee.{Float, nan}
use lib.IntN.{pos}
use lib.ListN.{length, get_or, drop, length-append, length-drop}
use lib.Seq.{get_or-take, drop-cons, drop-drop, drop-length, length-take-le}
use Rattle.interval.specs.Scalar.{zero_s, add_of, sub_of, mul_of, from_i64, pick}
use Rattle.interval.specs.declared.Scalar.{Scalar}
use Rattle.linear.specs.Flat.{at, fill_to, list_to}
use Rattle.linear.proofs.Lists.{length-list_to, put_seam}
use Rattle.linear.proofs.Reflections.{rows_positive}
use Rattle.sheet.specs.declared.sheet.Kind.TheVariants.{Span, Level, Plumb}
use Rattle.sheet.specs.declared.sheet.Rule.{Rule}
use Rattle.sheet.specs.declared.sheet.Rules.{Rules}
use Rattle.sheet.specs.Rule.{level}
use Rattle.sheet.specs.Rows.{difference_of, square_of, value_of, slope_by, one_s, two_s, slope_of, rule_at, rows_of}
use Rattle.sheet.specs.program.Rows.{Near, FewNear}
use Rattle.sheet.specs.program.Sheet.{list_in}

-- ---- a rule

pub sub_is : {a b u v s : Scalar} → a ≡ u → b ≡ v → s ≡ sub_of a b → s ≡ sub_of u v
sub_is ea eb e = rw (e, ea, eb)

module _ (x : List Float) (r : Rule) where
  module _ (k : r.kind ≡ Span) where
    pub value_span : {a a² b b² s l l² v : Scalar} →
        a ≡ difference_of x (2 * r.first) (2 * r.second) → a² ≡ square_of a →
        b ≡ difference_of x (2 * r.first + 1) (2 * r.second + 1) → b² ≡ square_of b → s ≡ add_of a² b² →
        l ≡ from_i64 (pos r.length) → l² ≡ square_of l → v ≡ sub_of s l² → v ≡ value_of x r
    unfolding value_of
    value_span ea ea² eb eb² es el el² e = rw (k, e, es, ea², eb², el², ea, eb, el)

    pub slope_span : (v : ℕ) {s t : Scalar} →
        s ≡ slope_by (2 * r.first + 1) (2 * r.second + 1)
        (mul_of two_s (difference_of x (2 * r.first + 1) (2 * r.second + 1))) v zero_s →
        t ≡ slope_by (2 * r.first) (2 * r.second) (mul_of two_s (difference_of x (2 * r.first) (2 * r.second))) v s →
        t ≡ slope_of x r v
    unfolding slope_of
    slope_span v es e = rw (k, e, es)

  module _ (k : r.kind ≡ Level) where
    pub value_level : {v : Scalar} → v ≡ difference_of x (2 * r.first + 1) (2 * r.second + 1) → v ≡ value_of x r
    unfolding value_of
    value_level e = rw k e

    pub slope_level : (v : ℕ) {s : Scalar} → s ≡ slope_by (2 * r.first + 1) (2 * r.second + 1) one_s v zero_s →
        s ≡ slope_of x r v
    unfolding slope_of
    slope_level v e = rw k e

  module _ (k : r.kind ≡ Plumb) where
    pub value_plumb : {v : Scalar} → v ≡ difference_of x (2 * r.first) (2 * r.second) → v ≡ value_of x r
    unfolding value_of
    value_plumb e = rw k e

    pub slope_plumb : (v : ℕ) {s : Scalar} → s ≡ slope_by (2 * r.first) (2 * r.second) one_s v zero_s →
        s ≡ slope_of x r v
    unfolding slope_of
    slope_plumb v e = rw k e

pub slope_apart_is : (x : List Float) (i j v : ℕ) (other : Scalar) {d s t : Scalar} → d ≡ difference_of x i j →
    s ≡ mul_of two_s d → t ≡ slope_by i j s v other → t ≡ slope_by i j (mul_of two_s (difference_of x i j)) v other
slope_apart_is x i j v other ed es e = rw (e, es, ed)

-- ---- the rules of a sheet

-- inside a list what stands for the others does not matter
get_d_any : {A : Type 0} (xs : List A) (k : ℕ) (d e : A) → k < length xs → get_or xs k d ≡ get_or xs k e
get_d_any [] k d e h = absurd (not-suc-le-zero h)
get_d_any (x ∷ xs) zero d e h = refl
get_d_any (x ∷ xs) (suc k) d e h = get_d_any xs k d e (le_of_suc-le-suc h)

-- the k-th of those in use, as the array has it
module _ (rs : Rules) (l : length rs.list ≡ 12) (p : FewNear rs) (k : ℕ) (d : Rule) (h : k < rs.count) where
  pub rule_near : Near (get_or rs.list k d)
  rule_near = let f = p.few in rw (get_d_any rs.list k d (level 0 0) (omega arith)) (p.near k h)

  pub rule-in : get_or rs.list k d ≡ rule_at (list_in rs) k
  rule-in = let f = p.few in
      get_d_any rs.list k d _ (omega arith) ∙ sym (get_or-take rs.count rs.list k _ h)

-- ---- places

-- a place among the slopes is in a row
pub row_below : (m n : ℕ) {p : ℕ} → p < m * n → p / n < m
row_below m n h = (div-lt_iff_lt-mul (rows_positive m n h)).1 h

-- ---- the parts one behind the other

-- filled from the end of `front` on
fill_behind : (front back : List Float) (base : ℕ) (f : ℕ → Scalar) (k : ℕ) → length front ≡ 2 * base →
    2 * k ≤ length back → fill_to (front ++ back) base f k ≡ (front ++ list_to f k) ++ drop (2 * k) back
unfolding fill_to list_to
fill_behind front back base f zero e h = rw append-nil
fill_behind front back base f (suc k) e h =
    let h₀ : 2 * k < length back = omega arith in
    let h₁ : suc (2 * k) < length back = omega arith in
    let l : length (front ++ list_to f k) ≡ 2 * (base + k) =
    length-append front (list_to f k) ∙ omega (arith, e, length-list_to f k) in
    let m : 2 * suc k ≡ suc (suc (2 * k)) = omega arith in
    let s : (front ++ list_to f k) ++ ((f k).lo ∷ ((f k).hi ∷ drop (suc (suc (2 * k))) back))
    ≡ (front ++ (list_to f k ++ ((f k).lo ∷ ((f k).hi ∷ [])))) ++ drop (suc (suc (2 * k))) back = simp append_assoc in
    rw (
      m,
      fill_behind front back base f k e (omega arith),
      drop-cons back (2 * k) nan h₀,
      drop-cons back (suc (2 * k)) nan h₁,
    )
    (put_seam (front ++ list_to f k) (drop (suc (suc (2 * k))) back) _ _ (base + k) (f k) l ∙ s)

-- the first numbers of a list of which the others are as in d
abbrev Fronted : List Float → ℕ → List Float → List Float → Type 0
Fronted d base front a = (length front ≡ 2 * base) × (a ≡ front ++ drop (2 * base) d)

more : (d front : List Float) (base : ℕ) (f : ℕ → Scalar) (k : ℕ) {a b : List Float} → Fronted d base front a →
    b ≡ fill_to a base f k → 2 * (base + k) ≤ length d → Fronted d (base + k) (front ++ list_to f k) b
more d front base f k p e h =
    let m : 2 * base + 2 * k ≡ 2 * (base + k) = omega arith in (
      length-append front (list_to f k) ∙ omega (arith, p.0, length-list_to f k),
      e ∙ ap (λ (l : List Float). fill_to l base f k) p.1
          ∙ fill_behind front (drop (2 * base) d) base f k p.0 (simp length-drop (omega arith))
          ∙ ap (λ (l : List Float). (front ++ list_to f k) ++ l) (drop-drop (2 * k) (2 * base) d
          ∙ ap (λ (i : ℕ). drop i d) m),
    )

module _ (d : List Float) (m n : ℕ) (l : length d ≡ 2 * ((m + n) * (n + 1))) (f g h k : ℕ → Scalar) where
  pub four_filled : {a₁ a₂ a₃ a₄ : List Float} → a₁ ≡ fill_to d 0 f m → a₂ ≡ fill_to a₁ m g (m * n) →
      a₃ ≡ fill_to a₂ (m * (n + 1)) h n → a₄ ≡ fill_to a₃ (m * (n + 1) + n) k (n * n) →
      a₄ ≡ list_to f m ++ (list_to g (m * n) ++ (list_to h n ++ list_to k (n * n)))
  four_filled {a₁} {a₂} {a₃} {a₄} e₁ e₂ e₃ e₄ =
      let r : m * (n + 1) ≡ m + m * n = simp (mul-add, mul-one) (omega arith) in
      let c : (m + n) * (n + 1) ≡ m + m * n + n + n * n = simp (add-mul, mul-add, mul-one) (omega arith) in
      let z : 0 + m ≡ m = omega arith in
      let p₁ : Fronted d m (list_to f m) a₁ = rw z at (more d [] 0 f m (refl, refl) e₁ (omega arith)) in
      let p₂ = more d (list_to f m) m g (m * n) p₁ e₂ (omega arith) in
      let p₃ = more d (list_to f m ++ list_to g (m * n)) (m + m * n) h n p₂ (rw r at e₃) (omega arith) in
      let p₄ = more d ((list_to f m ++ list_to g (m * n)) ++ list_to h n) (m + m * n + n) k (n * n) p₃ (rw r at e₄)
      (omega arith) in
      let w : 2 * (m + m * n + n + n * n) ≡ length d = omega arith in
      p₄.1 ∙ rw (w, drop-length, append-nil) (simp append_assoc)

-- all rows, of as many rules as are in use
pub rows_is : (n : ℕ) (rs : Rules) (x aims d : List Float) {a₁ a₂ a₃ a₄ : List Float} → length rs.list ≡ 12 →
    rs.count ≤ 12 → length d ≡ 2 * ((rs.count + n) * (n + 1)) →
    a₁ ≡ fill_to d 0 (λ k. value_of x (rule_at (list_in rs) k)) rs.count →
    a₂ ≡ fill_to a₁ rs.count (λ p. slope_of x (rule_at (list_in rs) (p / n)) (p % n)) (rs.count * n) →
    a₃ ≡ fill_to a₂ (rs.count * (n + 1)) (λ i. sub_of (at x i) (at aims i)) n →
    a₄ ≡ fill_to a₃ (rs.count * (n + 1) + n) (λ p. pick (eqb (p / n) (p % n)) one_s zero_s) (n * n) →
    a₄ ≡ rows_of n (list_in rs) x aims
unfolding rows_of
rows_is n rs x aims d l f ld e₁ e₂ e₃ e₄ =
    rw (length-take-le rs.count rs.list (omega arith))
    (four_filled d rs.count n ld (λ k. value_of x (rule_at (list_in rs) k))
    (λ p. slope_of x (rule_at (list_in rs) (p / n)) (p % n)) (λ i. sub_of (at x i) (at aims i))
    (λ p. pick (eqb (p / n) (p % n)) one_s zero_s) e₁ e₂ e₃ e₄)
