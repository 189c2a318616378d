-- Lists that stand one behind the other in one: how they are written, and what is read of each.
use mathlib.Core.Path.{◌≡◌, sym, ap, ◌∙◌}
use mathlib.Core.List.{List, ◌++◌, append_assoc}
use Prim.Native.Nat.{ℕ, ◌+◌, ◌-◌, ◌≤◌}
use native.Mathlib.Omega.{arith}
use lib.Ieee.{Float}
use lib.ListN.{length, take, drop, length-append, length-drop, replicate-append-replicate}
use lib.Seq.{take-length, length-take-le, take_at, drop_at, drop-drop}
use Rattle.interval.specs.Scalar.{zero64}
use Rattle.linear.specs.Flat.{zeros}
use Rattle.run.specs.program.Area.{written}
use Rattle.run.proofs.AreaLaws.{written_twice, length_clear}
use Rattle.run.proofs.EndingLaws.{written_all}

-- one more list, right behind those that are written
pub behind : (d s t : List Float) (at : ℕ) {a b : List Float} → a ≡ written d 0 s → at ≡ length s
    → length s + length t ≤ length d → b ≡ written a at t → b ≡ written d 0 (s ++ t)
behind d s t at e l h f =
    f ∙ ap (λ (x : List Float). written x at t) e ∙ written_twice d s t 0 at (omega (arith, l)) (omega (arith, h))

pub length_both : (s t : List Float) {n m : ℕ} → length s ≡ n → length t ≡ m → length (s ++ t) ≡ n + m
length_both s t e f = length-append s t ∙ rw (e, f)

take_whole : (s : List Float) {n : ℕ} → length s ≡ n → take n s ≡ s
take_whole s e = rw e at (take-length s)

-- a part that is lent and comes back leaves the length
pub length_lent : (a s : List Float) (base count : ℕ) → length s ≡ count → base + count ≤ length a
    → length (take base a ++ (s ++ drop count (drop base a))) ≡ length a
length_lent a s base count e h =
    let l : length (take base a) ≡ base = length-take-le base a (omega arith) in
    let m : length (drop count (drop base a)) ≡ length a - base - count =
    length-drop count (drop base a) ∙ ap (λ (n : ℕ). n - count) (length-drop base a) in
    length-append (take base a) (s ++ drop count (drop base a))
    ∙ omega (arith, l, m, e, h, length-append s (drop count (drop base a)))

-- three lists in one of 336, and four in one of 888
module _ (a u d g : List Float) (lu : length u ≡ 288) (ld : length d ≡ 24) (lg : length g ≡ 24) where
  module _ (e : a ≡ u ++ (d ++ g)) where
    pub first_of_three : take 288 a ≡ u
    first_of_three = rw e (take_at u (d ++ g) 288 lu)

    after_first : drop 288 a ≡ d ++ g
    after_first = rw e (drop_at u (d ++ g) 288 lu)

    pub second_of_three : take 24 (drop 288 a) ≡ d
    second_of_three = rw after_first (take_at d g 24 ld)

    pub third_of_three : take 24 (drop 312 a) ≡ g
    third_of_three =
        let s : drop 312 a ≡ g = sym (drop-drop 24 288 a) ∙ ap (drop 24) after_first ∙ drop_at d g 24 ld in
        rw s (take_whole g lg)

module _ (a q c d : List Float) (lq : length q ≡ 288) (lc : length c ≡ 288) (ld : length d ≡ 24) where
  three_long : length ((q ++ c) ++ d) ≡ 600
  three_long = length_both (q ++ c) d (length_both q c lq lc) ld

  module _ {a₁ a₂ a₃ : List Float}
      (e₁ : a₁ ≡ written a 0 q) (e₂ : a₂ ≡ written a₁ 288 c) (e₃ : a₃ ≡ written a₂ 576 d) where
    three_written : length a ≡ 888 → a₃ ≡ written a 0 ((q ++ c) ++ d)
    three_written la =
        let l₂ : length (q ++ c) ≡ 576 = length_both q c lq lc in
        let w₂ = behind a q c 288 e₁ (sym lq) (omega (arith, lq, lc, la)) e₂ in
        behind a (q ++ c) d 576 w₂ (sym l₂) (omega (arith, l₂, ld, la)) e₃

    -- a list that was clear is still clear behind them
    pub fourth_clear : a ≡ zeros 888 → take 288 (drop 600 a₃) ≡ zeros 288
    fourth_clear e =
        let s : List Float = (q ++ c) ++ d in
        let m : 0 + length s ≡ 600 = omega (arith, three_long) in
        let w : a₃ ≡ s ++ drop 600 a = rw m at (three_written (ap length e ∙ length_clear 888)) in
        let both : zeros 600 ++ zeros 288 ≡ zeros 888 = replicate-append-replicate 600 288 zero64 in
        let part : drop 600 (zeros 600 ++ zeros 288) ≡ zeros 288 = drop_at (zeros 600) _ 600 (length_clear 600) in
        let r : drop 600 (zeros 888) ≡ zeros 288 = ap (drop 600) (sym both) ∙ part in
        rw (w, drop_at s (drop 600 a) 600 three_long, e, r) (take_whole (zeros 288) (length_clear 288))

module _ (a q c d z : List Float) (lq : length q ≡ 288) (lc : length c ≡ 288) (ld : length d ≡ 24)
    (lz : length z ≡ 288) where
  pub four_written : {a₁ a₂ a₃ a₄ : List Float} → length a ≡ 888 → a₁ ≡ written a 0 q → a₂ ≡ written a₁ 288 c
      → a₃ ≡ written a₂ 576 d → a₄ ≡ written a₃ 600 z → a₄ ≡ q ++ (c ++ (d ++ z))
  four_written la e₁ e₂ e₃ e₄ =
      let l₃ : length ((q ++ c) ++ d) ≡ 600 = three_long a q c d lq lc ld in
      let l₄ : length (((q ++ c) ++ d) ++ z) ≡ 888 = length_both ((q ++ c) ++ d) z l₃ lz in
      let w₃ = three_written a q c d lq lc ld e₁ e₂ e₃ la in
      behind a ((q ++ c) ++ d) z 600 w₃ (sym l₃) (omega (arith, l₃, lz, la)) e₄
      ∙ written_all a (((q ++ c) ++ d) ++ z) (omega (arith, l₄, la))
      ∙ append_assoc (q ++ c) d z
      ∙ append_assoc q c (d ++ z)

  module _ (e : a ≡ q ++ (c ++ (d ++ z))) where
    pub first_of_four : take 288 a ≡ q
    first_of_four = rw e (take_at q (c ++ (d ++ z)) 288 lq)

    behind_first : drop 288 a ≡ c ++ (d ++ z)
    behind_first = rw e (drop_at q (c ++ (d ++ z)) 288 lq)

    pub second_of_four : take 288 (drop 288 a) ≡ c
    second_of_four = rw behind_first (take_at c (d ++ z) 288 lc)

    behind_second : drop 576 a ≡ d ++ z
    behind_second = sym (drop-drop 288 288 a) ∙ ap (drop 288) behind_first ∙ drop_at c (d ++ z) 288 lc

    pub third_of_four : take 24 (drop 576 a) ≡ d
    third_of_four = rw behind_second (take_at d z 24 ld)

    pub fourth_of_four : take 288 (drop 600 a) ≡ z
    fourth_of_four =
        let s : drop 600 a ≡ z = sym (drop-drop 24 576 a) ∙ ap (drop 24) behind_second ∙ drop_at d z 24 ld in
        rw s (take_whole z lz)
