-- Parts of a list, and what a call leaves: a result that may be refused decides what follows it.
use mathlib.Core.Bool.{Bool, true, false}
use mathlib.Core.Path.{◌≡◌, sym, ap, subst, ◌∙◌}
use mathlib.Core.List.{List, ◌++◌, append-nil}
use Prim.Native.Nat.{ℕ, ◌+◌, ◌≤◌}
use native.Mathlib.Omega.{arith}
use lib.Ieee.{Float}
use lib.ListN.{length, take, drop, length-drop, drop_of_length-le}
use lib.Seq.{length-take-le}
use Rattle.interval.specs.Result.{Res, ok, refused}
use Rattle.interval.specs.Scalar.{pick}
use Rattle.run.specs.Area.{Memory}
use Rattle.run.specs.program.Area.{written}
use Rattle.run.specs.Endings.{AfterSlots, or_refuse, refuse}
use Rattle.run.specs.program.Endings.{Leaves}
use Rattle.run.specs.declared.state.Returned.{Returned}
use Rattle.run.specs.declared.state.State.{State}

-- ---- a test that is known

pub pick_yes : {A : Type 0} {b : Bool} (x y : A) → b ≡ true → pick b x y ≡ x
pick_yes x y e = ap (λ (b : Bool). pick b x y) e

pub pick_no : {A : Type 0} {b : Bool} (x y : A) → b ≡ false → pick b x y ≡ y
pick_no x y e = ap (λ (b : Bool). pick b x y) e

-- what is cut out of an area
pub cut_length : (n base : ℕ) (a : List Float) → base + n ≤ length a → length (take n (drop base a)) ≡ n
cut_length n base a h = length-take-le n (drop base a) (simp length-drop (omega arith))

-- a run over a whole slice
pub written_all : (d s : List Float) → length d ≤ length s → written d 0 s ≡ s
written_all d s l =
    let h : length d ≤ 0 + length s = omega arith in
    ap (λ (u : List Float). s ++ u) (drop_of_length-le d h) ∙ append-nil s

-- ---- what a call leaves

module _ {A : Type 0} (st : State) (w : Memory) (next : A → AfterSlots) {x : Res A} {o : Returned}
    {a : List Float} where
  pub or_next : {v : A} → x ≡ ok v → Leaves (next v) o a → Leaves (or_refuse st w x next) o a
  or_next e l = subst (λ (y : Res A). Leaves (or_refuse st w y next) o a) (sym e) l

  pub or_refused : {k : ℕ} → x ≡ refused k → Leaves (refuse st w k) o a → Leaves (or_refuse st w x next) o a
  or_refused e l = subst (λ (y : Res A). Leaves (or_refuse st w y next) o a) (sym e) l

module _ (x y : AfterSlots) {b : Bool} {o : Returned} {a : List Float} where
  pub when : b ≡ true → Leaves x o a → Leaves (pick b x y) o a
  when e l = subst (λ (z : AfterSlots). Leaves z o a) (sym (pick_yes x y e)) l

  pub unless : b ≡ false → Leaves y o a → Leaves (pick b x y) o a
  unless e l = subst (λ (z : AfterSlots). Leaves z o a) (sym (pick_no x y e)) l
