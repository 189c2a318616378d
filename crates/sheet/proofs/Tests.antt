-- What an answer tells, and a test of parts as the code makes it: a first part p, the next one only where it holds.
use mathlib.Core.Bool.{Bool, true, false, ◌&&◌}
use mathlib.Core.Path.{◌≡◌, refl, sym, ap, ◌∙◌}
use Prim.Native.Nat.{ℕ}
use Rattle.std.specs.Prelude.{Result, Err}
use Rattle.interval.specs.Result.{Res, refused}
use Rattle.linear.specs.Replies.{checked_value}
use Rattle.sheet.specs.declared.fault.Fault.{Fault}

module _ {a p : Bool} (b : Bool) (e : p ≡ a) where
  pub both : p ≡ true → b ≡ (a && b)
  both h = rw (sym e ∙ h)

  pub not_first : p ≡ false → p ≡ (a && b)
  not_first h = rw (sym e ∙ h) h

-- a last part that fails
pub last_fails : (a : Bool) {b : Bool} → b ≡ false → (a && b) ≡ false
last_fails true e = e
last_fails false e = refl

-- a check that was made: it passes or it refuses
module _ {A : Type 0} {b t : Bool} (k : ℕ) (x : Res A) (e : t ≡ b) where
  pub passes : t ≡ true → checked_value b k x ≡ x
  passes h = rw (sym e ∙ h)

  pub refuses : t ≡ false → checked_value b k x ≡ refused k
  refuses h = rw (sym e ∙ h)

-- a call's answer r, which is v, stands for x
pub told : {A B : Type 0} (in-text : A → B) {r v : A} {x : B} → in-text r ≡ x → r ≡ v → x ≡ in-text v
told in-text e g = sym e ∙ ap in-text g

-- `?` gives the fault of the call on: what is said of the call's fault is said of the result r
module _ {T A : Type 0} {r : Result T Fault} {f : Fault} {x : Res A} (in-text : Result T Fault → Res A) where
  pub passed_on : r ≡ Err f → in-text (Err f) ≡ x → in-text r ≡ x
  passed_on e g = ap in-text e ∙ g
