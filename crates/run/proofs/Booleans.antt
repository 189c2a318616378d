-- What a test of two parts says of each part, what a negated test says of the test, and what no test says.
use mathlib.Core.Bool.{Bool, true, false, true≢false, ◌&&◌, ◌||◌, not}
use mathlib.Core.Logic.{◌⊎◌, inl, inr}
use mathlib.Core.Path.{◌≡◌, refl, sym, ap, ◌∙◌}
use lib.Dec.{T}

pub never : {A : Type 0} → false ≡ true → A
never e = absurd (true≢false (sym e))

pub clash : {A : Type 0} (b : Bool) → T b → b ≡ false → A
clash true h e = never (sym e)
clash false h e = absurd h

pub and_left : (a b : Bool) → (a && b) ≡ true → a ≡ true
and_left true b e = refl
and_left false b e = never e

pub and_right : (a b : Bool) → (a && b) ≡ true → b ≡ true
and_right true b e = e
and_right false b e = never e

pub or_either : (a b : Bool) → (a || b) ≡ true → (a ≡ true) ⊎ (b ≡ true)
or_either true b e = inl refl
or_either false b e = inr e

twice : (b : Bool) → b ≡ not (not b)
twice true = refl
twice false = refl

pub negated : (b : Bool) {c : Bool} → not b ≡ c → b ≡ not c
negated b e = twice b ∙ ap not e
