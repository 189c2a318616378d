-- The front of an array that was lent and given back with other contents.
use mathlib.Core.List.{List, ◌++◌}
use mathlib.Core.Path.{◌≡◌, sym, ap, ◌∙◌}
use Prim.Native.Nat.{ℕ, ◌≤◌}
use lib.ListN.{length, take, drop}
use lib.Seq.{length_front, length-take-le, take-append_seam}

module _ {A : Type 0} (k : ℕ) (e d : List A) (h : k ≤ length d) (l : length e ≡ length (take k d)) where
  -- the array is as long as before
  pub front_room : k ≤ length (e ++ drop k d)
  front_room = rw (length_front d e k l) h

  -- its front is what was given back
  pub front_kept : take k (e ++ drop k d) ≡ e
  front_kept = ap (λ (j : ℕ). take j (e ++ drop k d)) (sym (l ∙ length-take-le k d h)) ∙ take-append_seam e (drop k d)
