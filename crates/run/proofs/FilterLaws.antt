-- The pairs of a flat filter one after the other, and that beating each of them is beating the flat filter.
use Prim.Native.Nat.{ℕ, zero, suc, ◌+◌, ◌<◌}
use native.Mathlib.Nat.{not-suc-le-zero, le_of_suc-le-suc, eq-or-lt_of_le, lt-suc_self}
use native.Mathlib.Numerals.{add-one}
use native.Mathlib.Omega.{arith}
use mathlib.Core.Bool.{Bool}
use mathlib.Core.Logic.{⊎_elim}
use mathlib.Core.Path.{◌≡◌, refl, ◌∙◌, ap}
use mathlib.Core.List.{List, [], ◌∷◌, ◌++◌}
use lib.Ieee.{Float}
use lib.ListN.{length, get_or, take, set, length-append}
use Rattle.interval.specs.declared.Scalar.{Scalar}
use Rattle.run.specs.program.Filter.{no_pair, beats_pair, beats_pairs, pair_at, pairs_to}
use Rattle.run.specs.Filter.{beats_to}
use Rattle.run.specs.Vectors.{all_to}
use Rattle.run.specs.declared.filter.Pair.{Pair}

-- the first i + 1 of a list whose i-th was set
take_set : (i : ℕ) (ps : List Pair) (p : Pair) → i < length ps → take (suc i) (set ps i p) ≡ take i ps ++ (p ∷ [])
take_set i [] p l = absurd (not-suc-le-zero l)
take_set zero (x ∷ ps) p l = refl
take_set (suc i) (x ∷ ps) p l = ap (λ zs. x ∷ zs) (take_set i ps p (le_of_suc-le-suc l))

-- one pair more
pub pairs_turn :
    (filter : List Float) (ps : List Pair) (i : ℕ) {p : Pair} → i < length ps → take i ps ≡ pairs_to filter i →
    p ≡ pair_at filter i → take (i + 1) (set ps i p) ≡ pairs_to filter (i + 1)
unfolding pairs_to
pairs_turn filter ps i {p} l e h = rw (add-one, take_set i ps p l, e, h)

length-pairs_to : (filter : List Float) (k : ℕ) → length (pairs_to filter k) ≡ k
unfolding pairs_to
length-pairs_to filter zero = refl
length-pairs_to filter (suc k) =
    length-append (pairs_to filter k) (pair_at filter k ∷ []) ∙ omega (arith, length-pairs_to filter k)

-- reading in a list that goes on
append_front : (ps qs : List Pair) (i : ℕ) → i < length ps → get_or (ps ++ qs) i no_pair ≡ get_or ps i no_pair
append_front [] qs i l = absurd (not-suc-le-zero l)
append_front (p ∷ ps) qs zero l = refl
append_front (p ∷ ps) qs (suc i) l = append_front ps qs i (le_of_suc-le-suc l)

append_next : (ps : List Pair) (p : Pair) → get_or (ps ++ (p ∷ [])) (length ps) no_pair ≡ p
append_next [] p = refl
append_next (q ∷ ps) p = append_next ps p

pair_in : (filter : List Float) (k i : ℕ) → i < k → get_or (pairs_to filter k) i no_pair ≡ pair_at filter i
unfolding pairs_to
pair_in filter zero i l = absurd (not-suc-le-zero l)
pair_in filter (suc k) i l =
    ⊎_elim
    (λ e. rw e (rw (length-pairs_to filter k) at (append_next (pairs_to filter k) (pair_at filter k))))
    (λ h. append_front (pairs_to filter k) (pair_at filter k ∷ []) i (rw (length-pairs_to filter k) h)
    ∙ pair_in filter k i h)
    (eq-or-lt_of_le (le_of_suc-le-suc l))

all_ext : (p q : ℕ → Bool) (k : ℕ) → ((i : ℕ) → i < k → p i ≡ q i) → all_to p k ≡ all_to q k
unfolding all_to
all_ext p q zero h = refl
all_ext p q (suc k) h = rw (all_ext p q k (λ i l. h i (omega arith)), h k (lt-suc_self k))

-- each pair of the flat filter is beaten exactly where the flat filter is
pub beats_same :
    (filter : List Float) (f theta : Scalar) (k : ℕ) → beats_pairs (pairs_to filter k) f theta ≡ beats_to filter f theta k
unfolding beats_pairs beats_pair beats_to
beats_same filter f theta k =
    rw (length-pairs_to filter k) (all_ext _ _ k (λ i l. ap (λ p. beats_pair p f theta) (pair_in filter k i l)))
