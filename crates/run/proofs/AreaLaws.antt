-- The area as slots one behind the other: a run of numbers written over a slot takes its place, and reading a slot
-- gives what it holds. A slot is asked for by its number in the order, so no law says where one stands.
use mathlib.Core.Path.{◌≡◌, refl, sym, ap, ap₂, subst, ◌∙◌}
use mathlib.Core.List.{List, [], ◌∷◌, ◌++◌, map, append_assoc, append-nil}
use Prim.Native.Nat.{ℕ, zero, suc, ◌+◌, ◌-◌, ◌<◌, ◌≤◌}
use native.Mathlib.Nat.{not-suc-le-zero, le_of_suc-le-suc, add_assoc, add-zero, zero-add}
use native.Mathlib.Numerals.{add-one}
use native.Mathlib.Omega.{arith}
use lib.Ieee.{Float}
use lib.ListN.{length, take, drop, get_or, set, length-append, length-drop, length-replicate, length-map}
use lib.ListN.{get_or-map, drop_of_length-le, replicate-append-replicate, take-append-drop}
use lib.Seq.{paste, length-take-le, take_at, drop_at, drop-drop}
use lib.Seq.{take-append-add, drop-append-add, get_or-append-add, take-take, drop-append-le}
use lib.Seq.{take-append-le, take-add}
use Rattle.interval.specs.Scalar.{zero64}
use Rattle.linear.specs.Flat.{zeros}
use Rattle.run.specs.Area.{Slots, in_order, slot_sizes, start_of, start_in, area_length, spare_at, Memory, part_of}
use Rattle.run.specs.Area.{padded, joined, padded_slots, area_of}
use Rattle.run.specs.program.Area.{AtMost, lengths_of, Holds, written, cleared_between, cleared_to}
use Rattle.run.specs.declared.state.Sizes.{Sizes}
use Rattle.run.proofs.PlaceLaws.{slot_before}

-- ---- a run of numbers written

-- numbers copied within a list, as the library says it
pub copied : (d : List Float) (from to count n : ℕ) → n ≡ count → from + count ≤ length d
    → paste d to (drop from d) n ≡ written d to (take count (drop from d))
copied d from to count n e h =
    let l : length (take count (drop from d)) ≡ count =
    length-take-le count (drop from d) (simp length-drop (omega arith)) in
    rw (e, l)

-- two runs, one right behind the other, are one run
pub written_twice : (d s t : List Float) (at to : ℕ) → to ≡ at + length s
    → at + length s + length t ≤ length d → written (written d at s) to t ≡ written d at (s ++ t)
written_twice d s t at to e h =
    let p : List Float = take at d ++ s in
    let q : List Float = drop (at + length s) d in
    let lp : length p ≡ to = simp (length-append, length-take-le at d (omega arith)) (sym e) in
    let et : take to (p ++ q) ≡ p = take_at p q to lp in
    let n : at + length s + length t ≡ at + length (s ++ t) = simp length-append (omega arith) in
    let ed : drop (to + length t) (p ++ q) ≡ drop (at + length (s ++ t)) d =
    sym (drop-drop (length t) to (p ++ q)) ∙ ap (drop (length t)) (drop_at p q to lp)
    ∙ drop-drop (length t) (at + length s) d ∙ ap (λ (k : ℕ). drop k d) n in
    ap (λ (x : List Float). x ++ t ++ drop (to + length t) (p ++ q)) et
    ∙ ap (λ (x : List Float). p ++ t ++ x) ed
    ∙ ap (λ (x : List Float). x ++ drop (at + length (s ++ t)) d) (append_assoc (take at d) s t)

pub length_clear : (n : ℕ) → length (zeros n) ≡ n
length_clear n = length-replicate _ _

pub length_padded : (size : ℕ) (s : List Float) → length s ≤ size → length (padded size s) ≡ size
length_padded size s h = simp (length-append, length-replicate) (omega arith)

-- a part that is lent and comes back
pub part_back : (a s : List Float) (base count : ℕ) → length s ≡ count
    → take base a ++ (s ++ drop count (drop base a)) ≡ written a base s
part_back a s base count e = rw (e, drop-drop count base a) (sym (append_assoc (take base a) s (drop (base + count) a)))

pub cleared_part : (a : List Float) (base n count : ℕ) {s : List Float} → count ≡ n → base + n ≤ length a
    → s ≡ zeros (length (take count (drop base a)))
    → take base a ++ (s ++ drop count (drop base a)) ≡ written a base (zeros n)
cleared_part a base n count {s} e h q =
    let l : length (take count (drop base a)) ≡ n =
    length-take-le count (drop base a) (simp length-drop (omega arith)) ∙ e in
    let z : s ≡ zeros n = q ∙ ap zeros l in
    rw z (part_back a (zeros n) base count (length-replicate _ _ ∙ sym e))

-- behind a first part
written_behind : (x d : List Float) (m : ℕ) (s : List Float) → written (x ++ d) (length x + m) s ≡ x ++ written d m s
written_behind x d m s =
    ap (λ (u : List Float). u ++ s ++ drop (length x + m + length s) (x ++ d)) (take-append-add x d m)
    ∙ ap (λ (u : List Float). x ++ take m d ++ s ++ u)
    (ap (λ (k : ℕ). drop k (x ++ d)) (add_assoc (length x) m (length s)) ∙ drop-append-add x d (m + length s))
    ∙ simp append_assoc

written_past : (x d : List Float) (base m : ℕ) (s : List Float) → length x ≡ base
    → written (x ++ d) (base + m) s ≡ x ++ written d m s
written_past x d base m s e =
    subst (λ (i : ℕ). written (x ++ d) (i + m) s ≡ x ++ written d m s) e (written_behind x d m s)

written_whole : (d s : List Float) → length s ≡ length d → written d 0 s ≡ s
written_whole d s e = let h : length d ≤ 0 + length s = omega arith in rw (drop_of_length-le d h) (append-nil s)

-- over the first part
written_first : (x d s : List Float) → length s ≡ length x → written (x ++ d) 0 s ≡ s ++ d
written_first x d s h = ap (λ (u : List Float). s ++ u) (drop_at x d (0 + length s) (omega arith))

-- ---- lists with +0 behind them

pub drop_zeros : (k i : ℕ) → drop i (zeros k) ≡ zeros (k - i)
drop_zeros k zero = let e : k ≡ k - 0 = omega arith in ap zeros e
drop_zeros zero (suc i) = let e : 0 ≡ 0 - suc i = omega arith in ap zeros e
drop_zeros (suc k) (suc i) = let e : k - i ≡ suc k - suc i = omega arith in drop_zeros k i ∙ ap zeros e

module _ (size : ℕ) (xs : List Float) where
  -- behind a place that is behind the list
  drop_padded : (n : ℕ) → length xs ≤ n → n ≤ size → drop n (padded size xs) ≡ zeros (size - n)
  drop_padded n h l =
      let i = n - length xs in
      let e : n ≡ length xs + i = omega arith in
      let m : size - length xs - i ≡ size - n = omega arith in
      ap (λ (j : ℕ). drop j (padded size xs)) e ∙ drop-append-add xs (zeros (size - length xs)) i
      ∙ drop_zeros (size - length xs) i ∙ ap zeros m

  take_padded : (n : ℕ) → n ≤ length xs → take n (padded size xs) ≡ take n xs
  take_padded n h = take-append-le n xs (zeros (size - length xs)) h

-- so many +0 are no numbers
pub padded_zeros : (size n : ℕ) → n ≤ size → padded size (zeros n) ≡ padded size []
padded_zeros size n h =
    let e : n + (size - n) ≡ size - 0 = omega arith in
    ap (λ (k : ℕ). zeros n ++ zeros (size - k)) (length_clear n) ∙ replicate-append-replicate n (size - n) zero64
    ∙ ap zeros e

-- cleared from a place on, as far as it has numbers
pub cleared_padded : (size from to : ℕ) (xs : List Float) → from ≤ to → to ≤ size → from ≤ length xs → length xs ≤ to
    → cleared_between from to (padded size xs) ≡ padded size (take from xs)
cleared_padded size from to xs h l b m =
    let t : List Float = take from (padded size xs) in
    let k : to - from + (size - to) ≡ size - from = omega arith in
    ap (λ (r : List Float). t ++ zeros (to - from) ++ r) (drop_padded size xs to m l)
    ∙ append_assoc t (zeros (to - from)) (zeros (size - to))
    ∙ ap (λ (r : List Float). t ++ r) (replicate-append-replicate (to - from) (size - to) zero64 ∙ ap zeros k)
    ∙ ap₂ (λ (u : List Float) (n : ℕ). u ++ zeros (size - n)) (take_padded size xs from b)
    (sym (length-take-le from xs b))

-- cleared between no places
pub cleared_none : (n : ℕ) (xs : List Float) → cleared_between n n xs ≡ xs
cleared_none n xs =
    let e : n - n ≡ 0 = omega arith in
    ap (λ (k : ℕ). take n xs ++ zeros k ++ drop n xs) e
    ∙ ap (λ (r : List Float). r ++ drop n xs) (append-nil (take n xs))
    ∙ take-append-drop n xs

-- a part of an area, cleared behind so many numbers
pub cleared_part_of : (a : List Float) (place size used : ℕ) → used ≤ size → place + size ≤ length a
    → cleared_between used size (part_of a place size) ≡ padded size (part_of a place used)
cleared_part_of a place size used h l =
    let r : List Float = drop place a in
    let lr : length (take size r) ≡ size = length-take-le size r (simp length-drop (omega arith)) in
    let lu : length (take used r) ≡ used = length-take-le used r (simp length-drop (omega arith)) in
    ap₂ (λ (u v : List Float). u ++ zeros (size - used) ++ v) (take-take used size r h)
    (drop_of_length-le (take size r) {i = size} (omega arith))
    ∙ append-nil (take used r ++ zeros (size - used))
    ∙ ap (λ (n : ℕ). take used r ++ zeros (size - n)) (sym lu)

-- ---- parts one behind the other, and an end

start_cons : (n : ℕ) (ns : List ℕ) (k : ℕ) → start_of (n ∷ ns) (suc k) ≡ n + start_of ns k
unfolding start_of
start_cons n ns zero = omega arith
start_cons n ns (suc k) = let e = start_cons n ns k in rw e (add_assoc n (start_of ns k) (get_or ns k 0))

module _ (e : List Float) where
  -- a run that covers part k takes its place
  write_part : (ls : List (List Float)) (k : ℕ) (s : List Float) → k < length ls
      → length s ≡ length (get_or ls k []) → written (joined ls e) (start_of (map length ls) k) s ≡ joined (set ls k s) e
  unfolding start_of
  write_part [] k s h l = absurd (not-suc-le-zero h)
  write_part (x ∷ ls) zero s h l = written_first x (joined ls e) s l
  write_part (x ∷ ls) (suc k) s h l =
      rw (start_cons (length x) (map length ls) k, ← write_part ls k s (le_of_suc-le-suc h) l)
      (written_behind x (joined ls e) (start_of (map length ls) k) s)

  read_part : (ls : List (List Float)) (k : ℕ) → k < length ls
      → take (length (get_or ls k [])) (drop (start_of (map length ls) k) (joined ls e)) ≡ get_or ls k []
  unfolding start_of
  read_part [] k h = absurd (not-suc-le-zero h)
  read_part (x ∷ ls) zero h = take_at x (joined ls e) (length x) refl
  read_part (x ∷ ls) (suc k) h =
      rw (
        start_cons (length x) (map length ls) k,
        drop-append-add x (joined ls e) (start_of (map length ls) k),
      ) (read_part ls k (le_of_suc-le-suc h))

-- the end behind all parts
read_end : (ls : List (List Float)) (e : List Float) (j : ℕ) (d : Float)
    → get_or (joined ls e) (start_of (map length ls) (length ls) + j) d ≡ get_or e j d
unfolding start_of
read_end [] e j d = ap (λ (i : ℕ). get_or e i d) (zero-add j)
read_end (x ∷ ls) e j d =
    let n = start_of (map length ls) (length ls) in
    rw (start_cons (length x) (map length ls) (length ls), add_assoc (length x) n j)
    (get_or-append-add x (joined ls e) (n + j) d ∙ read_end ls e j d)

drop_end : (ls : List (List Float)) (e : List Float) → drop (start_of (map length ls) (length ls)) (joined ls e) ≡ e
unfolding start_of
drop_end [] e = refl
drop_end (x ∷ ls) e =
    let n = start_of (map length ls) (length ls) in
    rw (start_cons (length x) (map length ls) (length ls), drop-append-add x (joined ls e) n) (drop_end ls e)

lengths_set : (ls : List (List Float)) (k : ℕ) (s : List Float)
    → map length (set ls k s) ≡ set (map length ls) k (length s)
lengths_set [] k s = refl
lengths_set (x ∷ ls) zero s = refl
lengths_set (x ∷ ls) (suc k) s = ap (λ (r : List ℕ). length x ∷ r) (lengths_set ls k s)

set_same : (ns : List ℕ) (k : ℕ) → set ns k (get_or ns k 0) ≡ ns
set_same [] k = refl
set_same (n ∷ ns) zero = refl
set_same (n ∷ ns) (suc k) = ap (λ (r : List ℕ). n ∷ r) (set_same ns k)

-- ---- an area by its slots

-- an area whose slots are these lists
pub record Laid (z : Sizes) (ls : List (List Float)) (a : List Float) : Type 0 where
  pub sized : map length ls ≡ in_order (slot_sizes z)
  pub is : a ≡ joined ls (zeros (area_length z - spare_at z))

module _ (z : Sizes) (w : Memory) where
  pub padded_lengths : AtMost (slot_sizes z) w → lengths_of (padded_slots z w) ≡ slot_sizes z
  padded_lengths f =
      rw (
        length_padded (slot_sizes z).standing w.standing f.standing,
        length_padded (slot_sizes z).landed w.landed f.landed,
        length_padded (slot_sizes z).asked w.asked f.asked,
        length_padded (slot_sizes z).standing_rows w.standing_rows f.standing-rows,
        length_padded (slot_sizes z).landed_rows w.landed_rows f.landed-rows,
        length_padded (slot_sizes z).step w.step f.step,
        length_padded (slot_sizes z).multipliers w.multipliers f.multipliers,
        length_padded (slot_sizes z).curvature w.curvature f.curvature,
        length_padded (slot_sizes z).filter w.filter f.filter,
      )
      refl

  pub laid_of : {a : List Float} → Holds z w a → Laid z (in_order (padded_slots z w)) a
  unfolding area_of
  laid_of h = record { sized = ap (λ (x : Slots ℕ). in_order x) (padded_lengths h.fits); is = h.is }

  pub holds_of : {a : List Float} → AtMost (slot_sizes z) w → Laid z (in_order (padded_slots z w)) a → Holds z w a
  unfolding area_of
  holds_of f h = record { fits = f; is = h.is }

module _ {z : Sizes} {ls : List (List Float)} {a : List Float} (h : Laid z ls a) where
  slot_there : (k : ℕ) → k < 9 → k < length ls
  slot_there k l = omega (arith, length-map ls (length {A = Float}), ap (length {A = ℕ}) h.sized)

  pub slot_length : (k : ℕ) → length (get_or ls k []) ≡ get_or (in_order (slot_sizes z)) k 0
  slot_length k = sym (get_or-map (length {A = Float}) ls k []) ∙ ap (λ (ns : List ℕ). get_or ns k 0) h.sized

  -- a run over slot k takes its place
  pub wrote : (k : ℕ) (s : List Float) {b : List Float} → k < 9 → length s ≡ get_or (in_order (slot_sizes z)) k 0
      → b ≡ written a (start_in z k) s → Laid z (set ls k s) b
  wrote k s {b} l e q = record {
    sized = lengths_set ls k s ∙ rw (h.sized, e) (set_same (in_order (slot_sizes z)) k);
    is = q
        ∙ ap₂ (λ (x : List Float) (ns : List ℕ). written x (start_of ns k) s) h.is (sym h.sized)
        ∙ write_part (zeros (area_length z - spare_at z)) ls k s (slot_there k l) (e ∙ sym (slot_length k));
  }

  -- what is read of slot k
  pub slot_read : (k : ℕ) → k < 9 → part_of a (start_in z k) (get_or (in_order (slot_sizes z)) k 0) ≡ get_or ls k []
  slot_read k l =
      let e : List Float = zeros (area_length z - spare_at z) in
      ap₂ (λ (x : List Float) (ns : List ℕ). part_of x (start_of ns k) (get_or ns k 0)) h.is (sym h.sized)
      ∙ ap (part_of (joined ls e) (start_of (map length ls) k)) (get_or-map (length {A = Float}) ls k [])
      ∙ read_part e ls k (slot_there k l)

  module _ (k : ℕ) (l : k < 9) (xs : List Float) (is : get_or ls k [] ≡ padded (get_or (in_order (slot_sizes z)) k 0) xs)
    where
      -- the numbers that it holds
      pub numbers_read : length xs ≤ get_or (in_order (slot_sizes z)) k 0 → part_of a (start_in z k) (length xs) ≡ xs
      numbers_read f =
          let size = get_or (in_order (slot_sizes z)) k 0 in
          sym (take-take (length xs) size (drop (start_in z k) a) f)
          ∙ ap (take (length xs)) (slot_read k l ∙ is)
          ∙ take_at xs (zeros (size - length xs)) (length xs) refl

      slot_behind :
          (n : ℕ) → length xs ≤ n → n ≤ get_or (in_order (slot_sizes z)) k 0 →
          drop (start_in z k + n) a
          ≡ zeros (get_or (in_order (slot_sizes z)) k 0 - n) ++ drop (start_in z k + get_or (in_order (slot_sizes z)) k 0) a
      slot_behind n g f =
          let base = start_in z k in
          let size = get_or (in_order (slot_sizes z)) k 0 in
          let p : List Float = padded size xs in
          let r : List Float = drop size (drop base a) in
          let long : length p ≡ size = length_padded size xs (omega arith) in
          let whole : drop base a ≡ p ++ r =
          sym (take-append-drop size (drop base a)) ∙ ap (λ (u : List Float). u ++ r) (slot_read k l ∙ is) in
          sym (drop-drop n base a)
          ∙ ap (drop n) whole
          ∙ drop-append-le n p r (omega arith)
          ∙ ap (λ (u : List Float). u ++ r) (drop_padded size xs n g f)
          ∙ ap (λ (u : List Float). zeros (size - n) ++ u) (drop-drop size base a)

      -- a run over them, as long or longer, takes their place
      pub wrote_over :
          (s : List Float) {b : List Float} → length xs ≤ length s → length s ≤ get_or (in_order (slot_sizes z)) k 0 →
          b ≡ written a (start_in z k) s → Laid z (set ls k (padded (get_or (in_order (slot_sizes z)) k 0) s)) b
      wrote_over s {b} g f q =
          let base = start_in z k in
          let size = get_or (in_order (slot_sizes z)) k 0 in
          let n : length (padded size s) ≡ size = length_padded size s f in
          let e : b ≡ take base a ++ s ++ (zeros (size - length s) ++ drop (base + length (padded size s)) a) =
          q
          ∙ ap (λ (u : List Float). take base a ++ s ++ u) (slot_behind (length s) g f)
          ∙ ap (λ (m : ℕ). take base a ++ s ++ (zeros (size - length s) ++ drop (base + m) a)) (sym n) in
          wrote k (padded size s) l n (e ∙ simp append_assoc)

      -- so many +0 over them clear the slot
      pub cleared_over :
          (n : ℕ) {b : List Float} → length xs ≤ n → n ≤ get_or (in_order (slot_sizes z)) k 0 →
          b ≡ written a (start_in z k) (zeros n) → Laid z (set ls k (padded (get_or (in_order (slot_sizes z)) k 0) [])) b
      cleared_over n {b} g f q =
          let m : length (zeros n) ≡ n = length_clear n in
          subst (λ (s : List Float). Laid z (set ls k s) b) (padded_zeros (get_or (in_order (slot_sizes z)) k 0) n f)
          (wrote_over (zeros n) (omega arith) (omega arith) q)

      -- a run right behind them is held with them
      pub wrote_behind :
          (s : List Float) {b : List Float} → length xs + length s ≤ get_or (in_order (slot_sizes z)) k 0 →
          b ≡ written a (start_in z k + length xs) s →
          Laid z (set ls k (padded (get_or (in_order (slot_sizes z)) k 0) (xs ++ s))) b
      wrote_behind s {b} f q =
          let base = start_in z k in
          let n = length xs in
          let m : base + n + length s ≡ base + length (xs ++ s) = simp length-append (omega arith) in
          let front : take (base + n) a ≡ take base a ++ xs =
          take-add base n a ∙ ap (λ (u : List Float). take base a ++ u) (numbers_read (omega arith)) in
          wrote_over (xs ++ s) (simp length-append (omega arith)) (simp length-append (omega arith))
          (q ∙ ap₂ (λ (u : List Float) (i : ℕ). u ++ s ++ drop i a) front m
          ∙ ap (λ (u : List Float). u ++ drop (base + length (xs ++ s)) a) (append_assoc (take base a) xs s))

-- ---- an area that is clear

abbrev total : List ℕ → ℕ
total [] = 0
total (n ∷ ns) = n + total ns

clear_joined : (ns : List ℕ) (n : ℕ) → joined (map zeros ns) (zeros n) ≡ zeros (total ns + n)
clear_joined [] n = ap zeros (sym (zero-add n))
clear_joined (k ∷ ns) n = rw (clear_joined ns n, replicate-append-replicate) (ap zeros (sym (add_assoc k (total ns) n)))

clear_lengths : (ns : List ℕ) → map (length {A = Float}) (map zeros ns) ≡ ns
clear_lengths [] = refl
clear_lengths (n ∷ ns) = rw (length-replicate, clear_lengths ns)

-- no numbers in any slot
abbrev pub no_numbers : Memory
no_numbers = record {
  standing = [];
  landed = [];
  asked = [];
  standing_rows = [];
  landed_rows = [];
  step = [];
  multipliers = [];
  curvature = [];
  filter = [];
}

pub all_clear : (z : Sizes) {a : List Float} → a ≡ zeros (area_length z) → Laid z (in_order (padded_slots z no_numbers)) a
unfolding start_of
all_clear z e = record {
  sized = clear_lengths (in_order (slot_sizes z));
  is = e ∙ sym (clear_joined (in_order (slot_sizes z)) (area_length z - spare_at z));
}

length_joined : (ls : List (List Float)) (e : List Float) → length (joined ls e) ≡ total (map length ls) + length e
length_joined [] e = omega arith
length_joined (x ∷ ls) e =
    length-append x (joined ls e)
    ∙ rw (length_joined ls e) (sym (add_assoc (length x) (total (map length ls)) (length e)))

module _ {z : Sizes} {ls : List (List Float)} {a : List Float} (h : Laid z ls a) where
  nine : length ls ≡ 9
  nine = sym (length-map ls (length {A = Float})) ∙ ap (length {A = ℕ}) h.sized

  pub laid_length : length a ≡ area_length z
  unfolding start_of
  laid_length =
      ap length h.is ∙ length_joined ls (zeros (area_length z - spare_at z))
      ∙ ap₂ (λ (ns : List ℕ) (n : ℕ). total ns + n) h.sized (length_clear (area_length z - spare_at z))

  pub spare_drop : drop (spare_at z) a ≡ zeros (area_length z - spare_at z)
  spare_drop =
      let e : List Float = zeros (area_length z - spare_at z) in
      ap₂ (λ (x : List Float) (ns : List ℕ). drop (start_of ns 9) x) h.is (sym h.sized)
      ∙ ap (λ (i : ℕ). drop (start_of (map length ls) i) (joined ls e)) (sym nine)
      ∙ drop_end ls e

-- ---- an area with its unused numbers cleared

-- the numbers between two places of each slot, within an area
pub record Fitting (sizes from to : List ℕ) (d : List Float) : Type 0 where
  pub below : (k : ℕ) → k < length sizes → (get_or from k 0 ≤ get_or to k 0) × (get_or to k 0 ≤ get_or sizes k 0)
  pub inside : start_of sizes (length sizes) ≤ length d

-- what a loop that clears them has left after k turns
pub record Clearing (sizes from to : List ℕ) (d : List Float) (k base : ℕ) (a : List Float) : Type 0 where
  pub long : length a ≡ length d
  pub begins : base ≡ start_of sizes k
  pub is : a ≡ cleared_to sizes from to d k ++ drop base d

pub clearing : (sizes from to : List ℕ) (d : List Float) → Clearing sizes from to d 0 0 d
unfolding cleared_to start_of
clearing sizes from to d = record { long = refl; begins = refl; is = refl }

length_between : (from to size : ℕ) (s : List Float) → from ≤ to → to ≤ size → length s ≡ size
    → length (cleared_between from to s) ≡ size
length_between from to size s h l e =
    length-append (take from s ++ zeros (to - from)) (drop to s)
    ∙ ap (λ (n : ℕ). n + length (drop to s)) (length-append (take from s) (zeros (to - from)))
    ∙ rw (length-take-le from s (omega arith), length_clear (to - from), length-drop to s) (omega arith)

module _ (sizes from to : List ℕ) (d : List Float) (fit : Fitting sizes from to d) where
  length_part : (k : ℕ) → k < length sizes
      → length (part_of d (start_of sizes k) (get_or sizes k 0)) ≡ get_or sizes k 0
  length_part k h =
      length-take-le (get_or sizes k 0) (drop (start_of sizes k) d)
      (simp length-drop (omega (arith, slot_before sizes k (length sizes) h, fit.inside)))

  length_cleared : (k : ℕ) → k ≤ length sizes → length (cleared_to sizes from to d k) ≡ start_of sizes k
  unfolding cleared_to start_of
  length_cleared zero h = refl
  length_cleared (suc k) h =
      length-append (cleared_to sizes from to d k) _
      ∙ rw (
        length_cleared k (omega arith),
        length_between (get_or from k 0) (get_or to k 0) (get_or sizes k 0) (part_of d (start_of sizes k) (get_or sizes k 0))
            (fit.below k h).0 (fit.below k h).1 (length_part k h),
      )

  pub cleared_more : {k base : ℕ} {a b : List Float} → Clearing sizes from to d k base a → k < length sizes
      → b ≡ written a (base + get_or from k 0) (zeros (get_or to k 0 - get_or from k 0))
      → Clearing sizes from to d (k + 1) (base + get_or sizes k 0) b
  unfolding cleared_to start_of
  cleared_more {k} {base} {a} {b} t h q =
      let n = get_or sizes k 0 in
      let u = get_or from k 0 in
      let v = get_or to k 0 in
      let uv : u ≤ v = (fit.below k h).0 in
      let vn : v ≤ n = (fit.below k h).1 in
      let m : start_of sizes k ≡ base = sym t.begins in
      let l : base + n ≤ length d = omega (arith, m, slot_before sizes k (length sizes) h, fit.inside) in
      let f : List Float = cleared_to sizes from to d k in
      let r : List Float = drop base d in
      let s : List Float = take n r in
      let c : List Float = zeros (v - u) in
      let p : List Float = cleared_between u v s in
      let lc : length c ≡ v - u = length_clear (v - u) in
      let lf : length f ≡ base = length_cleared k (omega arith) ∙ m in
      let ls : length s ≡ n = length-take-le n r (simp length-drop (omega arith)) in
      let e : u + length c ≡ v = omega arith in
      let rest : drop (u + length c) r ≡ drop v s ++ drop (base + n) d =
      ap (λ (i : ℕ). drop i r) e
      ∙ ap (drop v) (sym (take-append-drop n r))
      ∙ drop-append-le v s (drop n r) (omega arith)
      ∙ ap (λ (x : List Float). drop v s ++ x) (drop-drop n base d) in
      let i : b ≡ f ++ p ++ drop (base + n) d =
      q ∙ ap (λ (x : List Float). written x (base + u) c) t.is ∙ written_past f r base u c lf
      ∙ ap₂ (λ (x y : List Float). f ++ (x ++ c ++ y)) (sym (take-take u n r (omega arith))) rest
      ∙ simp append_assoc in
      let lp : length (f ++ p) ≡ base + n = length-append f p ∙ rw (lf, length_between u v n s uv vn ls) in
      record {
        long = rw i (length-append (f ++ p) (drop (base + n) d) ∙ rw (lp, length-drop) (omega arith));
        begins = rw (add-one, m);
        is = rw (add-one, m) i;
      }

  pub cleared_whole : {k base : ℕ} {a : List Float} → Clearing sizes from to d k base a → k ≡ length sizes
      → a ≡ cleared_to sizes from to d (length sizes) ++ drop (start_of sizes (length sizes)) d
  cleared_whole {k} t e = rw (← e) (t.is ∙ ap (λ (b : ℕ). cleared_to sizes from to d k ++ drop b d) t.begins)

  -- and the end behind all slots
  pub cleared_end : (n : ℕ) {a b : List Float} → start_of sizes (length sizes) + n ≡ length d
      → a ≡ cleared_to sizes from to d (length sizes) ++ drop (start_of sizes (length sizes)) d
      → b ≡ written a (start_of sizes (length sizes)) (zeros n)
      → b ≡ cleared_to sizes from to d (length sizes) ++ zeros n
  cleared_end n {a} {b} e ea q =
      let s = start_of sizes (length sizes) in
      let f : List Float = cleared_to sizes from to d (length sizes) in
      let l : length (zeros n) ≡ length (drop s d) = simp (length-replicate, length-drop) (omega arith) in
      q ∙ ap (λ (x : List Float). written x s (zeros n)) ea
      ∙ (rw (add-zero s) at (written_past f (drop s d) s 0 (zeros n) (length_cleared (length sizes) (omega arith))))
      ∙ ap (λ (x : List Float). f ++ x) (written_whole (drop s d) (zeros n) l)

-- the slots of an area, each cleared between its places
regroup : (a b c d e f g h i z : List Float)
    → [] ++ a ++ b ++ c ++ d ++ e ++ f ++ g ++ h ++ i ++ z
    ≡ a ++ (b ++ (c ++ (d ++ (e ++ (f ++ (g ++ (h ++ (i ++ z))))))))
regroup a b c d e f g h i z = simp append_assoc

module _ (z : Sizes) (from to : List ℕ) (a : List Float) where
  abbrev pub cleared_at : ℕ → List Float
  cleared_at k =
      cleared_between (get_or from k 0) (get_or to k 0) (part_of a (start_in z k) (get_or (in_order (slot_sizes z)) k 0))

  pub cleared_slots : (e : List Float) → cleared_to (in_order (slot_sizes z)) from to a 9 ++ e
      ≡ joined
      (cleared_at 0 ∷ cleared_at 1 ∷ cleared_at 2 ∷ cleared_at 3 ∷ cleared_at 4 ∷ cleared_at 5 ∷ cleared_at 6 ∷ cleared_at 7
      ∷ cleared_at 8 ∷ []) e
  unfolding cleared_to
  cleared_slots e =
      regroup (cleared_at 0) (cleared_at 1) (cleared_at 2) (cleared_at 3) (cleared_at 4) (cleared_at 5) (cleared_at 6)
      (cleared_at 7) (cleared_at 8) e
