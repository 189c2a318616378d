-- The loop of `play` keeps one fact: the codes that are left, played on from what is in hand, give what the whole list
-- gives from begin. Each turn takes one code and its numbers off the front.
use Prim.Native.Nat.{ℕ, zero, suc, ◌+◌, ◌-◌, ◌≤◌, ◌<◌, min}
use mathlib.Core.Path.{◌≡◌, refl, sym, ap, ◌∙◌, subst}
use mathlib.Core.List.{List, [], ◌∷◌}
use native.Mathlib.Omega.{arith}
use native.Mathlib.Nat.{zero-min, min-zero, suc-min-suc}
use lib.Dec.{T}
use lib.Ieee.{Float, binary64, fits}
use lib.ListN.{length, get_or, take, drop, length-drop, drop_of_length-le}
use lib.Seq.{drop-cons, drop-drop, get_or-drop}
use Rattle.run.specs.Demand.{Floats, CallResult}
use Rattle.call_list.specs.CallList.{count_of, floats_take, floats_drop, calls_of, Called, played_to}

-- ---- numbers of a slice

pub floats_of : (xs : List Float) (d : Float) → ((i : ℕ) → T (fits binary64 (get_or xs i d))) → Floats xs
floats_of [] d h = tt
floats_of (x ∷ xs) d h = (h 0, floats_of xs d (λ i. h (suc i)))

take_min : (k : ℕ) (ys : List Float) → take (min k (length ys)) ys ≡ take k ys
take_min zero ys = ap (λ (j : ℕ). take j ys) (zero-min (length ys))
take_min (suc k) [] = ap (λ (j : ℕ). take {A = Float} j []) (min-zero (suc k))
take_min (suc k) (y ∷ ys) =
    ap (λ (j : ℕ). take j (y ∷ ys)) (suc-min-suc k (length ys)) ∙ ap (λ (l : List Float). y ∷ l) (take_min k ys)

drop_min : (k : ℕ) (ys : List Float) → drop (min k (length ys)) ys ≡ drop k ys
drop_min zero ys = ap (λ (j : ℕ). drop j ys) (zero-min (length ys))
drop_min (suc k) [] = ap (λ (j : ℕ). drop {A = Float} j []) (min-zero (suc k))
drop_min (suc k) (y ∷ ys) = ap (λ (j : ℕ). drop j (y ∷ ys)) (suc-min-suc k (length ys)) ∙ drop_min k ys

-- ---- the loop

-- the codes, counts and numbers that are left, played on from p, give whole
pub record Rest (whole p : CallResult) (codes ms : List ℕ) (ys : List Float) : Type 0 where
  pub floats : Floats ys
  pub same : played_to p (calls_of codes ms ys floats) ≡ whole

pub record Playing (p₀ : CallResult) (codes ms : List ℕ) (xs : List Float) (p : CallResult) (i at : ℕ)
    : Type 0 where
  pub within : at ≤ length xs
  pub rest : (g : Floats xs) → Rest (played_to p₀ (calls_of codes ms xs g)) p (drop i codes) (drop i ms) (drop at xs)

pub playing : (p : CallResult) (codes ms : List ℕ) (xs : List Float) → Playing p codes ms xs p 0 0
playing p codes ms xs = record { within = omega arith; rest = λ g. record { floats = g; same = refl } }

-- one code, its count and its numbers
rest_more : {whole p q : CallResult} (code : ℕ) (codes ms : List ℕ) (ys : List Float)
    → Rest whole p (code ∷ codes) ms ys → Called p.run code (get_or ms 0 0) (take (count_of code) ys) q
    → Rest whole q codes (drop 1 ms) (drop (count_of code) ys)
unfolding played_to calls_of
rest_more {whole} {p} {q} code codes ms ys r called =
    let k = count_of code in
    record {
      floats = floats_drop k ys r.floats;
      same = ap (λ (x : CallResult). played_to x (calls_of codes (drop 1 ms) (drop k ys) (floats_drop k ys r.floats)))
          (called (floats_take k ys r.floats)) ∙ r.same;
    }

module _ {p₀ : CallResult} {codes ms : List ℕ} {xs : List Float} {p : CallResult} {i at : ℕ}
    (playing : Playing p₀ codes ms xs p i at) where
  pub play_more : (d e m : ℕ) {q : CallResult} → i < length codes
      → e ≡ at + min (count_of (get_or codes i d)) (length xs - at) → m ≡ get_or ms i 0
      → Called p.run (get_or codes i d) m (take (e - at) (drop at xs)) q → Playing p₀ codes ms xs q (i + 1) e
  play_more d e m {q} h at_end m-is called = record { within = omega (arith, at_end, playing.within); rest = more }
    where
      ys : List Float
      ys = drop at xs

      code : ℕ
      code = get_or codes i d

      k : ℕ
      k = count_of code

      length_is : min k (length ys) ≡ e - at
      length_is = ap (λ (n : ℕ). min k n) (length-drop at xs) ∙ omega (arith, at_end)

      take_is : take (e - at) ys ≡ take k ys
      take_is = ap (λ (n : ℕ). take n ys) (sym length_is) ∙ take_min k ys

      drop_is : drop k ys ≡ drop e xs
      drop_is = sym (drop_min k ys) ∙ ap (λ (n : ℕ). drop n ys) length_is ∙ drop-drop (e - at) at xs
          ∙ ap (λ (n : ℕ). drop n xs) (let u : at + (e - at) ≡ e = omega (arith, at_end) in u)

      codes_are : drop i codes ≡ code ∷ drop (i + 1) codes
      codes_are = drop-cons codes i d h ∙ ap (λ (n : ℕ). code ∷ drop n codes) (let u : suc i ≡ i + 1 = omega arith in u)

      first_is : m ≡ get_or (drop i ms) 0 0
      first_is = m-is ∙ ap (λ (n : ℕ). get_or ms n 0) (let u : i ≡ i + 0 = omega arith in u) ∙ sym (get_or-drop i ms 0 0)

      rest_is : drop 1 (drop i ms) ≡ drop (i + 1) ms
      rest_is = drop-drop 1 i ms

      more : (g : Floats xs)
          → Rest (played_to p₀ (calls_of codes ms xs g)) q (drop (i + 1) codes) (drop (i + 1) ms) (drop e xs)
      more g =
          let whole = played_to p₀ (calls_of codes ms xs g) in
          subst (λ (l : List ℕ). Rest whole q (drop (i + 1) codes) l (drop e xs)) rest_is
          (subst (λ (l : List Float). Rest whole q (drop (i + 1) codes) (drop 1 (drop i ms)) l) drop_is
          (rest_more code (drop (i + 1) codes) (drop i ms) ys
          (subst (λ (l : List ℕ). Rest whole p l (drop i ms) ys) codes_are (playing.rest g))
          (subst (λ (n : ℕ). Called p.run code n (take k ys) q) first_is
          (subst (λ (l : List Float). Called p.run code m l q) take_is called))))

  pub play_all : length codes ≤ i → (g : Floats xs) → p ≡ played_to p₀ (calls_of codes ms xs g)
  unfolding played_to calls_of
  play_all h g = rw (drop_of_length-le codes h) at (playing.rest g).same
