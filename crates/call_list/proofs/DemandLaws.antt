-- Demand 3 of what `play` leaves: run's theorem at the list of calls that the codes name, and, read at its end, what
-- holds there and the claim of the last call.
use Prim.Native.Nat.{ℕ, ◌≤◌, ◌%◌}
use mathlib.Core.Bool.{Bool, true, false}
use mathlib.Core.Logic.{inl, inr}
use mathlib.Core.Path.{◌≡◌, refl, sym, ap, ◌∙◌, subst}
use mathlib.Core.List.{List, [], ◌∷◌, ◌++◌}
use native.Mathlib.Omega.{arith}
use lib.Dec.{T, eqb}
use lib.Ieee.{Float, binary64, fits, nan}
use lib.ListN.{length, get_or, take, drop}
use Rattle.interval.specs.declared.Scalar.{Scalar}
use Rattle.interval.specs.Scalar.{pick}
use Rattle.run.specs.Calls.{AfterCall, after_call, begin_of, Accepted}
use Rattle.run.specs.Demand.{
  same,
  Floats,
  Call,
  rows,
  none,
  Allowed,
  run_of,
  CallResult,
  call_result,
  History,
  entered,
  begun,
  Between,
  Claim,
  Along,
}
use Rattle.run.specs.declared.state.Returned.{Returned}
use Rattle.run.specs.declared.state.Sizes.{Sizes}
use Rattle.run.proofs.demand3.Demand.{demand3}
use Rattle.call_list.specs.CallList.{
  no_area,
  is_none,
  count_of,
  call_of,
  floats_take,
  floats_drop,
  calls_of,
  call_result_of,
  played_to,
  played_from,
  history_to,
  history_from,
  Clear,
  LastClaim,
  Plays,
  AllAllowed,
}
use Rattle.call_list.proofs.FoldLaws.{Playing, floats_of, play_all}

-- ---- each call that a code names is allowed: an area of no numbers is refused

code_allowed : (z : Sizes) (code m : ℕ) (xs : List Float) (f : Floats xs) → Allowed z (call_of code m xs f)
code_allowed z code m xs f = by (is_none code) (eqb (code % 2) 0)
  where
    by : (b e : Bool) → Allowed z (pick b (none (pick e same no_area)) (rows (pick e same no_area) m xs f))
    by true true = tt
    by true false = λ e. absurd (omega (arith, e))
    by false true = tt
    by false false = inr (inl (λ e. absurd (omega (arith, e))))

calls_allowed :
    (z : Sizes) (codes ms : List ℕ) (xs : List Float) (f : Floats xs) → AllAllowed z (calls_of codes ms xs f)
unfolding calls_of
calls_allowed z [] ms xs f = tt
calls_allowed z (code ∷ codes) ms xs f =
    let k = count_of code in (
      code_allowed z code (get_or ms 0 0) (take k xs) (floats_take k xs f),
      calls_allowed z codes (drop 1 ms) (drop k xs) (floats_drop k xs f),
    )

-- ---- demand 3 at the end of a list

at_end :
    (z : Sizes) (h : History) (p : CallResult) (cs : List Call) →
    Along z h p.run cs →
    AllAllowed z cs → Clear p.run cs → Between z (history_to h p.run cs) (played_to p cs).run
unfolding Along Clear history_to played_to
at_end z h p [] along free clear = along
at_end z h p (d ∷ ds) along free clear =
    let q = call_result p.run d in
    at_end z (entered h p.run d q) q ds (along.1 free.0 clear.0).1 free.1 clear.1

at_last :
    (z : Sizes) (h : History) (p : CallResult) (cs : List Call) (c : Call) →
    let ds = cs ++ (c ∷ []) in
    Along z h p.run ds →
    AllAllowed z ds →
    Clear p.run ds →
    Claim z (history_to h p.run cs) (history_to h p.run ds) (played_to p cs).run (played_to p ds)
unfolding Along Clear history_to played_to
at_last z h p [] c along free clear = (along.1 free.0 clear.0).0
at_last z h p (d ∷ ds) c along free clear =
    let q = call_result p.run d in
    at_last z (entered h p.run d q) q ds c (along.1 free.0 clear.0).1 free.1 clear.1

-- one more code is one more call
pub record Snoc (before : List ℕ) (code : ℕ) (ms : List ℕ) (xs : List Float) (f : Floats xs) : Type 0 where
  pub call : Call
  pub calls_are : calls_of (before ++ (code ∷ [])) ms xs f ≡ calls_of before ms xs f ++ (call ∷ [])

snoc : (before : List ℕ) (code : ℕ) (ms : List ℕ) (xs : List Float) (f : Floats xs) → Snoc before code ms xs f
unfolding calls_of
snoc [] code ms xs f =
    record {
      call = call_of code (get_or ms 0 0) (take (count_of code) xs) (floats_take (count_of code) xs f);
      calls_are = refl;
    }
snoc (d ∷ ds) code ms xs f =
    let k = count_of d in
    let s = snoc ds code (drop 1 ms) (drop k xs) (floats_drop k xs f) in
    record {
      call = s.call;
      calls_are = ap (λ (cs : List Call). call_of d (get_or ms 0 0) (take k xs) (floats_take k xs f) ∷ cs) s.calls_are;
    }

module _ (z : Sizes) (start : List Float) (max : Scalar) (a : List Float) where
  abbrev b : AfterCall
  b = begin_of z start max a

  abbrev Last : List Call → List Call → Type 0
  Last before calls = LastClaim z b before calls (played_from b calls)

  last :
      (before : List ℕ) (code : ℕ) (ms : List ℕ) (xs : List Float) (f : Floats xs) →
      Accepted b → Last (calls_of before ms xs f) (calls_of (before ++ (code ∷ [])) ms xs f)
  unfolding played_to
  last before code ms xs f ok =
      let s = snoc before code ms xs f in
      let free = subst (AllAllowed z) s.calls_are (calls_allowed z (before ++ (code ∷ [])) ms xs f) in
      subst (Last (calls_of before ms xs f)) (sym s.calls_are)
      (λ clear.
      at_last z (begun (run_of b)) (played_from b []) (calls_of before ms xs f) s.call
      (demand3 z start max a ok (calls_of before ms xs f ++ (s.call ∷ []))) free clear)

  between :
      (codes ms : List ℕ) (xs : List Float) (f : Floats xs) →
      Accepted b →
      Clear (run_of b) (calls_of codes ms xs f) →
      Between z (history_from b (calls_of codes ms xs f)) (played_from b (calls_of codes ms xs f)).run
  unfolding played_to
  between codes ms xs f ok clear =
      at_end z (begun (run_of b)) (played_from b []) (calls_of codes ms xs f)
      (demand3 z start max a ok (calls_of codes ms xs f)) (calls_allowed z codes ms xs f) clear

  plays :
      (codes ms : List ℕ) (xs : List Float) (p : CallResult) (f : Floats xs) →
      p ≡ played_from b (calls_of codes ms xs f) → Plays z start max a codes ms xs p
  plays codes ms xs p f e =
      record {
        floats = f;
        is_fold = e;
        along = λ ok. demand3 z start max a ok (calls_of codes ms xs f);
        between = λ ok clear. rw e (between codes ms xs f ok clear);
        last = λ ok before code codes_are. rw (e, codes_are) (last before code ms xs f ok);
      }

  -- where the loop ends
  pub play_ends : (codes ms : List ℕ) (xs : List Float) (r₀ : Returned) (a₀ : List Float) {p : CallResult} {i at : ℕ}
      → after_call r₀ a₀ ≡ b → Playing (call_result_of r₀ a₀) codes ms xs p i at → length codes ≤ i
      → ((j : ℕ) → T (fits binary64 (get_or xs j nan))) → Plays z start max a codes ms xs p
  play_ends codes ms xs r₀ a₀ {p} begins w over h =
      let f = floats_of xs nan h in
      plays codes ms xs p f (play_all w over f ∙ ap (λ (l : AfterCall). played_from l (calls_of codes ms xs f)) begins)
