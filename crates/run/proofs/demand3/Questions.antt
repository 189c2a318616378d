-- How long a run is: an accepted reply raises the question's number by one or ends the run, a run that is over refuses
-- every call by 4, and the number is within its bound as long as the invariant of demand 3 holds.
use Rattle.run.specs.Refusal.{number_of}
use Rattle.run.specs.declared.refusal.Refusal.{Refusal}
use Rattle.run.specs.declared.refusal.Refusal.TheVariants.{Altered}
use Rattle.std.specs.Prelude.{None, Option}
use Rattle.run.specs.declared.state.Kind.{Kind}
use Prim.Native.Nat.{ℕ, ◌+◌, ◌≤◌}
use mathlib.Core.Bool.{Bool, true, false, cond}
use mathlib.Core.Path.{◌≡◌, refl, ap, ◌∙◌, subst}
use mathlib.Core.List.{List, [], ◌∷◌}
use native.Mathlib.Omega.{arith}
use borrow.Author.Tests.{leb-true, ne_eqb}
use lib.Dec.{leb}
use lib.Ieee.{Float}
use Rattle.interval.specs.declared.Scalar.{Scalar}
use Rattle.run.specs.Calls.{AfterCall, unchanged, checks, reply_open, reply_of, none_open, reply_none_of}
use Rattle.run.specs.Calls.{Accepted, begin_of, refused_by_check, Follows}
use Rattle.run.specs.Checks.{valid, most_questions}
use Rattle.run.specs.Demand.{same, other, Call, rows, none, Allowed, Run, run_of, call_result, History}
use Rattle.run.specs.Demand.{entered, is_arithmetic, begun}
use Rattle.run.specs.Questions.{AllAllowed, accepted_in, is_question, questions_in, QuestionBounds}
use Rattle.run.specs.declared.state.Event.{Event}
use Rattle.run.specs.declared.state.Event.TheVariants.{Question, Finish, Refused}
use Rattle.run.specs.declared.state.Sizes.{Sizes}
use Rattle.run.specs.declared.state.State.{State}
use Rattle.run.proofs.Cleared.{reply_leaves, reply_none_leaves}
use Rattle.run.proofs.demand3.Demand.{call_step, begin_holds}
use Rattle.run.proofs.demand3.Endings.{inv_between}
use Rattle.run.proofs.demand3.ExactSums.{exact_laws}
use Rattle.run.proofs.demand3.Invariant.{Inv}

-- ---- one call

call_follows :
    (r : Run) (c : Call) →
    refused_by_check (call_result r c).event ≡ false →
    Follows r.state.counts.question (call_result r c).run.state (call_result r c).event
call_follows r (rows same m xs f) = (reply_leaves r.state r.area m xs).follows
call_follows r (rows (other a) m xs f) = (reply_leaves r.state a m xs).follows
call_follows r (none same) = (reply_none_leaves r.state r.area).follows
call_follows r (none (other a)) = (reply_none_leaves r.state a).follows

-- what a check refuses keeps the state
refused_state :
    (r : Run) (c : Call) → refused_by_check (call_result r c).event ≡ true → (call_result r c).run.state ≡ r.state
refused_state r (rows same m xs f) e = ((reply_leaves r.state r.area m xs).unchanged e).0
refused_state r (rows (other a) m xs f) e = ((reply_leaves r.state a m xs).unchanged e).0
refused_state r (none same) e = ((reply_none_leaves r.state r.area).unchanged e).0
refused_state r (none (other a)) e = ((reply_none_leaves r.state a).unchanged e).0

-- ---- a run that is over

either_check : (b : Bool) (st : State) (a : List Float)
    → checks b Altered (unchanged st a) (unchanged st a Altered) ≡ unchanged st a Altered
either_check true st a = refl
either_check false st a = refl

reply_closed :
    (st : State) (a : List Float) (m : ℕ) (xs : List Float) → st.phase ≡ None → reply_of st a m xs ≡ unchanged st a Altered
unfolding reply_of
reply_closed st a m xs e =
    ap (λ (p : Option Kind). checks (valid st) Altered (unchanged st a) (reply_open st a m xs p)) e ∙ either_check (valid st) st a

none_closed : (st : State) (a : List Float) → st.phase ≡ None → reply_none_of st a ≡ unchanged st a Altered
unfolding reply_none_of
none_closed st a e =
    ap (λ (p : Option Kind). checks (valid st) Altered (unchanged st a) (none_open st a p)) e ∙ either_check (valid st) st a

-- every call is refused by 4, and the run stays over
pub record Closed (r : Run) (c : Call) : Type 0 where
  pub refused : (call_result r c).event ≡ Refused Altered
  pub still : (call_result r c).run.state.phase ≡ None

closed : (r : Run) (c : Call) → r.state.phase ≡ None → Closed r c
closed r (rows same m xs f) o =
    let e = reply_closed r.state r.area m xs o in
    record {
      refused = ap (λ (l : AfterCall). l.event) e;
      still = ap (λ (l : AfterCall). l.state.phase) e ∙ o;
    }
closed r (rows (other a) m xs f) o =
    let e = reply_closed r.state a m xs o in
    record {
      refused = ap (λ (l : AfterCall). l.event) e;
      still = ap (λ (l : AfterCall). l.state.phase) e ∙ o;
    }
closed r (none same) o =
    let e = none_closed r.state r.area o in
    record {
      refused = ap (λ (l : AfterCall). l.event) e;
      still = ap (λ (l : AfterCall). l.state.phase) e ∙ o;
    }
closed r (none (other a)) o =
    let e = none_closed r.state a o in
    record {
      refused = ap (λ (l : AfterCall). l.event) e;
      still = ap (λ (l : AfterCall). l.state.phase) e ∙ o;
    }

none_asked : (cs : List Call) (r : Run) → r.state.phase ≡ None → questions_in r cs ≡ 0
unfolding questions_in
none_asked [] r o = refl
none_asked (c ∷ cs) r o =
    let k = closed r c o in
    rw (k.refused, none_asked cs (call_result r c).run k.still) refl

none_accepted : (cs : List Call) (r : Run) → r.state.phase ≡ None → accepted_in r cs ≡ 0
unfolding accepted_in
none_accepted [] r o = refl
none_accepted (c ∷ cs) r o =
    let k = closed r c o in
    rw (k.refused, none_accepted cs (call_result r c).run k.still) refl

-- ---- a list of calls

-- what is left to ask and to accept
pub record Few (z : Sizes) (r : Run) (cs : List Call) : Type 0 where
  pub asked : r.state.counts.question + questions_in r cs ≤ most_questions z
  pub accepted : r.state.counts.question + accepted_in r cs ≤ 1 + most_questions z

within : (z : Sizes) (h : History) (r : Run) → Inv z h r → r.state.counts.question ≤ most_questions z
within z h r v = (inv_between z h r v).few_questions

-- numbers up to 4 are no arithmetic refusals
checked_number : (k : Refusal) → leb (number_of k) 4 ≡ true → is_arithmetic (Refused k) ≡ false
checked_number k e =
    let n = number_of k in
    let l = leb-true n 4 e in
    rw (ne_eqb n 5 (λ q. omega (arith, l, q)), ne_eqb n 6 (λ q. omega (arith, l, q))) refl

module _ (z : Sizes) (h : History) (r : Run) (v : Inv z h r) (c : Call) (cs : List Call) (x : Allowed z c)
    (more : (h' : History) (r' : Run) → Inv z h' r' → Few z r' cs) where
  abbrev asks : ℕ
  asks = questions_in (call_result r c).run cs

  abbrev accepts : ℕ
  accepts = accepted_in (call_result r c).run cs

  -- with the counts after a call whose event is a
  record FewBy (a : Event) : Type 0 where
    pub asked : r.state.counts.question + (cond (is_question a) 1 0 + asks) ≤ most_questions z
    pub accepted : r.state.counts.question + (cond (refused_by_check a) 0 1 + accepts) ≤ 1 + most_questions z

  after : is_arithmetic (call_result r c).event ≡ false → Few z (call_result r c).run cs
  after q =
      more (entered h r c (call_result r c)) (call_result r c).run (call_step exact_laws z h r c v x q).0

  -- the run is over
  ends : (a : Event) → is_question a ≡ false → (call_result r c).run.state.phase ≡ None → FewBy a
  ends a n o =
      let w = within z h r v in
      let q = none_asked cs (call_result r c).run o in
      let p = none_accepted cs (call_result r c).run o in
      record { asked = rw n (omega (arith, w, q)); accepted = at_most (refused_by_check a) p w }
    where
      at_most : (b : Bool) → accepts ≡ 0 → r.state.counts.question ≤ most_questions z
          → r.state.counts.question + (cond b 0 1 + accepts) ≤ 1 + most_questions z
      at_most true p w = omega (arith, p, w)
      at_most false p w = omega (arith, p, w)

  by_event : (a : Event) → (call_result r c).event ≡ a → FewBy a
  by_event (Question k t s) e =
      let f = subst (λ (a : Event). Follows r.state.counts.question (call_result r c).run.state a) e
      (call_follows r c (ap refused_by_check e)) in
      let m = after (ap is_arithmetic e) in
      let i : (call_result r c).run.state.counts.question ≡ r.state.counts.question + 1 = f.1 ∙ f.0 in
      record {
        asked = omega (arith, m.asked, i);
        accepted = omega (arith, m.accepted, i);
      }
  by_event (Finish s i t n) e =
      ends (Finish s i t n) refl
      (subst (λ (a : Event). Follows r.state.counts.question (call_result r c).run.state a) e
      (call_follows r c (ap refused_by_check e)))
  by_event (Refused k) e = by (leb (number_of k) 4) refl
    where
      by : (b : Bool) → leb (number_of k) 4 ≡ b → FewBy (Refused k)
      by true l =
          let m = after (ap is_arithmetic e ∙ checked_number k l) in
          let kept : (call_result r c).run.state.counts.question ≡ r.state.counts.question =
          ap (λ (st : State). st.counts.question) (refused_state r c (ap refused_by_check e ∙ l)) in
          record {
            asked = omega (arith, m.asked, kept);
            accepted = rw l (omega (arith, m.accepted, kept));
          }
      by false l =
          ends (Refused k) refl
          (subst (λ (a : Event). Follows r.state.counts.question (call_result r c).run.state a) e
          (call_follows r c (ap refused_by_check e ∙ l))).1

few : (z : Sizes) (cs : List Call) (h : History) (r : Run) → Inv z h r → AllAllowed z cs → Few z r cs
unfolding questions_in accepted_in AllAllowed
few z [] h r v x =
    let w = within z h r v in
    record { asked = omega (arith, w); accepted = omega (arith, w) }
few z (c ∷ cs) h r v x =
    let b = by_event z h r v c cs x.0 (λ h' r' v'. few z cs h' r' v' x.1) (call_result r c).event refl in
    record { asked = b.asked; accepted = b.accepted }

-- ---- from a begin

-- question 0 is open after it
first_question :
    (z : Sizes) (start : List Float) (max : Scalar) (a : List Float) →
    let b = begin_of z start max a in
    Accepted b → (cs : List Call) → AllAllowed z cs → Few z (run_of b) cs
first_question z start max a q cs x =
    let b = run_of (begin_of z start max a) in
    few z cs (begun b) b (begin_holds z start max a q) x

pub question_bounds : QuestionBounds
question_bounds = record {
  follows = call_follows;
  few_questions = λ z start max a q cs x. let f = (first_question z start max a q cs x).asked in omega (arith, f);
  few_accepted = λ z start max a q cs x. let f = (first_question z start max a q cs x).accepted in omega (arith, f);
}
