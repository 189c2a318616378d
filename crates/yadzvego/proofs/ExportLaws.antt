-- What the exports' definitions say of a C state whose numbers fit and of one whose numbers do not, the point as a part
-- of the area, that a refusal by 1 to 4 returns run and area as they were, and that the next call over a C state is the
-- next call over its state. The last two rest on run's law that such a refusal leaves state and area as they were.
use Prim.Native.Nat.{ℕ, ◌≤◌}
use mathlib.Core.Bool.{Bool, true, false, ◌&&◌}
use mathlib.Core.List.{List}
use mathlib.Core.Path.{◌≡◌, refl, ◌∙◌}
use lib.Dec.{eqb}
use lib.Ieee.{Float}
use lib.ListN.{length, take, drop}
use Rattle.interval.specs.Result.{Res, ok, refused}
use Rattle.run.specs.Area.{area_length}
use Rattle.run.specs.Calls.{AfterCall, refused_by_check, reply_of, reply_none_of, point_of}
use Rattle.run.specs.Checks.{valid}
use Rattle.run.specs.declared.state.Event.{Event}
use Rattle.run.specs.declared.state.Event.TheVariants as event
use Rattle.run.specs.declared.state.State.{State}
use Rattle.run.specs.Cleared.{Replied}
use Rattle.run.proofs.Booleans.{never}
use Rattle.run.proofs.CheckLaws.{both, bounds}
use Rattle.run.proofs.Cleared.{reply_leaves, reply_none_leaves}
use Rattle.yadzvego.specs.CState.{c_state_of, numbers_fit, state_at, state_of}
use Rattle.yadzvego.specs.Events.{numbers_of}
use Rattle.yadzvego.specs.Exports.{AfterExport, after_export, after_export_of, after_export_over, by_check, refused_with}
use Rattle.yadzvego.specs.Exports.{called_with}
use Rattle.yadzvego.specs.Exports.{reply_export, reply_none_export, has_point, point_place, point_length, point_part}
use Rattle.yadzvego.specs.declared.c_state.Run.{Run}
use Rattle.yadzvego.proofs.CStateLaws.{there_and_back}

-- ---- a call

module _ (r : Run) (a : List Float) (call : State → AfterCall) where
  pub called : numbers_fit r ≡ true → called_with r a call (state_of r) ≡ after_export_over r (call (state_at r))
  unfolding state_of
  called e = rw e

  pub not_called : numbers_fit r ≡ false → called_with r a call (state_of r) ≡ after_export (refused_with r 4) a
  unfolding state_of
  not_called e = rw e

-- ---- the point

pub few_variables : (r : Run) (area : ℕ) → has_point r area ≡ true → r.n ≤ 12
unfolding has_point state_at
few_variables r area e = (bounds (state_at r) (both (valid (state_at r)) _ (both (numbers_fit r) _ e).1).0).sizes.n

-- the part of the area at that place and of that length is the one that `point` gives
module _ (r : Run) (a : List Float) where
  part : (f g : Bool) → numbers_fit r ≡ f → (valid (state_at r) && eqb (length a) (area_length (state_at r).sizes)) ≡ g
      → take (point_length r (length a)) (drop (point_place r (length a)) a) ≡ point_part r a
  unfolding point_place point_length has_point state_of state_at point_of
  part false g e h = rw e
  part true false e h = rw (e, h)
  part true true e h = rw (e, h)

  pub point-part : take (point_length r (length a)) (drop (point_place r (length a)) a) ≡ point_part r a
  point-part = part _ _ refl refl

-- ---- a refusal by 1 to 4 returns the C state and the area as they were

abbrev AsItWas : Run → List Float → AfterExport → Type 0
AsItWas r a h = by_check h.returned.event ≡ true → (h.returned.run ≡ r) × (h.area ≡ a)

-- it is the one of the call beneath
refused_beneath : (x : Event) → by_check (numbers_of x) ≡ true → refused_by_check x ≡ true
refused_beneath (event.Question k t s) e = never e
refused_beneath (event.Finish s i t n) e = never e
refused_beneath (event.Refused k) e = e

module _ (r : Run) (a : List Float) (call : State → AfterCall) (leaves : (st : State) → Replied st a (call st)) where
  as_it_was : (x : Res State) → AsItWas r a (called_with r a call x)
  as_it_was (refused k) e = (refl, refl)
  as_it_was (ok st) e = let h = refused_beneath (call st).event e in (rw h, ((leaves st).unchanged h).1)

module _ (r : Run) (a : List Float) where
  pub reply_refused : (m : ℕ) (rows : List Float) → AsItWas r a (reply_export r a m rows)
  unfolding reply_export
  reply_refused m rows = as_it_was r a (λ st. reply_of st a m rows) (λ st. reply_leaves st a m rows) (state_of r)

  pub reply_none_refused : AsItWas r a (reply_none_export r a)
  unfolding reply_none_export
  reply_none_refused = as_it_was r a (λ st. reply_none_of st a) (λ st. reply_none_leaves st a) (state_of r)

-- ---- a C state that a call left is the state that the call beneath left

-- over the C state of a state, what is returned is the C state of the state that is left
after_c_state : (st : State) (a : List Float) (l : AfterCall) → Replied st a l
    → after_export_over (c_state_of st) l ≡ after_export_of l
after_c_state st a l p = by (refused_by_check l.event) refl
  where
    by : (b : Bool) → refused_by_check l.event ≡ b → after_export_over (c_state_of st) l ≡ after_export_of l
    by true e = rw (e, (p.unchanged e).0)
    by false e = rw e

module _ (st : State) (a : List Float) where
  pub reply_again : (m : ℕ) (rows : List Float)
      → reply_export (c_state_of st) a m rows ≡ after_export_of (reply_of st a m rows)
  unfolding reply_export
  reply_again m rows = rw (there_and_back st) (after_c_state st a (reply_of st a m rows) (reply_leaves st a m rows))

  pub reply_none_again : reply_none_export (c_state_of st) a ≡ after_export_of (reply_none_of st a)
  unfolding reply_none_export
  reply_none_again = rw (there_and_back st) (after_c_state st a (reply_none_of st a) (reply_none_leaves st a))

  pub point_again : take (point_length (c_state_of st) (length a)) (drop (point_place (c_state_of st) (length a)) a)
      ≡ point_of st a
  point_again = point-part (c_state_of st) a ∙ rw (there_and_back st)
