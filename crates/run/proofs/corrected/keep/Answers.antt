-- `keep` meets its contract: the shift, with fewer than four corrections corrected again, or its refusal.
use Rattle.std.specs.Prelude.{Result}
use Rattle.linear.specs.declared.results.LinearError.{LinearError}
use mathlib.Core.Path.{◌≡◌, refl, ap}
use mathlib.Core.List.{List}
use Prim.Native.Nat.{ℕ, ◌+◌, ◌*◌, ◌≤◌}
use native.Mathlib.Omega.{arith}
use lib.Dec.{lit<}
use lib.Ieee.{Float}
use lib.ListN.{length}
use Rattle.linear.specs.LinearResult.{done_of}
use Rattle.run.specs.Area.{indices, places_of, with_landed}
use Rattle.run.specs.Corrected.{shifted_step}
use Rattle.run.specs.declared.area.SlotNumbers.{SlotNumbers}
use Rattle.run.specs.declared.state.State.{State}
use Rattle.run.specs.program.Area.{numbers_of}
use Rattle.run.specs.program.Corrected.{RowsToLand}
use Rattle.run.proofs.AnsweredLaws.{keep_known, keep_refused, kept_known}
use Rattle.run.proofs.DecideLaws.{shift_read, landed_known, with_step, stepped}
use Rattle.run.proofs.DecideLaws.{step_length, step_whole}
use Rattle.run.proofs.MemoryLaws.{judges_as}
use Rattle.run.proofs.PlaceLaws.{each_same, place_room}
use Rattle.run.proofs.corrected.keep.Goals as goal

-- the step's slot is within the area
inside : {st : State} {area : List Float} {m rows : ℕ} {slots : SlotNumbers} → RowsToLand st area m rows
    → numbers_of slots ≡ places_of st.sizes → slots.step + 2 * st.sizes.n ≤ length area
inside {st} p e =
    place_room st.sizes indices.step (lit< tt) (each_same e).step (omega (arith, p.underway.bounded.few_variables))
    p.whole_area

pub returns-in-Err : goal.returns-in-Err
returns-in-Err c w h t l v =
    let a = c.args in
    let x = c.shift-shift in
    keep_refused a.st w a.m a.rows.now a.theta refl
    (shift_read a.st h.within.holds l c.landed_counts-c.ensures c.landed_rows.ensures x.ensures)
    (ap (λ (r : Result (Unit {0}) LinearError). done_of r x.new.d) c.in-Err.is)
    (c.refuse.ensures w h.within)

pub overflow_add-at : goal.overflow_add-at
overflow_add-at c = omega (arith, inside c.requires.0 c.places-at.ensures)

pub offset_bounds-area-at : goal.offset_bounds-area-at
offset_bounds-area-at c = omega (arith, inside c.requires.0 c.places-at.ensures)

pub slice_bounds-shifted_step-end : goal.slice_bounds-shifted_step-end
slice_bounds-shifted_step-end c = inside c.requires.0 c.places-at.ensures

pub returns : goal.returns
returns c w h t l v =
    let a = c.args in
    let st = a.st in
    let rows = a.rows.now in
    let p = c.requires.0 in
    let x = c.shift-shift in
    let d = x.new.d in
    let step = shifted_step st.sizes.n w.step d in
    let n = c.with_landed-t.ensures in
    let u = stepped st d t p.underway.bounded.few_variables h.within (each_same c.places-at.ensures).step
    c.shifted_step.ensures in
    let held = c.write_landed.ensures (with_step w
    step) u (step_whole st d t) in
    let known = landed_known st a.m (st.counts.corrections + 1) rows step p.whole_rows (step_length st d t) h t
    held v in
    keep_known st w a.m rows a.theta refl
    (shift_read st h.within.holds l c.landed_counts-c.ensures c.landed_rows.ensures x.ensures)
    (ap (λ (r : Result (Unit {0}) LinearError). done_of r d) c.in_default.is)
    (kept_known st w a.m rows a.theta d n
    (c.correct_or_judge.ensures (with_landed w rows step) (judges_as n known)))
