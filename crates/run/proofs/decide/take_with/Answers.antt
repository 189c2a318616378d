-- `take_with` meets its contract: the curvature is learned and the next iteration follows from the area that holds it,
-- or it is refused.
use Rattle.std.specs.Prelude.{Result}
use Rattle.linear.specs.declared.results.LinearError.{LinearError}
use Prim.Native.Nat.{◌*◌, ◌≤◌}
use mathlib.Core.Path.{sym, ap, ◌∙◌}
use lib.Seq.{length-take-le}
use Rattle.linear.specs.LinearResult.{done_of}
use Rattle.run.specs.declared.state.State.{State}
use Rattle.run.specs.program.Endings.{Underway}
use Rattle.run.proofs.AnsweredLaws.{learned_known, stands_on}
use Rattle.run.proofs.DecideLaws.{sum_read, all_read, read_all, taken_known}
use Rattle.run.proofs.LengthsKept.{learned_length}
use Rattle.run.proofs.MemoryLaws.{standing_rows_of, landed_rows_of}
use Rattle.run.proofs.PlaceLaws.{curvature_fits}
use Rattle.run.proofs.Prefixes.{front_kept}
use Rattle.run.proofs.decide.take_with.Goals as goal

-- the curvature fits the array
fits : (st : State) → Underway st → 2 * (st.sizes.n * st.sizes.n) ≤ 288
fits st u = curvature_fits st.sizes st.sizes.n u.bounded.few_variables

pub learn-requires : goal.learn-requires
learn-requires c = (
  c.requires.0,
  standing_rows_of c.requires.1.bounded,
  landed_rows_of c.requires.1.bounded,
  length-take-le _ _ (fits c.args.st c.requires.1),
)

pub returns : goal.returns
returns c w h =
    let a = c.args in
    let st = a.st in
    let l = c.learn in
    let b = l.new.b in
    let known = h.from-standing in
    let e =
    sym (l.ensures w (read_all st h)) ∙ ap (λ (d : Result (Unit {0}) LinearError). done_of d b) c.in_default.is in
    let f = c.sum_squared-f.result in
    let sum = sum_read st known.within.holds known.standing_whole.standing-rows c.standing_counts-c.ensures
    c.standing_rows.ensures
    c.sum_squared-f.ensures in
    let held = rw (front_kept _ b _ (fits c.args.st c.requires.1) l.auto.b) at
    (c.write_taken.ensures w known.within known.standing_whole h.landed_whole) in
    learned_known st w a.theta a.span a.mu a.radius e
    (stands_on st w a.theta a.span a.mu a.radius b c.standing_on.ensures
    sum
    (taken_known st h a.span a.mu a.radius f
    (learned_length st w (all_read st h) e) held)
    c.iterate.ensures)
