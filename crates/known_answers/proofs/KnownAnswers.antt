-- The known answers, by one theorem. P1 to P10 are computed from the definitions; in P10 to P13 an accepted begin
-- leaves the run that `begun_of` gives, and its next call passes every check.
use Rattle.std.specs.Prelude.{Some}
use Prim.Native.Nat.{ℕ, ◌+◌, ◌*◌}
use mathlib.Core.Bool.{true}
use mathlib.Core.Path.{◌≡◌, refl, ap, ◌∙◌}
use mathlib.Core.List.{List, []}
use borrow.Author.Tests.{eq-eqb}
use lib.Ieee.{Float, of_bits, to_bits, neg, add, lt, le, eq, div, of_int, round}
use lib.ListN.{length}
use Rattle.interval.specs.declared.Scalar.{Scalar}
use Rattle.interval.specs.Step.{next_up}
use Rattle.interval.specs.Root.{nearest_root}
use Rattle.interval.specs.Scalar.{sqrt_of, clamped, from_ratio}
use Rattle.linear.specs.Choose.{choose_of}
use Rattle.run.specs.Rows.{row_numbers, row_counts}
use Rattle.run.specs.Vectors.{all_to}
use Rattle.run.specs.Area.{HasRoom, Memory, area_of, begun_memory, memory_of}
use Rattle.run.specs.Answered.{started}
use Rattle.run.specs.Iterate.{iterate}
use Rattle.run.specs.Calls.{AfterCall}
use Rattle.run.specs.Checks.{all_in_domain, constraints_fit}
use Rattle.run.specs.Damping.{first_mu}
use Rattle.run.specs.State.{state_with}
use Rattle.run.specs.program.Checks.{open_of, check_of, check_rows_of}
use Rattle.std.specs.Prelude.{Ok}
use Rattle.run.specs.declared.state.Event.TheVariants.{Finish}
use Rattle.run.specs.declared.state.Kind.TheVariants as kind
use Rattle.run.specs.declared.state.Sizes.{Sizes}
use Rattle.run.specs.declared.state.Stop.TheVariants as stop
use Rattle.run.proofs.CheckLaws.{none_accepted, rows_accepted}
use Rattle.known_answers.specs.KnownAnswers.{OfScalars, OfBegin, OfReply, KnownAnswers, sizes, answer_to}
use Rattle.known_answers.specs.KnownAnswers.{answer_to_none}
use Rattle.known_answers.proofs.Begins.{Begins, begins, begun_state, begun_area, begun_valid, begin_accepted}
use Rattle.known_answers.proofs.NoVariables.{started_none}

-- ---- a call to a run that has begun

module _ (z : Sizes) (start : List Float) (max : Scalar) (b : AfterCall) (g : Begins z start max b) where
  whole : HasRoom z (area_of z (begun_memory start))
  whole = begun_area z start max g.fit g.size

  accepted : check_of (begun_state z max) (length (area_of z (begun_memory start))) ≡ Ok kind.Start
  unfolding check_of open_of
  accepted = rw (begun_valid z max g.fit, eq-eqb _ _ whole)

  accepted_rows : (m : ℕ) (rows : List Float) → constraints_fit m ≡ true → length rows ≡ row_numbers (row_counts z m)
      → all_in_domain rows ((m + z.s) * (z.n + 1)) ≡ true
      → check_rows_of (begun_state z max) (length (area_of z (begun_memory start))) m rows ≡ Ok kind.Start
  unfolding check_rows_of open_of
  accepted_rows m rows few l d = rw (begun_valid z max g.fit, few, eq-eqb _ _ whole, eq-eqb _ _ l, d)

  none_answer : answer_to_none b ≡ Finish stop.Infeasible 0 0 0
  none_answer = ap answer_to_none g.is
      ∙ ap (λ (o : AfterCall). o.event)
      (none_accepted (begun_state z max) (area_of z (begun_memory start)) kind.Start accepted)

  rows_answer : (m : ℕ) (rows : List Float) → constraints_fit m ≡ true → length rows ≡ row_numbers (row_counts z m)
      → all_in_domain rows ((m + z.s) * (z.n + 1)) ≡ true
      → answer_to b m rows
      ≡ (started (begun_state z max) (memory_of (begun_state z max) (area_of z (begun_memory start))) m rows).event
  rows_answer m rows few l d =
      ap (λ (o : AfterCall). answer_to o m rows) g.is
      ∙ ap (λ (o : AfterCall). o.event)
      (rows_accepted (begun_state z max) (area_of z (begun_memory start)) m rows kind.Start
      (accepted_rows m rows few l d))

-- ---- the table

budget : (z : Sizes) (mu max : Scalar) (w : Memory) (m : ℕ) (rows : List Float) → z.limit ≡ 0
    → (started (state_with z mu max (Some kind.Start)) w m rows).event ≡ Finish stop.Budget 0 0 0
unfolding started iterate
budget z mu max w m rows e = rw e

of_scalars : OfScalars
unfolding next_up of_bits to_bits neg add nearest_root sqrt_of clamped choose_of lt le eq div of_int round from_ratio
of_scalars = record {
  p1 = refl;
  p2 = refl;
  p3 = refl;
  p4 = refl;
  p5 = refl;
  p6 = refl;
  p7 = refl;
  p8 = refl;
  p9 = (refl, (refl, refl));
}

of_begin : OfBegin
unfolding of_bits to_bits neg add next_up lt le eq div of_int round from_ratio
of_begin = record {
  accepted = λ n s limit a fit l. begin_accepted (sizes n s limit) a fit l;
  p10 = (refl, λ z start max a q. ap (λ (b : AfterCall). b.state.search.mu) (begins z start max a q).is);
}

of_reply : OfReply
unfolding all_to
of_reply = record {
  p11 = λ n s start max a q. none_answer (sizes n s 0) start max _ (begins (sizes n s 0) start max a q);
  p12 = λ n m s start max a rows q few l d.
      rows_answer (sizes n s 0) start max _ (begins (sizes n s 0) start max a q) m rows few l d
      ∙ budget (sizes n s 0) first_mu max _ m rows refl;
  p13 = λ start max a q.
      rows_answer (sizes 0 0 5) start max _ (begins (sizes 0 0 5) start max a q) 0 [] refl refl refl
      ∙ started_none first_mu max _ [];
}

pub known_answers : KnownAnswers
known_answers = record { of_scalars = of_scalars; of_begin = of_begin; of_reply = of_reply }
