-- What the writers of an area leave: each run of numbers over a slot takes the place of the slot's numbers, since it is
-- at least as long, and slots that are not written are as they were.
use Rattle.std.specs.Prelude.{Some}
use Prim.Native.Nat.{ℕ, ◌+◌, ◌*◌, ◌<◌, ◌≤◌}
use mathlib.Core.List.{List, [], ◌∷◌}
use mathlib.Core.Path.{◌≡◌, refl, sym, ap, subst, ◌∙◌}
use native.Mathlib.Omega.{arith}
use lib.Dec.{lit<}
use lib.Ieee.{Float}
use lib.ListN.{length, take, length-replicate, length-append}
use Rattle.interval.specs.Scalar.{zero64}
use Rattle.interval.specs.declared.Scalar.{Scalar}
use Rattle.linear.specs.Flat.{zeros}
use Rattle.run.specs.Area.{point_len, rows_len, curvature_len, filter_len, Slots, in_order, indices}
use Rattle.run.specs.Area.{places_of, area_length, pairs_in, numbers_in, used_in, Memory, part_of}
use Rattle.run.specs.Area.{padded_slots, begun_memory, with_start, with_trial, with_asked, with_landed, with_taken}
use Rattle.run.specs.Filter.{pair_numbers, filter_with}
use Rattle.run.specs.Limits.{ITERATIONS}
use Rattle.run.specs.Vectors.{moved_of}
use Rattle.run.specs.declared.state.Kind.TheVariants as kind
use Rattle.run.specs.declared.state.Sizes.{Sizes}
use Rattle.run.specs.declared.state.State.{State}
use Rattle.run.specs.program.Area.{lengths_of, StandingWhole, TrialWhole, LandedWhole, Holds, Uses, Working}
use Rattle.run.specs.program.Area.{Limits, written}
use Rattle.run.specs.program.Proposal.{standing_part}
use Rattle.run.specs.program.Step.{StepLengths}
use Rattle.run.proofs.AreaLaws.{Laid, laid_of, holds_of, all_clear, wrote_over, wrote_behind, cleared_over}
use Rattle.run.proofs.AreaLaws.{numbers_read}
use Rattle.run.proofs.AreaLaws.{padded_zeros}
use Rattle.run.proofs.LengthsKept.{length_cut}
use Rattle.run.proofs.MemoryLaws.{read_standing, read_landed, read_asked, point_fits}
use Rattle.run.proofs.MemoryLaws.{standing_rows_fit, landed_rows_fit, multipliers_fit, curvature_fits}
use Rattle.run.proofs.MemoryLaws.{filter_fits}
use Rattle.run.proofs.PlaceLaws.{all_same}
use Rattle.run.proofs.PointLaws.{length_moved}

-- ---- after a begin

pub begun_holds :
    (z : Sizes) (start : List Float) {a b₁ b₂ : List Float} → length start ≤ point_len → a ≡ zeros (area_length z) →
    b₁ ≡ written a (places_of z).standing start → b₂ ≡ written b₁ (places_of z).asked start →
    Holds z (begun_memory start) b₂
begun_holds z start f e q₁ q₂ =
    let h₁ = wrote_over (all_clear z e) indices.standing (lit< tt) [] refl start (omega arith) f q₁ in
    let h₂ = wrote_over h₁ indices.asked (lit< tt) [] refl start (omega arith) f q₂ in
    holds_of z (begun_memory start)
    (record {
      standing = f;
      landed = omega arith;
      asked = f;
      standing-rows = omega arith;
      landed-rows = omega arith;
      step = omega arith;
      multipliers = omega arith;
      curvature = omega arith;
      filter = omega arith;
    }) h₂

-- ---- a start's answer

no-numbers : (xs : List Float) → length xs ≡ 0 → xs ≡ []
no-numbers [] e = refl
no-numbers (x ∷ xs) e = absurd (omega (arith, e))

-- a standing point, and what is asked or the rows of that point, alone
abbrev two_slots : List Float → List Float → List Float → Memory
two_slots x asked rows = record {
  standing = x;
  landed = [];
  asked = asked;
  standing_rows = rows;
  landed_rows = [];
  step = [];
  multipliers = [];
  curvature = [];
  filter = [];
}

module _ (st : State) (l : Limits st) (w : Memory) (rows : List Float) where
  only_points : st.phase ≡ Some kind.Start → lengths_of w ≡ used_in st → w ≡ two_slots w.standing w.asked []
  only_points o e =
      all_same (record {
        standing = refl;
        landed = no-numbers w.landed (rw o at (ap (λ (x : Slots ℕ). x.landed) e));
        asked = refl;
        standing-rows = no-numbers w.standing_rows (rw o at (ap (λ (x : Slots ℕ). x.standing_rows) e));
        landed-rows = no-numbers w.landed_rows (rw o at (ap (λ (x : Slots ℕ). x.landed_rows) e));
        step = no-numbers w.step (rw o at (ap (λ (x : Slots ℕ). x.step) e));
        multipliers = no-numbers w.multipliers (rw o at (ap (λ (x : Slots ℕ). x.multipliers) e));
        curvature = no-numbers w.curvature (rw o at (ap (λ (x : Slots ℕ). x.curvature) e));
        filter = no-numbers w.filter (rw o at (ap (λ (x : Slots ℕ). x.filter) e));
      })

  pub started_holds :
      {a b₁ b₂ : List Float} → st.phase ≡ Some kind.Start → length rows ≤ rows_len →
      Uses st.sizes (used_in st) w a →
      b₁ ≡ written a (places_of st.sizes).asked (zeros (2 * st.sizes.n)) →
      b₂ ≡ written b₁ (places_of st.sizes).standing_rows rows → Holds st.sizes (with_start st w rows) b₂
  started_holds {a} {b₁} {b₂} o many u q₁ q₂ =
      let z = st.sizes in
      let f = u.holds.fits in
      let asked : length w.asked ≡ 2 * z.n = rw o at (ap (λ (x : Slots ℕ). x.asked) u.lengths) in
      let h₀ : Laid z (in_order (padded_slots z (two_slots w.standing w.asked []))) a =
      subst (λ (v : Memory). Laid z (in_order (padded_slots z v)) a) (only_points o u.lengths)
      (laid_of z w u.holds) in
      let h₁ = cleared_over h₀ indices.asked (lit< tt) w.asked refl (2 * z.n) (omega arith) (point_fits st l)
      q₁ in
      let h₂ = wrote_over h₁ indices.standing_rows (lit< tt) [] refl rows (omega arith)
      many q₂ in
      let learned = (numbers_in st).curvature in
      let pairs = (numbers_in st).filter in
      let e : padded_slots z (two_slots w.standing [] rows) ≡ padded_slots z (with_start st w rows) =
      all_same (record {
        standing = refl;
        landed = refl;
        asked = refl;
        standing-rows = refl;
        landed-rows = refl;
        step = refl;
        multipliers = refl;
        curvature = sym (padded_zeros curvature_len learned (curvature_fits st l));
        filter = sym (padded_zeros filter_len pairs (filter_fits st l));
      }) in
      holds_of z (with_start st w rows)
      (record {
        standing = f.standing;
        landed = omega arith;
        asked = omega arith;
        standing-rows = many;
        landed-rows = omega arith;
        step = omega arith;
        multipliers = omega arith;
        curvature = omega (arith, length-replicate learned zero64, curvature_fits st l);
        filter = omega (arith, length-replicate pairs zero64, filter_fits st l);
      })
      (subst (λ (v : Memory). Laid z (in_order v) b₂) e h₂)

-- ---- while a call works

module _ (st : State) (l : Limits st) (w : Memory) {a : List Float} (u : Working st w a) where
  laid : Laid st.sizes (in_order (padded_slots st.sizes w)) a
  laid = laid_of st.sizes w u.holds

  -- a trial asked
  pub trial_holds :
      (delta lambda : List Float) {b₁ b₂ b₃ b₄ b₅ : List Float} → StandingWhole (numbers_in st) w →
      StepLengths delta lambda →
      let z = st.sizes in
      let next = moved_of z.n w.standing delta in
      b₁ ≡ written a (places_of z).asked (take (2 * z.n) (moved_of z.n (standing_part z a) delta)) →
      b₂ ≡ written b₁ (places_of z).landed (zeros (numbers_in st).landed) →
      b₃ ≡ written b₂ (places_of z).landed_rows (zeros (numbers_in st).landed_rows) →
      b₄ ≡ written b₃ (places_of z).step (take (numbers_in st).step delta) →
      b₅ ≡ written b₄ (places_of z).multipliers (take (numbers_in st).multipliers lambda) →
      Holds z (with_trial st w next delta lambda) b₅
  trial_holds delta lambda s long q₁ q₂ q₃ q₄ q₅ =
      let z = st.sizes in
      let f = u.holds.fits in
      let t = u.at_most in
      let next = moved_of z.n w.standing delta in
      let few = l.standing_few in
      let n₁ = length_cut next z.n (length_moved z.n w.standing delta) few.few_variables in
      let n₂ = length_cut delta z.n long.delta_length few.few_variables in
      let n₃ = length_cut lambda st.contents.standing_m long.lambda_length few.few_constraints in
      let from : standing_part z a ≡ w.standing = read_standing u.holds s.standing in
      let h₁ = wrote_over laid indices.asked (lit< tt) w.asked refl (take (2 * z.n) next)
      (omega (arith, t.asked, n₁)) (omega (arith, n₁, point_fits st l))
      (q₁ ∙ ap (λ (x : List Float). written a (places_of z).asked (take (2 * z.n) (moved_of z.n x delta))) from) in
      let h₂ = cleared_over h₁ indices.landed (lit< tt) w.landed refl (numbers_in st).landed t.landed
      (point_fits st l) q₂ in
      let h₃ = cleared_over h₂ indices.landed_rows (lit< tt) w.landed_rows refl (numbers_in st).landed_rows
      t.landed-rows (landed_rows_fit st l) q₃ in
      let h₄ = wrote_over h₃ indices.step (lit< tt) w.step refl (take (2 * z.n) delta)
      (omega (arith, t.step, n₂)) (omega (arith, n₂, point_fits st l)) q₄ in
      let h₅ = wrote_over h₄ indices.multipliers (lit< tt) w.multipliers refl
      (take (numbers_in st).multipliers lambda) (omega (arith, t.multipliers, n₃))
      (omega (arith, n₃, multipliers_fit st l)) q₅ in
      holds_of z (with_trial st w next delta lambda)
      (record {
        standing = f.standing;
        landed = omega arith;
        asked = omega (arith, n₁, point_fits st l);
        standing-rows = f.standing-rows;
        landed-rows = omega arith;
        step = omega (arith, n₂, point_fits st l);
        multipliers = omega (arith, n₃, multipliers_fit st l);
        curvature = f.curvature;
        filter = f.filter;
      }) h₅

  -- a correction asked
  pub asked_holds :
      (next : List Float) {b : List Float} → length next ≡ point_len →
      b ≡ written a (places_of st.sizes).asked (take (2 * st.sizes.n) next) →
      Holds st.sizes (with_asked st w next) b
  asked_holds next long q =
      let z = st.sizes in
      let f = u.holds.fits in
      let n = length_cut next z.n long l.standing_few.few_variables in
      holds_of z (with_asked st w next)
      (record {
        standing = f.standing;
        landed = f.landed;
        asked = omega (arith, n, point_fits st l);
        standing-rows = f.standing-rows;
        landed-rows = f.landed-rows;
        step = f.step;
        multipliers = f.multipliers;
        curvature = f.curvature;
        filter = f.filter;
      })
      (wrote_over laid indices.asked (lit< tt) w.asked refl (take (2 * z.n) next)
      (omega (arith, u.at_most.asked, n)) (omega (arith, n, point_fits st l)) q)

  -- the asked point landed, over rows that may have been more
  pub landed_holds :
      (rows : List Float) {b₁ b₂ b₃ : List Float} → TrialWhole (numbers_in st) w → length rows ≤ rows_len →
      let z = st.sizes in
      b₁ ≡ written a (places_of z).landed (part_of a (places_of z).asked (numbers_in st).landed) →
      b₂ ≡ written b₁ (places_of z).landed_rows (zeros (numbers_in st).landed_rows) →
      b₃ ≡ written b₂ (places_of z).landed_rows rows → Holds z (with_landed w rows w.step) b₃
  landed_holds rows s many q₁ q₂ q₃ =
      let z = st.sizes in
      let f = u.holds.fits in
      let t = u.at_most in
      let h₁ = wrote_over laid indices.landed (lit< tt) w.landed refl w.asked
      (omega (arith, t.landed, s.asked)) f.asked
      (q₁ ∙ ap (λ (x : List Float). written a (places_of z).landed x) (read_asked u.holds s.asked)) in
      let h₂ = cleared_over h₁ indices.landed_rows (lit< tt) w.landed_rows refl (numbers_in st).landed_rows
      t.landed-rows (landed_rows_fit st l) q₂ in
      let h₃ = wrote_over h₂ indices.landed_rows (lit< tt) [] refl rows (omega arith) many q₃ in
      holds_of z (with_landed w rows w.step)
      (record {
        standing = f.standing;
        landed = f.asked;
        asked = f.asked;
        standing-rows = f.standing-rows;
        landed-rows = many;
        step = f.step;
        multipliers = f.multipliers;
        curvature = f.curvature;
        filter = f.filter;
      }) h₃

  -- the landed point stands, over rows that may have been more
  pub taken_holds :
      (curvature : List Float) (g theta : Scalar) {b₁ b₂ b₃ b₄ b₅ b₆ : List Float} → StandingWhole (numbers_in st) w →
      LandedWhole (numbers_in st) w → pairs_in st < ITERATIONS → length curvature ≡ (numbers_in st).curvature →
      let z = st.sizes in
      b₁ ≡ written a (places_of z).standing (part_of a (places_of z).landed (numbers_in st).landed) →
      b₂ ≡ written b₁ (places_of z).standing_rows (zeros (numbers_in st).standing_rows) →
      b₃ ≡ written b₂ (places_of z).standing_rows (part_of b₂ (places_of z).landed_rows (numbers_in st).landed_rows) →
      b₄ ≡ written b₃ (places_of z).multipliers (zeros (numbers_in st).multipliers) →
      b₅ ≡ written b₄ (places_of z).curvature curvature →
      b₆ ≡ written b₅ ((places_of z).filter + (numbers_in st).filter) (pair_numbers g theta) →
      Holds z (with_taken w curvature (filter_with w.filter g theta)) b₆
  unfolding filter_with
  taken_holds curvature g theta {b₁} {b₂} {b₃} {b₄} {b₅} s v less long q₁ q₂ q₃ q₄ q₅ q₆ =
      let z = st.sizes in
      let f = u.holds.fits in
      let t = u.at_most in
      let pair = pair_numbers g theta in
      let h₁ = wrote_over laid indices.standing (lit< tt) w.standing refl w.landed
      (omega (arith, s.standing, v.landed)) f.landed
      (q₁ ∙ ap (λ (x : List Float). written a (places_of z).standing x) (read_landed u.holds v.landed)) in
      let h₂ = cleared_over h₁ indices.standing_rows (lit< tt) w.standing_rows refl (numbers_in st).standing_rows
      t.standing-rows (standing_rows_fit st l) q₂ in
      let rows : part_of b₂ (places_of z).landed_rows (numbers_in st).landed_rows ≡ w.landed_rows =
      ap (part_of b₂ (places_of z).landed_rows) (sym v.landed-rows)
      ∙ numbers_read h₂ indices.landed_rows (lit< tt) w.landed_rows refl f.landed-rows in
      let h₃ = wrote_over h₂ indices.standing_rows (lit< tt) [] refl w.landed_rows (omega arith) f.landed-rows
      (q₃ ∙ ap (λ (x : List Float). written b₂ (places_of z).standing_rows x) rows) in
      let h₄ = cleared_over h₃ indices.multipliers (lit< tt) w.multipliers refl (numbers_in st).multipliers
      t.multipliers (multipliers_fit st l) q₄ in
      let h₅ = wrote_over h₄ indices.curvature (lit< tt) w.curvature refl curvature
      (omega (arith, s.curvature, long)) (omega (arith, long, curvature_fits st l)) q₅ in
      let room : length w.filter + length pair ≤ filter_len = omega (arith, s.filter, less) in
      let h₆ = wrote_behind h₅ indices.filter (lit< tt) w.filter refl pair room
      (q₆ ∙ ap (λ (n : ℕ). written b₅ ((places_of z).filter + n) pair) (sym s.filter)) in
      holds_of z (with_taken w curvature (filter_with w.filter g theta))
      (record {
        standing = f.landed;
        landed = f.landed;
        asked = f.asked;
        standing-rows = f.landed-rows;
        landed-rows = f.landed-rows;
        step = f.step;
        multipliers = omega arith;
        curvature = omega (arith, long, curvature_fits st l);
        filter = simp length-append room;
      }) h₆
