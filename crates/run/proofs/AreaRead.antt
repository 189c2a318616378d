-- What a call reads of the area that the call before it left: the memory, list by list, since each list has as many
-- numbers as are in use.
use Prim.Native.Nat.{ℕ, ◌≤◌}
use mathlib.Core.Path.{◌≡◌, refl, ap}
use native.Mathlib.Omega.{arith}
use lib.ListN.{length}
use Rattle.run.specs.Area.{Slots, area_length, used_in, Memory, memory_of, area_of}
use Rattle.run.specs.declared.state.State.{State}
use Rattle.run.specs.program.Area.{Holds, Limits, lengths_of}
use Rattle.run.proofs.AreaLaws.{laid_of, laid_length}
use Rattle.run.proofs.CheckLaws.{SizeBounds, ContentBounds}
use Rattle.run.proofs.MemoryLaws.{within_fits, read_standing, read_landed, read_asked, read_standing_rows}
use Rattle.run.proofs.MemoryLaws.{read_landed_rows, read_step, read_multipliers, read_curvature, read_filter}
use Rattle.run.proofs.PhaseLengths.{lengths_at_most}

pub limits_from : (st : State) → SizeBounds st.sizes → ContentBounds st.contents
    → st.counts.iterations ≤ st.sizes.limit → Limits st
limits_from st f b h = record {
  standing_few = record { few_variables = f.n; few_constraints = b.standing; few_sums = f.s };
  landed_few = record { few_variables = f.n; few_constraints = b.landed; few_sums = f.s };
  iterations_fit = omega (arith, h, f.limit);
}

module _ (st : State) (w : Memory) (l : Limits st) (e : lengths_of w ≡ used_in st) where
  pub area_holds : Holds st.sizes w (area_of st.sizes w)
  area_holds = record { fits = within_fits st l (lengths_at_most st w e); is = refl }

  pub area_long : length (area_of st.sizes w) ≡ area_length st.sizes
  area_long = laid_length (laid_of st.sizes w area_holds)

  pub memory_back : memory_of st (area_of st.sizes w) ≡ w
  unfolding memory_of
  memory_back =
      let h = area_holds in
      rw (
        read_standing h (ap (λ (x : Slots ℕ). x.standing) e),
        read_landed h (ap (λ (x : Slots ℕ). x.landed) e),
        read_asked h (ap (λ (x : Slots ℕ). x.asked) e),
        read_standing_rows h (ap (λ (x : Slots ℕ). x.standing_rows) e),
        read_landed_rows h (ap (λ (x : Slots ℕ). x.landed_rows) e),
        read_step h (ap (λ (x : Slots ℕ). x.step) e),
        read_multipliers h (ap (λ (x : Slots ℕ). x.multipliers) e),
        read_curvature h (ap (λ (x : Slots ℕ). x.curvature) e),
        read_filter h (ap (λ (x : Slots ℕ). x.filter) e),
      )
      refl
