-- `grow` meets its contract: whether more damping is finite decides, and it is positive still.
use mathlib.Core.Path.{sym, ◌∙◌}
use native.Mathlib.Omega.{arith}
use Rattle.interval.proofs.Given.{yes}
use Rattle.run.specs.State.{searching}
use Rattle.run.specs.State.{rejected_for, with_radius}
use Rattle.run.specs.declared.state.Search.{Search}
use Rattle.run.proofs.IterateLaws.{searched, grown_bounded, grow_on, grow_stops}
use Rattle.run.proofs.MemoryLaws.{works_as, seeks_as}
use Rattle.run.proofs.decide.grow.Goals as goal

pub search-requires : goal.search-requires
search-requires c =
    let a = c.args in
    let within : Search = with_radius (rejected_for a.st.search a.why) a.radius in
    let b = c.requires.1 in
    let g = c.well_formed.0.1.1.1.1.1.0.1.1.0.1.1 in
    rw c.with_search.ensures (
      c.requires.0,
      grown_bounded _ (searched within b b.few_turned b.damping) (omega arith)
          (yes g.0.1, yes g.1.0.1) (sym c.in-On.is ∙ c.damp.ensures),
    )

pub returns-in-On : goal.returns-in-On
returns-in-On c w h =
    let a = c.args in
    let within : Search = with_radius (rejected_for a.st.search a.why) a.radius in
    let t = c.with_search.ensures in
    grow_on (searching a.st within) w (sym c.in-On.is ∙ c.damp.ensures) t
    (c.search.ensures w (seeks_as t h))

pub returns-in-Stop : goal.returns-in-Stop
returns-in-Stop c w h =
    let a = c.args in
    let within : Search = with_radius (rejected_for a.st.search a.why) a.radius in
    let t = c.with_search-in-Stop.ensures in
    grow_stops (searching a.st within) w (sym c.in-Stop.is ∙ c.damp.ensures) t
    (c.finish.ensures w (works_as t h.within))
