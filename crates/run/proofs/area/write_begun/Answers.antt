-- `write_begun` meets its contract: two slots take the start point, and all else is clear.
use mathlib.Core.List.{List}
use mathlib.Core.Path.{ap, ◌∙◌}
use Prim.Native.Nat.{ℕ}
use native.Mathlib.Omega.{arith}
use lib.Dec.{lit<}
use lib.Ieee.{Float}
use Rattle.linear.specs.Flat.{zeros}
use Rattle.run.specs.Area.{indices}
use Rattle.run.specs.program.Area.{written}
use Rattle.run.proofs.PlaceLaws.{each_same, place_room}
use Rattle.run.proofs.WriterLaws.{begun_holds}
use Rattle.run.proofs.area.write_begun.Goals as goal

pub write-requires : goal.write-requires
write-requires c =
    place_room c.args.z indices.standing (lit< tt) (each_same
    c.places-at.ensures).standing c.requires.1
    (omega (arith, c.clear.auto, c.requires.0))

pub write-requires-2 : goal.write-requires-2
write-requires-2 c =
    place_room c.args.z indices.asked (lit< tt) (each_same
    c.places-at.ensures).asked c.requires.1
    (omega (
      arith,
      c.write.auto,
      c.clear.auto,
      c.requires.0,
    ))

pub returns : goal.returns
returns c =
    let start : List Float = c.args.start.now in
    let at = each_same c.places-at.ensures in
    begun_holds c.args.z start c.requires.1
    (c.clear.ensures
    ∙ ap zeros c.requires.0)
    (c.write.ensures
    ∙ ap (λ (p : ℕ). written
    c.clear.new.xs p start)
    at.standing)
    (c.write-2.ensures
    ∙ ap (λ (p : ℕ). written c.write.new.area p start) at.asked)
