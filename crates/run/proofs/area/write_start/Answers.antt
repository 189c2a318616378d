-- `write_start` meets its contract: the asked point is cleared and the rows go over a slot that is clear.
use mathlib.Core.List.{List}
use mathlib.Core.Path.{ap, ◌∙◌}
use Prim.Native.Nat.{ℕ, ◌*◌}
use native.Mathlib.Omega.{arith}
use lib.Dec.{lit<}
use lib.Ieee.{Float}
use Rattle.linear.specs.Flat.{zeros}
use Rattle.run.specs.Area.{indices}
use Rattle.run.specs.program.Area.{written}
use Rattle.run.proofs.MemoryLaws.{point_fits}
use Rattle.run.proofs.PlaceLaws.{each_same, place_room}
use Rattle.run.proofs.WriterLaws.{started_holds}
use Rattle.run.proofs.area.write_start.Goals as goal

pub clear_from-requires : goal.clear_from-requires
clear_from-requires c =
    place_room c.args.st.sizes indices.asked (lit< tt) (each_same c.places-at.ensures).asked
    (point_fits c.args.st c.requires.1) c.requires.0

pub write-requires : goal.write-requires
write-requires c =
    place_room c.args.st.sizes indices.standing_rows (lit< tt)
    (each_same c.places-at.ensures).standing-rows
    c.requires.2
    (omega (arith, c.clear_from.auto, c.requires.0))

pub returns : goal.returns
returns c w u =
    let st = c.args.st in
    let rows : List Float = c.args.rows.now in
    let at = each_same c.places-at.ensures in
    started_holds st c.requires.1 w rows c.requires.3 c.requires.2 u
    (c.clear_from.ensures
    ∙ ap (λ (p : ℕ). written c.args.area.now p (zeros (2 * st.sizes.n))) at.asked)
    (c.write.ensures
    ∙ ap (λ (p : ℕ). written c.clear_from.new.area p rows)
    at.standing-rows)
