-- `landed_point` meets its contract: so many numbers of the slot are in the area.
use native.Mathlib.Omega.{arith}
use lib.Dec.{lit<}
use Rattle.run.specs.Area.{indices}
use Rattle.run.proofs.PlaceLaws.{each_same, place_room}
use Rattle.run.proofs.area.landed_point.Goals as goal

pub part-requires : goal.part-requires
part-requires c =
    let e = (each_same c.places.ensures).landed in
    place_room c.args.z indices.landed (lit< tt) e (omega (arith, c.requires.1)) c.requires.0
