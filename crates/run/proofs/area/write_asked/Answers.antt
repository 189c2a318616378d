-- `write_asked` meets its contract: as many numbers as a point has go over the slot's first ones.
use mathlib.Core.Path.{◌≡◌}
use Prim.Native.Nat.{◌*◌}
use native.Mathlib.Omega.{arith}
use lib.Dec.{lit<}
use lib.ListN.{length, take}
use lib.Seq.{length-take-le}
use Rattle.run.specs.Area.{indices}
use Rattle.run.proofs.PlaceLaws.{each_same, place_room}
use Rattle.run.proofs.area.write_asked.Goals as goal

pub write-requires : goal.write-requires
write-requires c =
    let n = 2 * c.args.z.n in
    let long : length (take n c.args.next.now) ≡ n =
    length-take-le n c.args.next.now (omega (arith, c.requires.1, c.requires.2)) in
    place_room c.args.z indices.asked (lit< tt) (each_same c.places.ensures).asked
    (omega (arith, long, c.requires.1)) c.requires.0
