-- `standing_rows` meets its contract: so many numbers of the slot are in the area.
use native.Mathlib.Omega.{arith}
use lib.Dec.{lit<}
use Rattle.run.specs.Area.{indices}
use Rattle.run.proofs.PlaceLaws.{each_same, place_room, rows_fit}
use Rattle.run.proofs.area.standing_rows.Goals as goal

pub part-requires : goal.part-requires
part-requires c =
    let e = (each_same c.places.ensures).standing-rows in
    place_room c.args.z indices.standing_rows (lit< tt) e
    (omega (arith, c.row_numbers.ensures, rows_fit c.args.z c.args.c c.requires.1)) c.requires.0
