-- `started` meets its contract: the area holds the start's rows, and the first iteration follows from there.
use Rattle.run.specs.Area.{with_start}
use Rattle.run.proofs.AnsweredLaws.{started_known, starts}
use Rattle.run.proofs.MemoryLaws.{seeks_as}
use Rattle.run.proofs.answered.started.Goals as goal

pub returns : goal.returns
returns c w h =
    let a = c.args in
    let t = c.with_start.ensures in
    let counts = c.row_counts-c.ensures in
    let held = c.write_start.ensures w h in
    let known = starts a.st h a.m c.moving-moving.result c.requires.2 held
    (rw counts at c.violation-standing.ensures) in
    started_known a.st w a.m a.rows.now t
    (rw counts at c.moving-moving.ensures)
    (c.iterate.ensures (with_start a.st w a.rows.now) (seeks_as t known))
