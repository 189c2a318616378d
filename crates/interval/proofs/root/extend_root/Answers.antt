-- `extend_root` meets its contract: with t = 2 s u + v the square of s * 2^27 + u leaves v * 2^27 - u * u, and where
-- that is negative one less is the root.
use Rattle.std.proofs.Common.{◌+◌, ◌*◌, ◌/◌, ◌%◌, arith}
use Rattle.interval.proofs.RootExtend.{facts, some, pred}
use Rattle.interval.proofs.root.extend_root.Goals as goal

pub returns : goal.returns
returns c =
    let a = c.args in
    let t = a.r * 134217728 in
    let f = facts a.s a.r c.requires.from c.requires.rest in
    let h = some (t / (a.s * 2)) (t % (a.s * 2) * 134217728) c.if-w-p.false in
    let p = pred (a.s * 134217728 + t / (a.s * 2)) (omega (arith, h)) in
    record {
      same = omega (arith, f.whole, f.square, c.requires, c.if-w-p.false, p, h);
      rest = omega (arith, c.if-w-p.false, c.requires);
    }
