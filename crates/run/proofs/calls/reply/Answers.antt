-- `reply` meets its contract: what the check refuses is left as it was, and what it accepts is answered over the tidied
-- area.
use mathlib.Core.Path.{sym, ◌∙◌}
use native.Mathlib.Omega.{arith}
use lib.ListN.{length}
use Rattle.run.specs.Area.{memory_of}
use Rattle.run.proofs.CheckLaws.{bounds, accepted_rows, rows_refused, rows_accepted}
use Rattle.run.proofs.ReplyLaws.{leaves_left, reply_phase, reply_bounded}
use Rattle.run.proofs.MemoryLaws.{limits_of}
use Rattle.run.proofs.calls.reply.Goals as goal

pub returns-in-Err : goal.returns-in-Err
returns-in-Err c =
    let a = c.args in
    sym (rows_refused a.st a.area.now a.m a.rows.now _
    (sym c.check_rows.ensures ∙ c.in-Err.is))

pub clear_unused-requires : goal.clear_unused-requires
clear_unused-requires c =
    let a = c.args in
    let r =
    (accepted_rows a.st (length a.area.now) a.m a.rows.now _
    (sym c.check_rows.ensures ∙ c.in-Ok.is)).reply in
    let b = reply_bounded a.st _ r.run r.opened in
    (r.whole, limits_of b)

pub answered-requires : goal.answered-requires
answered-requires c =
    let a = c.args in
    let w =
    accepted_rows a.st (length a.area.now) a.m a.rows.now _
    (sym c.check_rows.ensures
    ∙ c.in-Ok.is) in
    let v = w.reply.run in (
      omega (arith, c.clear_unused.auto, w.reply.whole),
      (
        w.few,
        (
          w.full,
          (
            reply_bounded a.st _ v w.reply.opened,
            ((bounds a.st v).corrections, (reply_phase a.st _ v w.reply.opened, w.reply.opened)),
          ),
        ),
      ),
    )

pub returns : goal.returns
returns c =
    let a = c.args in
    let is = sym c.check_rows.ensures ∙ c.in-Ok.is in
    leaves_left _ _ _
    (c.answered.ensures (memory_of a.st a.area.now)
    c.clear_unused.ensures)
    ∙ sym (rows_accepted a.st a.area.now a.m a.rows.now _ is)
