-- `reply_none` meets its contract: what the check refuses is left as it was, and what it accepts is answered over the
-- tidied area.
use mathlib.Core.Path.{sym, ◌∙◌}
use native.Mathlib.Omega.{arith}
use lib.ListN.{length}
use Rattle.run.specs.Area.{memory_of}
use Rattle.run.proofs.CheckLaws.{accepted, none_refused, none_accepted}
use Rattle.run.proofs.ReplyLaws.{leaves_left, reply_phase, reply_bounded}
use Rattle.run.proofs.MemoryLaws.{limits_of}
use Rattle.run.proofs.calls.reply_none.Goals as goal

pub returns-in-Err : goal.returns-in-Err
returns-in-Err c =
    let a = c.args in
    sym (none_refused a.st a.area.now _
    (sym c.check.ensures ∙ c.in-Err.is))

pub clear_unused-requires : goal.clear_unused-requires
clear_unused-requires c =
    let a = c.args in
    let r =
    accepted a.st (length a.area.now) _
    (sym c.check.ensures ∙ c.in-Ok.is) in
    let b = reply_bounded a.st _ r.run r.opened in
    (r.whole, limits_of b)

pub answered_none-requires : goal.answered_none-requires
answered_none-requires c =
    let a = c.args in
    let r =
    accepted a.st (length a.area.now) _
    (sym c.check.ensures
    ∙ c.in-Ok.is) in (
      omega (arith, c.clear_unused.auto, r.whole),
      (reply_bounded a.st _ r.run r.opened, (reply_phase a.st _ r.run r.opened, r.opened)),
    )

pub returns : goal.returns
returns c =
    let a = c.args in
    let is = sym c.check.ensures ∙ c.in-Ok.is in
    leaves_left _ _ _
    (c.answered_none.ensures (memory_of a.st a.area.now)
    c.clear_unused.ensures)
    ∙ sym (none_accepted a.st a.area.now _ is)
