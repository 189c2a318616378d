-- `yadzvego_reply` meets its contract: refused where a number of an enum is none of its cases, and else the call
-- beneath.
use mathlib.Core.Path.{◌∙◌, sym, ap}
use borrow.Author.Tests.{not-true, not-false}
use Rattle.run.specs.Calls.{reply_of}
use Rattle.run.specs.declared.state.State.{State}
use Rattle.yadzvego.specs.Exports.{after_export_over, reply_export}
use Rattle.yadzvego.proofs.ExportLaws.{called, not_called}
use borrow.Author.Rules.{rules}
use Rattle.yadzvego.proofs.yadzvego_reply.Goals as goal

pub returns-then-not-numbers_fit : goal.returns-then-not-numbers_fit
unfolding reply_export
returns-then-not-numbers_fit c =
    let a = c.args in
    rw c.altered.ensures
    (sym (not_called a.run a.area.now (λ (st : State). reply_of st a.area.now a.m a.rows.now) (sym c.numbers_fit.ensures ∙ c.if-not-numbers_fit.true)))

pub returns : goal.returns
unfolding reply_export
returns c =
    let a = c.args in
    let fits = sym c.numbers_fit.ensures ∙ c.if-not-numbers_fit.false in
    rw c.returned_after.ensures
    (ap (after_export_over a.run) c.reply.ensures
    ∙ ap (λ (st : State). after_export_over a.run (reply_of st a.area.now a.m a.rows.now))
    c.state_at.ensures
    ∙ sym (called a.run a.area.now (λ (st : State). reply_of st a.area.now a.m a.rows.now) fits))
