-- `answered` meets its contract: each kind is the definition's.
use Rattle.std.specs.Prelude.{Some}
use mathlib.Core.Path.{sym, ap, ◌∙◌}
use Rattle.run.proofs.AnsweredLaws.{works, answered_as}
use Rattle.run.proofs.Booleans.{never}
use Rattle.run.proofs.PhaseLengths.{trial_read, correction_read}
use Rattle.run.proofs.answered.answered.Goals as goal

pub returns-in-Trial : goal.returns-in-Trial
returns-in-Trial c w h =
    let a = c.args in
    let e = c.in-Trial.is in
    let t = trial_read a.st w h.lengths (c.requires.1.1.1.1.1.1 ∙ ap Some e) in
    answered_as a.st w e a.m a.rows.now
    (c.land.ensures w (works a.st h) t.standing_whole t.trial_whole (λ f. never (sym f)))

pub returns-in-Correction : goal.returns-in-Correction
returns-in-Correction c w h =
    let a = c.args in
    let e = c.in-Correction.is in
    let t = correction_read a.st w h.lengths (c.requires.1.1.1.1.1.1 ∙ ap Some e) in
    answered_as a.st w e a.m a.rows.now
    (c.land-in-Correction.ensures w (works a.st h) t.standing_whole t.trial_whole (λ f. t.landed_whole))
