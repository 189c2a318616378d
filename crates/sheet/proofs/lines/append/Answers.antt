-- `append` meets its contract: the text is copied behind what is written.
use mathlib.Core.Path.{refl}
use native.Mathlib.Omega.{arith}
use Rattle.sheet.proofs.AppendLaws.{put_appends}
use Rattle.sheet.proofs.lines.append.Goals as goal

pub returns : goal.returns
returns c = (refl, put_appends _ _ _ c.copy_from_slice.ensures.after (omega arith))
