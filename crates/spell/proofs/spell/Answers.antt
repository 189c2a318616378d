-- `spell` meets its contract: what it read is the whole text, or more than a sheet has.
use Rattle.std.proofs.Common.{subst, sym, ◌<◌}
use Rattle.std.specs.Io.KnownBytes.{Appends}
use Rattle.spell.proofs.WholeText.{whole, on_ok}
use Rattle.spell.proofs.spell.Goals as goal

pub returns : goal.returns
returns g c =
    let read = c.in_ok-length.ensures in
    on_ok c.print_spelling.result
    (whole _ _ _ (Appends _ _) read.text (λ h. read.end (subst (λ n. n < 4097) (sym read.prefix_len.1) h)))
    c.print_spelling.ensures
