-- `search` meets its contract: where the search, with clear arrays, was left.
use Rattle.run.proofs.IterateLaws.{search_by}
use Rattle.run.proofs.iterate.search.Goals as goal

pub returns : goal.returns
returns c w h =
    search_by c.args.st w (c.seek_standing-found.ensures w h)
    (c.left_at.ensures w h.within h.standing_whole)
