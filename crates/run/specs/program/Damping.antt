-- For private functions: what more damping leads to.
use Rattle.run.specs.declared.damping.Damped.{Damped}
use Rattle.run.specs.declared.damping.Damped.TheVariants as d
use Rattle.run.specs.declared.state.Search.{Search}
use Rattle.run.specs.declared.state.Stop.{Stop}

-- ---- what the functions answer

abbrev pub goes_on : Search → Damped
goes_on x = d.On x

abbrev pub stops_at : Search → Stop → Damped
stops_at x s = d.Stop x s
