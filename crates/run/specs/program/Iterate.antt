-- For private functions: where the search is left, once the violation of the standing point is known.
use Rattle.std.specs.Prelude.{List, Float}
use Rattle.interval.specs.Result.{Res, ok, refused}
use Rattle.interval.specs.declared.Scalar.{Scalar}
use Rattle.run.specs.Area.{Memory, standing_at, standing_counts}
use Rattle.run.specs.Iterate.{standing_of}
use Rattle.run.specs.Residuals.{sum_squared, violation_of}
use Rattle.run.specs.Rows.{sum_of}
use Rattle.run.specs.Search.{Found, refuses, search_of}
use Rattle.run.specs.program.Proposal.{rows_of}
use Rattle.run.specs.declared.proposal.Origin.{Origin}
use Rattle.run.specs.declared.state.State.{State}

-- where the search from the standing point is left, once its violation is known or refused
abbrev pub sought_with : State → Memory → Res Scalar → Found
sought_with st w (ok theta) = search_of (standing_of st w theta) st.max_step st.search
sought_with st w (refused k) = refuses st.search k

abbrev pub sought_of : State → Memory → Found
sought_of st w = sought_with st w (violation_of (standing_at st w).constraints)

-- what the search goes out from, as it is read of an area
abbrev pub search_origin : State → List Float → Scalar → Origin
search_origin st a theta =
    let c = standing_counts st in
    record {
      sizes = st.sizes;
      point = record { counts = c; f = sum_squared (sum_of c (rows_of st.sizes c a)); theta = theta };
      moving = st.moving;
      plain = st.search.plain;
      max_step = st.max_step;
    }
