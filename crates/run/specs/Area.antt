-- The work area (PROTOCOL, Area): 8,000 numbers in slots. A slot's used places are from its start; all else is +0
-- after a call. How many numbers each slot has and in which order they stand is said here, once.
use Rattle.std.specs.Prelude.{None, Option, Some}
use Rattle.run.specs.declared.state.Kind.{Kind}
use Rattle.std.specs.Prelude.{ℕ, ◌+◌, ◌-◌, ◌*◌, zero, suc, Bool, true, false, List, ◌++◌, [], ◌∷◌, ◌≡◌, Float, length, take, drop, get_or}
use Rattle.interval.specs.Scalar.{pick}
use Rattle.linear.specs.Flat.{zeros}
use Rattle.run.specs.Curvature.{curvature_entries}
use Rattle.run.specs.Limits.{AREA}
use Rattle.run.specs.Rows.{row_numbers, Evaluation, evaluation_of, row_counts}
use Rattle.run.specs.declared.rows.RowCounts.{RowCounts}
use Rattle.run.specs.declared.state.Kind.TheVariants as kind
use Rattle.run.specs.declared.state.Sizes.{Sizes}
use Rattle.run.specs.declared.state.State.{State}

-- ---- the slots

-- something for each slot: its size, its place, the numbers it holds
pub record Slots (A : Type 0) : Type 0 where
  pub standing : A
  pub landed : A
  pub asked : A
  pub standing_rows : A
  pub landed_rows : A
  pub step : A
  pub multipliers : A
  pub curvature : A
  pub filter : A

-- the order in which they stand in the area, and the number of each in it
abbrev pub in_order : {A : Type 0} → Slots A → List A
in_order x =
    x.standing ∷ x.landed ∷ x.asked ∷ x.standing_rows ∷ x.landed_rows ∷ x.step ∷ x.multipliers ∷ x.curvature
    ∷ x.filter ∷ []

abbrev pub indices : Slots ℕ
indices = record {
  standing = 0;
  landed = 1;
  asked = 2;
  standing_rows = 3;
  landed_rows = 4;
  step = 5;
  multipliers = 6;
  curvature = 7;
  filter = 8;
}

-- from what two have for a slot
abbrev pub each_slot : {A B C : Type 0} → (A → B → C) → Slots A → Slots B → Slots C
each_slot f x y = record {
  standing = f x.standing y.standing;
  landed = f x.landed y.landed;
  asked = f x.asked y.asked;
  standing_rows = f x.standing_rows y.standing_rows;
  landed_rows = f x.landed_rows y.landed_rows;
  step = f x.step y.step;
  multipliers = f x.multipliers y.multipliers;
  curvature = f x.curvature y.curvature;
  filter = f x.filter y.filter;
}

-- ---- the layout, by the sizes of the run

-- how many numbers a point, an answer's rows, the curvature and the filter have at most
abbrev pub point_len : ℕ
point_len = 24

abbrev pub rows_len : ℕ
rows_len = 936

abbrev pub curvature_len : ℕ
curvature_len = 288

abbrev pub filter_len : ℕ
filter_len = 800

-- how many numbers each slot has
abbrev pub slot_sizes : Sizes → Slots ℕ
slot_sizes z = record {
  standing = point_len;
  landed = point_len;
  asked = point_len;
  standing_rows = rows_len;
  landed_rows = rows_len;
  step = point_len;
  multipliers = point_len;
  curvature = curvature_len;
  filter = filter_len;
}

-- where slot k of so many numbers each begins: they stand one behind the other
unfoldable pub start_of : List ℕ → ℕ → ℕ
start_of sizes zero = 0
start_of sizes (suc k) = start_of sizes k + get_or sizes k 0

abbrev pub start_in : Sizes → ℕ → ℕ
start_in z k = start_of (in_order (slot_sizes z)) k

-- where each begins
abbrev pub places_of : Sizes → Slots ℕ
places_of z = record {
  standing = start_in z indices.standing;
  landed = start_in z indices.landed;
  asked = start_in z indices.asked;
  standing_rows = start_in z indices.standing_rows;
  landed_rows = start_in z indices.landed_rows;
  step = start_in z indices.step;
  multipliers = start_in z indices.multipliers;
  curvature = start_in z indices.curvature;
  filter = start_in z indices.filter;
}

-- how many numbers the area has, and where the last ones begin, which are in no slot
abbrev pub area_length : Sizes → ℕ
area_length z = AREA

abbrev pub spare_at : Sizes → ℕ
spare_at z = start_in z 9

-- where the point begins that a caller reads: the asked one, or with no question open the standing one
abbrev pub point_at : Sizes → Option Kind → ℕ
point_at z (Some k) = (places_of z).asked
point_at z None = (places_of z).standing

-- an area with room for a run of these sizes
abbrev pub HasRoom : Sizes → List Float → Type 0
HasRoom z a = length a ≡ area_length z

-- ---- what is in use

-- the counts of the standing answer and of the landed one, each with its own m
abbrev pub standing_counts : State → RowCounts
standing_counts st = row_counts st.sizes st.contents.standing_m

abbrev pub landed_counts : State → RowCounts
landed_counts st = row_counts st.sizes st.contents.landed_m

-- how many pairs the filter has: one for each point that stood before
abbrev pub pairs_in : State → ℕ
pairs_in st = st.counts.iterations

-- how many numbers of each slot its contents have
abbrev pub used_numbers : ℕ → RowCounts → RowCounts → ℕ → Slots ℕ
used_numbers n standing landed pairs = record {
  standing = 2 * n;
  landed = 2 * n;
  asked = 2 * n;
  standing_rows = row_numbers standing;
  landed_rows = row_numbers landed;
  step = 2 * n;
  multipliers = 2 * standing.m;
  curvature = 2 * curvature_entries n;
  filter = 4 * pairs;
}

abbrev pub numbers_in : State → Slots ℕ
numbers_in st = used_numbers st.sizes.n (standing_counts st) (landed_counts st) (pairs_in st)

-- which slots are in use: the asked point while a question is open; standing rows, curvature and filter, step and
-- multipliers while a trial or correction is; the landed point and rows while a correction is
abbrev pub is_open : Option Kind → Bool
is_open (Some k) = true
is_open None = false

abbrev pub is_tried : Option Kind → Bool
is_tried (Some kind.Start) = false
is_tried (Some kind.Trial) = true
is_tried (Some kind.Correction) = true
is_tried None = false

abbrev pub is_corrected : Option Kind → Bool
is_corrected (Some kind.Start) = false
is_corrected (Some kind.Trial) = false
is_corrected (Some kind.Correction) = true
is_corrected None = false

abbrev pub in_use : Option Kind → Slots Bool
in_use p = record {
  standing = true;
  landed = is_corrected p;
  asked = is_open p;
  standing_rows = is_tried p;
  landed_rows = is_corrected p;
  step = is_tried p;
  multipliers = is_tried p;
  curvature = is_tried p;
  filter = is_tried p;
}

-- how many numbers of each slot are in use between two calls
abbrev pub used_in : State → Slots ℕ
used_in st = each_slot (λ (used : Bool) (count : ℕ). pick used count 0) (in_use st.phase) (numbers_in st)

-- ---- the memory of a run: the numbers in use, slot by slot

abbrev pub Memory : Type 0
Memory = Slots (List Float)

-- so many numbers of an area from a place on
abbrev pub part_of : List Float → ℕ → ℕ → List Float
part_of a place count = take count (drop place a)

-- a call reads the used places as they stand
unfoldable pub memory_of : State → List Float → Memory
memory_of st a = each_slot (part_of a) (places_of st.sizes) (used_in st)

-- xs, and +0 behind it
abbrev pub padded : ℕ → List Float → List Float
padded size xs = xs ++ zeros (size - length xs)

-- lists one behind the other, and an end
abbrev pub joined : List (List Float) → List Float → List Float
joined [] end = end
joined (x ∷ xs) end = x ++ joined xs end

-- the area, number by number: each slot's numbers with +0 behind them, and +0 in the last numbers
abbrev pub padded_slots : Sizes → Memory → Memory
padded_slots z w = each_slot padded (slot_sizes z) w

unfoldable pub area_of : Sizes → Memory → List Float
area_of z w = joined (in_order (padded_slots z w)) (zeros (area_length z - spare_at z))

-- ---- how a call changes it

-- after a begin: the start point stands and is asked
abbrev pub begun_memory : List Float → Memory
begun_memory start = record {
  standing = start;
  landed = [];
  asked = start;
  standing_rows = [];
  landed_rows = [];
  step = [];
  multipliers = [];
  curvature = [];
  filter = [];
}

-- after a finish, or refusal 5 or 6: only the standing point
abbrev pub only_standing : Memory → Memory
only_standing w = record {
  standing = w.standing;
  landed = [];
  asked = [];
  standing_rows = [];
  landed_rows = [];
  step = [];
  multipliers = [];
  curvature = [];
  filter = [];
}

-- a start's answer: its rows, and +0 for all numbers of the curvature and of the filter, which has none in a new run
abbrev pub with_start : State → Memory → List Float → Memory
with_start st w rows = record {
  standing = w.standing;
  landed = [];
  asked = [];
  standing_rows = rows;
  landed_rows = [];
  step = [];
  multipliers = [];
  curvature = zeros (numbers_in st).curvature;
  filter = zeros (numbers_in st).filter;
}

-- a trial asked, with the point it leads to, its step and its multipliers: nothing has landed
abbrev pub with_trial : State → Memory → List Float → List Float → List Float → Memory
with_trial st w next delta lambda = record {
  standing = w.standing;
  landed = [];
  asked = take (numbers_in st).asked next;
  standing_rows = w.standing_rows;
  landed_rows = [];
  step = take (numbers_in st).step delta;
  multipliers = take (numbers_in st).multipliers lambda;
  curvature = w.curvature;
  filter = w.filter;
}

-- a correction asked
abbrev pub with_asked : State → Memory → List Float → Memory
with_asked st w next = record {
  standing = w.standing;
  landed = w.landed;
  asked = take (numbers_in st).asked next;
  standing_rows = w.standing_rows;
  landed_rows = w.landed_rows;
  step = w.step;
  multipliers = w.multipliers;
  curvature = w.curvature;
  filter = w.filter;
}

-- the asked point landed, with its rows and the step that led there
abbrev pub with_landed : Memory → List Float → List Float → Memory
with_landed w rows step = record {
  standing = w.standing;
  landed = w.asked;
  asked = w.asked;
  standing_rows = w.standing_rows;
  landed_rows = rows;
  step = step;
  multipliers = w.multipliers;
  curvature = w.curvature;
  filter = w.filter;
}

-- the landed point stands, with the curvature and the filter after it; the multipliers were those of the rows before
abbrev pub with_taken : Memory → List Float → List Float → Memory
with_taken w curvature filter = record {
  standing = w.landed;
  landed = w.landed;
  asked = w.asked;
  standing_rows = w.landed_rows;
  landed_rows = w.landed_rows;
  step = w.step;
  multipliers = [];
  curvature = curvature;
  filter = filter;
}

-- ---- what it reads: the rows of the standing point, those that a reply brings with its m, those of the landed point

abbrev pub standing_at : State → Memory → Evaluation
standing_at st w = evaluation_of (standing_counts st) w.standing_rows

abbrev pub rows_at : State → ℕ → List Float → Evaluation
rows_at st m rows = evaluation_of (row_counts st.sizes m) rows

abbrev pub landed_at : State → Memory → Evaluation
landed_at st w = rows_at st st.contents.landed_m w.landed_rows

-- the curvature that a proposal goes by: none in plain
abbrev pub curvature_of : State → Memory → List Float
curvature_of st w = pick st.search.plain (zeros (numbers_in st).curvature) w.curvature
