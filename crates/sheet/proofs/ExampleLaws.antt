-- With a limit of 0 the answer to the start ends the run with Budget, and the start is left. So of a sheet with that
-- limit, whose rows at its start are in the domain, the coordinates are printed; the example's are worked out.
use Prim.Native.Nat.{ℕ, suc, ◌+◌, ◌*◌, zero-le}
use mathlib.Core.Bool.{true}
use mathlib.Core.List.{List, [], ◌∷◌}
use mathlib.Core.Path.{◌≡◌, refl, sym, ap, ◌∙◌}
use borrow.Author.Tests.{eq-eqb}
use lib.Ieee.{Float, of_bits, to_bits, neg, add, sub, div, lt, le, eq, of_int, round}
use lib.IntN.{pos}
use lib.ListN.{length, get_or, length-replicate}
use Rattle.float_bits.specs.Word.{digits_to}
use Rattle.interval.specs.Result.{ok}
use Rattle.interval.specs.Scalar.{zero64, from_i64}
use Rattle.interval.specs.Step.{next_up}
use Rattle.interval.specs.declared.Scalar.{Scalar}
use Rattle.linear.specs.Flat.{at, list_to, zeros}
use Rattle.linear.specs.Results.{bind}
use Rattle.linear.proofs.Lists.{length-list_to}
use Rattle.run.specs.Answered.{started}
use Rattle.run.specs.Area.{Memory, area_of, begun_memory, memory_of, only_standing, with_start, used_in, rows_at}
use Rattle.run.specs.Calls.{AfterCall, begun_of, in_area, reply_of, point_of}
use Rattle.run.specs.Checks.{sizes_fit, constraints_fit, all_in_domain, valid}
use Rattle.run.specs.Endings.{AfterSlots, finish}
use Rattle.run.specs.Iterate.{iterate}
use Rattle.run.specs.Limits.{AREA}
use Rattle.run.specs.Residuals.{moving_of}
use Rattle.run.specs.Rows.{row_numbers, row_counts}
use Rattle.run.specs.State.{starting}
use Rattle.run.specs.Vectors.{all_to}
use Rattle.run.specs.declared.state.Sizes.{Sizes}
use Rattle.run.specs.declared.state.State.{State}
use Rattle.run.specs.declared.state.Stop.TheVariants as stop
use Rattle.run.specs.program.Area.{Limits, lengths_of}
use Rattle.run.proofs.AreaRead.{area_long, memory_back}
use Rattle.run.proofs.CheckLaws.{size_bounds}
use Rattle.run.proofs.Cleared.{begun_lengths, begun_limits}
use Rattle.run.proofs.DampingGrowth.{growth_begin, growth_positive}
use Rattle.run.proofs.PlaceLaws.{all_same}
use Rattle.run.proofs.demand3.Endings.{sound_valid, asked_given, standing_given}
use Rattle.sheet.specs.Decimal.{decimal_to}
use Rattle.sheet.specs.Example.{TEXT, PRINTED, Example}
use Rattle.sheet.specs.Numbers.{digits_from, unsigned_of, number_of, field_of, one_of, two_of}
use Rattle.sheet.specs.Printing.{finish_of, point_lines}
use Rattle.sheet.specs.Ranges.{InRange}
use Rattle.sheet.specs.Rows.{rows_of}
use Rattle.sheet.specs.Settling.{answer_of, answers_to, point_at, printed_of, printed_sheet, settled_of, sizes_of}
use Rattle.sheet.specs.Sheet as reader
use Rattle.sheet.specs.Sheet.{Sheet, read_of, sheet_of, all_points_of, natural_of, points_from, behind_points_of}
use Rattle.sheet.specs.Sheet.{all_rules_of, rules_from}
use Rattle.sheet.specs.Text.{behind, behind_key}
use Rattle.sheet.proofs.RangeLaws.{read_in_range}
use Rattle.sheet.proofs.RunLaws.{sizes-fit, rules_fit, begin_is, rows_length}
use Rattle.sheet.proofs.SettlingLaws.{answer_rows, answers_more, answers_over}

-- ---- a run without iterations

module _ (z : Sizes) (start : List Float) (max : Scalar) (fit : sizes_fit z ≡ true) (many : length start ≡ 2 * z.n)
  where
    abbrev first : State
    first = (begun_of z start max).state

    abbrev area : List Float
    area = (begun_of z start max).area

    limits : Limits first
    limits = begun_limits z start max (size_bounds z fit)

    first_valid : valid first ≡ true
    first_valid =
        sound_valid first
        (record {
          sizes-fit = fit;
          contents-fit = refl;
          within = zero-le;
          few_turned = zero-le;
          few_asked = zero-le;
          few_corrections = zero-le;
          phase-fits = growth_positive growth_begin;
        })

    room : length area ≡ AREA
    room = area_long first (begun_memory start) limits (begun_lengths z start max many)

    back : memory_of first area ≡ begun_memory start
    back = memory_back first (begun_memory start) limits (begun_lengths z start max many)

    asked : point_of first area ≡ start
    asked = asked_given first area first_valid room refl ∙ ap (λ (w : Memory). w.asked) back

    -- what an answer leaves: the start alone
    abbrev ending : ℕ → List Float → AfterSlots
    ending m rows =
        finish (starting first m (moving_of z.n (rows_at first m rows))) (with_start first (begun_memory start) rows)
        stop.Budget

    abbrev last : ℕ → List Float → State
    last m rows = (ending m rows).state

    abbrev left : Memory
    left = only_standing (begun_memory start)

    module _ (m : ℕ) (rows : List Float) where
      last_valid : valid (last m rows) ≡ true
      last_valid =
          sound_valid (last m rows)
          (record {
            sizes-fit = fit;
            contents-fit = refl;
            within = zero-le;
            few_turned = zero-le;
            few_asked = zero-le;
            few_corrections = zero-le;
            phase-fits = refl;
          })

      last_limits : Limits (last m rows)
      last_limits = record {
        standing_few = limits.standing_few;
        landed_few = limits.landed_few;
        iterations_fit = limits.iterations_fit;
      }

      last_lengths : lengths_of left ≡ used_in (last m rows)
      last_lengths =
          all_same {x = lengths_of left} {y = used_in (last m rows)}
          (record {
            standing = many;
            landed = refl;
            asked = refl;
            standing-rows = refl;
            landed-rows = refl;
            step = refl;
            multipliers = refl;
            curvature = refl;
            filter = refl;
          })

      point_left : point_of (last m rows) (area_of z left) ≡ start
      point_left =
          standing_given (last m rows) (area_of z left) last_valid
          (area_long (last m rows) left last_limits last_lengths) refl
          ∙ ap (λ (w : Memory). w.standing) (memory_back (last m rows) left last_limits last_lengths)

      accepted : constraints_fit m ≡ true → length rows ≡ row_numbers (row_counts z m)
          → all_in_domain rows ((m + z.s) * (z.n + 1)) ≡ true
          → reply_of first area m rows ≡ in_area (started first (memory_of first area) m rows)
      unfolding reply_of
      accepted few l d = rw (first_valid, few, eq-eqb _ _ room, eq-eqb _ _ l, d) refl

      finished : z.limit ≡ 0 → started first (begun_memory start) m rows ≡ ending m rows
      unfolding started iterate
      finished none = rw none refl

      replied : z.limit ≡ 0 → constraints_fit m ≡ true → length rows ≡ row_numbers (row_counts z m)
          → all_in_domain rows ((m + z.s) * (z.n + 1)) ≡ true → in_area (ending m rows) ≡ reply_of first area m rows
      replied none few l d =
          sym
          (accepted few l d ∙ ap (λ (w : Memory). in_area (started first w m rows)) back ∙ ap in_area (finished none))

-- ---- a sheet whose limit is 0

module _ (s : Sheet) (r : InRange s) (none : s.limit ≡ 0) where
  abbrev start : List Float
  start = point_at s.coordinates

  abbrev reach : Scalar
  reach = from_i64 (pos s.reach)

  abbrev rows : List Float
  rows = rows_of (length s.coordinates) s.rules start start

  full : length start ≡ 2 * length s.coordinates
  full = length-list_to (λ i. from_i64 (get_or s.coordinates i (pos 0))) (length s.coordinates)

  module _ (d : all_in_domain rows ((length s.rules + length s.coordinates) * (length s.coordinates + 1)) ≡ true)
    where
      abbrev done : AfterCall
      done = in_area (ending (sizes_of s) start reach (sizes-fit s r) full (length s.rules) rows)

      answer_is : answer_of s start (begun_of (sizes_of s) start reach) ≡ done
      unfolding answer_of
      answer_is =
          let z = sizes_of s in
          let b = begun_of z start reach in
          let p : point_of b.state b.area ≡ start = asked z start reach (sizes-fit s r) full in
          sym (answer_rows s start b.state b.area rows {l = done}
          (ap (λ (x : List Float). rows_of (length s.coordinates) s.rules x start) (sym p)) refl
          (replied z start reach (sizes-fit s r) full (length s.rules) rows none (rules_fit s r)
          (rows_length (length s.coordinates) s.rules start start) d)
          refl)

      printed_begun : (n : ℕ) → printed_of (answers_to (suc n) s start (begun_of (sizes_of s) start reach))
          ≡ finish_of stop.Budget 0 0 start
      printed_begun n =
          ap printed_of
          (answers_more s start n (begun_of (sizes_of s) start reach) refl ∙ ap (answers_to n s start) answer_is
          ∙ answers_over s start n done refl)
          ∙ ap (finish_of stop.Budget 0 0)
          (point_left (sizes_of s) start reach (sizes-fit s r) full (length s.rules) rows)

      printed_start : printed_sheet (ok s) ≡ finish_of stop.Budget 0 0 start
      unfolding settled_of
      printed_start =
          ap (λ (b : AfterCall). printed_of (answers_to (suc 1100000) s start b))
          (begin_is s r (zeros AREA) (length-replicate AREA zero64))
          ∙ printed_begun 1100000

-- ---- the example

abbrev sheet : Sheet
sheet = record { coordinates = pos 3 ∷ pos 4 ∷ []; limit = 0; reach = 1; rules = [] }

read_is : read_of TEXT ≡ ok sheet
unfolding read_of sheet_of all_points_of natural_of points_from reader.point_of behind_points_of all_rules_of rules_from behind
    behind_key one_of two_of field_of number_of unsigned_of digits_from bind
read_is = refl

rows_inside : all_in_domain (rows_of 2 [] (point_at sheet.coordinates) (point_at sheet.coordinates)) 6 ≡ true
unfolding all_to rows_of list_to at next_up of_bits neg sub lt le eq of_int round
rows_inside = refl

printed_is : finish_of stop.Budget 0 0 (point_at sheet.coordinates) ≡ PRINTED
unfolding list_to at point_lines digits_to decimal_to to_bits add div of_int round
printed_is = refl

pub example : Example
example =
    ap printed_sheet read_is ∙ printed_start sheet (read_in_range TEXT sheet read_is) refl rows_inside ∙ printed_is
