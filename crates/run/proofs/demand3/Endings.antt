-- How a call ends: a finish, a question or a refusal, each with the invariant for the history that it is entered in,
-- and the claim. The lists of the memory have just the numbers in use, so that the next call reads them back as they
-- are.
use Rattle.run.specs.Refusal.{number_of, refusal_at}
use Rattle.run.proofs.LengthsKept.{arithmetic_number}
use Rattle.std.specs.Prelude.{None, Option, Some}
use Prim.Native.Nat.{ℕ, suc, ◌+◌, ◌*◌, ◌≤◌, ◌<◌, zero-le}
use mathlib.Core.Bool.{Bool, true, false, not, ◌||◌}
use mathlib.Core.Logic.{◌⊎◌, inl, inr}
use mathlib.Core.Path.{◌≡◌, refl, sym, ap, ◌∙◌, subst}
use mathlib.Core.List.{List, [], ◌∷◌}
use native.Mathlib.Omega.{arith}
use borrow.Author.Tests.{lt-ltb, le-leb, eq-eqb, ne_eqb}
use lib.Dec.{T, eqb}
use lib.Ieee.{Float}
use lib.ListN.{length}
use Rattle.interval.specs.Result.{Res, ok, refused}
use Rattle.interval.specs.declared.Scalar.{Scalar}
use Rattle.interval.specs.Scalar.{pick}
use Rattle.run.specs.Area.{HasRoom, used_in, Memory, memory_of, area_of, only_standing}
use Rattle.run.specs.Endings.{AfterSlots, finish, refuse, question, or_refuse}
use Rattle.run.specs.State.{over, asking}
use Rattle.run.specs.Checks.{valid, phase_fits}
use Rattle.run.specs.Limits.{CONSTRAINTS}
use Rattle.run.specs.Calls.{point_of}
use Rattle.run.specs.Demand.{
  Run,
  CallResult,
  History,
  In,
  AnsweredRows,
  Answered,
  Lower,
  Progress,
  Halving,
  Undecided,
  entered,
  changed,
  standing_by,
  is_refused,
  Between,
  Claim,
}
use Rattle.run.specs.declared.state.Event.TheVariants as event
use Rattle.run.specs.declared.state.Kind.{Kind}
use Rattle.run.specs.declared.state.Kind.TheVariants as kind
use Rattle.run.specs.declared.state.Sizes.{Sizes}
use Rattle.run.specs.declared.state.State.{State}
use Rattle.run.specs.declared.state.Stop.{Stop}
use Rattle.run.specs.program.Area.{Limits, lengths_of}
use Rattle.run.proofs.Booleans.{clash}
use Rattle.run.proofs.CheckLaws.{size_bounds, ContentBounds, content_bounds, contents-fit}
use Rattle.run.proofs.AreaRead.{limits_from, area_long, memory_back}
use Rattle.run.proofs.RefusalLaws.{Yields, gives, refuses}
use Rattle.run.proofs.DampingGrowth.{growth_few, growth_positive}
use Rattle.run.proofs.demand3.Invariant.{
  FittingRows,
  landed_answer,
  Pair,
  Pairs,
  once_few,
  CountBounds,
  Sound,
  Tried,
  Phased,
  Inv,
  CallContext,
  Halves,
  Forward,
  Way,
  unmoved,
  moved,
  Consistent,
  played_to,
  After,
}

-- ---- number 4 lets it pass

pub sound_valid : (st : State) → Sound st → valid st ≡ true
unfolding valid
sound_valid st s =
    rw (
      s.sizes-fit,
      s.contents-fit,
      le-leb _ _ s.within,
      le-leb _ _ s.few_turned,
      le-leb _ _ s.few_asked,
      le-leb _ _ s.few_corrections,
    ) s.phase-fits

-- what holds between two calls
pub inv_between : (z : Sizes) (h : History) (r : Run) → Inv z h r → Between z h r
unfolding memory_of
inv_between z h r v =
    record {
      counted = v.counted;
      limited = rw (← v.sizes_are, ← v.counted) v.sound.within;
      few_turn_downs = rw (← v.counted) v.sound.few_turned;
      few_questions = rw (← v.sizes_are) v.sound.few_asked;
      sound = sound_valid r.state v.sound;
      standing_point = rw (← v.sizes_are) v.point;
    }

-- ---- pairs, by other rows

pub pairs_rows :
    (z : Sizes) (rows rows' : ℕ → AnsweredRows) (f : List Float) (es : List ℕ) →
    ((e : ℕ) → In e es → rows e ≡ rows' e) → Pairs z rows f es → Pairs z rows' f es
unfolding In
pairs_rows z rows rows' f [] h p = tt
pairs_rows z rows rows' f (e ∷ es) h p = (
  subst (λ (x : AnsweredRows). Pair z x f (length es)) (h e (inl refl)) p.0,
  pairs_rows z rows rows' f es (λ d i. h d (inr i)) p.1,
)

-- ---- one more than the other

pub either_after : (S : CallContext) (z : Sizes) (b : Bool) (o o' : AfterSlots) → (b ≡ true → After S z o)
    → (b ≡ false → After S z o') → After S z (pick b o o')
either_after S z true o o' h k = h refl
either_after S z false o o' h k = k refl

pub refuse_after : (S : CallContext) (z : Sizes) (st : State) (w : Memory) (k : ℕ) → T (eqb k 5 || eqb k 6)
    → After S z (refuse st w k)
refuse_after S z st w k h e =
    let n = number_of (refusal_at k) in clash (eqb n 5 || eqb n 6) (rw (arithmetic_number k h) h) e

-- what may be refused, and what follows it
pub or_refuse_after : (S : CallContext) (z : Sizes) (st : State) (w : Memory) {A : Type 0} {P : A → Type 0} (x : Res A)
    (next : A → AfterSlots) → Yields P x → ((a : A) → x ≡ ok a → P a → After S z (next a))
    → After S z (or_refuse st w x next)
or_refuse_after S z st w (ok a) next (gives p) h = h a refl p
or_refuse_after S z st w (refused k) next (refuses p) h = refuse_after S z st w k p

-- ---- the history after an answer that names what stands

module _ (S : CallContext) (z : Sizes) (standing : ℕ) (before : List ℕ) (last : Option Scalar) (mu : Scalar) where
  record Entered (p : CallResult) : Type 0 where
    pub changes_are : (entered S.history S.run S.call p).changes ≡ length before
    pub stood_are : (entered S.history S.run S.call p).stood ≡ standing ∷ before
    pub mu_is : (entered S.history S.run S.call p).mu ≡ mu
    pub new_stood :
        T (changed S.history p.event) →
        (entered S.history S.run S.call p).stood ≡ standing ∷ S.history.stood
    pub forward : T (changed S.history p.event) → Forward S z standing last

  enter :
      Way S z standing before last mu →
      (p : CallResult) → standing_by p.event S.history.standing ≡ standing → Entered p
  enter (unmoved q b m) p e =
      let c : changed S.history p.event ≡ false = ap not (eq-eqb _ _ (e ∙ q)) in
      record {
        changes_are = rw (c, b) (omega (arith, S.changes_are));
        stood_are = rw (c, q, b) S.stood_is;
        mu_is = rw (c, m);
        new_stood = λ t. clash (changed S.history p.event) t c;
        forward = λ t. clash (changed S.history p.event) t c;
      }
  enter (moved n b m f) p e =
      let c : changed S.history p.event ≡ true = ap not (ne_eqb _ _ (λ i. n (sym e ∙ i))) in
      record {
        changes_are = rw (c, b) (omega (arith, S.changes_are));
        stood_are = rw (c, e, b) (ap (λ (l : List ℕ). standing ∷ l) S.stood_is);
        mu_is = rw (c, m);
        new_stood = λ t. rw (c, e);
        forward = λ t. f;
      }

-- each change is exact progress or halves, of points that were answered with rows
module _ (S : CallContext) (z : Sizes) (p : CallResult) (accepts : is_refused p.event ≡ false) where
  abbrev after : History
  after = entered S.history S.run S.call p

  abbrev now : ℕ
  now = standing_by p.event S.history.standing

  rows_entered : S.rows ≡ after.rows
  rows_entered = sym (S.enters p.event accepts)

  goes_forward :
      Forward S z now p.run.state.last →
      Progress z S.history after ⊎ Halving z S.history after S.run p.run
  goes_forward f = by f.exact
    where
      by :
          ((e : ℕ) → In e S.history.stood → Lower z (S.rows e) (S.rows now))
          ⊎ Halves S z now p.run.state.last
          → Progress z S.history after ⊎ Halving z S.history after S.run p.run
      by (inl f) = inl (λ e i. subst (λ (rows : ℕ → AnsweredRows). Lower z (rows e) (rows now)) rows_entered (f e i))
      by (inr h) =
          inr (record {
            not_damped = h.not_damped;
            undecided =
                subst (λ (rows : ℕ → AnsweredRows). Undecided z (rows S.history.standing) (rows now)) rows_entered
                h.undecided;
            shorter = h.shorter;
          })

  was_answered :
      Forward S z now p.run.state.last →
      after.stood ≡ now ∷ S.history.stood → (e : ℕ) → In e after.stood → Answered z (after.rows e)
  was_answered f q e i =
      subst (λ (rows : ℕ → AnsweredRows). Answered z (rows e)) rows_entered (f.answered e (subst (In e) q i))

-- ---- points

-- the point that `point` gives, of a run that number 4 lets pass
module _ (st : State) (a : List Float) (v : valid st ≡ true) (l : HasRoom st.sizes a) where
  pub asked_given : {k : Kind} → st.phase ≡ Some k → point_of st a ≡ (memory_of st a).asked
  unfolding point_of memory_of
  asked_given e = rw (v, eq-eqb _ _ l, e)

  pub standing_given : st.phase ≡ None → point_of st a ≡ (memory_of st a).standing
  unfolding point_of memory_of
  standing_given e = rw (v, eq-eqb _ _ l, e)

pub sound_limits : {st : State} → Sound st → Limits st
sound_limits {st} s =
    limits_from st (size_bounds st.sizes s.sizes-fit) (content_bounds st.contents s.contents-fit)
    s.within

-- ---- a finish

-- of a state of which only the counts and the point are known
pub record Ending (S : CallContext) (st : State) (w : Memory) (mu : Scalar) : Type 0 where
  pub before : List ℕ
  pub way : Way S st.sizes st.counts.standing before st.last mu
  pub before_many : length before ≡ st.counts.iterations
  pub point : w.standing ≡ S.history.points st.counts.standing
  pub sound : Sound (over st)

pub finish_counts :
    (S : CallContext) (st : State) (w : Memory) (s : Stop) (mu : Scalar) →
    Ending S st w mu → After S st.sizes (finish st w s)
finish_counts S st w s mu E q e =
    let z = st.sizes in
    let p = played_to (finish st w s) in
    let l = sound_limits E.sound in
    let d = enter S z st.counts.standing E.before st.last mu E.way p refl in
    let counted : st.counts.iterations ≡ (entered S.history S.run S.call p).changes =
    sym (d.changes_are ∙ E.before_many) in
    let a = area_of z (only_standing w) in
    let point : (memory_of (over st) a).standing ≡ S.history.points st.counts.standing =
    ap (λ (m : Memory). m.standing) (memory_back (over st) (only_standing w) l e) ∙ E.point in
    let given : point_of (over st) a ≡ S.history.points st.counts.standing =
    standing_given (over st) a (sound_valid (over st) E.sound) (area_long (over st) (only_standing w) l e) refl
    ∙ point in (
      record { sizes_are = refl; sound = E.sound; counted = counted; point = point; phased = tt },
      record {
        reported = λ e i t n q. (
          let i-is : i ≡ st.counts.iterations = cc in i-is ∙ counted,
          let t-is : t ≡ st.search.turned_down = cc in t-is,
        );
        finish_point = λ e i t n q. given;
        answered = λ c. was_answered S z p refl (d.forward c) (d.new_stood c);
        forward = λ c. goes_forward S z p refl (d.forward c);
      },
    )

pub finish_after :
    (S : CallContext) (st : State) (w : Memory) (s : Stop) (mu : Scalar) →
    Consistent S st mu w →
    st.search.turned_down ≤ 1100 * (st.counts.iterations + 1) → After S st.sizes (finish st w s)
finish_after S st w s mu v few =
    finish_counts S st w s mu
    (record {
      before = v.before;
      way = v.way;
      before_many = v.before_many;
      point = v.point;
      sound = record {
        sizes-fit = v.sizes-fit;
        contents-fit = refl;
        within = v.within;
        few_turned = few;
        few_asked = v.few_asked;
        few_corrections = v.few_corrections;
        phase-fits = refl;
      };
    })

-- ---- a question

no_finish : {A : Type 0} {k i t s n : ℕ} {e : Stop} {q : _} → event.Question k q n ≡ event.Finish e i t s → A
no_finish p = absurd (let z : ◌≡◌ {A = ℕ} 0 1 = cc in omega arith)

module _ (S : CallContext) (st : State) (w : Memory) (k : Kind) (corrections since : ℕ) (mu : Scalar)
    (v : Consistent S st mu w) (landed_few : st.contents.landed_m ≤ CONSTRAINTS)
    (count_bounds : CountBounds mu st.counts st.search since)
    (below_limit : st.counts.iterations < st.sizes.limit)
    (lengths : lengths_of w ≡ used_in (asking st k corrections)) where
  st' : State
  st' = asking st k corrections

  p : CallResult
  p = played_to (question st w k corrections)

  h' : History
  h' = entered S.history S.run S.call p

  entry : Entered S st.sizes st.counts.standing v.before st.last mu p
  unfolding p
  entry = enter S st.sizes st.counts.standing v.before st.last mu v.way p refl

  rows_are : h'.rows ≡ S.rows
  unfolding h' p
  rows_are = S.enters p.event refl

  -- a point that was asked before is still known under its number
  older : (e : ℕ) → e ≤ st.counts.question → h'.points e ≡ S.history.points e
  unfolding h' p
  older e l = rw (ne_eqb e (st.counts.question + 1) (λ i. omega arith))

  -- the standing answer's m was checked with its rows
  contents_few : ContentBounds st.contents
  contents_few = record { standing = v.stands.rowed.fitting.few; landed = landed_few }

  asked_sound : since ≤ 4 → corrections ≤ 4 → phase_fits st' (Some k) ≡ true → Sound st'
  unfolding st'
  asked_sound few c q =
      let g = growth_few count_bounds.growth in
      let b = once_few st.search.plain in
      let t = count_bounds.turned in
      let n = count_bounds.few in
      let turned : st.search.turned_down ≤ 1049 * (st.counts.iterations + 1) = omega arith in
      record {
        sizes-fit = v.sizes-fit;
        contents-fit = contents-fit contents_few;
        within = v.within;
        few_turned = omega arith;
        few_asked = omega arith;
        few_corrections = c;
        phase-fits = q;
      }

  asked_bounds : (n : ℕ) → suc since ≤ n → CountBounds h'.mu st'.counts st.search n
  unfolding st' h'
  asked_bounds n l =
      subst (λ (m : Scalar). CountBounds m (asking st k corrections).counts st.search n) (sym entry.mu_is)
      (record {
        growths = count_bounds.growths;
        growth = count_bounds.growth;
        fresh = count_bounds.fresh;
        turned = count_bounds.turned;
        few = let q = count_bounds.few in omega arith;
      })

  -- the next call reads what this one leaves
  limits : Limits (asking st k corrections)
  limits =
      limits_from (asking st k corrections) (size_bounds st.sizes v.sizes-fit) contents_few v.within

  read_back : memory_of st' (area_of st.sizes w) ≡ w
  unfolding st'
  read_back = memory_back (asking st k corrections) w limits lengths

  -- the point that is asked is the one that `point` gives
  asked_back : valid st' ≡ true → (memory_of st' (area_of st.sizes w)).asked ≡ h'.points (st.counts.question + 1)
  unfolding p st' h'
  asked_back sound =
      rw (eq-eqb (st.counts.question + 1) (st.counts.question + 1) refl)
      (sym (asked_given st' (area_of st.sizes w) sound (area_long st' w limits lengths) refl))

  asked_tried :
      (n top : ℕ) →
      Sound st' →
      suc since ≤ n → ((e : ℕ) → In e (st.counts.standing ∷ v.before) → e < top) → Tried h' p.run n top
  unfolding p st' h'
  asked_tried n top sound l below =
      record {
        before = v.before;
        asked_is = refl;
        standing_is = refl;
        stood_is = entry.stood_are;
        before_many = v.before_many;
        below = λ e i. below e (subst (In e) entry.stood_are i);
        count_bounds = asked_bounds n l;
        below_limit = below_limit;
        stands = rw (read_back, rows_are) v.stands;
        asked_point = asked_back (sound_valid st' sound);
      }

  landed_back :
      (n : ℕ) →
      FittingRows st.sizes (S.rows n) (landed_answer st w) →
      FittingRows st.sizes (h'.rows n) (landed_answer st (memory_of st' (area_of st.sizes w)))
  landed_back n rowed = rw (read_back, rows_are) rowed

  asked_after :
      Sound st' →
      Phased h' p.run (Some k) →
      Inv st.sizes h' p.run × Claim st.sizes S.history h' S.run p
  unfolding p st' h' older
  asked_after sound phased =
      let z = st.sizes in
      let counted : st.counts.iterations ≡ (entered S.history S.run S.call p).changes =
      sym (entry.changes_are ∙ v.before_many) in
      let old = older st.counts.standing (v.below st.counts.standing (unfold In in inl refl)) in (
        record {
          sizes_are = refl;
          sound = sound;
          counted = counted;
          point = ap (λ (m : Memory). m.standing) read_back ∙ v.point ∙ sym old;
          phased = phased;
        },
        record {
          reported = λ e i t n p. no_finish p;
          finish_point = λ e i t n p. no_finish p;
          answered = λ c. was_answered S z p refl (entry.forward c) (entry.new_stood c);
          forward = λ c. goes_forward S z p refl (entry.forward c);
        },
      )

pub trial_after :
    (S : CallContext) (st : State) (w : Memory) (mu : Scalar) →
    Consistent S st mu w →
    st.contents.landed_m ≤ CONSTRAINTS →
    CountBounds mu st.counts st.search 0 →
    st.counts.iterations < st.sizes.limit → After S st.sizes (question st w kind.Trial 0)
trial_after S st w mu v landed_few count_bounds lim q e =
    unfold st' p h' in
    let sound =
    asked_sound S st w kind.Trial 0 0 mu v landed_few count_bounds lim e zero-le zero-le
    (rw (lt-ltb _ _ lim) (growth_positive count_bounds.growth)) in
    asked_after S st w kind.Trial 0 0 mu v landed_few count_bounds lim e sound
    (asked_tried S st w kind.Trial 0 0 mu v landed_few count_bounds lim e 1 (st.counts.question + 1) sound
    (omega arith) (λ e i. let h = v.below e i in omega arith))

pub correction_after :
    (S : CallContext) (st : State) (w : Memory) (mu : Scalar) (v : Consistent S st mu w) →
    CountBounds mu st.counts st.search (1 + st.counts.corrections) →
    st.counts.iterations < st.sizes.limit →
    st.counts.corrections ≤ 3 →
    FittingRows st.sizes (S.rows st.counts.landed) (landed_answer st w) →
    w.landed ≡ S.history.points st.counts.landed →
    st.counts.landed ≤ st.counts.question →
    ((e : ℕ) → In e (st.counts.standing ∷ v.before) → e < st.counts.landed) →
    After S st.sizes (question st w kind.Correction st.counts.corrections)
correction_after S st w mu v count_bounds lim few rows point asked below q e =
    let n = st.counts.corrections in
    let k = st.counts.landed in
    let m = rows.fitting.few in
    let rowed = landed_back S st w kind.Correction n (1 + n) mu v m count_bounds lim e k rows in
    let back = read_back S st w kind.Correction n (1 + n) mu v m count_bounds lim e in
    let old = older S st w kind.Correction n (1 + n) mu v m count_bounds lim e k asked in
    unfold st' p h' in
    let sound =
    asked_sound S st w kind.Correction n (1 + n) mu v m count_bounds lim e (omega arith) (omega arith)
    (rw (lt-ltb _ _ lim) (growth_positive count_bounds.growth)) in
    asked_after S st w kind.Correction n (1 + n) mu v m count_bounds lim e sound
    (record {
      tried =
          asked_tried S st w kind.Correction n (1 + n) mu v m count_bounds lim e (2 + n) k sound (omega arith) below;
      landed_below = omega arith;
      few = few;
      landed-rows = rowed;
      landed_point = ap (λ (m : Memory). m.landed) back ∙ point ∙ sym old;
    })
