-- One literal more.
use Rattle.std.proofs.Common.{arith, refl, ap, sym, subst, ◌∙◌, inl, inr, ◌≡◌, ◌≢◌, ℕ, ◌<◌, ◌≤◌, ◌+◌, List, [], ◌∷◌, ◌++◌, length, take, set, All, Contains, IsPermutation, ℤ, pos, ◌+ℤ◌, ◌≤ℤ◌, ◌<ℤ◌}
use Rattle.std.proofs.lemmas.Int.{ints}
use Rattle.std.proofs.lemmas.Bool.{cases_eq, cases_lt}
use Rattle.std.proofs.lemmas.List.{get_or_append_left, get_or_push, get_or_past, length_push, take_all}
use Rattle.std.proofs.lemmas.List.Elements.{All-push, Contains-get_or}
use Rattle.stn_core.specs.declared.literal.Literal.{Literal}
use Rattle.stn_core.specs.Answer.{IsBest, IsCycleAmong}
use Rattle.stn_core.specs.Limits.{points_limit, FitsValue}
use Rattle.stn_core.specs.Literal.{most_allowed, value_at, Holds, IsOver, literal_at}
use Rattle.stn_core.specs.Schedule.{IsSchedule, IsGreatestSchedule, IsInRange}
use Rattle.stn_core.proofs.Ranges.{in_range_of_greatest}
use Rattle.inc_paths.specs.declared.labels.Lowering.{Lowering}
use Rattle.inc_paths.specs.code.Trails.{Labelled, lowering, first_of}
use Rattle.inc_paths.specs.code.Trails.{first_in, older_in}
use Rattle.inc_paths.specs.code.Work.{gap_of, IsStart, IsKept, IsLowering, IsWaiting, IsPending}
use Rattle.inc_paths.proofs.Undoing.{first_of-none}
use Rattle.inc_paths.proofs.Lowers.{at_x, at_other, same_first, same_older, waiting_new, lowering_next, holds_still}
use Rattle.inc_paths.proofs.Scans.{nothing}

abbrev none : Literal
none = record { x = 0; y = 0; c = pos 0 }

pub range_at : (values : List ℤ) (p : ℕ) → All IsInRange values → IsInRange (value_at values p)
range_at values p all = elim (cases_lt p (length values)) [
  | inl lt ↦ all p (pos 0) lt
  | inr ge ↦ subst IsInRange (sym (get_or_past values p (pos 0) ge)) (record { low = omega (arith, ints); high = omega (arith, ints) })
]

-- a schedule of more literals is one of fewer
fewer : (points : ℕ) (old : List Literal) (new : Literal) (values : List ℤ) → IsSchedule points (old ++ new ∷ []) values → IsSchedule points old values
fewer points old new values s =
    let size = length_push old new in
    record {
      count = s.count;
      at_most_0 = s.at_most_0;
      holds = λ k d lt. subst (Holds values) (get_or_append_left old (new ∷ []) d k lt) (s.holds k d (omega arith));
    }

-- the literals are the old ones and the new one, and the values are the greatest schedule of the old ones
module _ (points : ℕ) (ls : List Literal) (new : Literal) (values : List ℤ) (few : points ≤ points_limit) (over : All (IsOver points) ls) (old : List Literal) (is : ls ≡ old ++ new ∷ []) (best : IsBest points old values) where
  size : length ls ≡ length old + 1
  size = ap (length {A = Literal}) is ∙ length_push old new

  at_front : (k : ℕ) → k < length old → literal_at ls k ≡ literal_at old k
  at_front k lt = ap (λ (xs : List Literal). literal_at xs k) is ∙ get_or_append_left old (new ∷ []) none k lt

  at_end : (k : ℕ) → k ≡ length old → literal_at ls k ≡ new
  at_end k e = ap (λ (xs : List Literal). literal_at xs k) is ∙ get_or_push old new none k (sym e)

  pub new_given : Contains ls new
  new_given = subst (Contains ls) (at_end (length old) refl) (Contains-get_or ls (length old) none (omega (arith, size)))

  pub new_over : IsOver points new
  new_over = subst (IsOver points) new_given.2 (over new_given.0 new new_given.1)

  pub x_in : new.x < length values
  x_in = let o = new_over.x_in in let c = best.greatest.schedule.count in omega arith

  pub y_in : new.y < length values
  y_in = let o = new_over.y_in in let c = best.greatest.schedule.count in omega arith

  pub fits : FitsValue (most_allowed values new)
  fits =
      let r = range_at values new.y best.range in
      let low = r.low in
      let high = r.high in
      let c_low = new_over.low in
      let c_high = new_over.high in
      omega (arith, ints, low, high, c_low, c_high)

  holds_old : (k : ℕ) → k < length old → Holds values (literal_at ls k)
  holds_old k lt = subst (Holds values) (sym (at_front k lt)) (best.greatest.schedule.holds k none lt)

  -- it holds
  pub best_more : Holds values new → IsBest points ls values
  best_more h = record {
    greatest = record {
      schedule = record {
        count = best.greatest.schedule.count;
        at_most_0 = best.greatest.schedule.at_most_0;
        holds = rw is (All-push (Holds values) old new best.greatest.schedule.holds h);
      };
      greatest = λ others s. best.greatest.greatest others (fewer points old new others (subst (λ (xs : List Literal). IsSchedule points xs others) is s));
    };
    range = best.range;
  }

  -- it is a loop at one point
  pub loop_cycle : new.x ≡ new.y → (value_at values new.y +ℤ new.c) <ℤ value_at values new.x → IsCycleAmong ls (new ∷ [])
  loop_cycle e bad =
      let same = ap (value_at values) e in
      record {
        negative = record { some = omega arith; closed = (new.x, (refl, sym e)); negative = omega (arith, ints, same, bad) };
        given = All-push (Contains ls) [] new (λ k d lt. absurd (omega arith)) new_given;
      }

  pub greatest_best : (found : List ℤ) → IsGreatestSchedule points ls found → IsBest points ls found
  greatest_best found g = record { greatest = g; range = in_range_of_greatest points ls found few over g }

  -- it fails
  module _ (apart : new.x ≢ new.y) (bad : (value_at values new.y +ℤ new.c) <ℤ value_at values new.x) where
    start_at : IsStart points ls new values
    start_at = record {
      over = over;
      given = new_given;
      apart = apart;
      fails = bad;
      holds = λ k lt ne. elim (cases_lt k (length old)) [
        | inl below ↦ holds_old k below
        | inr above ↦ absurd (ne (ap (λ (m : Literal). m.y) (at_end k (omega (arith, size)))))
      ];
      range = λ p. range_at values p best.range;
    }

    module _ (labels next : Labelled) (fall : ℕ)
        (v0 : labels.values ≡ values) (s0 : labels.start ≡ length labels.trail) (q0 : labels.queue ≡ [])
        (v : next.values ≡ set labels.values new.x (value_at labels.values new.y +ℤ new.c))
        (t : next.trail ≡ labels.trail ++ lowering labels.values new 0 ∷ [])
        (s : next.start ≡ labels.start)
        (q : IsPermutation ((fall, length labels.trail) ∷ labels.queue) next.queue) where
      within : labels.start ≤ length labels.trail
      within = omega (arith, s0)

      x_in_labels : new.x < length labels.values
      x_in_labels = rw v0 x_in

      pub first_is : first_in next ≡ values
      first_is =
          same_first labels next new 0 fall x_in_labels v t s q within
          ∙ first_of-none labels.start labels.trail labels.values (omega (arith, s0))
          ∙ v0

      pub older_is : older_in next ≡ labels.trail
      older_is = ap (λ (k : ℕ). take k next.trail) s ∙ same_older labels next new 0 fall x_in_labels v t s q within ∙ ap (λ (k : ℕ). take k labels.trail) s0 ∙ take_all (length labels.trail) labels.trail (omega arith)

      lowering_at : IsLowering points ls new values labels
      lowering_at = record {
        between = rw v0 (record {
          count = best.greatest.schedule.count;
          below = λ p. omega (arith, ints);
          above = λ p. omega (arith, ints, bad);
          bounds = λ others sched. best.greatest.greatest others (fewer points old new others (subst (λ (xs : List Literal). IsSchedule points xs others) is sched));
          kept = refl;
        });
        traced = λ k from lt. absurd (omega (arith, s0, from, lt));
        away = λ k from lt. absurd (omega (arith, s0, from, lt));
        queued = λ f place h. absurd (nothing (f, place) (subst (λ (xs : List (ℕ × ℕ)). Contains xs (f, place)) q0 h));
      }

      bad_labels : (value_at labels.values new.y +ℤ new.c) <ℤ value_at labels.values new.x
      bad_labels = rw v0 bad

      fine_labels : value_at values new.x ≤ℤ ((value_at labels.values new.y +ℤ new.c) +ℤ gap_of values new)
      fine_labels = rw v0 (omega (arith, ints))

      pub began_start : IsStart points ls new (first_in next)
      began_start = rw first_is start_at

      pub began_lowering : IsLowering points ls new (first_in next) next
      began_lowering = rw first_is (lowering_next points ls new values labels next new 0 fall new_over new_given apart bad_labels fine_labels lowering_at v t s q within refl (ap (λ (vs : List ℤ). value_at vs new.y) v0) (λ no. absurd (omega arith)) (omega arith))

      pub began_pending : IsPending ls next
      began_pending = λ k lt. elim (cases_eq (literal_at ls k).y new.x) [
        | inl here ↦ inr (subst (IsWaiting next) (sym here) (waiting_new labels next new 0 fall x_in_labels v t s q))
        | inr away ↦ elim (cases_lt k (length old)) [
          | inl below ↦ inl (holds_still points ls new values labels next new 0 fall new_over new_given apart bad_labels fine_labels lowering_at v t s q within refl (ap (λ (vs : List ℤ). value_at vs new.y) v0) (λ no. absurd (omega arith)) (omega arith) (literal_at ls k) away (rw v0 (holds_old k below)))
          | inr above ↦
              let own : Holds next.values new = (let f = at_x labels next new 0 fall x_in_labels v t s q in let g = at_other labels next new 0 fall x_in_labels v t s q new.y (λ e. apart (sym e)) in omega (arith, ints, f, g)) in
              inl (subst (Holds next.values) (sym (at_end k (omega (arith, size)))) own)
        ]
      ]

-- the trail leads back to where it began, whatever came after
pub kept_back : (count : ℕ) (values : List ℤ) (older : List Lowering) (next : Labelled) (trail : List Lowering) (found : List ℤ) → next.start ≡ count → first_in next ≡ values → older_in next ≡ older → IsKept next.start (first_in next) (older_in next) trail found → IsKept count values older trail found
kept_back count values older next trail found s f o k =
    let within = k.within in
    record {
      within = omega (arith, s, within);
      front = ap (λ (j : ℕ). take j trail) (sym s) ∙ k.front ∙ o;
      back = ap (λ (j : ℕ). first_of j trail found) (sym s) ∙ k.back ∙ f;
    }
