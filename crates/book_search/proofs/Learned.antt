-- What was learned on the way to a verdict, and with what lemmas a book may open.
use Rattle.std.proofs.Common.{arith, ◌≡◌, ◌<◌, ◌≤◌, ◌+◌, ◌-◌, ℕ, ℤ, List, [], ◌∷◌, ◌++◌, length, map, take, get_or, All, Bool, true, false, Option, Some, None, refl, subst, sym, ap, ◌∙◌, append-nil, append_assoc}
use Rattle.std.specs.Prelude.{is_some}
use Rattle.std.proofs.lemmas.List.{take_more, take_all}
use Rattle.std.proofs.lemmas.List.Elements.{All-nil}
use mathlib.Core.List.{IsPrefix}
use Rattle.stn_core.specs.declared.problem.Problem.{Problem}
use Rattle.refute_tree.specs.declared.lemma.Lemma.{Lemma}
use Rattle.refute_tree.specs.Batches.{AreRefuted, LemmaIsOver, moved}
use Rattle.book_core.specs.declared.event.Event.{Event}
use Rattle.book_core.specs.declared.event.Event.TheVariants.{Take, Deliver, Release}
use Rattle.book_core.specs.declared.event.Outcome.TheVariants.{Found, Shut, Split, Open}
use Rattle.book_core.specs.declared.verdict.Verdict.{Verdict}
use Rattle.book_core.specs.declared.verdict.Verdict.TheVariants.{Sat, Unsat}
use Rattle.book_core.specs.Books.{State, IsOpening, after, first_found, opened}
use Rattle.book_core.specs.Runs.{Ledger, replayed_from, state_of}
use Rattle.book_core.specs.Verdicts.{AgreesWith}
use Rattle.book_core.proofs.Runs.{replayed_push}
use Rattle.book_search.specs.Learned.{learned_by, BeginsWith}
use Rattle.book_search.specs.code.Schedules.{brings_schedule, lemmas_where}

pub opens_with : {A : Type 0} (value : A → Lemma) (problem : Problem) (xs : List A) (lemmas : List Lemma) → map value xs ≡ lemmas → AreRefuted problem.points problem.clauses [] lemmas → All (LemmaIsOver problem.points) lemmas → IsOpening problem (map value xs)
opens_with value problem xs lemmas e refuted over = subst (IsOpening problem) (sym e) (record { refuted = refuted; over = over })

-- with none
pub opens_with_none : {A : Type 0} (value : A → Lemma) (problem : Problem) (xs : List A) → xs ≡ [] → IsOpening problem (map value xs)
opens_with_none value problem xs e = opens_with value problem xs [] (ap (map value) e) tt (All-nil (LemmaIsOver problem.points))

-- ---- whether a schedule was found

found_same : (s : State) (e : Event) → brings_schedule e ≡ false → is_some (after s e).found ≡ is_some s.found
found_same s (Take seat taken) h = refl
found_same s (Deliver seat id batch (Found values)) h = absurd cc
found_same s (Deliver seat id batch (Shut j)) h = refl
found_same s (Deliver seat id batch (Split l)) h = refl
found_same s (Deliver seat id batch Open) h = refl
found_same s (Release seat id) h = refl

found_first : (found : Option (List ℤ)) (values : List ℤ) → is_some (first_found found values) ≡ true
found_first None values = refl
found_first (Some first) values = refl

found_here : (s : State) (e : Event) → brings_schedule e ≡ true → is_some (after s e).found ≡ true
found_here s (Take seat taken) h = absurd cc
found_here s (Deliver seat id batch (Found values)) h = found_first s.found values
found_here s (Deliver seat id batch (Shut j)) h = absurd cc
found_here s (Deliver seat id batch (Split l)) h = absurd cc
found_here s (Deliver seat id batch Open) h = absurd cc
found_here s (Release seat id) h = absurd cc

-- whether one was found once so many of a book's events have come
abbrev pub is_found : Ledger → List Event → ℕ → Bool
is_found b events count = is_some (replayed_from (opened b.opening) (take count events)).found

pub found_all : (b : Ledger) (events : List Event) → events ≡ b.journal → is_found b events (length events) ≡ is_some (state_of b).found
found_all b events e = ap (λ (es : List Event). is_some (replayed_from (opened b.opening) es).found) (take_all (length events) events (omega arith) ∙ e)

found_none : (b : Ledger) (events : List Event) → is_found b events 0 ≡ false
found_none b [] = refl
found_none b (e ∷ events) = refl

one_more : (b : Ledger) (events : List Event) (k : ℕ) (d : Event) → k < length events → is_found b events (k + 1) ≡ is_some (after (replayed_from (opened b.opening) (take k events)) (get_or events k d)).found
one_more b events k d within =
    ap (λ (es : List Event). is_some (replayed_from (opened b.opening) es).found) (take_more events k d within)
    ∙ ap (λ (s : State). is_some s.found) (replayed_push (opened b.opening) (take k events) (get_or events k d))

-- and by the newest of these, of which the others come before
module _ (b : Ledger) (events : List Event) (left : ℕ) (d : Event) (some : 0 < left) (within : left ≤ length events) (is : d ≡ get_or events (left - 1) d) (known : is_found b events left ≡ is_some (state_of b).found) where
  abbrev before : State
  before = replayed_from (opened b.opening) (take (left - 1) events)

  newest : is_found b events left ≡ is_some (after before d).found
  newest =
      let last : left ≡ left - 1 + 1 = omega (arith, some) in
      ap (is_found b events) last ∙ one_more b events (left - 1) d (omega (arith, some, within)) ∙ ap (λ (e : Event). is_some (after before e).found) (sym is)

  pub found_before : brings_schedule d ≡ false → is_found b events (left - 1) ≡ is_some (state_of b).found
  found_before h = sym (newest ∙ found_same before d h) ∙ known

  pub found_now : brings_schedule d ≡ true → true ≡ is_some (state_of b).found
  found_now h = sym (newest ∙ found_here before d h) ∙ known

pub found_never : (b : Ledger) (events : List Event) (left : ℕ) → left ≡ 0 → is_found b events left ≡ is_some (state_of b).found → false ≡ is_some (state_of b).found
found_never b events left e known = sym (found_none b events) ∙ ap (is_found b events) (sym e) ∙ known

-- ---- what stands beside a verdict

pub none_learned : {A : Type 0} (value : A → Lemma) (xs : List A) (found : Bool) (all : List Lemma) → xs ≡ [] → found ≡ false → map value xs ≡ lemmas_where found all
none_learned value xs found all e h = ap (map value) e ∙ ap (λ (b : Bool). lemmas_where b all) (sym h)

pub all_learned : {A : Type 0} (value : A → Lemma) (xs : List A) (found : Bool) (all : List Lemma) → map value xs ≡ all → found ≡ true → map value xs ≡ lemmas_where found all
all_learned value xs found all e h = e ∙ ap (λ (b : Bool). lemmas_where b all) (sym h)

pub learned_is : (s : State) (verdict : Verdict) (lemmas : List Lemma) → lemmas ≡ lemmas_where (is_some s.found) s.lemmas → AgreesWith s verdict → lemmas ≡ learned_by verdict s.lemmas
learned_is s (Sat values) lemmas e agrees = e ∙ ap (λ (found : Option (List ℤ)). lemmas_where (is_some found) s.lemmas) agrees
learned_is s (Unsat refutation) lemmas e agrees = e ∙ ap (λ (found : Option (List ℤ)). lemmas_where (is_some found) s.lemmas) agrees

-- events only add lemmas
lemmas_first : (s : State) (events : List Event) → IsPrefix s.lemmas (replayed_from s events).lemmas
lemmas_first s [] = ([], append-nil s.lemmas)
lemmas_first s (Take seat taken ∷ events) = lemmas_first (after s (Take seat taken)) events
lemmas_first s (Deliver seat id batch outcome ∷ events) =
    let more : List Lemma = (moved (length s.lemmas) batch).lemmas in
    let rest = lemmas_first (after s (Deliver seat id batch outcome)) events in
    (more ++ rest.0, sym (append_assoc s.lemmas more rest.0) ∙ rest.1)
lemmas_first s (Release seat id ∷ events) = lemmas_first (after s (Release seat id)) events

pub begins_with : (b : Ledger) (verdict : Verdict) (lemmas : List Lemma) → lemmas ≡ learned_by verdict (state_of b).lemmas → BeginsWith b.opening verdict lemmas
begins_with b (Sat values) lemmas e = subst (IsPrefix b.opening) (sym e) (lemmas_first (opened b.opening) b.journal)
begins_with b (Unsat refutation) lemmas e = e

pub begins_there : (given opening : List Lemma) (verdict : Verdict) (lemmas : List Lemma) → given ≡ opening → BeginsWith given verdict lemmas → BeginsWith opening verdict lemmas
begins_there given opening verdict lemmas e h = subst (λ (first : List Lemma). BeginsWith first verdict lemmas) e h
