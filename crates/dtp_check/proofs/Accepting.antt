-- A script with the certificate that was written of it is accepted.
use Rattle.std.proofs.Common.{refl, sym, ap, subst, arith, ◌∙◌, ◌≡◌, ◌≢◌, ◌≤◌, ◌+◌, ℕ, List, [], ◌∷◌, ◌++◌, length, take, map, drop, Bool, true, false, Option, Some, None, Result, Ok, Err, ℤ}
use Rattle.std.specs.Prelude.{if◌then◌else◌, option_map, All}
use Rattle.std.specs.List.{AllByRecursion}
use Rattle.std.proofs.lemmas.List.Elements.{All-nil, All-cons}
use Rattle.std.proofs.lemmas.List.{append_assoc, append-nil, drop-append-le, length-drop, take_all}
use Rattle.smt_lex.specs.Grammar.{is_gap}
use Rattle.smt_sexpr.specs.Tree.{Sexpr, Items, leaf, list}
use Rattle.smt_sexpr.specs.Reading.{Spells, finished, Outcomes}
use Rattle.smt_sexpr.specs.Commands.{Commands, Ending, ended, stopped, unread, EndsAs}
use Rattle.stn_core.specs.declared.literal.Literal.{Literal}
use Rattle.stn_core.specs.declared.named.NamedValue.{NamedValue}
use Rattle.refute_tree.specs.declared.lemma.Lemma.{Lemma}
use Rattle.refute_tree.specs.Trees.{IsRefutation}
use Rattle.cert_text.specs.declared.entry.Version.{Version}
use Rattle.cert_text.specs.declared.entry.Version.TheVariants.{One, Two}
use Rattle.cert_text.specs.declared.entry.FileEntry.{FileEntry}
use Rattle.cert_text.specs.declared.entry.Entry.{Entry}
use Rattle.cert_text.specs.declared.entry.Entry.TheVariants.{Sat, Unsat, Best, Unbounded}
use Rattle.cert_text.specs.Form.{header_sexpr, file_entry_sexpr, file_entry_of, end_sexpr, line_of, shown_by}
use Rattle.kept_lemmas.specs.declared.item.Item.{Item}
use Rattle.kept_lemmas.specs.declared.item.Item.TheVariants.{Own}
use Rattle.kept_lemmas.specs.Entries.{Placed, shelf_of, AreRight}
use Rattle.kept_lemmas.specs.Facts.{Facts, Shelf, facts_of}
use Rattle.kept_lemmas.specs.Laws.{ShelfGoesOn}
use Rattle.cert_text.specs.Laws.{OwnText, OwnFits}
use Rattle.lemma_shelf.specs.Laws.{ItemsFlawLaw, OwnFlawLaw}
use Rattle.cert_read.specs.Certificates.{certificate, ReadsCertificate}
use Rattle.cert_read.specs.Written.{entries_text, certificate_text, IsClosedGap, FileEntryFits}
use Rattle.idl_term.specs.Contexts.{Context, environment}
use Rattle.idl_term.specs.Scopes.{sorts_of}
use Rattle.idl_term.specs.Values.{Named, truth, value}
use Rattle.smt_script.specs.declared.error.Refusal.{Refusal}
use Rattle.smt_script.specs.declared.state.Effect.{Effect}
use Rattle.smt_script.specs.declared.state.Effect.TheVariants.{Ask, Exit, Tell}
use Rattle.smt_script.specs.declared.objective.Objective.{Objective}
use Rattle.smt_script.specs.declared.state.Question.{Question}
use Rattle.smt_script.specs.declared.state.Question.TheVariants.{CheckSat, Minimize}
use Rattle.smt_script.specs.declared.state.Notice.{Notice}
use Rattle.smt_script.specs.Commands.{naming_command, changing_command, asking_command, is_unsupported, left_out_of, command_of, is_exit}
use Rattle.smt_sexpr.specs.Laws.{OneOutcome, ListReadsOn, ListIsWithin}
use Rattle.cert_read.specs.Laws.{CertificateReadsBack}
use Rattle.cert_check.specs.Laws.{FlawLaw}
use Rattle.smt_script.specs.Laws.{OnlyExitEnds}
use Rattle.smt_script.specs.States.{State, start_state, Step, after, settled}
use Rattle.smt_answer.specs.declared.kind.Kind.{Kind}
use Rattle.script_walk.specs.Questions.{refusal_of}
use Rattle.script_walk.specs.Course.{Place, start_with, Turn, behind_told, behind_answer, asked, taken, by_effect, by_command, last_turn, course, status_of}
use Rattle.script_walk.proofs.Turns.{told_turn, answered_turn, exit_turn}
use Rattle.dtp_entry.specs.declared.report.Report.TheVariants.{Certificate}
use Rattle.smt_script.specs.declared.state.Satisfiability.{Satisfiability}
use Rattle.dtp_entry.specs.Bests.{Satisfies}
use Rattle.dtp_entry.specs.Entries.{points_of, problem_of, problem_below, verdict_of, IsLeast, IsUnbounded, IsRight, IsEntryOf}
use Rattle.dtp_entry.specs.Keeping.{StandIn, facts_shown}
use Rattle.dtp_entry.specs.Transcripts.{IsLine, IsWritten, IsLegal, IsReport}
use Rattle.dtp_entry.proofs.Verdicts.{sorts_count}
use Rattle.dtp_check.specs.declared.judgement.EntryFlaw.{EntryFlaw}
use Rattle.dtp_check.specs.declared.judgement.EntryFlaw.TheVariants.{Flawed}
use Rattle.dtp_check.specs.declared.judgement.Judgement.TheVariants.{Accepted}
use Rattle.dtp_check.specs.declared.script_part.PartEnd.{PartEnd}
use Rattle.dtp_check.specs.declared.script_part.PartEnd.TheVariants as part
use Rattle.dtp_check.specs.Judged.{EndsPart, ExitEnds, FollowsExit, ScriptPart, IsApart, is_true, first_false, first_of_two, values_flaw, refutation_flaw, least_flaw, entry_flaw, placed, told_by, judged_entry, judged_turns, IsJudged}
use Rattle.dtp_check.specs.Laws.{CertifiedIsAccepted}
use Rattle.dtp_check.specs.Whole.{IsWholeFrom, IsWhole}
use Rattle.dtp_check.proofs.Reading.{same_sexpr, not_finished}
use Rattle.dtp_check.proofs.FreeSets.{IsSetRight, right_set}
use Rattle.dtp_check.proofs.Leasts.{none_of_two, right_least}
use Rattle.dtp_check.proofs.Judging.{none_of_wrong_sort, of_sorts_count, values_flaw_is, course_none, not_exit, told_apart, ask_apart, step_of}

-- ---- a right entry has no flaw

none_false : (env : List Named) (k : ℕ) (ts : List Sexpr) → AllByRecursion (λ (t : Sexpr). value env t ≡ truth true) ts → first_false env k ts ≡ None
none_false env k [] h = refl
none_false env k (t ∷ ts) h =
    let e : is_true (value env t) ≡ true = ap is_true h.0 in
    ap (λ (b : Bool). if b then first_false env (k + 1) ts else Some k) e ∙ none_false env (k + 1) ts h.1

values_none : (c : Context) (values : List NamedValue) → Satisfies c values → values_flaw c values ≡ None
values_none c values (fits, trues) =
    let count : length values ≡ length c.declared = of_sorts_count (sorts_of c.declared) values fits ∙ sorts_count c.declared in
    values_flaw_is c values None count (none_of_wrong_sort 1 (sorts_of c.declared) values fits) (none_false (environment c values) 1 c.assertions trues)

-- the set of a right entry
set_of : (c : Context) (o : Objective) (values : List ℤ) (set : List ℕ) → IsUnbounded c o values set → IsSetRight o (points_of c) (problem_of c) values set
set_of c o values set h =
    let free = h.free in
    let here : IsSetRight o h.problem.points h.problem.clauses values set = record { count = h.model.count; within = free.among; x_in = free.x_in; y_out = free.y_out; kept = free.kept } in
    let at_points : IsSetRight o (points_of c) h.problem.clauses values set = subst (λ (n : ℕ). IsSetRight o n h.problem.clauses values set) h.is_problem.points here in
    subst (λ (cs : List (List Literal)). IsSetRight o (points_of c) cs values set) h.is_problem.clauses at_points

module _ (law : FlawLaw) (own : OwnFlawLaw) (before : List Placed) (x : Sexpr) (c : Context) where
  lemmas_right : (clauses : List (List Literal)) (lemmas : List Lemma) → IsRefutation (points_of c) clauses lemmas → refutation_flaw before c clauses (map Own lemmas) ≡ None
  lemmas_right clauses lemmas h = ap (option_map Flawed) (own (shelf_of before) (points_of c) clauses lemmas ∙ (law (points_of c) clauses lemmas).1 h)

  best_right : (o : Objective) (m : ℤ) (values : List NamedValue) (lemmas : List Lemma) → IsLeast c x o m values lemmas → first_of_two (least_flaw x o c m values) (refutation_flaw before c (problem_below c o m) (map Own lemmas)) ≡ None
  best_right o m values lemmas h =
      none_of_two (least_flaw x o c m values) (refutation_flaw before c (problem_below c o m) (map Own lemmas))
      (right_least x o c m values (record { values_none = values_none c values h.satisfies; attains = h.attained; in_limit = h.within }))
      (lemmas_right (problem_below c o m) lemmas h.refuted)

  pub entry_right : (question : Question) (entry : Entry) → IsRight question x c entry → entry_flaw before question x c (file_entry_of entry) ≡ None
  entry_right CheckSat (Sat values) h = values_none c values h
  entry_right (Minimize o) (Sat values) h = absurd h
  entry_right question (Unsat lemmas) h = lemmas_right (problem_of c) lemmas h
  entry_right CheckSat (Best m values lemmas) h = absurd h
  entry_right (Minimize o) (Best m values lemmas) h = best_right o m values lemmas h
  entry_right CheckSat (Unbounded values set) h = absurd h
  entry_right (Minimize o) (Unbounded values set) h = right_set o (points_of c) (problem_of c) values set (set_of c o values set h)

same_verdict : (entry : Entry) → told_by (file_entry_of entry) ≡ verdict_of entry
same_verdict (Sat values) = refl
same_verdict (Unsat lemmas) = refl
same_verdict (Best m values lemmas) = refl
same_verdict (Unbounded values set) = refl

-- ---- an entry with items in the place of its lemmas

shown_verdict : (entry : Entry) (items : List Item) → told_by (shown_by entry items) ≡ verdict_of entry
shown_verdict (Sat values) items = refl
shown_verdict (Unsat lemmas) items = refl
shown_verdict (Best m values lemmas) items = refl
shown_verdict (Unbounded values set) items = refl

-- what is placed for later entries states what the items do
placed_facts : (shelf : Shelf) (question : Question) (c : Context) (entry : Entry) (items : List Item)
    → facts_of shelf (placed question c (shown_by entry items)).clauses (placed question c (shown_by entry items)).items ≡ facts_shown shelf question c entry items
placed_facts shelf question c (Sat values) items = refl
placed_facts shelf question c (Unsat lemmas) items = refl
placed_facts shelf CheckSat c (Best m values lemmas) items = refl
placed_facts shelf (Minimize o) c (Best m values lemmas) items = refl
placed_facts shelf question c (Unbounded values set) items = refl

placed_behind : ShelfGoesOn → (before : List Placed) (shelf now : Shelf) (question : Question) (c : Context) (entry : Entry) (items : List Item) → shelf_of before ≡ shelf → now ≡ shelf ++ facts_shown shelf question c entry items ∷ []
    → shelf_of (before ++ placed question c (shown_by entry items) ∷ []) ≡ now
placed_behind law before shelf now question c entry items same states =
    let p : Placed = placed question c (shown_by entry items) in
    law before p ∙ ap (λ (s : Shelf). s ++ facts_of s p.clauses p.items ∷ []) same
    ∙ ap (λ (facts : Facts). shelf ++ facts ∷ []) (placed_facts shelf question c entry items) ∙ sym states

module _ (law : ItemsFlawLaw) (before : List Placed) (shelf : Shelf) (same : shelf_of before ≡ shelf) (x : Sexpr) (c : Context) where
  items_right : (clauses : List (List Literal)) (items : List Item) → AreRight shelf (points_of c) clauses items → refutation_flaw before c clauses items ≡ None
  items_right clauses items h =
      ap (option_map Flawed) ((law (shelf_of before) (points_of c) clauses items).1 (subst (λ (s : Shelf). AreRight s (points_of c) clauses items) (sym same) h))

  best_shown : (o : Objective) (m : ℤ) (values : List NamedValue) (lemmas : List Lemma) (items : List Item) → IsLeast c x o m values lemmas → AreRight shelf (points_of c) (problem_below c o m) items
      → first_of_two (least_flaw x o c m values) (refutation_flaw before c (problem_below c o m) items) ≡ None
  best_shown o m values lemmas items h right =
      none_of_two (least_flaw x o c m values) (refutation_flaw before c (problem_below c o m) items)
      (right_least x o c m values (record { values_none = values_none c values h.satisfies; attains = h.attained; in_limit = h.within }))
      (items_right (problem_below c o m) items right)

  shown_right : (question : Question) (entry : Entry) (items : List Item) → IsRight question x c entry → StandIn shelf question c entry items → entry_flaw before question x c (shown_by entry items) ≡ None
  shown_right CheckSat (Sat values) items h stand = values_none c values h
  shown_right (Minimize o) (Sat values) items h stand = absurd h
  shown_right question (Unsat lemmas) items h stand = items_right (problem_of c) items stand.right
  shown_right CheckSat (Best m values lemmas) items h stand = absurd h
  shown_right (Minimize o) (Best m values lemmas) items h stand = best_shown o m values lemmas items h stand.right
  shown_right CheckSat (Unbounded values set) items h stand = absurd h
  shown_right (Minimize o) (Unbounded values set) items h stand = right_set o (points_of c) (problem_of c) values set (set_of c o values set h)

-- ---- an entry as it stands in the file

-- In the second version the entries before state what is on the shelf; the first keeps nothing.
abbrev Agree : Version → List Placed → Shelf → Type 0
Agree One before shelf = Unit {0}
Agree Two before shelf = shelf_of before ≡ shelf

start_agrees : (version : Version) → Agree version [] []
start_agrees One = tt
start_agrees Two = refl

record IsFiled (version : Version) (shelf now : Shelf) (question : Question) (x : Sexpr) (c : Context) (entry : Entry) (line : List ℕ) : Type 0 where
  shown : FileEntry
  text : line ≡ line_of (file_entry_sexpr shown)
  fits : FileEntryFits version shown
  verdict : told_by shown ≡ verdict_of entry
  right : (before : List Placed) → Agree version before shelf → entry_flaw before question x c shown ≡ None
  agrees : (before : List Placed) → Agree version before shelf → Agree version (before ++ placed question c shown ∷ []) now

module _ (flaw : FlawLaw) (items_flaw : ItemsFlawLaw) (own : OwnFlawLaw) (goes_on : ShelfGoesOn) (text_is : OwnText) (fits_are : OwnFits) where
  filed : (version : Version) (shelf now : Shelf) (question : Question) (x : Sexpr) (c : Context) (entry : Entry) (line : List ℕ) → IsEntryOf version question x c entry → IsLine (Certificate version) shelf question c entry line now
      → IsFiled version shelf now question x c entry line
  filed One shelf now question x c entry line right (is, same) = record {
    shown = file_entry_of entry;
    text = is ∙ ap (λ (y : Sexpr). line_of y) (sym (text_is entry));
    fits = fits_are One entry right.fits;
    verdict = same_verdict entry;
    right = λ before agree. entry_right flaw own before x c question entry right.right;
    agrees = λ before agree. tt;
  }
  filed Two shelf now question x c entry line right (items, h, is) = record {
    shown = shown_by entry items;
    text = is;
    fits = h.fits;
    verdict = shown_verdict entry items;
    right = λ before agree. shown_right items_flaw before shelf agree x c question entry items right.right h.stand;
    agrees = λ before agree. placed_behind goes_on before shelf now question c entry items agree h.states;
  }

-- ---- commands that are carried out

-- such a command is a list
pub carried_list : (s : State) (x : Sexpr) (step : Step) → after s x ≡ Ok step → (xs : Items) × (x ≡ list xs)
unfolding after command_of
carried_list s (leaf kind text) step e = absurd cc
carried_list s (list xs) step e = (xs, refl)

header_refused : (version : Version) (s : State) (step : Step) → after s (header_sexpr version) ≡ Ok step → ⊥
unfolding after command_of naming_command changing_command asking_command is_unsupported left_out_of
header_refused One s step e = cc
header_refused Two s step e = cc

-- and no header
pub carried_apart : (s : State) (x : Sexpr) (step : Step) → after s x ≡ Ok step → IsApart x
carried_apart s x step e version h = header_refused version s step (ap (after s) (sym h) ∙ e)

-- ---- the end of a script

-- behind a closed gap up to the end nothing is read
pub closed_ends : (script : List ℕ) (place : ℕ) → place ≤ length script → IsClosedGap (drop place script) → Outcomes script place finished (length script)
unfolding is_gap
closed_ends script place le closed =
    let zs = drop place script in
    let count : place + length zs ≡ length script = omega (arith, length-drop place script) in
    let all : take (length zs) zs ≡ zs = take_all (length zs) zs (omega arith) in
    let gap : is_gap false zs ≡ true = ap (is_gap false) (sym (append-nil zs)) ∙ closed [] in (
      length zs,
      record { within = omega arith; gap = ap (is_gap false) all ∙ gap; longest = λ m more within passes. omega arith },
      (count, sym count),
    )

-- ---- what was written of the commands

-- how the commands of a script end in a longer source
abbrev EndsIn : Bool → List ℕ → ℕ → PartEnd → ℕ → Type 0
EndsIn exits bytes last end behind = FollowsExit exits ((end ≡ part.Exit) × (last ≡ behind)) (EndsPart bytes last end behind)

abbrev judged_at : State → List FileEntry → List Sexpr → List Placed → Type 0
judged_at s entries xs before = (k : ℕ) (held : Option FileEntry) → judged_turns before (course told_by (record { number = k; state = s; held = held; left = entries }) xs ended) ≡ Accepted

-- what was written of commands from the place on is the entries and the end, and they are accepted behind entries that state what is
-- on the shelf
record IsSplit (version : Version) (script : List ℕ) (place : ℕ) (s : State) (shelf : Shelf) (xs : List Sexpr) (written : List ℕ) : Type 0 where
  shown : List FileEntry
  text : written ≡ entries_text shown ++ line_of end_sexpr
  fits : All (FileEntryFits version) shown
  accepted : (before : List Placed) → Agree version before shelf → judged_at s shown xs before
  last : ℕ
  exits : Bool
  within : last ≤ length script
  closed : IsClosedGap (drop last script)
  reads : (added : List ℕ) (end : PartEnd) (behind : ℕ) → EndsIn exits (script ++ added) last end behind → ScriptPart (script ++ added) place xs end behind

no_status : ◌≡◌ {A = Option ℕ} None (Some 0) → ⊥
no_status e = absurd cc

failed_status : ◌≡◌ {A = Option ℕ} (Some 1) (Some 0) → ⊥
failed_status e = absurd cc

abbrev Make : Type 0
Make = Place Entry → List (Turn Entry)

module _ (one : OneOutcome) (on : ListReadsOn) (within : ListIsWithin) (flaw : FlawLaw) (items_flaw : ItemsFlawLaw) (own : OwnFlawLaw) (goes_on : ShelfGoesOn) (text_is : OwnText) (fits_are : OwnFits) (only : OnlyExitEnds)
    (version : Version) where
  abbrev AreLegal : List (Turn Entry) → Type 0
  AreLegal turns = AllByRecursion (IsLegal (Certificate version)) turns

  abbrev AreWritten : Shelf → List (Turn Entry) → List ℕ → Type 0
  AreWritten shelf turns written = IsWritten (Certificate version) shelf turns written

  -- the end's line, and nothing behind it
  end_line : (written piece rest : List ℕ) → written ≡ piece ++ rest → piece ≡ line_of end_sexpr → rest ≡ [] → written ≡ line_of end_sexpr
  end_line written piece rest e is none =
      e ∙ ap (λ (t : List ℕ). t ++ rest) is ∙ ap (λ (t : List ℕ). line_of end_sexpr ++ t) none ∙ append-nil (line_of end_sexpr)

  -- no command follows: the end of the text is the end of the script
  split_end : (ys : List Sexpr) (script : List ℕ) (place here : ℕ) (p : Place Entry) (ending : Ending) (shelf : Shelf) (written : List ℕ) → AreWritten shelf (last_turn p ending) written → status_of (last_turn p ending) ≡ Some 0
      → place ≤ length script → place ≡ here → EndsAs script here ending → IsWholeFrom script place ys → IsSplit version script place p.state shelf [] written
  unfolding ScriptPart
  split_end ys script place here p stopped shelf written w over le e closes is = absurd (no_status over)
  split_end ys script place here p (unread why) shelf written w over le e closes is = absurd (failed_status over)
  split_end [] script place here p ended shelf written (piece, rest, now, f, at, none) over le e closes is = record {
    shown = [];
    text = end_line written piece rest f at.0 none;
    fits = All-nil (FileEntryFits version);
    accepted = λ before agree k held. ap (judged_turns before) (course_none (record { number = k; state = p.state; held = held; left = [] }));
    last = place;
    exits = false;
    within = le;
    closed = is;
    reads = λ added end behind h. h;
  }
  split_end (y ∷ ys) script place here p ended shelf written w over le e (n, finishes) (mid, spells, is) = absurd (not_finished one script place y mid n spells (subst (λ (p : ℕ). Outcomes script p finished n) (sym e) finishes))

  module _ (script : List ℕ) (place mid : ℕ) (p : Place Entry) (x : Sexpr) (spells : Spells script place x mid) where
    on_command : (step : Step) → after p.state x ≡ Ok step → (added : List ℕ) → Spells (script ++ added) place x mid
    on_command step e added =
        let l = carried_list p.state x step e in
        let there : Spells script place (list l.0) mid = subst (λ (z : Sexpr). Spells script place z mid) l.1 spells in
        subst (λ (z : Sexpr). Spells (script ++ added) place z mid) (sym l.1) (on script added place mid l.0 there)

    command_within : (step : Step) → after p.state x ≡ Ok step → mid ≤ length script
    command_within step e =
        let l = carried_list p.state x step e in
        within script place mid l.0 (subst (λ (z : Sexpr). Spells script place z mid) l.1 spells)

    -- a command that goes on, in the state behind its answer
    reads_more : (step : Step) → after p.state x ≡ Ok step → step.effect ≢ Exit → (next : State) (shelf : Shelf) (xs : List Sexpr) (written : List ℕ) (h : IsSplit version script mid next shelf xs written)
        → (added : List ℕ) (end : PartEnd) (behind : ℕ) → EndsIn h.exits (script ++ added) h.last end behind → ScriptPart (script ++ added) place (x ∷ xs) end behind
    unfolding ScriptPart
    reads_more step e apart next shelf xs written h added end behind closes = (
      mid,
      on_command step e added,
      carried_apart p.state x step e,
      subst (λ (b : Bool). FollowsExit b (ExitEnds mid xs end behind) (ScriptPart (script ++ added) mid xs end behind)) (sym (not_exit only p.state x step e apart)) (h.reads added end behind closes),
    )

    -- a command of which nothing is written
    split_told : (notice : Notice) (next : State) (shelf : Shelf) (xs : List Sexpr) (written rest : List ℕ) → written ≡ rest → IsSplit version script mid next shelf xs rest → after p.state x ≡ Ok (step_of next (Tell notice))
        → IsSplit version script place p.state shelf (x ∷ xs) written
    split_told notice next shelf xs written rest same h e = record {
      shown = h.shown;
      text = same ∙ h.text;
      fits = h.fits;
      accepted = λ before agree k held.
          ap (judged_turns before) (told_turn told_by (record { number = k; state = p.state; held = held; left = h.shown }) x next notice e xs ended) ∙ h.accepted before agree (k + 1) held;
      last = h.last;
      exits = h.exits;
      within = h.within;
      closed = h.closed;
      reads = reads_more (step_of next (Tell notice)) e (told_apart notice) next shelf xs rest h;
    }

    split_check : (question : Question) (next : State) → after p.state x ≡ Ok (step_of next (Ask question)) → refusal_of question next x ≡ None → (shelf now : Shelf) (xs : List Sexpr) (written line rest : List ℕ) (entry : Entry) → written ≡ line ++ rest
        → IsFiled version shelf now question x next.context entry line → IsSplit version script mid (settled (verdict_of entry) next) now xs rest → IsSplit version script place p.state shelf (x ∷ xs) written
    split_check question next e free shelf now xs written line rest entry is filed_so h = record {
      shown = filed_so.shown ∷ h.shown;
      text = is ∙ ap (λ (t : List ℕ). t ++ rest) filed_so.text ∙ ap (λ (t : List ℕ). line_of (file_entry_sexpr filed_so.shown) ++ t) h.text
          ∙ sym (append_assoc (line_of (file_entry_sexpr filed_so.shown)) (entries_text h.shown) (line_of end_sexpr));
      fits = All-cons (FileEntryFits version) filed_so.shown h.shown filed_so.fits h.fits;
      accepted = λ before agree k held.
          let shown = filed_so.shown in
          let sofar = before ++ placed question next.context shown ∷ [] in
          let there : Place FileEntry = record { number = k; state = p.state; held = held; left = shown ∷ h.shown } in
          let coming : State → List (Turn FileEntry) = λ s. course told_by (record { number = k + 1; state = s; held = Some shown; left = h.shown }) xs ended in
          ap (judged_turns before) (answered_turn told_by there x next question shown h.shown e free refl xs ended)
          ∙ ap (λ (f : Option EntryFlaw). judged_entry (length before + 1) f (judged_turns sofar (coming (settled (told_by shown) next)))) (filed_so.right before agree)
          ∙ ap (λ (v : Satisfiability). judged_turns sofar (coming (settled v next))) filed_so.verdict
          ∙ h.accepted sofar (filed_so.agrees before agree) (k + 1) (Some shown);
      last = h.last;
      exits = h.exits;
      within = h.within;
      closed = h.closed;
      reads = reads_more (step_of next (Ask question)) e (ask_apart question) (settled (verdict_of entry) next) now xs rest h;
    }

    split_exit : (next : State) → after p.state x ≡ Ok (step_of next Exit) → (shelf : Shelf) (xs : List Sexpr) (written : List ℕ) → written ≡ line_of end_sexpr → xs ≡ [] → IsClosedGap (drop mid script)
        → IsSplit version script place p.state shelf (x ∷ xs) written
    unfolding ScriptPart
    split_exit next e shelf xs written line over is = record {
      shown = [];
      text = line;
      fits = All-nil (FileEntryFits version);
      accepted = λ before agree k held. ap (judged_turns before) (exit_turn told_by (record { number = k; state = p.state; held = held; left = [] }) x next e xs ended);
      last = mid;
      exits = true;
      within = command_within (step_of next Exit) e;
      closed = is;
      reads = λ added end behind closes. (
        mid,
        on_command (step_of next Exit) e added,
        carried_apart p.state x (step_of next Exit) e,
        subst (λ (b : Bool). FollowsExit b (ExitEnds mid xs end behind) (ScriptPart (script ++ added) mid xs end behind)) (sym ((only p.state x (step_of next Exit) e).0 refl)) (over, closes.0, closes.1),
      );
    }

    -- behind a closed gap there is no command
    none_behind : (here : ℕ) (xs : List Sexpr) → mid ≤ length script → IsClosedGap (drop mid script) → Commands script mid xs here → xs ≡ []
    none_behind here [] le closed reads = refl
    none_behind here (y ∷ ys) le closed (there, spells_y, reads) = absurd (not_finished one script mid y there (length script) spells_y (closed_ends script mid le closed))

    abbrev IsWholeBehind : List Sexpr → Bool → Type 0
    IsWholeBehind ys exits = FollowsExit exits ((ys ≡ []) × IsClosedGap (drop mid script)) (IsWholeFrom script mid ys)

    module _ (here : ℕ) (xs ys : List Sexpr) (reads : Commands script mid xs here) (is : IsWholeBehind ys (is_exit x)) (make : Make)
        (rest : (q : Place Entry) (shelf : Shelf) (written : List ℕ) → AreWritten shelf (make q) written → AreLegal (make q) → status_of (make q) ≡ Some 0 → mid ≤ length script → IsWholeFrom script mid ys
        → IsSplit version script mid q.state shelf xs written)
        (shelf : Shelf) (written : List ℕ) where
      whole_behind : (step : Step) → after p.state x ≡ Ok step → step.effect ≢ Exit → IsWholeFrom script mid ys
      whole_behind step e apart = subst (IsWholeBehind ys) (not_exit only p.state x step e apart) is

      split_asked : (question : Question) (next : State) → after p.state x ≡ Ok (step_of next (Ask question)) → refusal_of question next x ≡ None → (left : List Entry) → AreWritten shelf (asked verdict_of p next question x left make) written
          → AreLegal (asked verdict_of p next question x left make) → status_of (asked verdict_of p next question x left make) ≡ Some 0 → IsSplit version script place p.state shelf (x ∷ xs) written
      split_asked question next e free [] w legal over = absurd (no_status over)
      split_asked question next e free (entry ∷ left) (line, more, now, f, at, w) legal over =
          let q = behind_answer verdict_of p next entry left in
          let step = step_of next (Ask question) in
          split_check question next e free shelf now xs written line more entry f
          (filed flaw items_flaw own goes_on text_is fits_are version shelf now question x next.context entry line legal.0.right at)
          (rest q now more w legal.1 over (command_within step e) (whole_behind step e (ask_apart question)))

      split_taken : (question : Question) (next : State) → after p.state x ≡ Ok (step_of next (Ask question)) → (why : Option Kind) → refusal_of question next x ≡ why → AreWritten shelf (taken verdict_of p next question x why make) written
          → AreLegal (taken verdict_of p next question x why make) → status_of (taken verdict_of p next question x why make) ≡ Some 0 → IsSplit version script place p.state shelf (x ∷ xs) written
      split_taken question next e (Some kind) f w legal over = absurd (failed_status over)
      split_taken question next e None f w legal over = split_asked question next e f p.left w legal over

      split_effect : (effect : Effect) (next : State) → after p.state x ≡ Ok (step_of next effect) → AreWritten shelf (by_effect verdict_of p next x effect make) written → AreLegal (by_effect verdict_of p next x effect make)
          → status_of (by_effect verdict_of p next x effect make) ≡ Some 0 → IsSplit version script place p.state shelf (x ∷ xs) written
      split_effect (Tell notice) next e (piece, more, now, f, at, w) legal over =
          let q = behind_told p next in
          let step = step_of next (Tell notice) in
          split_told notice next shelf xs written more (f ∙ ap (λ (t : List ℕ). t ++ more) at.0)
          (rest q shelf more (subst (λ (k : Shelf). AreWritten k (make q) more) at.1 w) legal.1 over (command_within step e) (whole_behind step e (told_apart notice))) e
      split_effect (Ask question) next e w legal over = split_taken question next e (refusal_of question next x) refl w legal over
      split_effect Exit next e (piece, more, now, f, at, none) legal over =
          let step = step_of next Exit in
          let left : (ys ≡ []) × IsClosedGap (drop mid script) = subst (IsWholeBehind ys) ((only p.state x step e).0 refl) is in
          split_exit next e shelf xs written (end_line written piece more f at.0 none) (none_behind here xs (command_within step e) left.1 reads) left.1

      split_by : (r : Result Step Refusal) → after p.state x ≡ r → AreWritten shelf (by_command verdict_of p x r make) written → AreLegal (by_command verdict_of p x r make) → status_of (by_command verdict_of p x r make) ≡ Some 0
          → IsSplit version script place p.state shelf (x ∷ xs) written
      split_by (Err why) e w legal over = absurd (failed_status over)
      split_by (Ok step) e w legal over = split_effect step.effect step.state e w legal over

  split : (xs ys : List Sexpr) (script : List ℕ) (place here : ℕ) (p : Place Entry) (ending : Ending) (shelf : Shelf) (written : List ℕ) → AreWritten shelf (course verdict_of p xs ending) written → AreLegal (course verdict_of p xs ending)
      → status_of (course verdict_of p xs ending) ≡ Some 0 → place ≤ length script → Commands script place xs here → EndsAs script here ending → IsWholeFrom script place ys → IsSplit version script place p.state shelf xs written
  unfolding course
  split [] ys script place here p ending shelf written w legal over le e closes is = split_end ys script place here p ending shelf written w over le e closes is
  split (x ∷ xs) [] script place here p ending shelf written w legal over le (mid, spells, rest) closes is = absurd (not_finished one script place x mid (length script) spells (closed_ends script place le is))
  split (x ∷ xs) (y ∷ ys) script place here p ending shelf written w legal over le (mid, spells, rest) closes (there, spells_y, is) =
      let same = same_sexpr one script place y x there mid spells_y spells in
      let at_mid : FollowsExit (is_exit y) ((ys ≡ []) × IsClosedGap (drop mid script)) (IsWholeFrom script mid ys) = subst (λ (m : ℕ). FollowsExit (is_exit y) ((ys ≡ []) × IsClosedGap (drop m script)) (IsWholeFrom script m ys)) same.1 is in
      let of_x : FollowsExit (is_exit x) ((ys ≡ []) × IsClosedGap (drop mid script)) (IsWholeFrom script mid ys) = subst (λ (z : Sexpr). FollowsExit (is_exit z) ((ys ≡ []) × IsClosedGap (drop mid script)) (IsWholeFrom script mid ys)) same.0 at_mid in
      split_by script place mid p x spells here xs ys rest of_x (λ q. course verdict_of q xs ending)
      (λ q shelf_there written_there w_there legal_there over_there inside whole_on. split xs ys script mid here q ending shelf_there written_there w_there legal_there over_there inside rest closes whole_on) shelf written (after p.state x) refl w legal over

  -- ---- the whole

  module _ (script out : List ℕ) (xs : List Sexpr) (written : List ℕ) (h : IsSplit version script 0 start_state [] xs written) (reads_there : ReadsCertificate (script ++ out) h.last (certificate version h.shown)) where
    judged_by : (b : Bool) → h.exits ≡ b → IsJudged (script ++ out) Accepted
    judged_by true e = record {
      commands = xs;
      end = part.Exit;
      behind = h.last;
      script = h.reads out part.Exit h.last (subst (λ (b : Bool). EndsIn b (script ++ out) h.last part.Exit h.last) (sym e) (refl, refl));
      judged_part = (certificate version h.shown, reads_there, sym (h.accepted [] (start_agrees version) 1 None));
    }
    judged_by false e =
        let v = reads_there.0 in
        let mid = reads_there.1 in
        record {
          commands = xs;
          end = part.Header v;
          behind = mid;
          script = h.reads out (part.Header v) mid (subst (λ (b : Bool). EndsIn b (script ++ out) h.last (part.Header v) mid) (sym e) reads_there.2);
          judged_part = (certificate version h.shown, reads_there.3, sym (h.accepted [] (start_agrees version) 1 None));
        }

  pub certified_as : CertificateReadsBack → (script out : List ℕ) → IsReport (Certificate version) script out 0 → IsWhole script → IsJudged (script ++ out) Accepted
  certified_as back script out (found, output) (ys, is) =
      let a = output.are in
      let w = a.are in
      let turns = course verdict_of (start_with found) w.commands w.ending in
      let legal : AreLegal turns = subst AreLegal w.are a.legal in
      let over : status_of turns ≡ Some 0 = ap (λ (ts : List (Turn Entry)). status_of ts) (sym w.are) ∙ output.over in
      let writes : AreWritten [] turns output.written = subst (λ (ts : List (Turn Entry)). AreWritten [] ts output.written) w.are output.writes in
      let h = split w.commands ys script 0 w.behind (start_with found) w.ending [] output.written writes legal over (omega arith) w.reads w.ends is in
      let same : out ≡ certificate_text version h.shown = output.text ∙ ap (λ (t : List ℕ). line_of (header_sexpr version) ++ t) h.text in
      let there : drop h.last (script ++ out) ≡ drop h.last script ++ certificate_text version h.shown = drop-append-le h.last script out h.within ∙ ap (λ (t : List ℕ). drop h.last script ++ t) same in
      judged_by script out w.commands output.written h (back version h.shown (script ++ out) (drop h.last script) h.last h.fits h.closed there) h.exits refl

pub certified : OneOutcome → ListReadsOn → ListIsWithin → FlawLaw → ItemsFlawLaw → OwnFlawLaw → ShelfGoesOn → OwnText → OwnFits → OnlyExitEnds → CertificateReadsBack → CertifiedIsAccepted
certified one on within flaw items_flaw own goes_on text fits only back version script out report whole = certified_as one on within flaw items_flaw own goes_on text fits only version back script out report whole
