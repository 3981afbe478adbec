-- The judging of a script, command by command.
use Rattle.std.proofs.Common.{refl, sym, ap, subst, arith, ◌∙◌, ◌≡◌, ◌≢◌, ◌<◌, ◌≤◌, ◌+◌, ◌==◌, ℕ, zero, suc, List, [], ◌∷◌, ◌++◌, length, length-append, drop, get_or, Bool, true, false, Option, Some, None, Ok, inl, inr, ℤ}
use Rattle.std.specs.Prelude.{if◌then◌else◌, option_map, slice_index_or}
use Rattle.std.specs.List.{AllByRecursion}
use Rattle.std.proofs.lemmas.Bool.Decides.{nat_tests}
use Rattle.std.proofs.lemmas.List.{drop_more, drop_all}
use Rattle.smt_sexpr.specs.Tree.{Sexpr}
use Rattle.smt_sexpr.specs.Commands.{ended}
use Rattle.stn_core.specs.declared.named.NamedValue.{NamedValue}
use Rattle.stn_core.specs.declared.named.NamedValue.TheVariants.{Int, Truth}
use Rattle.cert_text.specs.declared.entry.FileEntry.{FileEntry}
use Rattle.cert_text.specs.declared.entry.FileEntry.TheVariants as file
use Rattle.cert_read.specs.Certificates.{RefusesBehind}
use Rattle.cert_read.specs.Laws.{OneRest}
use Rattle.cert_read.specs.code.Entries.{EntriesFrom, IsReadTo, AreAllLeft}
use Rattle.cert_read.specs.declared.error.CertificateRefusal.{CertificateRefusal}
use Rattle.cert_read.proofs.ReadOn.{read_none}
use Rattle.idl_node.specs.declared.sort.Sort.{Sort}
use Rattle.idl_node.specs.declared.sort.Sort.TheVariants as sorts
use Rattle.idl_node.specs.Nodes.{NodeValue}
use Rattle.idl_node.specs.Sorts.{IsOfSort, AreOfSorts}
use Rattle.idl_node.specs.Tables.{IsTableOver}
use Rattle.idl_node.specs.Truth as node
use Rattle.idl_term.specs.Contexts.{Context, environment}
use Rattle.idl_term.specs.Laws.{ContextsHaveScopes, RootsAreNodes, RootsAreExact}
use Rattle.idl_term.specs.Meanings.{AreRoots}
use Rattle.idl_term.specs.Scopes.{Declaration, Scope, sorts_of}
use Rattle.idl_term.specs.Values.{value}
use Rattle.smt_script.specs.declared.state.Effect.{Effect}
use Rattle.smt_script.specs.declared.state.Effect.TheVariants.{Ask, Exit, Tell}
use Rattle.smt_script.specs.declared.state.Question.{Question}
use Rattle.smt_script.specs.declared.state.Notice.{Notice}
use Rattle.smt_script.specs.declared.state.Satisfiability.{Satisfiability}
use Rattle.smt_script.specs.Commands.{is_exit}
use Rattle.smt_script.specs.code.Kept.{Kept}
use Rattle.smt_script.specs.States.{State, Step, after, settled}
use Rattle.smt_answer.specs.declared.kind.Kind.{Kind}
use Rattle.smt_answer.specs.Kinds.{kind_of}
use Rattle.script_walk.specs.Questions.{refusal_of}
use Rattle.script_walk.specs.Course.{Place, Turn, turn, ends, behind_told, behind_answer, course}
use Rattle.script_walk.specs.code.Events.{Leads as Walked, Refuses}
use Rattle.script_walk.specs.declared.walk.Walk.{Walk}
use Rattle.script_walk.proofs.Turns.{told_turn, answered_turn, unanswered_turn, barred_turn, exit_turn, refused_turn}
use Rattle.kept_lemmas.specs.declared.item.Item.{Item}
use Rattle.kept_lemmas.specs.Entries.{Placed}
use Rattle.script_walk.specs.code.Standing.{Stands}
use Rattle.smt_script.specs.Laws.{OnlyExitEnds}
use Rattle.dtp_entry.proofs.Verdicts.{sorts_count, table_over}
use Rattle.dtp_check.specs.declared.judge.Progress.{Progress}
use Rattle.dtp_check.specs.declared.judge.Progress.TheVariants.{Going, Judged}
use Rattle.dtp_check.specs.declared.earlier.Earlier.{Earlier}
use Rattle.dtp_check.specs.declared.earlier.Earlier.TheVariants.{Unkept, Shelved, WithTrees}
use Rattle.dtp_check.specs.code.Earlier.{Holds, Suffices}
use Rattle.dtp_check.specs.code.Turns.{Leads, ComesTo, IsSoOfAll, IsRightTurn, IsAgainst, StandsAt, with_left, GoesTo, IsAnswerTurn, IsQuestionTurn, IsJudgedTurn}
use Rattle.dtp_check.specs.declared.judgement.EntryFlaw.{EntryFlaw}
use Rattle.dtp_check.specs.declared.judgement.EntryFlaw.TheVariants.{WrongCount, WrongSort, FalseAssertion}
use Rattle.dtp_check.specs.declared.judgement.Judgement.{Judgement}
use Rattle.dtp_check.specs.declared.judgement.Judgement.TheVariants.{Accepted, Script, Certificate, Missing, Entry as BadEntry}
use Rattle.dtp_check.specs.Judged.{is_of_sort, first_of_wrong_sort, is_true, first_false, first_of_two, values_flaw, entry_flaw, placed, told_by, surplus_of, judged_entry, judged_turns}
use Rattle.dtp_check.specs.code.Roots.{first_unmarked}
use Rattle.dtp_check.proofs.Entries.{of_all, so_also, behind_one, so_at_end, so_at_fault}

-- ---- the sorts of a sat entry's values

of_sort : (s : Sort) (v : NamedValue) → is_of_sort s v ≡ true → IsOfSort s v
of_sort sorts.Int (Int n) e = tt
of_sort sorts.Bool (Truth b) e = tt
of_sort sorts.Int (Truth b) e = absurd cc
of_sort sorts.Bool (Int n) e = absurd cc

right_sort : (s : Sort) (v : NamedValue) → IsOfSort s v → is_of_sort s v ≡ true
right_sort sorts.Int (Int n) h = refl
right_sort sorts.Bool (Truth b) h = refl
right_sort sorts.Int (Truth b) h = absurd h
right_sort sorts.Bool (Int n) h = absurd h

of_sorts_by : (k : ℕ) (s : Sort) (names : List Sort) (v : NamedValue) (values : List NamedValue) (b : Bool) → is_of_sort s v ≡ b → (if b then first_of_wrong_sort (k + 1) names values else Some k) ≡ None
    → (first_of_wrong_sort (k + 1) names values ≡ None → AreOfSorts names values) → AreOfSorts (s ∷ names) (v ∷ values)
of_sorts_by k s names v values true e f rest = (of_sort s v e, rest f)
of_sorts_by k s names v values false e f rest = absurd cc

-- values are of their sorts where none is found that isn't
pub are_of_sorts : (k : ℕ) (names : List Sort) (values : List NamedValue) → length values ≡ length names → first_of_wrong_sort k names values ≡ None → AreOfSorts names values
are_of_sorts k [] [] e f = tt
are_of_sorts k [] (v ∷ values) e f = absurd (omega arith)
are_of_sorts k (s ∷ names) [] e f = absurd (omega arith)
are_of_sorts k (s ∷ names) (v ∷ values) e f = of_sorts_by k s names v values (is_of_sort s v) refl f (λ g. are_of_sorts (k + 1) names values (omega arith) g)

pub none_of_wrong_sort : (k : ℕ) (names : List Sort) (values : List NamedValue) → AreOfSorts names values → first_of_wrong_sort k names values ≡ None
none_of_wrong_sort k [] [] h = refl
none_of_wrong_sort k [] (v ∷ values) h = absurd h
none_of_wrong_sort k (s ∷ names) [] h = absurd h
none_of_wrong_sort k (s ∷ names) (v ∷ values) h =
    ap (λ (b : Bool). if b then first_of_wrong_sort (k + 1) names values else Some k) (right_sort s v h.0) ∙ none_of_wrong_sort (k + 1) names values h.1

pub of_sorts_count : (names : List Sort) (values : List NamedValue) → AreOfSorts names values → length values ≡ length names
of_sorts_count [] [] h = refl
of_sorts_count [] (v ∷ values) h = absurd h
of_sorts_count (s ∷ names) [] h = absurd h
of_sorts_count (s ∷ names) (v ∷ values) h = ap suc (of_sorts_count names values h.1)

-- ---- its assertions

-- each node is marked as true exactly where it is
abbrev pub AreMarked : Context → List NamedValue → List Bool → Type 0
AreMarked c values marks = (k : ℕ) → k < length c.nodes → slice_index_or marks k false ≡ node.truth c.nodes (node.point_values values) k

-- the first false assertion is the first whose root isn't marked
pub assertion_found : (c : Context) (values : List NamedValue) (marks : List Bool) → AreMarked c values marks → (k : ℕ) (ts : List Sexpr) (roots : List ℕ) → AreRoots c values ts roots → AllByRecursion (λ r. r < length c.nodes) roots
    → first_false (environment c values) k ts ≡ first_unmarked marks k roots
assertion_found c values marks marked k [] [] h range = refl
assertion_found c values marks marked k [] (root ∷ roots) h range = absurd h
assertion_found c values marks marked k (t ∷ ts) [] h range = absurd h
assertion_found c values marks marked k (t ∷ ts) (root ∷ roots) h range =
    let same : is_true (value (environment c values) t) ≡ slice_index_or marks root false = ap is_true h.0 ∙ sym (marked root range.0) in
    ap (λ (b : Bool). if b then first_false (environment c values) (k + 1) ts else Some k) same
    ∙ ap (λ (found : Option ℕ). if slice_index_or marks root false then found else Some k) (assertion_found c values marks marked (k + 1) ts roots h.1 range.1)

-- ---- what is wrong with the values

abbrev flaws_of : Context → List NamedValue → Option EntryFlaw
flaws_of c values = first_of_two (option_map WrongSort (first_of_wrong_sort 1 (sorts_of c.declared) values)) (option_map FalseAssertion (first_false (environment c values) 1 c.assertions))

right_count : (c : Context) (values : List NamedValue) → length values ≡ length c.declared → values_flaw c values ≡ flaws_of c values
right_count c values e =
    let test : (length values == length c.declared) ≡ true = grind (arith, nat_tests) in
    ap (λ (b : Bool). if b then flaws_of c values else Some WrongCount) test

pub values_of_wrong_sort : (c : Context) (values : List NamedValue) (k : ℕ) → length values ≡ length c.declared → first_of_wrong_sort 1 (sorts_of c.declared) values ≡ Some k → values_flaw c values ≡ Some (WrongSort k)
values_of_wrong_sort c values k e f =
    right_count c values e
    ∙ ap (λ (found : Option ℕ). first_of_two (option_map WrongSort found) (option_map FalseAssertion (first_false (environment c values) 1 c.assertions))) f

pub values_flaw_is : (c : Context) (values : List NamedValue) (found : Option ℕ) → length values ≡ length c.declared → first_of_wrong_sort 1 (sorts_of c.declared) values ≡ None → first_false (environment c values) 1 c.assertions ≡ found
    → values_flaw c values ≡ option_map FalseAssertion found
values_flaw_is c values found e f g =
    right_count c values e
    ∙ ap (λ (sorts : Option ℕ). first_of_two (option_map WrongSort sorts) (option_map FalseAssertion (first_false (environment c values) 1 c.assertions))) f
    ∙ ap (option_map FalseAssertion) g

-- what the code reads of its names and of the values
pub counted_by : (names declared : List Declaration) (given values : List NamedValue) (count : ℕ) → given ≡ values → length given ≡ count → count ≡ length names → names ≡ declared → length values ≡ length declared
counted_by names declared given values count e f g h = ap (λ (vs : List NamedValue). length vs) (sym e) ∙ f ∙ g ∙ ap (λ (ds : List Declaration). length ds) h

pub sorts_by : (names declared : List Declaration) (read : List Sort) (given values : List NamedValue) (found is : Option ℕ) → given ≡ values → read ≡ sorts_of names → names ≡ declared → found ≡ first_of_wrong_sort 1 read given → found ≡ is
    → is ≡ first_of_wrong_sort 1 (sorts_of declared) values
sorts_by names declared read given values found is e f g h i =
    sym i ∙ h ∙ ap (λ (ss : List Sort). first_of_wrong_sort 1 ss given) (f ∙ ap sorts_of g) ∙ ap (first_of_wrong_sort 1 (sorts_of declared)) e

-- what the code compares the values of a sat entry with: what it keeps
module _ (kept : Kept) (s : State) (stands : Stands kept s) (values : List NamedValue) where
  abbrev IsCounted : Type 0
  IsCounted = length values ≡ length kept.scope.declared

  declared_are : kept.scope.declared ≡ s.context.declared
  declared_are = ap (λ (scope : Scope). scope.declared) stands.stands.scope

  counted : IsCounted → length values ≡ length s.context.declared
  counted e = e ∙ ap (λ (names : List Declaration). length names) declared_are

  sorted : (found : Option ℕ) → found ≡ first_of_wrong_sort 1 (sorts_of kept.scope.declared) values → first_of_wrong_sort 1 (sorts_of s.context.declared) values ≡ found
  sorted found e = sym (e ∙ ap (λ (names : List Declaration). first_of_wrong_sort 1 (sorts_of names) values) declared_are)

  pub sorts_judged : (k : ℕ) → IsCounted → Some k ≡ first_of_wrong_sort 1 (sorts_of kept.scope.declared) values → values_flaw s.context values ≡ Some (WrongSort k)
  sorts_judged k e f = values_of_wrong_sort s.context values k (counted e) (sorted (Some k) f)

  pub kept_table_over : ContextsHaveScopes → IsCounted → IsTableOver (length values + 1) kept.nodes
  kept_table_over scope e =
      let names = sorts_of s.context.declared in
      let count : length values + 1 ≡ length names + 1 = ap (λ (n : ℕ). n + 1) (counted e ∙ sym (sorts_count s.context.declared)) in
      table_over (length values + 1) kept.nodes s.context.nodes names count stands.stands.nodes (scope s.context stands.made.context).table

  pub roots_within : RootsAreNodes → AllByRecursion (λ r. r < length kept.nodes) kept.roots
  roots_within roots =
      let there : AllByRecursion (λ r. r < length s.context.nodes) s.context.roots = roots s.context stands.made.context in
      subst (λ (ks : List ℕ). AllByRecursion (λ r. r < length kept.nodes) ks) (sym stands.stands.roots)
      (subst (λ (nodes : List NodeValue). AllByRecursion (λ r. r < length nodes) s.context.roots) (sym stands.stands.nodes) there)

  pub values_judged : RootsAreNodes → RootsAreExact → (marks : List Bool) (found : Option ℕ) → IsCounted → None ≡ first_of_wrong_sort 1 (sorts_of kept.scope.declared) values
      → ((k : ℕ) → k < length kept.nodes → slice_index_or marks k false ≡ node.truth kept.nodes (node.point_values values) k) → found ≡ first_unmarked marks 1 kept.roots → values_flaw s.context values ≡ option_map FalseAssertion found
  values_judged roots exact marks found e f marked h =
      let none = sorted None f in
      let fits = are_of_sorts 1 (sorts_of s.context.declared) values (counted e ∙ sym (sorts_count s.context.declared)) none in
      let there : AreMarked s.context values marks =
      subst (λ (nodes : List NodeValue). (k : ℕ) → k < length nodes → slice_index_or marks k false ≡ node.truth nodes (node.point_values values) k) stands.stands.nodes marked in
      let same = assertion_found s.context values marks there 1 s.context.assertions s.context.roots (exact s.context values stands.made.context fits) (roots s.context stands.made.context) in
      values_flaw_is s.context values found (counted e) none (same ∙ sym (h ∙ ap (first_unmarked marks 1) stands.stands.roots))

-- ---- a question

-- of an entry with items as of the items alone
pub suffices_items : (earlier : Earlier) (m : ℤ) (values : List NamedValue) (items : List Item) → Suffices earlier (file.Best m values items ∷ []) → Suffices earlier (file.Unsat items ∷ [])
suffices_items Unkept m values items h = h
suffices_items (Shelved shelf) m values items h = h
suffices_items (WithTrees shelf) m values items h = h

-- ---- an answer

module _ {K : Type 0} (leads : Leads K) (first next : K) (question : Question) (x : Sexpr) (s : State) (number : ℕ) (before : List Placed) (old new : EntriesFrom) (counted : ℕ) (kept : Kept) (later : Earlier) where
  module _ (entry : FileEntry) (reads : IsReadTo old new (entry ∷ [])) where
    -- an entry without a flaw: the script goes on behind its verdict
    pub answer_right : IsRightTurn leads first next question x s before entry kept later → counted ≡ number + 1
        → IsAnswerTurn leads first next question x s number before old new counted kept later Going
    answer_right right more = (entry, reads, right, more)

    pub answer_flawed : (found : Option EntryFlaw) (flaw : EntryFlaw) (n : ℕ) → found ≡ entry_flaw before question x s.context entry → found ≡ Some flaw → n ≡ new.count
        → IsAnswerTurn leads first next question x s number before old new counted kept later (Judged (BadEntry n flaw))
    answer_flawed found flaw n f is same =
        let counts = reads.count in
        let here : n ≡ old.count + 1 = omega (arith, same, counts) in
        behind_one old new entry (IsAgainst before question x s.context (old.count + 1) (BadEntry n flaw)) reads (λ left. (flaw, sym f ∙ is, ap (λ (k : ℕ). BadEntry k flaw) here))

  module _ (one : OneRest) (same : new ≡ old) where
    -- no entry is left
    pub answer_missing : (n : ℕ) → AreAllLeft old [] → n ≡ new.count → IsAnswerTurn leads first next question x s number before old new counted kept later (Judged (Missing (n + 1)))
    answer_missing n over counts =
        let here : n ≡ old.count = counts ∙ ap (λ (e : EntriesFrom). e.count) same in
        so_at_end one old new (IsAgainst before question x s.context (old.count + 1) (Missing (n + 1))) same over (ap (λ (k : ℕ). Missing (k + 1)) here)

    -- the text has a fault
    pub answer_unread : (why : CertificateRefusal) → RefusesBehind old.version old.bytes old.count old.place why → IsAnswerTurn leads first next question x s number before old new counted kept later (Judged (Certificate why))
    answer_unread why h = so_at_fault one old new (IsAgainst before question x s.context (old.count + 1) (Certificate why)) same why h

  -- a question that is taken, and one that isn't
  pub question_taken : (found : Option Kind) (progress : Progress) → found ≡ refusal_of question s x → found ≡ None → IsAnswerTurn leads first next question x s number before old new counted kept later progress
      → IsQuestionTurn leads first next question x s number before old new counted kept later progress
  question_taken found progress e none turn = inl (sym e ∙ none, turn)

  pub question_barred : (found : Option Kind) (kind : Kind) → found ≡ refusal_of question s x → found ≡ Some kind → new ≡ old
      → IsQuestionTurn leads first next question x s number before old new counted kept later (Judged (Script number kind))
  question_barred found kind e is same = inr (kind, sym e ∙ is, refl, same)

-- ---- a command

false_by_test : (b : Bool) → (b ≡ true → ⊥) → b ≡ false
false_by_test true h = absurd (h refl)
false_by_test false h = refl

-- an effect other than `Exit` is of a command other than `(exit)`
pub not_exit : OnlyExitEnds → (s : State) (x : Sexpr) (step : Step) → after s x ≡ Ok step → step.effect ≢ Exit → is_exit x ≡ false
not_exit law s x step e apart = false_by_test (is_exit x) (λ f. apart ((law s x step e).1 f))

pub told_apart : (notice : Notice) → Tell notice ≢ Exit
told_apart notice e = absurd cc

pub ask_apart : (question : Question) → Ask question ≢ Exit
ask_apart question e = absurd cc

abbrev pub step_of : State → Effect → Step
step_of state effect = record { state = state; effect = effect }

script_refused : (k : ℕ) (kind : Kind) → ◌≡◌ {A = Judgement} (Script k kind) Accepted → ⊥
script_refused k kind e = absurd cc

missing_refused : (n : ℕ) → ◌≡◌ {A = Judgement} (Missing n) Accepted → ⊥
missing_refused n e = absurd cc

entry_refused : (n : ℕ) (flaw : EntryFlaw) → ◌≡◌ {A = Judgement} (BadEntry n flaw) Accepted → ⊥
entry_refused n flaw e = absurd cc

module _ {K : Type 0} (leads : Leads K) (before : List Placed) (first : K) where
  -- the same turns come to the same
  pub comes_as : (turns others : List (Turn FileEntry)) (judgement : Judgement) (last : K) → turns ≡ others → ComesTo leads before first others judgement last → ComesTo leads before first turns judgement last
  comes_as turns others judgement last e h = subst (λ (ts : List (Turn FileEntry)). ComesTo leads before first ts judgement last) (sym e) h

  module _ (e : EntriesFrom) (number : ℕ) (old : Kept) (earlier : Earlier) (p : Place FileEntry) (at : StandsAt number e.count old earlier p before) where
    -- behind the script
    pub comes_over : (turns : List (Turn FileEntry)) (s : State) (all : List FileEntry) (judgement : Judgement) → turns ≡ turn (with_left p all) s ends ∷ [] → judgement ≡ surplus_of (e.count + 1) all → ComesTo leads before first turns judgement first
    comes_over turns s all judgement same is =
        comes_as turns (turn (with_left p all) s ends ∷ []) judgement first same (record {
          judged = ap (λ (n : ℕ). surplus_of (n + 1) all) at.count ∙ sym is;
          kept = λ a. refl;
        })

    -- what the turns come to with these entries
    abbrev Comes : Sexpr → Judgement → K → List FileEntry → Type 0
    Comes x judgement last all = (xs : List Sexpr) → ComesTo leads before first (course told_by (with_left p all) (x ∷ xs) ended) judgement last

    module _ (w : Walk) (x : Sexpr) where
      pub notice_judged : OnlyExitEnds → (notice : Notice) → Walked w p.state x (Tell notice) → w.number ≡ number + 1 → GoesTo leads first first p before e e x w.number w.state earlier
      notice_judged only notice h counted = record {
        behind = behind_told p h.next;
        placed = before;
        taken = [];
        there = record { numbered = ap (λ (n : ℕ). n + 1) at.numbered ∙ sym counted; stands = h.stands; held = at.held; count = at.count };
        takes = read_none e;
        counted = counted ∙ ap (λ (n : ℕ). n + 1) (sym at.numbered);
        goes_on = not_exit only p.state x (step_of h.next (Tell notice)) h.leads (told_apart notice);
        gives = λ left xs judgement last c. comes_as _ _ judgement last (told_turn told_by (with_left p left) x h.next notice h.leads xs ended) (record { judged = c.judged; kept = c.kept });
      }

      pub exit_judged : (judgement : Judgement) (new : EntriesFrom) → Walked w p.state x Exit → IsSoOfAll e new (λ all. judgement ≡ surplus_of (e.count + 1) all) → IsSoOfAll e new (Comes x judgement first)
      exit_judged judgement new h so =
          so_also e new (λ all. judgement ≡ surplus_of (e.count + 1) all) (Comes x judgement first)
          (λ all is xs. comes_over _ h.next all judgement (exit_turn told_by (with_left p all) x h.next h.leads xs ended) is) so

      pub refused_judged : (v : Walk) (kind : Kind) (last : K) → Refuses v w p.state x kind → w.number ≡ number → IsSoOfAll e e (Comes x (Script w.number kind) last)
      refused_judged v kind last h same = of_all e (Comes x (Script w.number kind) last) (λ all xs.
          comes_as _ _ (Script w.number kind) last (refused_turn told_by (with_left p all) x h.why h.refuses xs ended) (record {
            judged = ap (λ (k : ℕ). Script k (kind_of h.why)) (at.numbered ∙ sym same) ∙ ap (Script w.number) (sym h.is);
            kept = λ a. absurd (script_refused w.number kind a);
          }))

      -- what is kept behind the answer is `settled`
      module _ (only : OnlyExitEnds) (question : Question) (counted : ℕ) (settled : Kept) (later : Earlier) (next : K) (new : EntriesFrom) (h : Walked w p.state x (Ask question)) (same : w.number ≡ number) where
        answered : (entry : FileEntry) → refusal_of question h.next x ≡ None → IsReadTo e new (entry ∷ []) → IsRightTurn leads first next question x h.next before entry settled later → counted ≡ w.number + 1
            → GoesTo leads first next p before e new x counted settled later
        answered entry taken reads right counts =
            let s = h.next in
            let sofar = before ++ placed question s.context entry ∷ [] in
            let more = length-append before (placed question s.context entry ∷ []) in
            let count = at.count in
            let one = reads.count in
            record {
              behind = behind_answer told_by p s entry [];
              placed = sofar;
              taken = entry ∷ [];
              there = record { numbered = ap (λ (n : ℕ). n + 1) (at.numbered ∙ sym same) ∙ sym counts; stands = right.stands; held = right.held; count = omega (arith, more, count, one) };
              takes = reads;
              counted = counts ∙ ap (λ (n : ℕ). n + 1) (same ∙ sym at.numbered);
              goes_on = not_exit only p.state x (step_of s (Ask question)) h.leads (ask_apart question);
              gives = λ left xs judgement last c.
                  let q = behind_answer told_by p s entry left in
                  comes_as _ _ judgement last (answered_turn told_by (with_left p (entry ∷ left)) x s question entry left h.leads taken refl xs ended) (record {
                    judged = ap (λ (found : Option EntryFlaw). judged_entry (length before + 1) found (judged_turns sofar (course told_by q xs ended))) right.right ∙ c.judged;
                    kept = λ a. (next, right.led, c.kept a);
                  });
            }

        unanswered : (judgement : Judgement) → refusal_of question h.next x ≡ None → (all : List FileEntry) → IsAgainst before question x h.next.context (e.count + 1) judgement all → Comes x judgement next all
        unanswered judgement taken [] is = λ xs.
            comes_as _ _ judgement next (unanswered_turn told_by (with_left p []) x h.next question h.leads taken refl xs ended)
            (record { judged = ap (λ (n : ℕ). Missing (n + 1)) at.count ∙ sym is; kept = λ a. absurd (missing_refused (e.count + 1) (sym is ∙ a)) })
        unanswered judgement taken (entry ∷ left) (flaw, flawed, is) = λ xs.
            let s = h.next in
            let q = behind_answer told_by p s entry left in
            let sofar = before ++ placed question s.context entry ∷ [] in
            comes_as _ _ judgement next (answered_turn told_by (with_left p (entry ∷ left)) x s question entry left h.leads taken refl xs ended) (record {
              judged = ap (λ (found : Option EntryFlaw). judged_entry (length before + 1) found (judged_turns sofar (course told_by q xs ended))) flawed ∙ ap (λ (n : ℕ). BadEntry (n + 1) flaw) at.count ∙ sym is;
              kept = λ a. absurd (entry_refused (e.count + 1) flaw (sym is ∙ a));
            })

        answer_judged : (progress : Progress) → refusal_of question h.next x ≡ None → IsAnswerTurn leads first next question x h.next w.number before e new counted settled later progress
            → IsJudgedTurn leads first next p before e new x counted settled later progress
        answer_judged Going taken (entry, reads, right, counts) = answered entry taken reads right counts
        answer_judged (Judged judgement) taken so =
            so_also e new (IsAgainst before question x h.next.context (e.count + 1) judgement) (Comes x judgement next) (unanswered judgement taken) so

        barred_judged : (kind : Kind) → refusal_of question h.next x ≡ Some kind → IsSoOfAll e e (Comes x (Script w.number kind) next)
        barred_judged kind barred = of_all e (Comes x (Script w.number kind) next) (λ all xs.
            comes_as _ _ (Script w.number kind) next (barred_turn told_by (with_left p all) x h.next question kind h.leads barred xs ended) (record {
              judged = ap (λ (k : ℕ). Script k kind) (at.numbered ∙ sym same);
              kept = λ a. absurd (script_refused w.number kind a);
            }))

        pub question_judged : (progress : Progress) → IsQuestionTurn leads first next question x h.next w.number before e new counted settled later progress → IsJudgedTurn leads first next p before e new x counted settled later progress
        question_judged progress (inl (taken, turn)) = answer_judged progress taken turn
        question_judged progress (inr (kind, barred, is, stays)) =
            subst (λ (t : Progress). IsJudgedTurn leads first next p before e new x counted settled later t) (sym is)
            (subst (λ (n : EntriesFrom). IsSoOfAll e n (Comes x (Script w.number kind) next)) (sym stays) (barred_judged kind barred))

pub course_none : (p : Place FileEntry) → course told_by p [] ended ≡ turn p p.state ends ∷ []
unfolding course
course_none p = refl
