-- What is told of a command, by what the session keeps.
use Rattle.std.proofs.Common.{arith, refl, sym, ap, subst, ◌∙◌, ◌≡◌, ◌≢◌, ◌<◌, ◌≤◌, ◌+◌, List, ℕ, suc, [], ◌∷◌, ◌++◌, length, map, drop, get_or, Bool, false, Option, Some, None, Result, Ok, Err}
use Rattle.std.proofs.lemmas.List.{drop_all, append-nil, get_or-drop}
use Rattle.smt_sexpr.specs.Tree.{Sexpr, Items, none, more}
use Rattle.smt_sexpr.specs.Table.{Table, Means, MeansEach}
use Rattle.smt_sexpr.proofs.Shapes.{next_of, none_of}
use Rattle.stn_core.specs.declared.named.NamedValue.{NamedValue}
use Rattle.stn_core.specs.Named.{AreWithinLimit}
use Rattle.refute_tree.specs.declared.lemma.Lemma.{Lemma}
use Rattle.cert_text.specs.declared.entry.Entry.{Entry}
use Rattle.cert_text.specs.declared.entry.Entry.TheVariants.{Unsat}
use Rattle.idl_node.specs.Nodes.{NodeValue}
use Rattle.idl_node.specs.Truth.{point_values, AreTruths}
use Rattle.idl_apply.specs.Applied.{Made}
use Rattle.idl_term.specs.Contexts.{Context, IsScheduleFor, environment}
use Rattle.idl_term.specs.Lowered.{lowered}
use Rattle.idl_term.specs.Scopes.{Scope}
use Rattle.idl_term.specs.Values.{Value, value}
use Rattle.idl_apply.specs.declared.error.TermRefusal.{TermRefusal}
use Rattle.idl_value.proofs.Evaluating.{values_count}
use Rattle.smt_answer.specs.code.Answers.{AreAnswers, is_marked}
use Rattle.smt_answer.specs.Texts.{information_line, values_line, cited_names, core_line, with_item, cited_items, assumptions_line}
use Rattle.smt_answer.proofs.Cores.{names_same}
use Rattle.smt_sexpr.specs.Shapes.{items_of}
use Rattle.smt_script.specs.code.Kept.{Kept, IsAssumed, AssumedStands, sexpr_of}
use Rattle.smt_script.specs.code.Shapes.{literal_pair, shown_literal}
use Rattle.smt_script.specs.declared.assumption.AssumedLiteral.{AssumedLiteral}
use Rattle.smt_script.specs.declared.state.Active.{Active}
use Rattle.smt_script.specs.States.{State, Assumed, first_refusal, terms_refusal, asked_by, asked_of}
use Rattle.smt_script.specs.code.TermValues.{value_shown}
use Rattle.smt_script.specs.declared.information.Information.{Information}
use Rattle.smt_script.specs.declared.state.Mode.TheVariants as mode
use Rattle.smt_script.specs.declared.state.Notice.{Notice}
use Rattle.smt_script.specs.declared.state.Notice.TheVariants as notice
use Rattle.smt_script.specs.declared.value.TermValue.{TermValue}
use Rattle.smt_script.proofs.Levels.{levels_count}
use Rattle.script_walk.specs.code.Standing.{Stands}
use Rattle.unsat_cores.specs.Cores.{is_cited_root}
use Rattle.dtp_entry.specs.Cores.{cites_assertion}
use Rattle.dtp_entry.specs.Transcripts.{Held, schedule_held, told_of, told, told_values, told_core, assumptions_of, told_assumptions}
use Rattle.dtp_entry.specs.declared.report.Report.TheVariants.{Verdicts}
use Rattle.dtp_entry.proofs.Verdicts.{sorts_count}
use Rattle.dtp_session.specs.declared.session.Session.{Session}
use Rattle.dtp_session.specs.code.Forms.{schedule_shown, CiteSame}
use Rattle.dtp_session.specs.code.Sessions.{AreCitedBy, CitesAssumed, Holds}
use Rattle.dtp_session.proofs.Answering.{held_schedule, held_refutation}

-- ---- information

pub inform_is : (held : Held) (s : State) (x : Sexpr) (n : Notice) (information : Information) (kept : Kept) (levels : ℕ) (old now : List ℕ) → n ≡ notice.Inform information → Stands kept s → levels ≡ length kept.levels → old ≡ []
    → now ≡ old ++ information_line information levels → now ≡ told Verdicts held s x n
inform_is held s x n information kept levels old now is stands counted empty e =
    let count : levels ≡ length s.below = counted ∙ levels_count kept kept.levels s.below stands.stands.levels in
    e ∙ ap (λ (t : List ℕ). t ++ information_line information levels) empty
    ∙ ap (information_line information) count ∙ ap (told Verdicts held s x) (sym is)

-- ---- a schedule that is held

-- the schedule that the code finds is the one that is told
pub is_schedule : (given : Option (List NamedValue)) (entry : Entry) (a b : List NamedValue) → schedule_shown given entry ≡ Some a → schedule_shown given entry ≡ Some b → a ≡ b
is_schedule given entry a b e f = let both : Some a ≡ Some b = sym e ∙ f in cc

same_entry : (a b : Entry) → ◌≡◌ {A = Held} (Some a) (Some b) → a ≡ b
same_entry a b e = cc

-- the values that are held are the schedule
pub record IsShown (c : Context) (values : List NamedValue) (marks : List Bool) : Type 0 where
  pub fits : IsScheduleFor c values
  pub within : AreWithinLimit values
  pub truths : AreTruths c.nodes (point_values values) marks

-- it is the one that the entry's schedule is
pub values_told : (p : Session) (s : State) (found : Entry) (values : List NamedValue) → Holds p s → s.mode ≡ mode.Sat → p.held ≡ Some found → schedule_shown p.given found ≡ Some values
    → schedule_held s.context p.held ≡ Some values
values_told p s found values holds sat held e =
    let w = held_schedule p s holds sat in
    let same : w.entry ≡ found = same_entry w.entry found (sym w.held ∙ held) in
    let both : w.schedule ≡ values = is_schedule p.given found w.schedule values (ap (schedule_shown p.given) (sym same) ∙ w.shown) e in
    ap (schedule_held s.context) w.held ∙ w.is ∙ ap Some both

pub values_shown : (p : Session) (s : State) (found : Entry) (values : List NamedValue) → Holds p s → s.mode ≡ mode.Sat → p.held ≡ Some found → schedule_shown p.given found ≡ Some values → IsShown s.context values p.marks.items
values_shown p s found values holds sat held e =
    let w = held_schedule p s holds sat in
    let same : w.entry ≡ found = same_entry w.entry found (sym w.held ∙ held) in
    let both : w.schedule ≡ values = is_schedule p.given found w.schedule values (ap (schedule_shown p.given) (sym same) ∙ w.shown) e in
    subst (λ (vs : List NamedValue). IsShown s.context vs p.marks.items) both (record { fits = w.fits; within = w.within; truths = w.truths })

-- as many values as names
pub values_counted : (kept : Kept) (s : State) (values : List NamedValue) → Stands kept s → IsScheduleFor s.context values → length values ≡ length kept.scope.declared
values_counted kept s values stands fits =
    values_count _ values fits ∙ sorts_count s.context.declared ∙ ap (λ (scope : Scope). length scope.declared) (sym stands.stands.scope)

pub values_are : (held : Held) (s : State) (values : List NamedValue) (terms : Items) (old now : List ℕ) → schedule_held s.context held ≡ Some values → old ≡ []
    → now ≡ old ++ values_line (value (environment s.context values)) terms → now ≡ told_values held s terms
values_are held s values terms old now e empty is =
    is ∙ ap (λ (t : List ℕ). t ++ values_line (value (environment s.context values)) terms) empty
    ∙ sym (ap (λ (found : Option (List NamedValue)). told_of found (λ schedule. values_line (value (environment s.context schedule)) terms)) e)

-- the cited ones of items, by flags that begin where others have gone on so far
items_from : (f g : ℕ → Bool) (n : ℕ) → ((r : ℕ) → f r ≡ g (n + r)) → (number : ℕ) (xs : Items) → cited_items f number xs ≡ cited_items g (n + number) xs
items_from f g n h number none = refl
items_from f g n h number (more x xs) =
    let next : n + suc number ≡ suc (n + number) = omega arith in
    ap (λ (b : Bool). with_item b x (cited_items f (suc number) xs)) (h number)
    ∙ ap (λ (ys : Items). with_item (g (n + number)) x ys) (items_from f g n h (suc number) xs ∙ ap (λ (k : ℕ). cited_items g k xs) next)

-- ---- a refutation that is held

-- the code has no assumptions where the state has none
none_assumed : (kept : Kept) (s : State) (n : Option Active) (a : Option Assumed) → AssumedStands kept n a → n ≡ None → a ≡ None
none_assumed kept s None None h e = refl
none_assumed kept s None (Some a) h e = absurd h
none_assumed kept s (Some n) a h e = absurd cc

pub assumed_none : (kept : Kept) (s : State) → Stands kept s → kept.assumed ≡ None → s.assumed ≡ None
assumed_none kept s stands e = none_assumed kept s kept.assumed s.assumed stands.stands.assumed e

some_assumed : (kept : Kept) (n : Option Active) (a : Option Assumed) → AssumedStands kept n a → n ≢ None → (k : Active) × (b : Assumed) × (a ≡ Some b) × IsAssumed kept k b
some_assumed kept None a h some = absurd (some refl)
some_assumed kept (Some n) None h some = absurd h
some_assumed kept (Some n) (Some a) h some = (n, a, refl, h)

-- and some where it has
pub assumed_some : (kept : Kept) (s : State) → Stands kept s → kept.assumed ≢ None → (k : Active) × (b : Assumed) × (s.assumed ≡ Some b) × IsAssumed kept k b
assumed_some kept s stands some = some_assumed kept kept.assumed s.assumed stands.stands.assumed some

pairs_shown : (ls : List AssumedLiteral) → map sexpr_of (map literal_pair ls) ≡ map shown_literal ls
pairs_shown [] = refl
pairs_shown (l ∷ ls) = ap (λ (xs : List Sexpr). shown_literal l ∷ xs) (pairs_shown ls)

-- as they are written
pub literals_are : (kept : Kept) (k : Active) (a : Assumed) (ls : List AssumedLiteral) → IsAssumed kept k a → map literal_pair ls ≡ kept.literals → items_of (map shown_literal ls) ≡ a.literals
literals_are kept k a ls is e = ap items_of (sym (pairs_shown ls)) ∙ ap (λ (ps : List (List ℕ × Bool)). items_of (map sexpr_of ps)) e ∙ is.literals

-- the flags that tell what a refutation of what is active rests on
module _ (kept : Kept) (s : State) (lemmas others : List Lemma) (same : CiteSame lemmas others) (stands : Stands kept s) (nodes : List NodeValue) (roots : List ℕ) (cited : List Bool)
    (same_nodes : nodes ≡ kept.nodes) (same_roots : roots ≡ kept.roots) (each : (r : ℕ) → is_marked cited r ≡ is_cited_root nodes roots others r) where
  pub cited_as : (r : ℕ) → is_marked cited r ≡ cites_assertion s.context lemmas r
  cited_as r =
      each r ∙ ap (λ (ns : List NodeValue). is_cited_root ns roots others r) (same_nodes ∙ stands.stands.nodes)
      ∙ ap (λ (ks : List ℕ). is_cited_root s.context.nodes ks others r) (same_roots ∙ stands.stands.roots) ∙ sym (same s.context.nodes s.context.roots r)

module _ (held : Held) (s : State) (x : Sexpr) (lemmas : List Lemma) (cited : List Bool) (is_held : held ≡ Some (Unsat lemmas)) (old now : List ℕ) (empty : old ≡ []) where
  pub core_is : (kept : Kept) → Stands kept s → ((r : ℕ) → is_marked cited r ≡ cites_assertion (asked_of s) lemmas r) → now ≡ old ++ core_line (cited_names (is_marked cited) 0 kept.labels)
      → now ≡ told Verdicts held s x notice.Core
  core_is kept stands each is =
      is ∙ ap (λ (t : List ℕ). t ++ core_line (cited_names (is_marked cited) 0 kept.labels)) empty
      ∙ ap core_line (names_same (is_marked cited) (cites_assertion (asked_of s) lemmas) each 0 kept.labels)
      ∙ ap (λ (labels : List (Option (List ℕ))). core_line (cited_names (cites_assertion (asked_of s) lemmas) 0 labels)) stands.stands.labels
      ∙ sym (ap (λ (h : Held). told_core h s) is_held)

  pub assumptions_are : (a : Assumed) (flags : List Bool) (literals : Items) → s.assumed ≡ Some a → ((r : ℕ) → is_marked flags r ≡ cites_assertion a.asked lemmas (length a.active.assertions + r)) → literals ≡ a.literals
      → now ≡ old ++ assumptions_line (cited_items (is_marked flags) 0 literals) → now ≡ told Verdicts held s x notice.Assumptions
  assumptions_are a flags literals some each same is =
      let first : length a.active.assertions + 0 ≡ length a.active.assertions = omega arith in
      is ∙ ap (λ (t : List ℕ). t ++ assumptions_line (cited_items (is_marked flags) 0 literals)) empty
      ∙ ap (λ (xs : Items). assumptions_line (cited_items (is_marked flags) 0 xs)) same
      ∙ ap assumptions_line (items_from (is_marked flags) (cites_assertion a.asked lemmas) (length a.active.assertions) each 0 a.literals)
      ∙ ap (λ (n : ℕ). assumptions_line (cited_items (cites_assertion a.asked lemmas) n a.literals)) first
      ∙ sym (ap (assumptions_of lemmas) some)
      ∙ sym (ap (λ (h : Held). told_assumptions h s) is_held)

-- the flags that are held, where there are assumptions
cites_some : (c : Context) (assumed : Option Assumed) (a : Assumed) (lemmas : List Lemma) (cited : List Bool) → assumed ≡ Some a → CitesAssumed c assumed lemmas cited → AreCitedBy c a lemmas cited
cites_some c assumed a lemmas cited e h = subst (λ (o : Option Assumed). CitesAssumed c o lemmas cited) e h

module _ (p : Session) (s : State) (holds : Holds p s) (unsat : s.mode ≡ mode.Unsat) where
  abbrev pub told_lemmas : List Lemma
  told_lemmas = (held_refutation p s holds unsat).lemmas

  pub told_held : p.held ≡ Some (Unsat told_lemmas)
  told_held = (held_refutation p s holds unsat).held

  pub flags_held : (a : Assumed) → s.assumed ≡ Some a → AreCitedBy s.context a told_lemmas p.cited.items
  flags_held a e = cites_some s.context s.assumed a told_lemmas p.cited.items e (held_refutation p s holds unsat).cites

  -- of the assertions, and the assumptions behind them
  pub core_flags : (a : Assumed) → s.assumed ≡ Some a → (r : ℕ) → is_marked p.cited.items r ≡ cites_assertion (asked_of s) told_lemmas r
  core_flags a e r =
      (flags_held a e).each r ∙ sym (ap (λ (o : Option Assumed). cites_assertion (asked_by s.context o) told_lemmas r) e)

  -- of the assumptions alone, which stand behind so many assertions
  pub assumed_flags : (a : Assumed) (active : ℕ) (flags : List Bool) → s.assumed ≡ Some a → active ≡ length s.context.roots → flags ≡ drop active p.cited.items
      → (r : ℕ) → is_marked flags r ≡ cites_assertion a.asked told_lemmas (length a.active.assertions + r)
  assumed_flags a active flags e many is r =
      ap (λ (bs : List Bool). is_marked bs r) is ∙ get_or-drop active p.cited.items r false ∙ (flags_held a e).each (active + r)
      ∙ ap (λ (n : ℕ). cites_assertion a.asked told_lemmas (n + r)) (many ∙ (flags_held a e).active)

-- ---- terms that were tested

first_accepted : (scope : Scope) (nodes : List NodeValue) (x : Sexpr) (others : Items) (found : Result Made TermRefusal) → lowered scope nodes x ≡ found → terms_refusal scope nodes (more x others) ≡ None
    → (made : Made) × (lowered scope nodes x ≡ Ok made) × (terms_refusal scope nodes others ≡ None)
first_accepted scope nodes x others (Err why) e free =
    absurd (let same : Some why ≡ None = sym (ap (λ (f : Result Made TermRefusal). first_refusal f (terms_refusal scope nodes others)) e) ∙ free in cc)
first_accepted scope nodes x others (Ok made) e free =
    (made, e, sym (ap (λ (f : Result Made TermRefusal). first_refusal f (terms_refusal scope nodes others)) e) ∙ free)

module _ (t : Table) (ids : List ℕ) (scope : Scope) (nodes : List NodeValue) where
  -- the terms from i on are accepted
  abbrev pub AreTestedFrom : ℕ → Type 0
  AreTestedFrom i = (rest : Items) × MeansEach t (drop i ids) rest × (terms_refusal scope nodes rest ≡ None)

  pub record IsTestedNext (i : ℕ) : Type 0 where
    pub term : Sexpr
    pub means : Means t (get_or ids i 0) term
    pub made : (made : Made) × (lowered scope nodes term ≡ Ok made)
    pub behind : AreTestedFrom (i + 1)

  pub tested_next : (i : ℕ) → i < length ids → AreTestedFrom i → IsTestedNext i
  tested_next i within h =
      let n = next_of t ids i h.0 within h.1 in
      let w = first_accepted scope nodes n.first n.others (lowered scope nodes n.first) refl (sym (ap (terms_refusal scope nodes) n.is) ∙ h.2) in
      record { term = n.first; means = n.first_means; made = (w.0, w.1); behind = (n.others, n.means, w.2) }

module _ (t : Table) (ids : List ℕ) (value_of : Sexpr → Value) where
  -- the terms before i have these values
  abbrev pub AreAnsweredTo : List TermValue → ℕ → Type 0
  AreAnsweredTo answers i =
      (ts : Items) → MeansEach t ids ts → (rest : Items) × MeansEach t (drop i ids) rest
      × ((others : List TermValue) → AreAnswers value_of rest others → AreAnswers value_of ts (answers ++ others))

  pub answered_none : AreAnsweredTo [] 0
  answered_none ts means = (ts, means, λ others h. h)

  one_more : (answers others : List TermValue) (v : TermValue) → (answers ++ v ∷ []) ++ others ≡ answers ++ v ∷ others
  one_more [] others v = refl
  one_more (a ∷ answers) others v = ap (λ (vs : List TermValue). a ∷ vs) (one_more answers others v)

  pub answered_more : (answers now : List TermValue) (v : TermValue) (i : ℕ) → AreAnsweredTo answers i → i < length ids → now ≡ answers ++ v ∷ [] → ((x : Sexpr) → Means t (get_or ids i 0) x → value_of x ≡ value_shown v) → AreAnsweredTo now (i + 1)
  answered_more answers now v i h within e says ts means =
      let so_far = h ts means in
      let n = next_of t ids i so_far.0 within so_far.1 in (
        n.others,
        n.means,
        λ others all. subst (AreAnswers value_of ts) (sym (ap (λ (vs : List TermValue). vs ++ others) e ∙ one_more answers others v))
            (so_far.2 (v ∷ others) (subst (λ (r : Items). AreAnswers value_of r (v ∷ others)) (sym n.is) (says n.first n.first_means, all))),
      )

  pub answered_all : (answers : List TermValue) (i : ℕ) → AreAnsweredTo answers i → length ids ≤ i → (ts : Items) → MeansEach t ids ts → AreAnswers value_of ts answers
  answered_all answers i h end ts means =
      let so_far = h ts means in
      let last : so_far.0 ≡ none = none_of t ids i so_far.0 (drop_all i ids end) so_far.1 in
      subst (AreAnswers value_of ts) (append-nil answers) (so_far.2 [] (subst (λ (r : Items). AreAnswers value_of r []) (sym last) tt))
