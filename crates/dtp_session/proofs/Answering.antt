-- The piece that answers a command.
use Rattle.std.proofs.Common.{arith, refl, sym, ap, subst, inl, inr, ◌∙◌, ◌≡◌, ◌≢◌, ◌≤◌, ◌+◌, ◌⊎◌, List, [], ◌∷◌, length, take, Bool, ℕ, Option, Some, None}
use Rattle.std.proofs.lemmas.List.{length-append, length-take}
use Rattle.smt_sexpr.specs.Tree.{Sexpr}
use Rattle.stn_core.specs.declared.named.NamedValue.{NamedValue}
use Rattle.stn_core.specs.Named.{AreWithinLimit}
use Rattle.cert_text.specs.declared.entry.Version.{Version}
use Rattle.cert_text.specs.declared.entry.Version.TheVariants.{One, Two}
use Rattle.cert_text.specs.declared.entry.Entry.{Entry}
use Rattle.cert_text.specs.declared.entry.Entry.TheVariants.{Sat, Unsat, Best, Unbounded}
use Rattle.cert_text.specs.Form.{entry_sexpr, line_of}
use Rattle.clause_form.specs.Restricting.{restricted}
use Rattle.idl_term.specs.Contexts.{Context, IsScheduleFor, IsContext, start, declares, defines, asserts, names}
use Rattle.idl_term.specs.Scopes.{Scope, Declaration, sorts_of}
use Rattle.idl_node.specs.Sorts.{AreOfSorts}
use Rattle.idl_node.specs.Truth.{point_values, AreTruths}
use Rattle.kept_lemmas.specs.declared.item.Kept.{Kept as Place}
use Rattle.kept_lemmas.specs.Facts.{Shelf}
use Rattle.refute_tree.specs.declared.lemma.Lemma.{Lemma}
use Rattle.smt_script.specs.declared.state.Effect.TheVariants.{Tell}
use Rattle.smt_script.specs.declared.state.Effect.{Effect}
use Rattle.smt_script.specs.declared.state.Mode.{Mode}
use Rattle.smt_script.specs.declared.state.Mode.TheVariants as mode
use Rattle.smt_script.specs.declared.state.Notice.{Notice}
use Rattle.smt_script.specs.declared.state.Notice.TheVariants as notice
use Rattle.smt_script.specs.declared.state.Question.{Question}
use Rattle.smt_script.specs.declared.state.Question.TheVariants.{CheckSat}
use Rattle.smt_script.specs.code.Kept.{Kept, AssumedStands, StandsFor}
use Rattle.smt_script.specs.Laws.{ModeIsKept, ModelNeedsSat, ValuesNeedSat, ProofNeedsUnsat, CoreNeedsUnsat, AssumptionsNeedUnsat}
use Rattle.smt_script.specs.declared.state.Satisfiability.{Satisfiability}
use Rattle.smt_script.specs.declared.state.Satisfiability.TheVariants as verdict
use Rattle.smt_script.specs.States.{State, Step, Assumed, released, settled, asked_by, asked_of, active_by}
use Rattle.smt_script.specs.declared.state.Active.{Active}
use Rattle.script_walk.specs.code.Events.{Leads, IsReady as IsWalkReady}
use Rattle.script_walk.specs.code.Standing.{Stands}
use Rattle.script_walk.specs.declared.walk.Walk.{Walk}
use Rattle.dtp_entry.specs.declared.report.Report.{Report}
use Rattle.dtp_entry.specs.declared.report.Report.TheVariants.{Verdicts}
use Rattle.dtp_entry.specs.Bests.{Satisfies}
use Rattle.dtp_entry.specs.Cores.{cites_assertion}
use Rattle.dtp_entry.specs.Entries.{verdict_of}
use Rattle.dtp_entry.specs.Reports.{version_of}
use Rattle.dtp_entry.specs.Transcripts.{Held, schedule_in, told, told_proof, Decides}
use Rattle.dtp_session.specs.declared.piece.Piece.{Piece}
use Rattle.dtp_session.specs.declared.piece.Piece.TheVariants.{Proof, Told}
use Rattle.dtp_session.specs.declared.piece.Piece.TheVariants as piece
use Rattle.dtp_session.specs.declared.session.Session.{Session}
use Rattle.dtp_session.specs.code.Decisions.{IsDecision}
use Rattle.dtp_session.specs.code.Forms.{schedule_shown}
use Rattle.dtp_session.specs.code.Keeping.{IsShownIn, passed}
use Rattle.dtp_session.proofs.Deciding.{sat_decides, schedule_decides}
use Rattle.dtp_session.proofs.Keeping.{passed_as}
use Rattle.dtp_session.specs.code.Sessions.{ShowsSchedule, AreCitedIn, CitesAssumed, RefutesAgain, ShowsRefutation, ShowsVerdict, Holds, IsAskedIn, MayTell, KeepsReading, KeepsVerdict, Tells, IsChecked, IsAnswered}

-- ---- behind a command

abbrev Shows : Session → Mode → Context → Option Assumed → Type 0
Shows p m c a = ShowsVerdict (version_of p.report) m c a p.held p.given p.marks.items p.cited.items p.earlier p.last

shows_by : (p : Session) (m n : Mode) (c d : Context) (a b : Option Assumed) → m ≡ n → c ≡ d → a ≡ b → Shows p n d b → Shows p m c a
shows_by p m n c d a b e f g h =
    subst (λ (k : Mode). Shows p k c a) (sym e) (subst (λ (k : Context). Shows p n k a) (sym f) (subst (λ (k : Option Assumed). Shows p n d k) (sym g) h))

shows_nothing : (p : Session) (m : Mode) (c : Context) (a : Option Assumed) → m ≡ mode.Nothing → Shows p m c a
shows_nothing p m c a e = subst (λ (k : Mode). Shows p k c a) (sym e) tt

shows_kept : (p : Session) (s next : State) → (next.mode ≡ mode.Nothing) ⊎ ((next.mode ≡ s.mode) × (next.context ≡ s.context) × (next.assumed ≡ s.assumed))
    → Shows p s.mode s.context s.assumed → Shows p next.mode next.context next.assumed
shows_kept p s next (inl e) h = shows_nothing p next.mode next.context next.assumed e
shows_kept p s next (inr (e, f, g)) h = shows_by p next.mode s.mode next.context s.context next.assumed s.assumed e f g h

module _ (p : Session) (w : Walk) (s : State) (x : Sexpr) (effect : Effect) (h : Leads w s x effect) where
  abbrev step : Step
  step = record { state = h.next; effect = effect }

  pub holds_after : ModeIsKept → Holds p s → Holds (record p { walk = w }) h.next
  holds_after law holds = record {
    stands = h.stands;
    shows = shows_kept p s h.next (law s x step h.leads) holds.shows;
  }

pub may_after : (w : Walk) (s : State) (x : Sexpr) (n : Notice) (h : Leads w s x (Tell n)) → ModelNeedsSat → ValuesNeedSat → ProofNeedsUnsat → CoreNeedsUnsat → AssumptionsNeedUnsat → MayTell h.next x n
may_after w s x n h model values proof core assumptions =
    let step : Step = record { state = h.next; effect = Tell n } in
    record {
      model = λ e. model s x step h.leads (ap Tell e);
      values = λ e. values s x step h.leads (ap Tell e);
      proof = λ e. proof s x step h.leads (ap Tell e);
      core = λ e. core s x step h.leads (ap Tell e);
      assumptions = λ e. assumptions s x step h.leads (ap Tell e);
    }

-- text and marks aside, the session is as before
pub holds_kept : (p q : Session) (s : State) → KeepsVerdict p q → q.marks ≡ p.marks → Holds p s → Holds q s
holds_kept p q s keeps marks holds = record {
  stands = subst (λ (k : Kept). Stands k s) (sym keeps.state) holds.stands;
  shows = rw (keeps.held, keeps.given, keeps.cited, marks, keeps.reading.report, keeps.reading.earlier, keeps.last) holds.shows;
}

-- ---- a question that what is held answers

-- the schedule that is held
pub held_schedule : (p : Session) (s : State) → Holds p s → s.mode ≡ mode.Sat → ShowsSchedule s.context (asked_of s) p.held p.given p.marks.items
held_schedule p s holds sat = subst (λ (m : Mode). Shows p m s.context s.assumed) sat holds.shows

-- the refutation that is held
pub held_refutation : (p : Session) (s : State) → Holds p s → s.mode ≡ mode.Unsat → ShowsRefutation (version_of p.report) s.context s.assumed p.held p.cited.items p.earlier p.last
held_refutation p s holds unsat = subst (λ (m : Mode). Shows p m s.context s.assumed) unsat holds.shows

-- the item that may be kept where nothing was changed
pub held_again : (p : Session) (s : State) → Holds p s → s.mode ≡ mode.Unsat → RefutesAgain p.earlier (asked_of s) p.last
held_again p s holds unsat = (held_refutation p s holds unsat).again

pub mode_is : (p : Session) (s : State) (m : Mode) → Holds p s → p.walk.state.mode ≡ m → s.mode ≡ m
mode_is p s m holds e = sym holds.stands.stands.mode ∙ e

-- a refutation answers every question
pub each_question : (version : Version) (question other : Question) (x y : Sexpr) (c : Context) (lemmas : List Lemma) → Decides version question x c (Unsat lemmas) → Decides version other y c (Unsat lemmas)
each_question One question other x y c lemmas h = record { right = record { right = h.right.right; fits = h.right.fits; form = tt }; so = h.so }
each_question Two question other x y c lemmas h = record { right = record { right = h.right.right; fits = h.right.fits; form = h.right.form }; so = h.so }

-- where a mode is left at a question, nothing is assumed
alone_by : (s : State) (m : Mode) → (s.assumed ≡ None) ⊎ (s.mode ≡ mode.Nothing) → s.mode ≡ m → m ≢ mode.Nothing → s.assumed ≡ None
alone_by s m (inl e) is some = e
alone_by s m (inr e) is some = absurd (some (sym is ∙ e))

pub alone_behind : (question : Question) (x : Sexpr) (s : State) (m : Mode) → IsAskedIn question x s → s.mode ≡ m → m ≢ mode.Nothing → s.assumed ≡ None
alone_behind question x s m asked is some = alone_by s m asked.alone is some

-- ---- the state behind an answer

released_assumed : (s : State) (a : Option Assumed) → (released s a).assumed ≡ s.assumed
released_assumed s None = refl
released_assumed s (Some a) = refl

settled_assumed : (v : Satisfiability) (s : State) → (settled v s).assumed ≡ s.assumed
settled_assumed verdict.Sat s = released_assumed s s.assumed
settled_assumed verdict.Unsat s = released_assumed s s.assumed

released_active : (s : State) (a : Option Assumed) → (released s a).context ≡ active_by s.context a
released_active s None = refl
released_active s (Some a) = refl

settled_active : (v : Satisfiability) (s : State) → (settled v s).context ≡ active_by s.context s.assumed
settled_active verdict.Sat s = released_active s s.assumed
settled_active verdict.Unsat s = released_active s s.assumed

-- what is active then
active_is : (v : Satisfiability) (s : State) (a : Option Assumed) → s.assumed ≡ a → (settled v s).context ≡ active_by s.context a
active_is v s a e = settled_active v s ∙ ap (active_by s.context) e

-- ---- what is held behind an answer

-- the names are those of what was asked of, and there are no more assertions
pub record IsActive (c d : Context) : Type 0 where
  pub declared : c.declared ≡ d.declared
  pub few : length c.roots ≤ length d.roots

active_in : (kept : Kept) (s : State) (n : Option Active) (a : Option Assumed) → StandsFor kept s → AssumedStands kept n a → IsActive (active_by s.context a) s.context
active_in kept s None None h is = record { declared = refl; few = omega arith }
active_in kept s None (Some a) h is = absurd is
active_in kept s (Some n) None h is = absurd is
active_in kept s (Some n) (Some a) h is =
    let count : length a.active.roots ≡ length (take n.roots kept.roots) = ap (λ (ks : List ℕ). length ks) is.roots in
    let all : length kept.roots ≡ length s.context.roots = ap (λ (ks : List ℕ). length ks) h.roots in
    let least = length-take n.roots kept.roots in
    record {
      declared = ap (λ (scope : Scope). scope.declared) (sym is.scope ∙ h.scope);
      few = omega (arith, count, all, least);
    }

schedule_same : (c d : Context) (entry : Entry) → c.declared ≡ d.declared → schedule_in c entry ≡ schedule_in d entry
schedule_same c d (Sat schedule) e = refl
schedule_same c d (Unsat lemmas) e = refl
schedule_same c d (Best m schedule lemmas) e = refl
schedule_same c d (Unbounded values set) e = ap (λ (ds : List Declaration). Some (restricted (sorts_of ds) values)) e

fits_same : (c d : Context) (schedule : List NamedValue) → c.declared ≡ d.declared → IsScheduleFor d schedule → IsScheduleFor c schedule
fits_same c d schedule e h = subst (λ (ds : List Declaration). AreOfSorts (sorts_of ds) schedule) (sym e) h

-- as many nodes as assertions
pub roots_counted : (c : Context) → IsContext c → length c.roots ≡ length c.assertions
roots_counted _ start = refl
roots_counted _ (declares c name sort h free few) = roots_counted c h
roots_counted _ (defines c name t made h free is) = roots_counted c h
roots_counted _ (asserts c t nodes root h is) =
    let before = roots_counted c h in omega (arith, before, length-append c.roots (root ∷ []), length-append c.assertions (t ∷ []))
roots_counted _ (names c name t nodes root h free is) =
    let before = roots_counted c h in omega (arith, before, length-append c.roots (root ∷ []), length-append c.assertions (t ∷ []))

-- of a decision of what was asked of (d), where c is active behind it
module _ (version : Version) (question : Question) (x : Sexpr) (c d : Context) (assumed : Option Assumed) (cited : List Bool) (found : Entry) (given : Option (List NamedValue))
    (active : IsActive c d) (of : asked_by c assumed ≡ d) (decided : IsDecision version question x d found given)
    (cites : (lemmas : List Lemma) → found ≡ Unsat lemmas → CitesAssumed c assumed lemmas cited)
    (shelf : Shelf) (last : Option Place) (again : (lemmas : List Lemma) → found ≡ Unsat lemmas → RefutesAgain shelf d last) where
  scheduled : (entry : Entry) (schedule : List NamedValue) → found ≡ entry → schedule_in d entry ≡ Some schedule → ShowsSchedule c (asked_by c assumed) (Some found) given []
  scheduled entry schedule e is =
      let in_entry : schedule_in d found ≡ Some schedule = ap (schedule_in d) e ∙ is in
      let has = decided.satisfies schedule in_entry in
      record {
        entry = found;
        schedule = schedule;
        held = refl;
        shown = decided.same ∙ in_entry;
        is = schedule_same c d found active.declared ∙ in_entry;
        fits = fits_same c d schedule active.declared has.0.0;
        satisfies = subst (λ (k : Context). Satisfies k schedule) (sym of) has.0;
        within = has.1;
        truths = record { within = omega arith; each = λ k h. absurd (omega arith) };
      }

  refuted : (lemmas : List Lemma) → found ≡ Unsat lemmas → ShowsRefutation version c assumed (Some found) cited shelf last
  refuted lemmas e = record {
    lemmas = lemmas;
    held = ap Some e;
    decides = λ other y. subst (λ (k : Context). Decides version other y k (Unsat lemmas)) (sym of)
        (each_question version question other x y d lemmas (subst (λ (f : Entry). Decides version question x d f) e decided.decides));
    cites = cites lemmas e;
    again = subst (λ (k : Context). RefutesAgain shelf k last) (sym of) (again lemmas e);
  }

  shows_entry : (s : State) (entry : Entry) → found ≡ entry → ShowsVerdict version (settled (verdict_of entry) s).mode c assumed (Some found) given [] cited shelf last
  shows_entry s (Sat schedule) e = scheduled (Sat schedule) schedule e refl
  shows_entry s (Unsat lemmas) e = refuted lemmas e
  shows_entry s (Best m schedule lemmas) e = scheduled (Best m schedule lemmas) schedule e refl
  shows_entry s (Unbounded values set) e = scheduled (Unbounded values set) (restricted (sorts_of d.declared) values) e refl

  -- a decision shows its verdict, before any value is asked for
  pub decision_shows : (s : State) → ShowsVerdict version (settled (verdict_of found) s).mode c assumed (Some found) given [] cited shelf last
  decision_shows s = shows_entry s found refl

asked_active : (c : Context) (a : Option Assumed) → asked_by c a ≡ c → asked_by (active_by c a) a ≡ c
asked_active c None h = h
asked_active c (Some a) h = h

-- what a refutation rests on, where something is assumed
cites_by : (s : State) (a : Option Assumed) (lemmas : List Lemma) (cited : List Bool) → asked_by s.context a ≡ s.context → IsContext (active_by s.context a) → IsActive (active_by s.context a) s.context
    → (a ≢ None → AreCitedIn s.context lemmas cited) → CitesAssumed (active_by s.context a) a lemmas cited
cites_by s None lemmas cited of made active marks = tt
cites_by s (Some a) lemmas cited of made active marks =
    let h = marks (λ e. absurd cc) in
    let count = h.count in
    let few = active.few in
    record {
      each = λ r. h.each r ∙ ap (λ (k : Context). cites_assertion k lemmas r) (sym of);
      active = roots_counted a.active made;
      within = omega (arith, count, few);
    }

-- a session that holds a decision
module _ (kept : Kept) (q : Session) (s : State) (version : Version) (question : Question) (x : Sexpr) (found : Entry) (given : Option (List NamedValue)) (at : Stands kept s) (asked : IsAskedIn question x s)
    (decided : IsDecision version question x s.context found given)
    (cites : (lemmas : List Lemma) → s.assumed ≢ None → found ≡ Unsat lemmas → AreCitedIn s.context lemmas q.cited.items)
    (again : (lemmas : List Lemma) → found ≡ Unsat lemmas → RefutesAgain q.earlier s.context q.last)
    (e : version_of q.report ≡ version) (held : q.held ≡ Some found) (gives : q.given ≡ given) (marks : q.marks.items ≡ []) where
  shows_decided : ShowsVerdict version (settled (verdict_of found) s).mode (active_by s.context s.assumed) s.assumed (Some found) given [] q.cited.items q.earlier q.last
  shows_decided =
      let active : IsActive (active_by s.context s.assumed) s.context = active_in kept s kept.assumed s.assumed at.stands at.stands.assumed in
      decision_shows version question x (active_by s.context s.assumed) s.context s.assumed q.cited.items found given active (asked_active s.context s.assumed asked.active) decided
      (λ lemmas is. cites_by s s.assumed lemmas q.cited.items asked.active at.made.active active (λ some. cites lemmas some is)) q.earlier q.last again s

  pub holds_decision : Stands q.walk.state (settled (verdict_of found) s) → Holds q (settled (verdict_of found) s)
  holds_decision stands = record {
    stands = stands;
    shows = rw (e, held, gives, marks, settled_active (verdict_of found) s, settled_assumed (verdict_of found) s) shows_decided;
  }

  -- a question that was decided anew
  pub decided_anew : (p : Session) → Stands q.walk.state (settled (verdict_of found) s) → q.walk.number ≡ p.walk.number + 1 → IsShownIn version p.earlier question s.context found q.items q.earlier → IsChecked question x p q s
  decided_anew p stands number shows = record {
    entry = found;
    decides = subst (λ (v : Version). Decides v question x s.context found) (sym e) decided.decides;
    held = held;
    stands = holds_decision stands;
    number = number;
    shows = subst (λ (v : Version). IsShownIn v p.earlier question s.context found q.items q.earlier) (sym e) shows;
  }

-- one that a schedule answers
pub satisfied_by : (kept : Kept) (p q : Session) (s : State) (x : Sexpr) (values : List NamedValue) → Stands kept s → IsAskedIn CheckSat x s → Satisfies s.context values → AreWithinLimit values
    → Stands q.walk.state (settled verdict.Sat s) → q.held ≡ Some (Sat values) → q.given ≡ None → q.marks.items ≡ [] → q.walk.number ≡ p.walk.number + 1 → q.earlier ≡ passed (version_of q.report) p.earlier
    → IsChecked CheckSat x p q s
satisfied_by kept p q s x values at asked satisfies within stands held given marks number earlier =
    let decided = schedule_decides s.context (version_of q.report) x values satisfies within in
    decided_anew kept q s (version_of q.report) CheckSat x (Sat values) None at asked decided (λ lemmas some e. absurd cc) (λ lemmas e. absurd cc) refl held given marks p stands number
    (passed_as (version_of q.report) p.earlier q.earlier CheckSat x s.context (Sat values) (Sat values) q.items refl tt decided.decides.right earlier)

same_entry : (a b : Entry) → ◌≡◌ {A = Held} (Some a) (Some b) → a ≡ b
same_entry a b e = cc

-- one that the schedule answers that is held
pub satisfied_again : (p q : Session) (s : State) (x : Sexpr) (found made : Entry) → Holds p s → IsAskedIn CheckSat x s → p.walk.state.mode ≡ mode.Sat → p.held ≡ Some found
    → ((schedule : List NamedValue) → schedule_shown p.given found ≡ Some schedule → made ≡ Sat schedule) → Stands q.walk.state (settled verdict.Sat s) → q.held ≡ Some made → q.marks.items ≡ p.marks.items
    → q.walk.number ≡ p.walk.number + 1 → q.earlier ≡ passed (version_of q.report) p.earlier → IsChecked CheckSat x p q s
satisfied_again p q s x found made holds asked sat has makes stands held marks number earlier =
    let is_sat = mode_is p s mode.Sat holds sat in
    let w = held_schedule p s holds is_sat in
    let none = alone_behind CheckSat x s mode.Sat asked is_sat (λ e. absurd cc) in
    let same : w.entry ≡ found = same_entry w.entry found (sym w.held ∙ has) in
    let is : made ≡ Sat w.schedule = makes w.schedule (ap (schedule_shown p.given) (sym same) ∙ w.shown) in
    let satisfies : Satisfies s.context w.schedule = subst (λ (k : Context). Satisfies k w.schedule) asked.active w.satisfies in
    let decides : Decides (version_of q.report) CheckSat x s.context (Sat w.schedule) = sat_decides s.context (version_of q.report) x w.schedule satisfies w.within in
    let shown : ShowsSchedule s.context s.context q.held q.given q.marks.items = record {
      entry = Sat w.schedule;
      schedule = w.schedule;
      held = held ∙ ap Some is;
      shown = refl;
      is = refl;
      fits = w.fits;
      satisfies = satisfies;
      within = w.within;
      truths = subst (λ (bs : List Bool). AreTruths s.context.nodes (point_values w.schedule) bs) (sym marks) w.truths;
    } in
    record {
      entry = Sat w.schedule;
      decides = decides;
      held = held ∙ ap Some is;
      stands = record { stands = stands; shows = rw (active_is verdict.Sat s None none, settled_assumed verdict.Sat s, none) shown };
      number = number;
      shows = passed_as (version_of q.report) p.earlier q.earlier CheckSat x s.context (Sat w.schedule) (Sat w.schedule) q.items refl tt decides.right earlier;
    }

-- ---- where what is kept of a schedule is all that was changed

pub holds_aside : (p mid : Session) (s : State) → mid ≡ record p { kept = mid.kept } → Holds p s → Holds mid s
holds_aside p mid s same holds = subst (λ (m : Session). Holds m s) (sym same) (record { stands = holds.stands; shows = holds.shows })

pub checked_aside : (p mid q : Session) (s : State) (question : Question) (x : Sexpr) → mid ≡ record p { kept = mid.kept } → IsChecked question x mid q s → IsChecked question x p q s
checked_aside p mid q s question x same h = record {
  entry = h.entry;
  decides = h.decides;
  held = h.held;
  stands = h.stands;
  number = h.number ∙ ap (λ (m : Session). m.walk.number + 1) same;
  shows = subst (λ (k : Shelf). IsShownIn (version_of q.report) k question s.context h.entry q.items q.earlier) (ap (λ (m : Session). m.earlier) same) h.shows;
}

pub answered_aside : (p mid q : Session) (s : State) (question : Question) (x : Sexpr) (found : Piece) → mid ≡ record p { kept = mid.kept } → IsAnswered question x mid q s found → IsAnswered question x p q s found
answered_aside p mid q s question x piece.Decision same h = (h.0, checked_aside p mid q s question x same h.1)
answered_aside p mid q s question x (piece.Error kind) same h = (h.0, h.1 ∙ ap (λ (m : Session). m.walk.number) same)
answered_aside p mid q s question x piece.Opening same h = h
answered_aside p mid q s question x piece.Proof same h = h
answered_aside p mid q s question x piece.Told same h = h
answered_aside p mid q s question x piece.Closing same h = h

-- and one that the refutation answers that is held
pub refuted_again : (p q : Session) (s : State) (question : Question) (x : Sexpr) → Holds p s → IsAskedIn question x s → p.walk.state.mode ≡ mode.Unsat → Stands q.walk.state (settled verdict.Unsat s) → q.held ≡ p.held → q.report ≡ p.report
    → q.walk.number ≡ p.walk.number + 1 → ((lemmas : List Lemma) → IsShownIn (version_of q.report) p.earlier question s.context (Unsat lemmas) q.items q.earlier) → RefutesAgain q.earlier s.context q.last → IsChecked question x p q s
refuted_again p q s question x holds asked unsat stands held report number shows again =
    let is_unsat = mode_is p s mode.Unsat holds unsat in
    let w = held_refutation p s holds is_unsat in
    let none = alone_behind question x s mode.Unsat asked is_unsat (λ e. absurd cc) in
    let decides : (other : Question) (y : Sexpr) → Decides (version_of q.report) other y s.context (Unsat w.lemmas) = λ other y.
    subst (λ (r : Report). Decides (version_of r) other y s.context (Unsat w.lemmas)) (sym report)
    (subst (λ (k : Context). Decides (version_of p.report) other y k (Unsat w.lemmas)) asked.active (w.decides other y)) in
    let shown : ShowsRefutation (version_of q.report) s.context None q.held q.cited.items q.earlier q.last = record { lemmas = w.lemmas; held = held ∙ w.held; decides = decides; cites = tt; again = again } in
    record {
      entry = Unsat w.lemmas;
      decides = decides question x;
      held = held ∙ w.held;
      stands = record { stands = stands; shows = rw (active_is verdict.Unsat s None none, settled_assumed verdict.Unsat s, none) shown };
      number = number;
      shows = shows w.lemmas;
    }

-- a walk that was only told of is as ready as before
pub ready_kept : (p q : Session) (s : State) → IsWalkReady p.walk → KeepsReading p q → Holds q s → IsWalkReady q.walk
ready_kept p q s ready keeps holds =
    let walk : Walk = record p.walk { state = q.walk.state } in
    let there : IsWalkReady walk = record {
      fresh = ready.fresh;
      same = ready.same;
      within = ready.within;
      counted = ready.counted;
      few = ready.few;
      stands = (s, holds.stands);
    } in
    rw (keeps.lexer, keeps.sexprs, keeps.number) there

-- a walk whose question was answered
pub ready_settled : (w : Walk) (q : Session) (s : State) → IsWalkReady w → w.number ≤ w.lexer.place → q.walk.lexer ≡ w.lexer → q.walk.sexprs ≡ w.sexprs → q.walk.number ≡ w.number + 1 → Holds q s → IsWalkReady q.walk
ready_settled w q s ready counted lexer sexprs number holds =
    let walk : Walk = record w { state = q.walk.state; number = w.number + 1 } in
    let there : IsWalkReady walk = record {
      fresh = ready.fresh;
      same = ready.same;
      within = ready.within;
      counted = omega (arith, counted);
      few = ready.few;
      stands = (s, holds.stands);
    } in
    rw (lexer, sexprs, number) there

-- ---- what is told

pub told_tells : (p q : Session) (s : State) (x : Sexpr) (n : Notice) → Holds q s → q.held ≡ p.held → q.text.items ≡ told p.report p.held s x n → Tells p q s x n Told
told_tells p q s x n holds same is = record { going = tt; stands = holds; held = same; text = λ text h. h ∙ is }

proof_line_is : (held : Held) (lemmas : List Lemma) (text : List ℕ) → held ≡ Some (Unsat lemmas) → text ≡ line_of (entry_sexpr (Unsat lemmas)) → text ≡ told_proof held
proof_line_is held lemmas text e is = is ∙ sym (ap told_proof e)

pub proof_tells : (p q : Session) (s : State) (x : Sexpr) → p.report ≡ Verdicts → Holds q s → q.held ≡ p.held → s.mode ≡ mode.Unsat → Tells p q s x notice.Proof Proof
proof_tells p q s x verdicts holds same unsat =
    let shown = held_refutation q s holds unsat in record {
      going = tt;
      stands = holds;
      held = same;
      text = λ text h. proof_line_is q.held shown.lemmas text shown.held (h (Unsat shown.lemmas) shown.held) ∙ ap told_proof same ∙ ap (λ (r : Report). told r p.held s x notice.Proof) (sym verdicts);
    }

pub tells_as : (p q : Session) (s : State) (x : Sexpr) (n other : Notice) (piece : Piece) → n ≡ other → Tells p q s x other piece → Tells p q s x n piece
tells_as p q s x n other piece e h = subst (λ (m : Notice). Tells p q s x m piece) (sym e) h
