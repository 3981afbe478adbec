-- Whatever is written of a script, its verdicts and its status are the same, and so are the lines of its transcripts but for models,
-- values and proofs; and a script has one transcript for the entries that decided it.
use Rattle.std.proofs.Common.{arith, refl, sym, ap, subst, inl, inr, ◌∙◌, ◌≡◌, ◌+◌, ◌⊎◌, ℕ, List, [], ◌∷◌, ◌++◌, map, Bool, true, false, if◌then◌else◌, Option, None, Some, Result, Ok, Err, ℤ}
use Rattle.std.specs.List.{AllByRecursion}
use Rattle.std.proofs.lemmas.Int.{ints}
use Rattle.smt_sexpr.specs.Tree.{Sexpr}
use Rattle.smt_sexpr.specs.declared.error.SexprRefusal.{SexprRefusal}
use Rattle.smt_sexpr.specs.Laws.{OneOutcome}
use Rattle.smt_sexpr.specs.Reading.{Spells, expression, finished, refused as unreadable}
use Rattle.smt_sexpr.specs.Commands.{Commands, Ending, ended, stopped, unread, EndsAs}
use Rattle.cert_text.specs.declared.entry.Entry.{Entry}
use Rattle.cert_text.specs.declared.entry.Entry.TheVariants.{Sat, Unsat, Best, Unbounded}
use Rattle.idl_term.specs.Contexts.{Context, IsSatisfiable}
use Rattle.smt_answer.specs.declared.kind.Kind.{Kind}
use Rattle.smt_answer.specs.Kinds.{kind_of, kind_of_unreadable}
use Rattle.smt_answer.specs.Texts.{error_line, minimum_line}
use Rattle.smt_script.specs.declared.error.Refusal.{Refusal as Why}
use Rattle.smt_script.specs.declared.state.Effect.{Effect}
use Rattle.smt_script.specs.declared.state.Effect.TheVariants.{Ask, Exit, Tell}
use Rattle.smt_script.specs.declared.objective.Objective.{Objective}
use Rattle.smt_script.specs.declared.state.Question.{Question}
use Rattle.smt_script.specs.declared.state.Question.TheVariants.{CheckSat, Minimize}
use Rattle.smt_script.specs.declared.state.Notice.{Notice}
use Rattle.smt_script.specs.declared.state.Notice.TheVariants.{Success, Unsupported, Model, Values, Proof, Core, Assumptions, Inform, Echo}
use Rattle.smt_script.specs.declared.state.Satisfiability.{Satisfiability}
use Rattle.smt_script.specs.Commands.{asks_verdict, minimized}
use Rattle.smt_script.specs.Laws.{AskedIsTold}
use Rattle.smt_script.specs.States.{State, Step, start_state, after, settled}
use Rattle.script_walk.specs.Course.{Place, Turn, tells, ends, fails, turn, asked, taken, by_effect, by_command, last_turn, course, status_of, answers_of}
use Rattle.script_walk.specs.Questions.{refusal_of}
use Rattle.dtp_entry.specs.declared.report.Report.{Report}
use Rattle.dtp_entry.specs.declared.report.Report.TheVariants.{Verdicts, Certificate}
use Rattle.dtp_entry.specs.Bests.{IsBestFor}
use Rattle.dtp_entry.specs.Entries.{AtCheckSat, AtMinimize, IsRight, verdict_of}
use Rattle.dtp_entry.specs.Laws.{OneVerdict, OneTranscriptByEntries, OneTranscriptButGaps, AskNone, OneTranscript}
use Rattle.dtp_entry.specs.Transcripts.{IsSo, Held, told, decision_line, opening, closing, piece_by, pieces, IsWritten, is_of_held, tells_held, line_with_gaps, lines_with_gaps, IsLegal, Output, IsOutput}
use Rattle.dtp_entry.proofs.Pieces.{pieces_are}

same_refusal : (e f : SexprRefusal) → unreadable e ≡ unreadable f → e ≡ f
same_refusal e f h = cc

same_expression : (x y : Sexpr) → expression x ≡ expression y → x ≡ y
same_expression x y h = cc

end_no_refusal : (why : SexprRefusal) → finished ≡ unreadable why → ⊥
end_no_refusal why h = cc

end_no_expression : (x : Sexpr) → finished ≡ expression x → ⊥
end_no_expression x h = cc

refusal_no_expression : (why : SexprRefusal) (x : Sexpr) → unreadable why ≡ expression x → ⊥
refusal_no_expression why x h = cc

-- ---- what two reports of a script have in common

-- two transcripts have the same text
abbrev SameText : Report → Report → List ℕ → List ℕ → Type 0
SameText Verdicts Verdicts a b = a ≡ b
SameText Verdicts (Certificate w) a b = Unit {0}
SameText (Certificate v) q a b = Unit {0}

text_append : (r q : Report) (a b c d : List ℕ) → SameText r q a b → SameText r q c d → SameText r q (a ++ c) (b ++ d)
text_append Verdicts Verdicts a b c d e f = ap (λ (t : List ℕ). t ++ c) e ∙ ap (λ (t : List ℕ). b ++ t) f
text_append Verdicts (Certificate w) a b c d e f = tt
text_append (Certificate v) q a b c d e f = tt

text_refl : (r q : Report) (a : List ℕ) → SameText r q a a
text_refl Verdicts Verdicts a = refl
text_refl Verdicts (Certificate w) a = tt
text_refl (Certificate v) q a = tt

text_by : (r q : Report) (a b c d : List ℕ) → a ≡ c → b ≡ d → SameText r q c d → SameText r q a b
text_by r q a b c d e f h = subst (λ (t : List ℕ). SameText r q t b) (sym e) (subst (λ (t : List ℕ). SameText r q c t) (sym f) h)

-- what is written of turns with the same pieces
text_written : (r q : Report) (ts us : List (Turn Entry)) (a b : List ℕ) → IsWritten r [] ts a → IsWritten q [] us b → SameText r q (pieces r ts) (pieces q us) → SameText r q a b
text_written Verdicts Verdicts ts us a b h k e = pieces_are Verdicts tt [] ts a h ∙ e ∙ sym (pieces_are Verdicts tt [] us b k)
text_written Verdicts (Certificate w) ts us a b h k e = tt
text_written (Certificate v) q ts us a b h k e = tt

-- the turns from here on, the text where there is a reason for it
record Same (r q : Report) (Reason : Type 0) (ts us : List (Turn Entry)) : Type 0 where
  text : Reason → SameText r q (pieces r ts) (pieces q us)
  lines : lines_with_gaps ts ≡ lines_with_gaps us
  verdicts : map verdict_of (answers_of ts) ≡ map verdict_of (answers_of us)
  said : map (decision_line Verdicts) (answers_of ts) ≡ map (decision_line Verdicts) (answers_of us)
  status : status_of ts ≡ status_of us

-- the reason for the same text from here on: the same entries
abbrev Agree : Held → Held → List (Turn Entry) → List (Turn Entry) → Type 0
Agree held other ts us = (held ≡ other) × (answers_of ts ≡ answers_of us)

abbrev SameAt : Report → Report → Held → Held → List (Turn Entry) → List (Turn Entry) → Type 0
SameAt r q held other ts us = Same r q (Agree held other ts us) ts us

-- ---- the answers

-- a question is one of the two
one_kind : (question : Question) (P : Type 0) (Q : Objective → Type 0) → AtCheckSat question P → AtMinimize question Q → ⊥
one_kind CheckSat P Q h k = k
one_kind (Minimize o) P Q h k = h

best_satisfiable : (c : Context) (t : Option Sexpr) (m : ℤ) → IsBestFor c t m → IsSatisfiable c
best_satisfiable c t m best = (best.schedule, best.satisfies.0, best.satisfies.1)

-- two best values are equal
best_one : (c : Context) (t : Option Sexpr) (m n : ℤ) → IsBestFor c t m → IsBestFor c t n → m ≡ n
best_one c t m n a b =
    let up = a.least b.schedule n b.satisfies b.attained in
    let down = b.least a.schedule m a.satisfies a.attained in
    omega (arith, ints, up, down)

-- the same line, and the same verdict
abbrev SaySame : Entry → Entry → Type 0
SaySame e f = (verdict_of e ≡ verdict_of f) × (decision_line Verdicts e ≡ decision_line Verdicts f)

-- what two entries for one question say is the same
module _ (question : Question) (x : Sexpr) (c : Context) where
  abbrev Shows : Entry → Type 0
  Shows e = IsRight question x c e × IsSo x c e

  say_same : (e f : Entry) → Shows e → Shows f → SaySame e f
  say_same (Sat a) (Sat b) h k = (refl, refl)
  say_same (Sat a) (Unsat b) h k = absurd (k.1.0 h.1)
  say_same (Sat a) (Best n b lemmas) h k = absurd (one_kind question _ _ h.0 k.0)
  say_same (Sat a) (Unbounded b set) h k = absurd (one_kind question _ _ h.0 k.0)
  say_same (Unsat a) (Sat b) h k = absurd (h.1.0 k.1)
  say_same (Unsat a) (Unsat b) h k = (refl, refl)
  say_same (Unsat a) (Best n b lemmas) h k = absurd (h.1.0 (best_satisfiable c (minimized x) n k.1))
  say_same (Unsat a) (Unbounded b set) h k = absurd (h.1.0 k.1.satisfiable)
  say_same (Best m a lemmas) (Sat b) h k = absurd (one_kind question _ _ k.0 h.0)
  say_same (Best m a lemmas) (Unsat b) h k = absurd (k.1.0 (best_satisfiable c (minimized x) m h.1))
  say_same (Best m a lemmas) (Best n b others) h k = (refl, ap minimum_line (best_one c (minimized x) m n h.1 k.1))
  say_same (Best m a lemmas) (Unbounded b set) h k = absurd (k.1.none_best m h.1)
  say_same (Unbounded a set) (Sat b) h k = absurd (one_kind question _ _ k.0 h.0)
  say_same (Unbounded a set) (Unsat b) h k = absurd (k.1.0 h.1.satisfiable)
  say_same (Unbounded a set) (Best n b lemmas) h k = absurd (h.1.none_best n k.1)
  say_same (Unbounded a set) (Unbounded b those) h k = (refl, refl)

decision_one : (r q : Report) (e f : Entry) → decision_line Verdicts e ≡ decision_line Verdicts f → SameText r q (decision_line r e) (decision_line q f)
decision_one Verdicts Verdicts e f h = h
decision_one Verdicts (Certificate w) e f h = tt
decision_one (Certificate v) q e f h = tt

told_one : (r q : Report) (held other : Held) (s : State) (x : Sexpr) (notice : Notice) → held ≡ other → SameText r q (told r held s x notice) (told q other s x notice)
told_one Verdicts Verdicts held other s x notice same = ap (λ (h : Held). told Verdicts h s x notice) same
told_one Verdicts (Certificate w) held other s x notice same = tt
told_one (Certificate v) q held other s x notice same = tt

-- what rests on no answer is told, or there is a gap
told_line : (k : ℕ) (held other : Held) (st s : State) (left others : List Entry) (x : Sexpr) (notice : Notice)
    → line_with_gaps (turn (record { number = k; state = st; held = held; left = left }) s (tells x notice)) ≡ line_with_gaps (turn (record { number = k; state = st; held = other; left = others }) s (tells x notice))
told_line k held other st s left others x Success = refl
told_line k held other st s left others x Unsupported = refl
told_line k held other st s left others x Model = refl
told_line k held other st s left others x Values = refl
told_line k held other st s left others x Proof = refl
told_line k held other st s left others x Core = refl
told_line k held other st s left others x Assumptions = refl
told_line k held other st s left others x (Inform information) = refl
told_line k held other st s left others x Echo = refl

closing_one : (r q : Report) → SameText r q (closing r) (closing q)
closing_one Verdicts Verdicts = refl
closing_one Verdicts (Certificate w) = tt
closing_one (Certificate v) q = tt

opening_one : (r q : Report) → SameText r q (opening r) (opening q)
opening_one Verdicts Verdicts = refl
opening_one Verdicts (Certificate w) = tt
opening_one (Certificate v) q = tt

-- the same line, and the same lines behind it
line_more : (a b : Option (List ℕ)) (these those : List (Option (List ℕ))) → a ≡ b → these ≡ those → a ∷ these ≡ b ∷ those
line_more a b these those e f = ap (λ (l : Option (List ℕ)). l ∷ these) e ∙ ap (λ (ls : List (Option (List ℕ))). b ∷ ls) f

-- ---- a command

abbrev place : ℕ → State → Held → List Entry → Place Entry
place k s held left = record { number = k; state = s; held = held; left = left }

abbrev AreLegal : Report → List (Turn Entry) → Type 0
AreLegal r ts = AllByRecursion (IsLegal r) ts

-- the turns end the script
abbrev AreOver : List (Turn Entry) → Type 0
AreOver ts = (n : ℕ) × (status_of ts ≡ Some n)

abbrev OneTurns : Report → Report → Held → Held → List (Turn Entry) → List (Turn Entry) → Type 0
OneTurns r q held other ts us = AreLegal r ts → AreOver ts → AreLegal q us → AreOver us → SameAt r q held other ts us

abbrev OneRest : Report → Report → ℕ → (Place Entry → List (Turn Entry)) → (Place Entry → List (Turn Entry)) → Type 0
OneRest r q k P Q = (held other : Held) (s : State) (left others : List Entry)
    → OneTurns r q held other (P (place k s held left)) (Q (place k s other others))

module _ (r q : Report) (held other : Held) where
  fails_one : (p o : Place Entry) (s : State) (kind : Kind) → p.number ≡ o.number → OneTurns r q held other (turn p s (fails kind) ∷ []) (turn o s (fails kind) ∷ [])
  fails_one p o s kind e legal over legal_too over_too = record {
    text = λ agree. text_by r q _ (error_line o.number kind ++ []) _ (error_line o.number kind ++ []) (ap (λ (k : ℕ). error_line k kind ++ []) e) refl (text_refl r q (error_line o.number kind ++ []));
    lines = line_more (Some (error_line p.number kind)) (Some (error_line o.number kind)) [] [] (ap (λ (k : ℕ). Some (error_line k kind)) e) refl;
    verdicts = refl;
    said = refl;
    status = refl;
  }

module _ (r q : Report) (k : ℕ) (x : Sexpr) (P Q : Place Entry → List (Turn Entry)) (one : OneRest r q (k + 1) P Q) where
  told_turns : (held other : Held) (st s : State) (left others : List Entry) (notice : Notice)
      → OneTurns r q held other (turn (place k st held left) s (tells x notice) ∷ P (place (k + 1) s held left)) (turn (place k st other others) s (tells x notice) ∷ Q (place (k + 1) s other others))
  told_turns held other st s left others notice legal over legal_too over_too =
      let rest = one held other s left others legal.1 over legal_too.1 over_too in
      let t = turn (place k st held left) s (tells x notice) in
      let u = turn (place k st other others) s (tells x notice) in
      let ts = P (place (k + 1) s held left) in
      let us = Q (place (k + 1) s other others) in
      record {
        text = λ agree. text_append r q (told r held s x notice) (told q other s x notice) (pieces r ts) (pieces q us)
            (told_one r q held other s x notice agree.0) (rest.text (agree.0, agree.1));
        lines = line_more (line_with_gaps t) (line_with_gaps u) (lines_with_gaps ts) (lines_with_gaps us) (told_line k held other st s left others x notice) rest.lines;
        verdicts = rest.verdicts;
        said = rest.said;
        status = rest.status;
      }

  first_entries : (e f : Entry) (rest others : List Entry) → (e ∷ rest) ≡ (f ∷ others) → (◌≡◌ {A = Held} (Some e) (Some f)) × (rest ≡ others)
  first_entries e f rest others same = let both : e ≡ f = cc in (ap Some both, cc)

  -- behind the same verdict
  one_settled : (held other : Held) (s : State) (v w : Satisfiability) (left others : List Entry) → v ≡ w
      → OneTurns r q held other (P (place (k + 1) (settled v s) held left)) (Q (place (k + 1) (settled w s) other others))
  one_settled held other s v w left others e =
      subst (λ (u : Satisfiability). OneTurns r q held other (P (place (k + 1) (settled v s) held left)) (Q (place (k + 1) (settled u s) other others))) e
      (one held other (settled v s) left others)

  asked_turns : (held other : Held) (st s : State) (left others : List Entry) (question : Question)
      → OneTurns r q held other (asked verdict_of (place k st held left) s question x left P) (asked verdict_of (place k st other others) s question x others Q)
  asked_turns held other st s [] others question legal over legal_too over_too = absurd legal.0
  asked_turns held other st s (e ∷ left) [] question legal over legal_too over_too = absurd legal_too.0
  asked_turns held other st s (e ∷ left) (f ∷ others) question legal over legal_too over_too =
      let same : SaySame e f = say_same question x s.context e f (legal.0.right.right, legal.0.so) (legal_too.0.right.right, legal_too.0.so) in
      let v : verdict_of e ≡ verdict_of f = same.0 in
      let rest = one_settled (Some e) (Some f) s (verdict_of e) (verdict_of f) left others v legal.1 over legal_too.1 over_too in
      let ts = P (place (k + 1) (settled (verdict_of e) s) (Some e) left) in
      let us = Q (place (k + 1) (settled (verdict_of f) s) (Some f) others) in
      record {
        text = λ agree. text_append r q (decision_line r e) (decision_line q f) (pieces r ts) (pieces q us)
            (decision_one r q e f same.1) (rest.text (first_entries e f (answers_of ts) (answers_of us) agree.1));
        lines = line_more (Some (decision_line Verdicts e)) (Some (decision_line Verdicts f)) (lines_with_gaps ts) (lines_with_gaps us)
            (ap (λ (l : List ℕ). Some l) same.1) rest.lines;
        verdicts = ap (λ (w : Satisfiability). w ∷ map verdict_of (answers_of ts)) v ∙ ap (λ (vs : List Satisfiability). verdict_of f ∷ vs) rest.verdicts;
        said = ap (λ (l : List ℕ). l ∷ map (decision_line Verdicts) (answers_of ts)) same.1 ∙ ap (λ (ls : List (List ℕ)). decision_line Verdicts f ∷ ls) rest.said;
        status = rest.status;
      }

  taken_turns : (held other : Held) (st s : State) (left others : List Entry) (question : Question) (refused : Option Kind)
      → OneTurns r q held other (taken verdict_of (place k st held left) s question x refused P) (taken verdict_of (place k st other others) s question x refused Q)
  taken_turns held other st s left others question (Some kind) = fails_one r q held other (place k st held left) (place k st other others) s kind refl
  taken_turns held other st s left others question None = asked_turns held other st s left others question

  ends_turns : (held other : Held) (st s : State) (left others : List Entry)
      → OneTurns r q held other (turn (place k st held left) s ends ∷ []) (turn (place k st other others) s ends ∷ [])
  ends_turns held other st s left others legal over legal_too over_too =
      record { text = λ agree. text_append r q (closing r) (closing q) [] [] (closing_one r q) (text_refl r q []); lines = refl; verdicts = refl; said = refl; status = refl }

  effect_turns : (held other : Held) (st s : State) (left others : List Entry) (effect : Effect)
      → OneTurns r q held other (by_effect verdict_of (place k st held left) s x effect P) (by_effect verdict_of (place k st other others) s x effect Q)
  effect_turns held other st s left others (Tell notice) = told_turns held other st s left others notice
  effect_turns held other st s left others (Ask question) = taken_turns held other st s left others question (refusal_of question s x)
  effect_turns held other st s left others Exit = ends_turns held other st s left others

  command_turns : (held other : Held) (st : State) (left others : List Entry) (found : Result Step Why)
      → OneTurns r q held other (by_command verdict_of (place k st held left) x found P) (by_command verdict_of (place k st other others) x found Q)
  command_turns held other st left others (Ok step) = effect_turns held other st step.state left others step.effect
  command_turns held other st left others (Err why) = fails_one r q held other (place k st held left) (place k st other others) st (kind_of why) refl

-- ---- a script

module _ (one : OneOutcome) (bytes : List ℕ) (r q : Report) where
  no_status : (n : ℕ) → ◌≡◌ {A = Option ℕ} None (Some n) → ⊥
  no_status n e = cc

  unread_turns : (held other : Held) (k : ℕ) (s : State) (left others : List Entry) (m n : Kind) → m ≡ n
      → Same r q (Agree held other (turn (place k s held left) s (fails m) ∷ []) (turn (place k s other others) s (fails n) ∷ []))
      (turn (place k s held left) s (fails m) ∷ []) (turn (place k s other others) s (fails n) ∷ [])
  unread_turns held other k s left others m n e = record {
    text = λ agree. text_by r q _ (error_line k n ++ []) _ (error_line k n ++ []) (ap (λ (kind : Kind). error_line k kind ++ []) e) refl (text_refl r q (error_line k n ++ []));
    lines = line_more (Some (error_line k m)) (Some (error_line k n)) [] [] (ap (λ (kind : Kind). Some (error_line k kind)) e) refl;
    verdicts = refl;
    said = refl;
    status = refl;
  }

  closes_one : (held other : Held) (k : ℕ) (s : State) (left others : List Entry) (at : ℕ) (e f : Ending) → EndsAs bytes at e → EndsAs bytes at f
      → OneTurns r q held other (last_turn (place k s held left) e) (last_turn (place k s other others) f)
  closes_one held other k s left others at ended ended p o legal over legal_too over_too =
      record { text = λ agree. text_append r q (closing r) (closing q) [] [] (closing_one r q) (text_refl r q []); lines = refl; verdicts = refl; said = refl; status = refl }
  closes_one held other k s left others at ended (unread why) p o legal over legal_too over_too = absurd (end_no_refusal why (one bytes at finished (unreadable why) p.0 o.0 p.1 o.1).0)
  closes_one held other k s left others at (unread why) ended p o legal over legal_too over_too = absurd (end_no_refusal why (one bytes at finished (unreadable why) o.0 p.0 o.1 p.1).0)
  closes_one held other k s left others at (unread why) (unread because) p o legal over legal_too over_too =
      let same = same_refusal why because (one bytes at (unreadable why) (unreadable because) p.0 o.0 p.1 o.1).0 in
      unread_turns held other k s left others (kind_of_unreadable why) (kind_of_unreadable because) (ap kind_of_unreadable same)
  closes_one held other k s left others at stopped f p o legal over legal_too over_too = absurd (no_status over.0 over.1)
  closes_one held other k s left others at ended stopped p o legal over legal_too over_too = absurd (no_status over_too.0 over_too.1)
  closes_one held other k s left others at (unread why) stopped p o legal over legal_too over_too = absurd (no_status over_too.0 over_too.1)

  -- where the text ends no command is read
  no_command : (p : Place Entry) (at : ℕ) (e : Ending) (x : Sexpr) (m : ℕ) → EndsAs bytes at e → AreOver (last_turn p e) → Spells bytes at x m → ⊥
  no_command p at ended x m h over spells = end_no_expression x (one bytes at finished (expression x) h.0 m h.1 spells).0
  no_command p at (unread why) x m h over spells = refusal_no_expression why x (one bytes at (unreadable why) (expression x) h.0 m h.1 spells).0
  no_command p at stopped x m h over spells = no_status over.0 over.1

  ends_here : (at here : ℕ) (e : Ending) → at ≡ here → EndsAs bytes here e → EndsAs bytes at e
  ends_here at here e same h = subst (λ (p : ℕ). EndsAs bytes p e) (sym same) h

  course_one : (xs ys : List Sexpr) (held other : Held) (k : ℕ) (s : State) (left others : List Entry) (at h j : ℕ) (e f : Ending) → Commands bytes at xs h → EndsAs bytes h e
      → Commands bytes at ys j → EndsAs bytes j f
      → OneTurns r q held other (course verdict_of (place k s held left) xs e) (course verdict_of (place k s other others) ys f)
  unfolding course
  course_one [] [] held other k s left others at h j e f reads end reads_too end_too =
      closes_one held other k s left others at e f (ends_here at h e reads end) (ends_here at j f reads_too end_too)
  course_one [] (y ∷ ys) held other k s left others at h j e f reads end reads_too end_too =
      λ legal over legal_too over_too. absurd (no_command (place k s held left) at e y reads_too.0 (ends_here at h e reads end) over reads_too.1)
  course_one (x ∷ xs) [] held other k s left others at h j e f reads end reads_too end_too =
      λ legal over legal_too over_too. absurd (no_command (place k s other others) at f x reads.0 (ends_here at j f reads_too end_too) over_too reads.1)
  course_one (x ∷ xs) (y ∷ ys) held other k s left others at h j e f reads end reads_too end_too =
      let same = one bytes at (expression x) (expression y) reads.0 reads_too.0 reads.1 reads_too.1 in
      let from : Commands bytes reads.0 ys j = subst (λ (p : ℕ). Commands bytes p ys j) (sym same.1) reads_too.2 in
      subst (λ (z : Sexpr). OneTurns r q held other (by_command verdict_of (place k s held left) x (after s x) (λ next. course verdict_of next xs e)) (by_command verdict_of (place k s other others) z (after s z) (λ next. course verdict_of next ys f)))
      (same_expression x y same.0)
      (command_turns r q k x (λ next. course verdict_of next xs e) (λ next. course verdict_of next ys f)
      (λ kept kept_too next rest rest_too. course_one xs ys kept kept_too (k + 1) next rest rest_too reads.0 h j e f reads.2 end from end_too)
      held other s left others (after s x))

  record OneOutput (a b : Output) (ts us : List (Turn Entry)) : Type 0 where
    text : a.found ≡ b.found → SameText r q a.text b.text
    lines : lines_with_gaps ts ≡ lines_with_gaps us
    verdicts : map verdict_of a.found ≡ map verdict_of b.found
    said : map (decision_line Verdicts) a.found ≡ map (decision_line Verdicts) b.found
    status : a.status ≡ b.status

  same_status : (a b : ℕ) → ◌≡◌ {A = Option ℕ} (Some a) (Some b) → a ≡ b
  same_status a b e = cc

  module _ (a b : Output) (h : IsOutput r bytes a) (k : IsOutput q bytes b) where
    abbrev ts : List (Turn Entry)
    ts = course verdict_of (place 1 start_state None a.found) h.are.are.commands h.are.are.ending

    abbrev us : List (Turn Entry)
    us = course verdict_of (place 1 start_state None b.found) k.are.are.commands k.are.are.ending

    same_turns : SameAt r q None None ts us
    same_turns = course_one h.are.are.commands k.are.are.commands None None 1 start_state a.found b.found 0 h.are.are.behind k.are.are.behind h.are.are.ending k.are.are.ending
        h.are.are.reads h.are.are.ends k.are.are.reads k.are.are.ends
        (subst (AreLegal r) h.are.are.are h.are.legal) (a.status, sym (ap (λ (l : List (Turn Entry)). status_of l) h.are.are.are) ∙ h.over)
        (subst (AreLegal q) k.are.are.are k.are.legal) (b.status, sym (ap (λ (l : List (Turn Entry)). status_of l) k.are.are.are) ∙ k.over)

    used : answers_of ts ≡ a.found
    used = sym (ap (λ (l : List (Turn Entry)). answers_of l) h.are.are.are) ∙ h.used

    used_too : answers_of us ≡ b.found
    used_too = sym (ap (λ (l : List (Turn Entry)). answers_of l) k.are.are.are) ∙ k.used

    output_one : OneOutput a b h.turns k.turns
    output_one = record {
      text = λ found. text_by r q a.text b.text (opening r ++ h.written) (opening q ++ k.written) h.text k.text
          (text_append r q (opening r) (opening q) h.written k.written (opening_one r q)
          (text_written r q ts us h.written k.written (subst (λ (l : List (Turn Entry)). IsWritten r [] l h.written) h.are.are.are h.writes)
          (subst (λ (l : List (Turn Entry)). IsWritten q [] l k.written) k.are.are.are k.writes) (same_turns.text (refl, used ∙ found ∙ sym used_too))));
      lines = ap (λ (l : List (Turn Entry)). lines_with_gaps l) h.are.are.are ∙ same_turns.lines ∙ sym (ap (λ (l : List (Turn Entry)). lines_with_gaps l) k.are.are.are);
      verdicts = sym (ap (map verdict_of) used) ∙ same_turns.verdicts ∙ ap (map verdict_of) used_too;
      said = sym (ap (map (decision_line Verdicts)) used) ∙ same_turns.said ∙ ap (map (decision_line Verdicts)) used_too;
      status = same_status a.status b.status
          (sym h.over ∙ ap (λ (l : List (Turn Entry)). status_of l) h.are.are.are ∙ same_turns.status ∙ sym (ap (λ (l : List (Turn Entry)). status_of l) k.are.are.are) ∙ k.over);
    }

pub verdicts_one : OneOutcome → OneVerdict
verdicts_one one script r q a b h k = let w = output_one one script r q a b h k in (w.verdicts, w.status, w.said)

output_is : (a b : Output) → a.text ≡ b.text → a.found ≡ b.found → a.status ≡ b.status → a ≡ b
output_is a b text found status =
    let of_all : List ℕ → List Entry → ℕ → Output = λ t f s. record { text = t; found = f; status = s } in
    ap (λ (t : List ℕ). of_all t a.found a.status) text ∙ ap (λ (f : List Entry). of_all b.text f a.status) found ∙ ap (λ (s : ℕ). of_all b.text b.found s) status

pub entries_one : OneOutcome → OneTranscriptByEntries
entries_one one script a b h k found =
    let w = output_one one script Verdicts Verdicts a b h k in
    output_is a b (w.text found) found w.status

pub lines_one : OneOutcome → OneTranscriptButGaps
lines_one one script a b h k = let w = output_one one script Verdicts Verdicts a b h k in (w.lines, w.status)

-- ---- without gaps

abbrev HasLine : Turn Entry → Type 0
HasLine t = tells_held t.outcome ≡ false

-- what is held is told
abbrev TellsHeld : Effect → Type 0
TellsHeld effect = (effect ≡ Tell Model) ⊎ ((effect ≡ Tell Values) ⊎ ((effect ≡ Tell Proof) ⊎ ((effect ≡ Tell Core) ⊎ (effect ≡ Tell Assumptions))))

told_free : (notice : Notice) → (TellsHeld (Tell notice) → ⊥) → is_of_held notice ≡ false
told_free Success free = refl
told_free Unsupported free = refl
told_free Model free = absurd (free (inl refl))
told_free Values free = absurd (free (inr (inl refl)))
told_free Proof free = absurd (free (inr (inr (inl refl))))
told_free Core free = absurd (free (inr (inr (inr (inl refl)))))
told_free Assumptions free = absurd (free (inr (inr (inr (inr refl)))))
told_free (Inform information) free = refl
told_free Echo free = refl

abbrev HaveLines : List (Turn Entry) → Type 0
HaveLines turns = AskNone turns → AllByRecursion HasLine turns

module _ (x : Sexpr) (rest : Place Entry → List (Turn Entry)) (more : (p : Place Entry) → HaveLines (rest p)) where
  lines_asked : (p : Place Entry) (s : State) (question : Question) (left : List Entry) → HaveLines (asked verdict_of p s question x left rest)
  lines_asked p s question [] none = (refl, tt)
  lines_asked p s question (e ∷ left) none = (refl, more (record { number = p.number + 1; state = settled (verdict_of e) s; held = Some e; left = left }) none.1)

  lines_taken : (p : Place Entry) (s : State) (question : Question) (refused : Option Kind) → HaveLines (taken verdict_of p s question x refused rest)
  lines_taken p s question (Some kind) none = (refl, tt)
  lines_taken p s question None none = lines_asked p s question p.left none

  lines_effect : (p : Place Entry) (s : State) (effect : Effect) → (asks_verdict x ≡ false → TellsHeld effect → ⊥) → HaveLines (by_effect verdict_of p s x effect rest)
  lines_effect p s (Tell notice) free none = (told_free notice (free none.0), more (record { number = p.number + 1; state = s; held = p.held; left = p.left }) none.1)
  lines_effect p s (Ask question) free none = lines_taken p s question (refusal_of question s x) none
  lines_effect p s Exit free none = (refl, tt)

  -- what a command is asked for is told, and nothing else
  lines_command : (p : Place Entry) (found : Result Step Why) → ((step : Step) → found ≡ Ok step → asks_verdict x ≡ false → TellsHeld step.effect → ⊥)
      → HaveLines (by_command verdict_of p x found rest)
  lines_command p (Ok step) free none = lines_effect p step.state step.effect (free step refl) none
  lines_command p (Err why) free none = (refl, tt)

lines_last : (p : Place Entry) (ending : Ending) → HaveLines (last_turn p ending)
lines_last p ended none = (refl, tt)
lines_last p (unread why) none = (refl, tt)
lines_last p stopped none = tt

have_lines : AskedIsTold → (xs : List Sexpr) (p : Place Entry) (ending : Ending) → HaveLines (course verdict_of p xs ending)
unfolding course
have_lines asked_told [] p ending = lines_last p ending
have_lines asked_told (x ∷ xs) p ending =
    lines_command x (λ next. course verdict_of next xs ending) (λ next. have_lines asked_told xs next ending) p (after p.state x) (λ step is. asked_told p.state x step is)

same_line : (b c : Bool) (x y : List ℕ) → b ≡ false → ◌≡◌ {A = Option (List ℕ)} (if b then None else Some x) (if c then None else Some y) → x ≡ y
same_line true c x y quiet e = absurd cc
same_line false true x y quiet e = absurd cc
same_line false false x y quiet e = cc

first_line : (a b : Option (List ℕ)) (these those : List (Option (List ℕ))) → a ∷ these ≡ b ∷ those → (a ≡ b) × (these ≡ those)
first_line a b these those e = (let first : a ≡ b = cc in first, let rest : these ≡ those = cc in rest)

text_of_lines : (ts us : List (Turn Entry)) → AllByRecursion HasLine ts → lines_with_gaps ts ≡ lines_with_gaps us → pieces Verdicts ts ≡ pieces Verdicts us
text_of_lines [] [] quiet e = refl
text_of_lines [] (u ∷ us) quiet e = absurd cc
text_of_lines (t ∷ ts) [] quiet e = absurd cc
text_of_lines (t ∷ ts) (u ∷ us) quiet e =
    let both = first_line (line_with_gaps t) (line_with_gaps u) (lines_with_gaps ts) (lines_with_gaps us) e in
    let here = same_line (tells_held t.outcome) (tells_held u.outcome) (piece_by Verdicts t t.outcome) (piece_by Verdicts u u.outcome) quiet.0 both.0 in
    ap (λ (l : List ℕ). l ++ pieces Verdicts ts) here ∙ ap (λ (l : List ℕ). piece_by Verdicts u u.outcome ++ l) (text_of_lines ts us quiet.1 both.1)

pub transcript_one : OneOutcome → AskedIsTold → OneTranscript
transcript_one one asked_told script a b s t (found, h) none (others, k) =
    let lines = lines_one one script (record { text = a; found = found; status = s }) (record { text = b; found = others; status = t }) h k in
    let of_course = subst AskNone h.are.are.are none in
    let quiet = have_lines asked_told h.are.are.commands (place 1 start_state None found) h.are.are.ending of_course in
    let has_lines = subst (AllByRecursion HasLine) (sym h.are.are.are) quiet in
    let of_pieces : h.written ≡ k.written =
    pieces_are Verdicts tt [] h.turns h.written h.writes ∙ text_of_lines h.turns k.turns has_lines lines.0 ∙ sym (pieces_are Verdicts tt [] k.turns k.written k.writes) in
    (h.text ∙ of_pieces ∙ sym k.text, lines.1)
