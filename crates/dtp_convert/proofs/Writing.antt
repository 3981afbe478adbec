-- The entries that were kept decide the script's questions, and what is written of them is its certificate.
use Rattle.std.proofs.Common.{refl, sym, ap, subst, ◌∙◌, ◌≡◌, ◌+◌, ℕ, List, [], ◌∷◌, ◌++◌, Option, Some, None, Result, Ok, Err}
use Rattle.std.proofs.lemmas.List.{append-nil, append_assoc}
use Rattle.smt_sexpr.specs.Tree.{Sexpr}
use Rattle.smt_sexpr.specs.Commands.{ended}
use Rattle.cert_text.specs.declared.entry.Version.{Version}
use Rattle.cert_text.specs.declared.entry.Version.TheVariants.{One}
use Rattle.cert_read.specs.Certificates.{certificate}
use Rattle.cert_text.specs.declared.entry.Entry.{Entry}
use Rattle.cert_text.specs.declared.entry.FileEntry.{FileEntry}
use Rattle.cert_text.specs.Form.{entry_sexpr, end_sexpr, line_of}
use Rattle.kept_lemmas.specs.Entries.{Placed}
use Rattle.smt_script.specs.declared.error.Refusal.{Refusal}
use Rattle.smt_script.specs.declared.state.Effect.{Effect}
use Rattle.smt_script.specs.declared.state.Effect.TheVariants.{Ask, Exit, Tell}
use Rattle.smt_script.specs.declared.state.Notice.{Notice}
use Rattle.smt_script.specs.declared.state.Question.{Question}
use Rattle.smt_script.specs.declared.state.Satisfiability.{Satisfiability}
use Rattle.smt_script.specs.States.{State, Step, after, settled, start_state}
use Rattle.smt_answer.specs.declared.kind.Kind.{Kind}
use Rattle.script_walk.specs.Questions.{refusal_of}
use Rattle.script_walk.specs.Course.{Place, start_with, Turn, Outcome, turn, tells, answers, asks, ends, fails, behind_told, behind_answer, asked, taken, by_effect, by_command, course, answers_of, AreAnswered}
use Rattle.script_walk.proofs.Turns.{told_turn, answered_turn, exit_turn}
use Rattle.cert_stream.specs.code.Streams.{entry_lines, whole_text}
use Rattle.dtp_entry.specs.declared.report.Report.TheVariants.{Certificate}
use Rattle.dtp_entry.specs.Entries.{verdict_of}
use Rattle.dtp_entry.specs.Transcripts.{DecidesIn, opening, pieces}
use Rattle.dtp_check.specs.declared.script_part.PartEnd.{PartEnd}
use Rattle.dtp_check.specs.Judged.{ScriptPart, CertificateBehind, placed, told_by, turns_with}
use Rattle.dtp_check.specs.code.Turns.{Leads, KeptBy, AreKept}
use Rattle.dtp_check.proofs.Judging.{step_of}
use Rattle.dtp_convert.specs.declared.converting.Converting.{Converting}
use Rattle.dtp_convert.specs.Converted.{IsConverted}
use Rattle.dtp_convert.specs.Turns.{turns_of, AreConverted, ShowsBy, AreShown}
use Rattle.dtp_convert.specs.code.Shown.{IsAdded}

-- ---- what was kept decides the questions

abbrev pub added_to : Leads Converting
added_to first now before question x c entry = IsAdded first.entries.items now.entries.items before question x c entry

abbrev place_at : ℕ → State → Option Entry → List Entry → Place Entry
place_at k s held left = record { number = k; state = s; held = held; left = left }

abbrev Decided : Place Entry → List Sexpr → Type 0
Decided q xs = AreAnswered (DecidesIn One) (course verdict_of q xs ended) q.left

-- so many were added, and they decide the questions of the commands from this state on
record IsFound (s : State) (xs : List Sexpr) (first last : List Entry) : Type 0 where
  found : List Entry
  added : last ≡ first ++ found
  decided : (k : ℕ) (held : Option Entry) → Decided (place_at k s held found) xs

decided_as : (q : Place Entry) (xs : List Sexpr) (turns : List (Turn Entry)) → course verdict_of q xs ended ≡ turns → AreAnswered (DecidesIn One) turns q.left → Decided q xs
decided_as q xs turns e h = subst (λ (ts : List (Turn Entry)). AreAnswered (DecidesIn One) ts q.left) (sym e) h

module _ (last : Converting) (p : Place FileEntry) (x : Sexpr) (xs : List Sexpr) (make : Place FileEntry → List (Turn FileEntry))
    (rest : (q : Place FileEntry) (now : Converting) (behind : List Placed) → AreKept added_to now last behind (make q) → IsFound q.state xs now.entries.items last.entries.items) (first : Converting) (before : List Placed) where
  found_asked : (s : State) (question : Question) → after p.state x ≡ Ok (step_of s (Ask question)) → refusal_of question s x ≡ None → (left : List FileEntry) → AreKept added_to first last before (asked told_by p s question x left make) → IsFound p.state (x ∷ xs) first.entries.items last.entries.items
  found_asked s question e free [] h = absurd h
  found_asked s question e free (entry ∷ left) (next, (shown, (decides, same, stays), now), follows) =
      let w = rest (behind_answer told_by p s entry left) next (before ++ placed question s.context entry ∷ []) follows in
      record {
        found = shown ∷ w.found;
        added = w.added ∙ ap (λ (es : List Entry). es ++ w.found) now ∙ append_assoc first.entries.items (shown ∷ []) w.found;
        decided = λ k held.
            let q = place_at k p.state held (shown ∷ w.found) in
            let r = behind_answer verdict_of q s shown w.found in
            let there : Decided r xs = subst (λ (v : Satisfiability). Decided (place_at (k + 1) (settled v s) (Some shown) w.found) xs) (sym same) (w.decided (k + 1) (Some shown)) in
            decided_as q (x ∷ xs) (turn q s (answers question x shown) ∷ course verdict_of r xs ended)
            (answered_turn verdict_of q x s question shown w.found e free refl xs ended)
            (record { fit = (decides, there.fit); over = there.over; used = ap (λ (es : List Entry). shown ∷ es) there.used });
      }

  found_taken : (s : State) (question : Question) → after p.state x ≡ Ok (step_of s (Ask question)) → (why : Option Kind) → refusal_of question s x ≡ why → AreKept added_to first last before (taken told_by p s question x why make) → IsFound p.state (x ∷ xs) first.entries.items last.entries.items
  found_taken s question e (Some kind) free h = absurd h
  found_taken s question e None free h = found_asked s question e free p.left h

  found_effect : (effect : Effect) (s : State) → after p.state x ≡ Ok (step_of s effect) → AreKept added_to first last before (by_effect told_by p s x effect make) → IsFound p.state (x ∷ xs) first.entries.items last.entries.items
  found_effect (Tell notice) s e h =
      let w = rest (behind_told p s) first before h in
      record {
        found = w.found;
        added = w.added;
        decided = λ k held.
            let q = place_at k p.state held w.found in
            let there = w.decided (k + 1) held in
            decided_as q (x ∷ xs) (turn q s (tells x notice) ∷ course verdict_of (behind_told q s) xs ended) (told_turn verdict_of q x s notice e xs ended)
            (record { fit = (tt, there.fit); over = there.over; used = there.used });
      }
  found_effect (Ask question) s e h = found_taken s question e (refusal_of question s x) refl h
  found_effect Exit s e h = record {
    found = [];
    added = ap (λ (k : Converting). k.entries.items) (sym h) ∙ sym (append-nil first.entries.items);
    decided = λ k held.
        let q = place_at k p.state held [] in
        decided_as q (x ∷ xs) (turn q s ends ∷ []) (exit_turn verdict_of q x s e xs ended) (record { fit = (tt, tt); over = refl; used = refl });
  }

  found_after : (r : Result Step Refusal) → after p.state x ≡ r → AreKept added_to first last before (by_command told_by p x r make) → IsFound p.state (x ∷ xs) first.entries.items last.entries.items
  found_after (Err why) e h = absurd h
  found_after (Ok step) e h = found_effect step.effect step.state e h

found_all : (last : Converting) (xs : List Sexpr) (p : Place FileEntry) (first : Converting) (before : List Placed) → AreKept added_to first last before (course told_by p xs ended) → IsFound p.state xs first.entries.items last.entries.items
unfolding course
found_all last [] p first before h = record {
  found = [];
  added = ap (λ (k : Converting). k.entries.items) (sym h) ∙ sym (append-nil first.entries.items);
  decided = λ k held. (let q = place_at k p.state held [] in decided_as q [] (turn q p.state ends ∷ []) refl (record { fit = (tt, tt); over = refl; used = refl }));
}
found_all last (x ∷ xs) p first before h =
    found_after last p x xs (λ next. course told_by next xs ended) (λ q now behind more. found_all last xs q now behind more) first before (after p.state x) refl h

pub all_converted : (first last : Converting) (xs : List Sexpr) (entries : List FileEntry) → first.entries.items ≡ [] → AreKept added_to first last [] (course told_by (start_with entries) xs ended) → AreConverted xs last.entries.items
all_converted first last xs entries none h =
    let w = found_all last xs (start_with entries) first [] h in
    let same : last.entries.items ≡ w.found = w.added ∙ ap (λ (es : List Entry). es ++ w.found) none in
    subst (λ (es : List Entry). AreConverted xs es) (sym same) (w.decided 1 None)

-- ---- what becomes of the entries that were read

record HasShown (before : List Placed) (first last : List Entry) (turns : List (Turn FileEntry)) : Type 0 where
  found : List Entry
  added : last ≡ first ++ found
  stay : AreShown before turns found

module _ (last : Converting) (t : Turn FileEntry) (ts : List (Turn FileEntry)) (rest : (behind : List Placed) (now : Converting) → AreKept added_to now last behind ts → HasShown behind now.entries.items last.entries.items ts) (before : List Placed) where
  shown_at : (outcome : Outcome FileEntry) (first : Converting) → KeptBy added_to first last before t.state outcome (λ now next. AreKept added_to next last now ts)
      → (found : List Entry) × (last.entries.items ≡ first.entries.items ++ found) × ShowsBy before t.state outcome found (λ now others. AreShown now ts others)
  shown_at (tells x notice) first h = let w = rest before first h in (w.found, w.added, w.stay)
  shown_at (answers question x entry) first (next, (shown, (decides, same, stays), now), follows) =
      let w = rest (before ++ placed question t.state.context entry ∷ []) next follows in (
        shown ∷ w.found,
        w.added ∙ ap (λ (es : List Entry). es ++ w.found) now ∙ append_assoc first.entries.items (shown ∷ []) w.found,
        (stays, w.stay),
      )
  shown_at (asks question x) first h = absurd h
  shown_at ends first h = ([], ap (λ (k : Converting). k.entries.items) (sym h) ∙ sym (append-nil first.entries.items), refl)
  shown_at (fails kind) first h = absurd h

  shown_by : (outcome : Outcome FileEntry) → t.outcome ≡ outcome → (first : Converting) → KeptBy added_to first last before t.state outcome (λ now next. AreKept added_to next last now ts) → HasShown before first.entries.items last.entries.items (t ∷ ts)
  shown_by outcome e first h =
      let w = shown_at outcome first h in
      record {
        found = w.0;
        added = w.1;
        stay = subst (λ (o : Outcome FileEntry). ShowsBy before t.state o w.0 (λ now others. AreShown now ts others)) (sym e) w.2;
      }

shown_all : (last : Converting) (turns : List (Turn FileEntry)) (before : List Placed) (first : Converting) → AreKept added_to first last before turns → HasShown before first.entries.items last.entries.items turns
shown_all last [] before first h = absurd h
shown_all last (t ∷ ts) before first h = shown_by last t ts (λ behind now more. shown_all last ts behind now more) before t.outcome refl first h

pub all_stay : (first last : Converting) (xs : List Sexpr) (entries : List FileEntry) → first.entries.items ≡ [] → AreKept added_to first last [] (turns_with entries xs) → AreShown [] (turns_with entries xs) last.entries.items
all_stay first last xs entries none h =
    let w = shown_all last (turns_with entries xs) [] first h in
    let same : last.entries.items ≡ w.found = w.added ∙ ap (λ (es : List Entry). es ++ w.found) none in
    subst (AreShown [] (turns_with entries xs)) (sym same) w.stay

-- ---- what is written of them

abbrev IsWritten : List (Turn Entry) → List Entry → Type 0
IsWritten turns entries = pieces (Certificate One) turns ≡ entry_lines entries ++ line_of end_sexpr

rest_used : (entry : Entry) (these those : List Entry) → (entry ∷ these) ≡ (entry ∷ those) → these ≡ those
rest_used entry these those e = cc

no_entry : (entries : List Entry) → ◌≡◌ {A = List Entry} [] entries → line_of end_sexpr ++ [] ≡ entry_lines entries ++ line_of end_sexpr
no_entry [] e = append-nil (line_of end_sexpr)
no_entry (entry ∷ entries) e = absurd cc

failed_apart : ◌≡◌ {A = Option ℕ} (Some 1) (Some 0) → ⊥
failed_apart e = absurd cc

module _ (p : Place Entry) (x : Sexpr) (make : Place Entry → List (Turn Entry)) (rest : (q : Place Entry) → AreAnswered (DecidesIn One) (make q) q.left → IsWritten (make q) q.left) where
  written_asked : (s : State) (question : Question) (left : List Entry) → AreAnswered (DecidesIn One) (asked verdict_of p s question x left make) left → IsWritten (asked verdict_of p s question x left make) left
  written_asked s question [] h = absurd h.fit.0
  written_asked s question (entry ∷ left) h =
      let q = behind_answer verdict_of p s entry left in
      let w = rest q (record { fit = h.fit.1; over = h.over; used = rest_used entry (answers_of (make q)) left h.used }) in
      ap (λ (t : List ℕ). line_of (entry_sexpr entry) ++ t) w ∙ sym (append_assoc (line_of (entry_sexpr entry)) (entry_lines left) (line_of end_sexpr))

  written_taken : (s : State) (question : Question) (why : Option Kind) → AreAnswered (DecidesIn One) (taken verdict_of p s question x why make) p.left → IsWritten (taken verdict_of p s question x why make) p.left
  written_taken s question (Some kind) h = absurd (failed_apart h.over)
  written_taken s question None h = written_asked s question p.left h

  written_effect : (effect : Effect) (s : State) → AreAnswered (DecidesIn One) (by_effect verdict_of p s x effect make) p.left → IsWritten (by_effect verdict_of p s x effect make) p.left
  written_effect (Tell notice) s h = rest (behind_told p s) (record { fit = h.fit.1; over = h.over; used = h.used })
  written_effect (Ask question) s h = written_taken s question (refusal_of question s x) h
  written_effect Exit s h = no_entry p.left h.used

  written_after : (r : Result Step Refusal) → AreAnswered (DecidesIn One) (by_command verdict_of p x r make) p.left → IsWritten (by_command verdict_of p x r make) p.left
  written_after (Err why) h = absurd (failed_apart h.over)
  written_after (Ok step) h = written_effect step.effect step.state h

written : (xs : List Sexpr) (p : Place Entry) → Decided p xs → IsWritten (course verdict_of p xs ended) p.left
unfolding course
written [] p h = no_entry p.left h.used
written (x ∷ xs) p h = written_after p x (λ next. course verdict_of next xs ended) (λ q there. written xs q there) (after p.state x) h

pub converted : (bytes : List ℕ) (end : PartEnd) (behind : ℕ) (xs : List Sexpr) (version : Version) (given : List FileEntry) (entries : List Entry) → ScriptPart bytes 0 xs end behind
    → CertificateBehind bytes end behind (certificate version given) → AreConverted xs entries → AreShown [] (turns_with given xs) entries → IsConverted bytes (whole_text One entries)
converted bytes end behind xs version given entries script reads h stay = record {
  commands = xs;
  end = end;
  behind = behind;
  script = script;
  version = version;
  given = given;
  reads = reads;
  entries = entries;
  decide = h;
  stay = stay;
  is = ap (λ (t : List ℕ). opening (Certificate One) ++ t) (sym (written xs (start_with entries) h));
}
