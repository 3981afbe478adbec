-- One turn of the judging: a command is read and carried out, and a question is compared with its entry. What is done with
-- each right entry is left open: it leads from one value to another, by a relation that whoever keeps entries chooses.
-- These are words of the code's inner contracts, and no part of the meaning.
use Rattle.std.specs.Prelude.{◌≡◌, ◌⊎◌, ℕ, ◌+◌, List, [], ◌∷◌, ◌++◌, length, false, Some, None}
use Rattle.smt_sexpr.specs.Tree.{Sexpr}
use Rattle.smt_sexpr.specs.Commands.{ended}
use Rattle.cert_text.specs.declared.entry.FileEntry.{FileEntry}
use Rattle.cert_read.specs.Certificates.{CertificateOutcome, certificate, no_certificate}
use Rattle.cert_read.specs.code.Entries.{EntriesFrom, IsReadTo, AreAllLeft, RestIs}
use Rattle.idl_term.specs.Contexts.{Context}
use Rattle.kept_lemmas.specs.Entries.{Placed}
use Rattle.smt_script.specs.Commands.{is_exit}
use Rattle.smt_script.specs.declared.state.Question.{Question}
use Rattle.smt_script.specs.code.Kept.{Kept}
use Rattle.smt_script.specs.States.{State, settled}
use Rattle.smt_answer.specs.declared.kind.Kind.{Kind}
use Rattle.script_walk.specs.Questions.{refusal_of}
use Rattle.script_walk.specs.Course.{Place, Turn, Outcome, tells, answers, asks, ends, fails, course}
use Rattle.script_walk.specs.code.Standing.{Stands}
use Rattle.dtp_check.specs.declared.judge.Progress.{Progress}
use Rattle.dtp_check.specs.declared.judge.Progress.TheVariants.{Going, Judged}
use Rattle.dtp_check.specs.declared.judgement.EntryFlaw.{EntryFlaw}
use Rattle.dtp_check.specs.declared.judgement.Judgement.{Judgement}
use Rattle.dtp_check.specs.declared.judgement.Judgement.TheVariants.{Accepted, Script, Certificate, Missing, Entry as BadEntry}
use Rattle.dtp_check.specs.declared.earlier.Earlier.{Earlier}
use Rattle.dtp_check.specs.code.Earlier.{Holds}
use Rattle.dtp_check.specs.declared.script_part.PartEnd.{PartEnd}
use Rattle.dtp_check.specs.code.Parts.{IsReadable}
use Rattle.dtp_check.specs.Judged.{ScriptPart, entry_flaw, placed, told_by, judged_turns, turns_with}

-- how one value leads to another at the entry of the question of a command, behind these entries and where these assertions
-- are active
abbrev pub Leads : Type 0 → Type 1
Leads K = K → K → List Placed → Question → Sexpr → Context → FileEntry → Type 0

-- what the entry of a turn leads to, behind these entries
abbrev pub KeptBy : {K : Type 0} → Leads K → K → K → List Placed → State → Outcome FileEntry → (List Placed → K → Type 0) → Type 0
KeptBy leads first last before s (tells x notice) Rest = Rest before first
KeptBy {K = K} leads first last before s (answers question x entry) Rest =
    (next : K) × leads first next before question x s.context entry
    × Rest (before ++ placed question s.context entry ∷ []) next
KeptBy leads first last before s (asks question x) Rest = ⊥
KeptBy leads first last before s ends Rest = first ≡ last
KeptBy leads first last before s (fails kind) Rest = ⊥

-- what the entries of all turns lead to, one after the other, up to the end of the script
abbrev pub AreKept : {K : Type 0} → Leads K → K → K → List Placed → List (Turn FileEntry) → Type 0
AreKept leads first last before [] = ⊥
AreKept leads first last before (t ∷ ts) =
    KeptBy leads first last before t.state t.outcome (λ now next. AreKept leads next last now ts)

-- what the turns come to, over these entries before: the judgement, and where they are accepted what is kept of them
pub record ComesTo {K : Type 0} (leads : Leads K) (before : List Placed) (first : K) (turns : List (Turn FileEntry)) (judgement : Judgement) (last : K) : Type 0 where
  pub judged : judged_turns before turns ≡ judgement
  pub kept : judgement ≡ Accepted → AreKept leads first last before turns

-- Some of the entries of a certificate were read. Where what is left of it has no fault, this is so of all of them.
pub record IsSoOfAll (old new : EntriesFrom) (Says : List FileEntry → Type 0) : Type 0 where
  pub taken : List FileEntry
  pub takes : IsReadTo old new taken
  pub says : (left : List FileEntry) → AreAllLeft new left → Says (taken ++ left)

-- a right entry of a question, and what is kept and held behind its answer
pub record IsRightTurn {K : Type 0} (leads : Leads K) (first next : K) (question : Question) (x : Sexpr) (s : State) (before : List Placed) (entry : FileEntry) (kept : Kept) (later : Earlier) : Type 0 where
  pub right : entry_flaw before question x s.context entry ≡ None
  pub led : leads first next before question x s.context entry
  pub stands : Stands kept (settled (told_by entry) s)
  pub held : Holds later (before ++ placed question s.context entry ∷ [])

-- what is wrong where a question is asked: no entry is left, or the first of them, which has this number, isn't right
abbrev pub IsAgainst : List Placed → Question → Sexpr → Context → ℕ → Judgement → List FileEntry → Type 0
IsAgainst before question x c n judgement [] = judgement ≡ Missing n
IsAgainst before question x c n judgement (entry ∷ entries) =
    (flaw : EntryFlaw) × (entry_flaw before question x c entry ≡ Some flaw) × (judgement ≡ BadEntry n flaw)

-- a question that is taken, and what is held and kept behind its answer
abbrev pub IsAnswerTurn : {K : Type 0} → Leads K → K → K → Question → Sexpr → State → ℕ → List Placed → EntriesFrom → EntriesFrom → ℕ → Kept → Earlier → Progress → Type 0
IsAnswerTurn leads first next question x s number before old new counted kept later Going =
    (entry : FileEntry) × IsReadTo old new (entry ∷ []) × IsRightTurn leads first next question x s before entry kept later
    × (counted ≡ number + 1)
IsAnswerTurn leads first next question x s number before old new counted kept later (Judged judgement) =
    IsSoOfAll old new (IsAgainst before question x s.context (old.count + 1) judgement)

-- a question that is taken, or refused like a command
abbrev pub IsQuestionTurn : {K : Type 0} → Leads K → K → K → Question → Sexpr → State → ℕ → List Placed → EntriesFrom → EntriesFrom → ℕ → Kept → Earlier → Progress → Type 0
IsQuestionTurn leads first next question x s number before old new counted kept later progress =
    ((refusal_of question s x ≡ None)
    × IsAnswerTurn leads first next question x s number before old new counted kept later progress)
    ⊎ ((kind : Kind) × (refusal_of question s x ≡ Some kind) × (progress ≡ Judged (Script number kind)) × (new ≡ old))

-- where the judge stands before a command: so many entries were used, and those before it are these
pub record StandsAt (number used : ℕ) (kept : Kept) (earlier : Earlier) (place : Place FileEntry) (before : List Placed) : Type 0 where
  pub numbered : place.number ≡ number
  pub stands : Stands kept place.state
  pub held : Holds earlier before
  pub count : length before ≡ used

-- the same place, where these entries are left
abbrev pub with_left : Place FileEntry → List FileEntry → Place FileEntry
with_left p left = record p { left = left }

-- the turn of command x at a place: the script goes on from another one, and what the turns from there come to those from here
-- do, whichever entries are left; or it is judged
pub record GoesTo {K : Type 0} (leads : Leads K) (first next : K) (place : Place FileEntry) (before : List Placed) (old new : EntriesFrom) (x : Sexpr) (number : ℕ) (kept : Kept) (later : Earlier) : Type 0 where
  pub behind : Place FileEntry
  pub placed : List Placed
  pub taken : List FileEntry
  pub there : StandsAt number new.count kept later behind placed
  pub takes : IsReadTo old new taken
  pub counted : number ≡ place.number + 1
  pub goes_on : is_exit x ≡ false
  pub gives : (left : List FileEntry) (xs : List Sexpr) (judgement : Judgement) (last : K)
      → ComesTo leads placed next (course told_by (with_left behind left) xs ended) judgement last
      → ComesTo leads before first (course told_by (with_left place (taken ++ left)) (x ∷ xs) ended) judgement last

abbrev pub IsJudgedTurn : {K : Type 0} → Leads K → K → K → Place FileEntry → List Placed → EntriesFrom → EntriesFrom → Sexpr → ℕ → Kept → Earlier → Progress → Type 0
IsJudgedTurn leads first next place before old new x number kept later Going =
    GoesTo leads first next place before old new x number kept later
IsJudgedTurn leads first next place before old new x number kept later (Judged judgement) =
    IsSoOfAll old new (λ all. (xs : List Sexpr)
    → ComesTo leads before first (course told_by (with_left place all) (x ∷ xs) ended) judgement next)

-- what the script's part of a source comes to with all entries
abbrev pub ScriptComesTo : {K : Type 0} → Leads K → K → K → List ℕ → Judgement → List FileEntry → Type 0
ScriptComesTo leads first last bytes judgement entries =
    (xs : List Sexpr) (end : PartEnd) (behind : ℕ) → ScriptPart bytes 0 xs end behind → IsReadable end
    → ComesTo leads [] first (turns_with entries xs) judgement last

-- the same with what stands behind it
abbrev pub ScriptComesWith : {K : Type 0} → Leads K → K → K → List ℕ → Judgement → CertificateOutcome → Type 0
ScriptComesWith leads first last bytes judgement (certificate version entries) = ScriptComesTo leads first last bytes judgement entries
ScriptComesWith leads first last bytes judgement (no_certificate why) = judgement ≡ Certificate why

-- what the script comes to with what the rest of the text is
pub record IsJudgedBy {K : Type 0} (leads : Leads K) (first last : K) (bytes : List ℕ) (entries : EntriesFrom) (judgement : Judgement) : Type 0 where
  pub outcome : CertificateOutcome
  pub rest : RestIs entries outcome
  pub comes : ScriptComesWith leads first last bytes judgement outcome
