-- A session: what it writes next, and what it goes on to.
-- These are words of the code's inner contracts, and no part of the meaning.
use Rattle.std.specs.Prelude.{◌≡◌, ◌≢◌, ◌≤◌, ◌⊎◌, ℕ, ◌+◌, List, [], ◌∷◌, ◌++◌, length, Bool, Option, Some, None, IfSome}
use Rattle.std.specs.List.{AllByRecursion}
use Rattle.smt_sexpr.specs.Tree.{Sexpr}
use Rattle.stn_core.specs.declared.named.NamedValue.{NamedValue}
use Rattle.stn_core.specs.Named.{AreWithinLimit}
use Rattle.refute_tree.specs.declared.lemma.Lemma.{Lemma}
use Rattle.idl_node.specs.Truth.{point_values, AreTruths}
use Rattle.kept_lemmas.specs.declared.item.Kept.{Kept}
use Rattle.kept_lemmas.specs.declared.item.Item.TheVariants.{Keep}
use Rattle.kept_lemmas.specs.Entries.{AreRight}
use Rattle.kept_lemmas.specs.Facts.{Shelf}
use Rattle.idl_term.specs.Contexts.{Context, scope_of, IsScheduleFor}
use Rattle.cert_text.specs.declared.entry.Version.{Version}
use Rattle.cert_text.specs.declared.entry.Entry.{Entry}
use Rattle.cert_text.specs.declared.entry.Entry.TheVariants.{Unsat}
use Rattle.cert_text.specs.Form.{entry_sexpr, line_of}
use Rattle.smt_script.specs.Commands.{asked_terms}
use Rattle.smt_script.specs.declared.state.Mode.{Mode}
use Rattle.smt_script.specs.declared.state.Mode.TheVariants as mode
use Rattle.smt_script.specs.declared.state.Notice.{Notice}
use Rattle.smt_script.specs.declared.state.Notice.TheVariants as notice
use Rattle.smt_answer.specs.Texts.{error_line}
use Rattle.smt_answer.specs.code.Answers.{is_marked}
use Rattle.smt_script.specs.declared.state.Question.{Question}
use Rattle.smt_script.specs.States.{State, Assumed, start_state, terms_refusal, settled, asked_by, asked_of}
use Rattle.script_walk.specs.Questions.{refusal_of}
use Rattle.script_walk.specs.Course.{Place, Turn, IsCourseOf, status_of, answers_of}
use Rattle.script_walk.specs.code.Events.{IsStart as IsWalkStart}
use Rattle.dtp_entry.specs.Bests.{Satisfies}
use Rattle.dtp_entry.specs.Cores.{cites_assertion}
use Rattle.dtp_entry.specs.code.Asking.{IsAskedBy}
use Rattle.dtp_entry.specs.Entries.{verdict_of, points_of, problem_of}
use Rattle.dtp_entry.specs.Reports.{version_of}
use Rattle.script_walk.specs.code.Standing.{Stands}
use Rattle.dtp_entry.specs.Transcripts.{Held, schedule_in, opening, closing, told, Decides, Output, IsWritten, IsLegal}
use Rattle.dtp_entry.specs.Written.{IsFront}
use Rattle.dtp_session.specs.code.Forms.{schedule_shown}
use Rattle.dtp_session.specs.code.Keeping.{IsShownIn, line_shown}
use Rattle.dtp_session.specs.declared.piece.Piece.{Piece}
use Rattle.dtp_session.specs.declared.piece.Piece.TheVariants.{Opening, Decision, Proof, Told, Closing, Error}
use Rattle.dtp_session.specs.declared.session.Session.{Session}

-- the text of a piece
abbrev pub IsText : Session → Piece → List ℕ → Type 0
IsText p Opening text = text ≡ opening p.report
IsText p Decision text = (entry : Entry) → p.held ≡ Some entry → text ≡ line_shown p.report entry p.items
IsText p Proof text = (entry : Entry) → p.held ≡ Some entry → text ≡ line_of (entry_sexpr entry)
IsText p Told text = text ≡ p.text.items
IsText p Closing text = text ≡ closing p.report
IsText p (Error kind) text = text ≡ error_line p.walk.number kind

-- a schedule is held that satisfies what was asked of, and marks tell the truth on it of nodes of what is active
pub record ShowsSchedule (c asked : Context) (kept : Held) (given : Option (List NamedValue)) (marks : List Bool) : Type 0 where
  pub entry : Entry
  pub schedule : List NamedValue
  pub held : kept ≡ Some entry
  pub shown : schedule_shown given entry ≡ Some schedule
  pub is : schedule_in c entry ≡ Some schedule
  pub fits : IsScheduleFor c schedule
  pub satisfies : Satisfies asked schedule
  pub within : AreWithinLimit schedule
  pub truths : AreTruths c.nodes (point_values schedule) marks

-- flags tell of each assertion whether the refutation rests on it
pub record AreCitedIn (c : Context) (lemmas : List Lemma) (cited : List Bool) : Type 0 where
  pub each : (r : ℕ) → is_marked cited r ≡ cites_assertion c lemmas r
  pub count : length cited ≡ length c.roots

-- flags tell of each assertion, and behind the active ones of each assumption, whether the refutation rests on it
pub record AreCitedBy (c : Context) (assumed : Assumed) (lemmas : List Lemma) (cited : List Bool) : Type 0 where
  pub each : (r : ℕ) → is_marked cited r ≡ cites_assertion assumed.asked lemmas r
  pub active : length c.roots ≡ length assumed.active.assertions
  pub within : length c.roots ≤ length cited

abbrev pub CitesAssumed : Context → Option Assumed → List Lemma → List Bool → Type 0
CitesAssumed c None lemmas cited = Unit {0}
CitesAssumed c (Some assumed) lemmas cited = AreCitedBy c assumed lemmas cited

-- where a place is noted, the item there refutes by itself what was asked of
abbrev pub RefutesAgain : Shelf → Context → Option Kept → Type 0
RefutesAgain shelf c last = IfSome last (λ (place : Kept). AreRight shelf (points_of c) (problem_of c) (Keep place ∷ []))

-- a refutation is held, which answers each question of what was asked of
pub record ShowsRefutation (version : Version) (c : Context) (assumed : Option Assumed) (kept : Held) (cited : List Bool) (shelf : Shelf) (last : Option Kept) : Type 0 where
  pub lemmas : List Lemma
  pub held : kept ≡ Some (Unsat lemmas)
  pub decides : (question : Question) (x : Sexpr) → Decides version question x (asked_by c assumed) (Unsat lemmas)
  pub cites : CitesAssumed c assumed lemmas cited
  pub again : RefutesAgain shelf (asked_by c assumed) last

-- what is held shows the verdict that the mode stands for
abbrev pub ShowsVerdict : Version → Mode → Context → Option Assumed → Held → Option (List NamedValue) → List Bool → List Bool → Shelf → Option Kept → Type 0
ShowsVerdict version mode.Nothing c assumed held given marks cited shelf last = Unit {0}
ShowsVerdict version mode.Sat c assumed held given marks cited shelf last = ShowsSchedule c (asked_by c assumed) held given marks
ShowsVerdict version mode.Unsat c assumed held given marks cited shelf last = ShowsRefutation version c assumed held cited shelf last

-- what is kept of the commands stands for the state, and what is held shows its verdict
pub record Holds (p : Session) (s : State) : Type 0 where
  pub stands : Stands p.walk.state s
  pub shows : ShowsVerdict (version_of p.report) s.mode s.context s.assumed p.held p.given p.marks.items p.cited.items p.earlier p.last

-- command x asks the question of what is active, assumptions with the rest; where there are any there is no mode
pub record IsAskedIn (question : Question) (x : Sexpr) (s : State) : Type 0 where
  pub by : IsAskedBy question x s.context
  pub active : asked_of s ≡ s.context
  pub alone : (s.assumed ≡ None) ⊎ (s.mode ≡ mode.Nothing)

-- what is told in a state may be told there
pub record MayTell (s : State) (x : Sexpr) (n : Notice) : Type 0 where
  pub model : n ≡ notice.Model → s.mode ≡ mode.Sat
  pub values : n ≡ notice.Values → (s.mode ≡ mode.Sat)
      × (terms_refusal (scope_of s.context) s.context.nodes (asked_terms x) ≡ None)
  pub proof : n ≡ notice.Proof → s.mode ≡ mode.Unsat
  pub core : n ≡ notice.Core → s.mode ≡ mode.Unsat
  pub assumptions : n ≡ notice.Assumptions → (s.mode ≡ mode.Unsat) × (s.assumed ≢ None)

-- before the first command
pub record IsStart (p : Session) : Type 0 where
  pub walk : IsWalkStart p.walk
  pub stands : Holds p start_state
  pub held : p.held ≡ None
  pub earlier : p.earlier ≡ []

-- nothing was changed but what is held and what the commands have led to
pub record KeepsReading (p q : Session) : Type 0 where
  pub lexer : q.walk.lexer ≡ p.walk.lexer
  pub sexprs : q.walk.sexprs ≡ p.walk.sexprs
  pub number : q.walk.number ≡ p.walk.number
  pub report : q.report ≡ p.report
  pub earlier : q.earlier ≡ p.earlier

-- nothing was changed but the text and the marks
pub record KeepsVerdict (p q : Session) : Type 0 where
  pub reading : KeepsReading p q
  pub state : q.walk.state ≡ p.walk.state
  pub held : q.held ≡ p.held
  pub given : q.given ≡ p.given
  pub cited : q.cited ≡ p.cited
  pub last : q.last ≡ p.last

-- nothing was changed but what is held, what the commands have led to and their count
pub record KeepsPlace (p q : Session) : Type 0 where
  pub lexer : q.walk.lexer ≡ p.walk.lexer
  pub sexprs : q.walk.sexprs ≡ p.walk.sexprs
  pub report : q.report ≡ p.report

-- ---- what is written from here on

-- where the script stands, in a state and with these entries for the questions that follow
abbrev pub place_of : Session → State → List Entry → Place Entry
place_of p s left = record { number = p.walk.number; state = s; held = p.held; left = left }

-- these turns are legal, end with this status, and use these entries
pub record Runs (p : Session) (s : State) (found : List Entry) (status : ℕ) (turns : List (Turn Entry)) : Type 0 where
  pub are : IsCourseOf verdict_of p.walk.lexer.bytes p.walk.lexer.place (place_of p s found) turns
  pub legal : AllByRecursion (IsLegal p.report) turns
  pub over : status_of turns ≡ Some status
  pub used : answers_of turns ≡ found

pub record From (p : Session) (s : State) (out : Output) : Type 0 where
  pub turns : List (Turn Entry)
  pub runs : Runs p s out.found out.status turns
  pub writes : IsWritten p.report p.earlier turns out.text

pub record PartFrom (p : Session) (s : State) (text : List ℕ) : Type 0 where
  pub found : List Entry
  pub turns : List (Turn Entry)
  pub are : IsCourseOf verdict_of p.walk.lexer.bytes p.walk.lexer.place (place_of p s found) turns
  pub legal : AllByRecursion (IsLegal p.report) turns
  pub written : List ℕ
  pub writes : IsWritten p.report p.earlier turns written
  pub front : IsFront text written

-- with a piece before it
abbrev pub behind : List ℕ → List Entry → Output → Output
behind text found rest = record { text = text ++ rest.text; found = found ++ rest.found; status = rest.status }

-- ---- a command

-- more may follow the piece
abbrev pub IsGoing : Piece → Type 0
IsGoing Closing = ⊥
IsGoing (Error kind) = ⊥
IsGoing _ = Unit {0}

-- the piece tells what is to be told of command x in a state
pub record Tells (p q : Session) (s : State) (x : Sexpr) (n : Notice) (piece : Piece) : Type 0 where
  pub going : IsGoing piece
  pub stands : Holds q s
  pub held : q.held ≡ p.held
  pub text : (text : List ℕ) → IsText q piece text → text ≡ told p.report p.held s x n

-- the question of command x was decided in this state, and counted
pub record IsChecked (question : Question) (x : Sexpr) (p q : Session) (s : State) : Type 0 where
  pub entry : Entry
  pub decides : Decides (version_of q.report) question x s.context entry
  pub held : q.held ≡ Some entry
  pub stands : Holds q (settled (verdict_of entry) s)
  pub number : q.walk.number ≡ p.walk.number + 1
  pub shows : IsShownIn (version_of q.report) p.earlier question s.context entry q.items q.earlier

-- the question was decided, or it is refused
abbrev pub IsAnswered : Question → Sexpr → Session → Session → State → Piece → Type 0
IsAnswered question x p q s Decision = (refusal_of question s x ≡ None) × IsChecked question x p q s
IsAnswered question x p q s (Error kind) = (refusal_of question s x ≡ Some kind) × (q.walk.number ≡ p.walk.number)
IsAnswered question x p q s Opening = ⊥
IsAnswered question x p q s Proof = ⊥
IsAnswered question x p q s Told = ⊥
IsAnswered question x p q s Closing = ⊥

-- ---- a turn

-- the script ends with the piece
abbrev pub Ends : Session → Session → State → Piece → ℕ → Type 0
Ends p q s piece status =
    (text : List ℕ) → IsText q piece text → From p s (record { text = text; found = []; status = status })

-- the script goes on behind the piece
pub record GoesOn (p q : Session) (s : State) (piece : Piece) : Type 0 where
  pub next : State
  pub found : List Entry
  pub stands : Holds q next
  pub whole : (text : List ℕ) → IsText q piece text
      → (rest : Output) → From q next rest → From p s (behind text found rest)
  pub part : (text rest : List ℕ) → IsText q piece text → PartFrom q next rest → PartFrom p s (text ++ rest)

abbrev pub Leads : Session → Session → State → Piece → Type 0
Leads p q s Closing = Ends p q s Closing 0
Leads p q s (Error kind) = Ends p q s (Error kind) 1
Leads p q s piece = GoesOn p q s piece

-- what is written next, and what it leads to
pub record IsNext (p q : Session) (s : State) (piece : Piece) : Type 0 where
  -- a front of the piece is legal
  pub cut : (text added : List ℕ) → IsText q piece text → IsFront added text → PartFrom p s added
  pub leads : Leads p q s piece
