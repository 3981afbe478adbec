-- A session where an event comes: what its answer leads to, in the words of the session before the event.
use Rattle.std.proofs.Common.{arith, refl, sym, ap, subst, ◌∙◌, ◌≡◌, ◌<◌, ◌-◌, ◌^◌, ℕ, List, length, Option, None, Result, Ok, Err}
use Rattle.std.specs.Prelude.{IfOk, IfErr, IsErrAnd}
use Rattle.smt_lex.specs.code.Lexing.{Lexing}
use Rattle.smt_sexpr.specs.Tree.{Sexpr}
use Rattle.smt_sexpr.specs.Table.{Means}
use Rattle.smt_answer.specs.declared.kind.Kind.{Kind}
use Rattle.smt_script.specs.declared.state.Notice.{Notice}
use Rattle.smt_script.specs.declared.state.Question.{Question}
use Rattle.smt_script.specs.Laws.{ModeIsKept, ModelNeedsSat, ValuesNeedSat, ProofNeedsUnsat, CoreNeedsUnsat, AssumptionsNeedUnsat, QuestionsOfActive, MinimizedIsWorth}
use Rattle.smt_script.specs.States.{State}
use Rattle.script_walk.specs.code.Events.{IsReady as IsWalkReady}
use Rattle.script_walk.specs.declared.walk.Event.TheVariants.{Told as ToldOf, Asked, Ended, Failed}
use Rattle.script_walk.proofs.Visiting.{less_left}
use Rattle.dtp_entry.specs.declared.error.SessionError.{SessionError}
use Rattle.dtp_entry.specs.declared.error.SessionError.TheVariants.{OutOfMemory, WriteFault}
use Rattle.dtp_entry.specs.declared.report.Report.TheVariants.{Verdicts}
use Rattle.dtp_entry.specs.Transcripts.{IsReportPart}
use Rattle.dtp_entry.specs.Written.{Writes, IsPartOf, HasFault}
use Rattle.dtp_session.specs.declared.least.Minimum.{Minimum}
use Rattle.dtp_session.specs.declared.piece.Piece.{Piece}
use Rattle.dtp_session.specs.declared.piece.Piece.TheVariants.{Opening, Closing, Error}
use Rattle.dtp_session.specs.declared.session.Session.{Session}
use Rattle.dtp_session.specs.declared.session.Solved.{Solved}
use Rattle.dtp_session.specs.declared.session.Solved.TheVariants.{Done, ScriptStopped}
use Rattle.dtp_session.specs.Solving.{IsSolved}
use Rattle.dtp_session.specs.code.Answering.{IsWalkedOn, IsAnswering, IsWrittenOut, IsBrokenOff}
use Rattle.dtp_session.specs.code.Asking.{Answers}
use Rattle.dtp_session.specs.code.Leading.{EndsHere, IsLeastSoFar, IsSeeking}
use Rattle.dtp_session.specs.code.Sessions.{IsText, Holds, IsStart, IsAskedIn, MayTell, KeepsReading, KeepsPlace, Tells, IsAnswered, IsGoing, IsNext}
use Rattle.dtp_session.proofs.Looping.{so_far_starts, opening_cut, start_ready, goes_on, next_going, cut, closes, stops, nothing_more}
use Rattle.dtp_session.proofs.Leading.{least_starts, least_goes}
use Rattle.dtp_session.proofs.Stepping.{IsLed, minimum_told, may_tell, told_so, told_step, told_least, told_ready, may_ask, few_asked, asked_step, asked_least, asked_going, decided_ready, barred_least, ended_step, failed_step, ended_least, failed_least}

-- ---- something is told

module _ (p n : Session) (s : State) (id : ℕ) (notice : Notice) (w : IsWalkedOn p n (ToldOf id notice)) (holds : Holds p s)
    (kept : ModeIsKept) (model : ModelNeedsSat) (values : ValuesNeedSat) (proof : ProofNeedsUnsat) (core : CoreNeedsUnsat) (assumptions : AssumptionsNeedUnsat) where
  pub told_may : (s : State) × (x : Sexpr) × Holds n s × Means n.walk.sexprs id x × MayTell s x notice
  told_may = subst (λ (z : Session). (s : State) × (x : Sexpr) × Holds z s × Means n.walk.sexprs id x × MayTell s x notice) (sym w.same) (may_tell p n.walk s (ToldOf id notice) (w.next.is s holds.stands) holds kept id notice refl model values proof core assumptions)

  module _ (q : Session) (piece : Piece) (keeps : KeepsReading n q) (tells : (s : State) (x : Sexpr) → Holds n s → Means n.walk.sexprs id x → MayTell s x notice → Tells n q s x notice piece) where
    keeps_told : KeepsReading (record p { walk = n.walk }) q
    keeps_told = subst (λ (z : Session). KeepsReading z q) w.same keeps

    tells_told : (s : State) (x : Sexpr) → Holds (record p { walk = n.walk }) s → Means n.walk.sexprs id x → MayTell s x notice → Tells (record p { walk = n.walk }) q s x notice piece
    tells_told = subst (λ (z : Session). (s : State) (x : Sexpr) → Holds z s → Means n.walk.sexprs id x → MayTell s x notice → Tells z q s x notice piece) w.same tells

    pub told_is_next : IsNext p q s piece
    told_is_next = told_step p n.walk s (ToldOf id notice) (w.next.is s holds.stands) holds kept id notice refl model values proof core assumptions q piece keeps_told tells_told w.next.bytes

    pub told_led : (before : Option Minimum) → IsLed p q s before before
    told_led before = told_least p n.walk s (ToldOf id notice) (w.next.is s holds.stands) holds kept id notice refl model values proof core assumptions q piece keeps_told tells_told w.next.bytes before

    pub told_readies : IsWalkReady q.walk
    told_readies = told_ready p n.walk s (ToldOf id notice) (w.next.is s holds.stands) holds kept id notice refl model values proof core assumptions q piece keeps_told tells_told w.next.ready

    pub told_goes : IsGoing piece
    told_goes = (told_so p n.walk s (ToldOf id notice) (w.next.is s holds.stands) holds kept id notice refl model values proof core assumptions q piece keeps_told tells_told).going

    pub told_report : q.report ≡ p.report
    told_report = keeps_told.report

    pub told_bytes : q.walk.lexer.bytes ≡ p.walk.lexer.bytes
    told_bytes = ap (λ (l : Lexing). l.bytes) keeps.lexer ∙ w.next.bytes

    pub told_less : length q.walk.lexer.bytes - q.walk.lexer.place < length p.walk.lexer.bytes - p.walk.lexer.place
    told_less = subst (λ (l : Lexing). length l.bytes - l.place < length p.walk.lexer.bytes - p.walk.lexer.place) (sym keeps.lexer) (less_left p.walk n.walk (ToldOf id notice) tt w.next)

-- ---- a question

module _ (p n : Session) (s : State) (id : ℕ) (question : Question) (w : IsWalkedOn p n (Asked id question)) (holds : Holds p s)
    (kept : ModeIsKept) (worth : MinimizedIsWorth) (questions : QuestionsOfActive) where
  pub asked_may : (s : State) × (x : Sexpr) × Holds n s × IsAskedIn question x s
  asked_may = subst (λ (z : Session). (s : State) × (x : Sexpr) × Holds z s × IsAskedIn question x s) (sym w.same) (may_ask p n.walk s (Asked id question) (w.next.is s holds.stands) holds kept worth questions id question refl)

  pub asked_few : n.walk.number < 2 ^ 64 - 1
  asked_few = few_asked p n.walk s (Asked id question) (w.next.is s holds.stands) holds kept worth questions id question refl w.next.ready w.next.counted

  module _ (q : Session) (piece : Piece) (keeps : KeepsPlace n q) (answered : (s : State) (x : Sexpr) → Holds n s → IsAskedIn question x s → IsAnswered question x n q s piece) where
    keeps_asked : KeepsPlace (record p { walk = n.walk }) q
    keeps_asked = subst (λ (z : Session). KeepsPlace z q) w.same keeps

    answered_asked : (s : State) (x : Sexpr) → Holds (record p { walk = n.walk }) s → IsAskedIn question x s → IsAnswered question x (record p { walk = n.walk }) q s piece
    answered_asked = subst (λ (z : Session). (s : State) (x : Sexpr) → Holds z s → IsAskedIn question x s → IsAnswered question x z q s piece) w.same answered

    pub asked_is_next : IsNext p q s piece
    asked_is_next = asked_step p n.walk s (Asked id question) (w.next.is s holds.stands) holds kept worth questions id question refl q keeps_asked piece answered_asked w.next.bytes

    pub asked_led : (before now : Option Minimum) → ((kind : Kind) → piece ≡ Error kind → ⊥) → now ≡ minimum_told question before q.held → IsLed p q s before now
    asked_led before now apart is = asked_least p n.walk s (Asked id question) (w.next.is s holds.stands) holds kept worth questions id question refl q keeps_asked piece answered_asked w.next.bytes before now apart is

    pub asked_goes : ((kind : Kind) → piece ≡ Error kind → ⊥) → IsGoing piece
    asked_goes apart = asked_going p n.walk s (Asked id question) (w.next.is s holds.stands) holds kept worth questions id question refl q keeps_asked piece answered_asked apart

    pub asked_readies : ((kind : Kind) → piece ≡ Error kind → ⊥) → IsWalkReady q.walk
    asked_readies apart = decided_ready p n.walk s (Asked id question) (w.next.is s holds.stands) holds kept worth questions id question refl q keeps_asked piece answered_asked apart w.next.ready w.next.counted

    pub asked_barred : (kind : Kind) → piece ≡ Error kind → EndsHere p s 1
    asked_barred kind is = barred_least p n.walk s (Asked id question) (w.next.is s holds.stands) holds kept worth questions id question refl q keeps_asked piece answered_asked kind is

    pub asked_report : q.report ≡ p.report
    asked_report = keeps_asked.report

    pub asked_bytes : q.walk.lexer.bytes ≡ p.walk.lexer.bytes
    asked_bytes = ap (λ (l : Lexing). l.bytes) keeps.lexer ∙ w.next.bytes

    pub asked_less : length q.walk.lexer.bytes - q.walk.lexer.place < length p.walk.lexer.bytes - p.walk.lexer.place
    asked_less = subst (λ (l : Lexing). length l.bytes - l.place < length p.walk.lexer.bytes - p.walk.lexer.place) (sym keeps.lexer) (less_left p.walk n.walk (Asked id question) tt w.next)

-- ---- the end

module _ (p n : Session) (s : State) (holds : Holds p s) where
  pub ended_is_next : IsWalkedOn p n Ended → IsNext p n s Closing
  ended_is_next w = subst (λ (z : Session). IsNext p z s Closing) (sym w.same) (ended_step p n.walk s Ended (w.next.is s holds.stands) holds refl)

  pub failed_is_next : (kind : Kind) → IsWalkedOn p n (Failed kind) → IsNext p n s (Error kind)
  failed_is_next kind w = subst (λ (z : Session). IsNext p z s (Error kind)) (sym w.same) (failed_step p n.walk s (Failed kind) (w.next.is s holds.stands) holds kind refl)

  pub ended_here : IsWalkedOn p n Ended → EndsHere p s 0
  ended_here w = ended_least p n.walk s Ended (w.next.is s holds.stands) holds refl

  pub failed_here : (kind : Kind) → IsWalkedOn p n (Failed kind) → EndsHere p s 1
  failed_here kind w = failed_least p n.walk s (Failed kind) (w.next.is s holds.stands) holds kind refl

-- ---- what is written

lacks_apart : ◌≡◌ {A = SessionError} OutOfMemory WriteFault → ⊥
lacks_apart e = absurd cc

module _ (first : Session) (before after : Option (List ℕ)) (faults_before faults_now : ℕ) (why cause : SessionError) where
  broken_by : why ≡ cause → Writes before after (IsReportPart first.report first.walk.lexer.bytes) → HasFault {A = Unit {0}} faults_before faults_now (Err cause) → IsBrokenOff first before after faults_before faults_now why
  broken_by is part fault = record {
    part = part;
    fault = λ e. fault.rose (ap Err (sym is ∙ e));
    quiet = λ apart. fault.quiet (λ e. apart (is ∙ (let same : cause ≡ WriteFault = cc in same)));
    later = fault.later;
  }

module _ (first : Session) (start : IsStart first) (before now : Option (List ℕ)) (faults_before faults_now : ℕ) where
  pub answering_starts : Writes before now (IsText first Opening) → faults_now ≡ faults_before → IsAnswering first first before now faults_before faults_now
  answering_starts w quiet = record {
    ready = start_ready first start;
    report = refl;
    bytes = refl;
    quiet = quiet;
    so_far = so_far_starts first start before now w;
  }

  pub opening_breaks : (why cause : SessionError) → why ≡ cause → Writes before now (IsPartOf (IsText first Opening)) → HasFault {A = Unit {0}} faults_before faults_now (Err cause) → IsBrokenOff first before now faults_before faults_now why
  opening_breaks why cause is w fault = broken_by first before now faults_before faults_now why cause is (opening_cut first start before now w) fault

module _ (first p : Session) (before now : Option (List ℕ)) (faults_before faults_now : ℕ) (h : IsAnswering first p before now faults_before faults_now) where
  pub answering_lacks : (why : SessionError) → why ≡ OutOfMemory → IsBrokenOff first before now faults_before faults_now why
  answering_lacks why is =
      let quiet = h.quiet in
      record {
        part = nothing_more first.report first.walk.lexer.bytes p before now h.so_far;
        fault = λ e. absurd (lacks_apart (sym is ∙ e));
        quiet = λ apart. quiet;
        later = omega (arith, quiet);
      }

  module _ (q : Session) (after : Option (List ℕ)) (faults_after : ℕ) where
    pub answering_goes : (piece : Piece) → IsNext p q h.so_far.s piece → IsGoing piece → IsWalkReady q.walk → q.report ≡ p.report → q.walk.lexer.bytes ≡ p.walk.lexer.bytes → Writes now after (IsText q piece) → faults_after ≡ faults_now
        → IsAnswering first q before after faults_before faults_after
    answering_goes piece next going ready report bytes w quiet = record {
      ready = ready;
      report = report ∙ h.report;
      bytes = bytes ∙ h.bytes;
      quiet = quiet ∙ h.quiet;
      so_far = goes_on first.report first.walk.lexer.bytes p q before now after h.so_far piece (next_going first.report first.walk.lexer.bytes p q before now after h.so_far piece going next.leads) w;
    }

    pub answering_breaks : (piece : Piece) (why cause : SessionError) → why ≡ cause → IsNext p q h.so_far.s piece → Writes now after (IsPartOf (IsText q piece)) → HasFault {A = Unit {0}} faults_now faults_after (Err cause) → IsBrokenOff first before after faults_before faults_after why
    answering_breaks piece why cause is next w fault =
        broken_by first before after faults_before faults_after why cause is (cut first.report first.walk.lexer.bytes p q before now after h.so_far piece next w) (subst (λ (k : ℕ). HasFault {A = Unit {0}} k faults_after (Err cause)) h.quiet fault)

    pub answering_ends : IsNext p q h.so_far.s Closing → Writes now after (IsText q Closing) → faults_after ≡ faults_now → IsWrittenOut first before after faults_before faults_after Done
    answering_ends next w quiet = record { whole = closes first.report first.walk.lexer.bytes p q before now after h.so_far Closing refl next w; quiet = quiet ∙ h.quiet }

    pub answering_stops : (piece : Piece) (kind : Kind) → piece ≡ Error kind → IsNext p q h.so_far.s piece → Writes now after (IsText q piece) → faults_after ≡ faults_now → IsWrittenOut first before after faults_before faults_after ScriptStopped
    answering_stops piece kind is next w quiet = record { whole = stops first.report first.walk.lexer.bytes p q before now after h.so_far piece kind is next w; quiet = quiet ∙ h.quiet }

-- what a result says of a run
pub solved_by : (p : Session) (before now : Option (List ℕ)) (faults_before faults_now : ℕ) (r : Result Solved SessionError) → IfOk r (IsWrittenOut p before now faults_before faults_now) → IfErr r (IsBrokenOff p before now faults_before faults_now)
    → IsSolved p.report p.walk.lexer.bytes before now faults_before faults_now r
solved_by p before now faults_before faults_now (Ok end) w b =
    let quiet = w.quiet in
    record { whole = w.whole; part = tt; fault = λ e. absurd cc; quiet = λ apart. quiet; later = omega (arith, quiet) }
solved_by p before now faults_before faults_now (Err why) w b = record {
  whole = tt;
  part = b.part;
  fault = λ e. b.fault (let same : why ≡ WriteFault = cc in same);
  quiet = λ apart. b.quiet (λ e. apart (ap Err e));
  later = b.later;
}

-- ---- what is sought

pub seeking_starts : (first : Session) (least : Option Minimum) → IsStart first → first.report ≡ Verdicts → least ≡ None → IsSeeking first first least
seeking_starts first least start report none = record {
  ready = start_ready first start;
  bytes = refl;
  so_far = subst (λ (m : Option Minimum). IsLeastSoFar first.walk.lexer.bytes first m) (sym none) (least_starts first start report);
}

pub seeking_goes : (first p q : Session) (before now : Option Minimum) (h : IsSeeking first p before) → IsLed p q h.so_far.s before now → IsWalkReady q.walk → q.walk.lexer.bytes ≡ p.walk.lexer.bytes → IsSeeking first q now
seeking_goes first p q before now h led ready bytes = record {
  ready = ready;
  bytes = bytes ∙ h.bytes;
  so_far = least_goes first.walk.lexer.bytes p before h.so_far q now led;
}

-- ---- by the result of a call

pub err_and : {A E : Type 0} (r : Result A E) (P Q : E → Type 0) → IsErrAnd r P → ((e : E) → P e → Q e) → IfErr r Q
err_and (Ok a) P Q h k = tt
err_and (Err e) P Q h k = k e h

-- what the answer to a question gives, where there was memory for it
pub record IsGiven (p q : Session) (question : Question) (piece : Piece) : Type 0 where
  pub keeps : KeepsPlace p q
  pub answered : (s : State) (x : Sexpr) → Holds p s → IsAskedIn question x s → IsAnswered question x p q s piece

pub given_by : {E : Type 0} (p q : Session) (question : Question) (r : Result Piece E) (piece : Piece) → Answers p question r q → r ≡ Ok piece → IsGiven p q question piece
given_by {E} p q question r piece h is = record {
  keeps = h.keeps;
  answered = subst (λ (z : Result Piece E). IfOk z (λ found. (s : State) (x : Sexpr) → Holds p s → IsAskedIn question x s → IsAnswered question x p q s found)) is h.answered;
}
