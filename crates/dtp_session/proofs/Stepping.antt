-- From the event of a walk to the piece that answers it.
use Rattle.std.proofs.Common.{arith, refl, sym, ap, subst, ◌∙◌, ◌≡◌, ◌≤◌, ◌<◌, ◌-◌, ◌^◌, ℕ, [], Option, Some}
use Rattle.cert_text.specs.declared.entry.Entry.{Entry}
use Rattle.smt_answer.specs.declared.kind.Kind.{Kind}
use Rattle.smt_sexpr.specs.Tree.{Sexpr}
use Rattle.smt_sexpr.specs.Table.{Means}
use Rattle.smt_script.specs.declared.state.Effect.TheVariants.{Ask, Tell}
use Rattle.smt_script.specs.declared.state.Notice.{Notice}
use Rattle.smt_script.specs.declared.state.Question.{Question}
use Rattle.smt_script.specs.declared.state.Question.TheVariants.{CheckSat, Minimize}
use Rattle.smt_script.specs.Laws.{ModeIsKept, ModelNeedsSat, ValuesNeedSat, ProofNeedsUnsat, CoreNeedsUnsat, AssumptionsNeedUnsat, QuestionsOfActive, MinimizedIsWorth}
use Rattle.smt_script.specs.States.{State, settled}
use Rattle.script_walk.specs.code.Events.{IsEvent, GoesOn, Asks, IsReady as IsWalkReady}
use Rattle.script_walk.specs.declared.walk.Event.{Event}
use Rattle.script_walk.specs.declared.walk.Event.TheVariants.{Told as ToldOf, Asked, Ended, Failed}
use Rattle.script_walk.specs.declared.walk.Walk.{Walk}
use Rattle.script_walk.specs.Course.{Outcome, tells as told_of, answers}
use Rattle.script_walk.proofs.Turns.{ends_with, fails_with, barred_from}
use Rattle.dtp_entry.specs.Entries.{verdict_of}
use Rattle.dtp_entry.specs.Transcripts.{Held}
use Rattle.dtp_session.specs.declared.piece.Piece.{Piece}
use Rattle.dtp_entry.specs.code.Asking.{IsAskedBy}
use Rattle.dtp_session.specs.declared.piece.Piece.TheVariants.{Opening, Decision, Proof, Told, Closing, Error}
use Rattle.dtp_session.specs.declared.session.Session.{Session}
use Rattle.dtp_session.specs.declared.least.Minimum.{Minimum}
use Rattle.dtp_session.specs.Leasts.{minimum_at, minimum_by}
use Rattle.dtp_session.specs.code.Leading.{minimum_held, LeadsOn, EndsHere}
use Rattle.dtp_session.specs.code.Sessions.{Holds, IsAskedIn, MayTell, place_of, KeepsReading, KeepsPlace, Tells, IsAnswered, IsGoing, IsNext}
use Rattle.dtp_session.proofs.Answering.{holds_after, may_after, ready_kept, ready_settled}
use Rattle.dtp_session.proofs.Transcribing.{closing_next, error_next, ends_here, fails_here, told_next, told_leads, checked_next, checked_leads, barred_next}

-- a turn, and what the last minimize came to before and behind it
abbrev pub IsLed : Session → Session → State → Option Minimum → Option Minimum → Type 0
IsLed p q s before now = (outcome : Outcome Entry) × LeadsOn p q s outcome × (now ≡ minimum_by before outcome)

-- what the question leaves of what the last minimize came to, where this is held behind its answer
abbrev pub minimum_told : Question → Option Minimum → Held → Option Minimum
minimum_told CheckSat last held = last
minimum_told (Minimize o) last held = minimum_held held

told_at : (question : Question) (last : Option Minimum) (entry : Entry) → minimum_told question last (Some entry) ≡ minimum_at question last entry
told_at CheckSat last entry = refl
told_at (Minimize o) last entry = refl

module _ (p : Session) (w : Walk) (s : State) (event : Event) (h : IsEvent p.walk w s event) (holds : Holds p s) (kept : ModeIsKept) where
  -- ---- something is told

  module _ (id : ℕ) (n : Notice) (e : event ≡ ToldOf id n) where
    pub told_event : IsEvent p.walk w s (ToldOf id n)
    told_event = subst (λ (f : Event). IsEvent p.walk w s f) e h

    told_holds : Holds (record p { walk = w }) told_event.carries.1.next
    told_holds = holds_after p w s told_event.x (Tell n) told_event.carries.1 kept holds

    module _ (model : ModelNeedsSat) (values : ValuesNeedSat) (proof : ProofNeedsUnsat) (core : CoreNeedsUnsat) (assumptions : AssumptionsNeedUnsat) where
      pub may_tell : (s : State) × (x : Sexpr) × Holds (record p { walk = w }) s × Means w.sexprs id x × MayTell s x n
      may_tell = (told_event.carries.1.next, told_event.x, told_holds, told_event.carries.0, may_after w s told_event.x n told_event.carries.1 model values proof core assumptions)

      module _ (q : Session) (piece : Piece) (keeps : KeepsReading (record p { walk = w }) q)
          (tells : (s : State) (x : Sexpr) → Holds (record p { walk = w }) s → Means w.sexprs id x → MayTell s x n → Tells (record p { walk = w }) q s x n piece) where
        pub told_so : Tells (record p { walk = w }) q told_event.carries.1.next told_event.x n piece
        told_so = tells told_event.carries.1.next told_event.x told_holds told_event.carries.0 (may_after w s told_event.x n told_event.carries.1 model values proof core assumptions)

        pub told_step : w.lexer.bytes ≡ p.walk.lexer.bytes → IsNext p q s piece
        told_step bytes = told_next p q w s bytes keeps id n piece told_event told_so

        pub told_least : w.lexer.bytes ≡ p.walk.lexer.bytes → (before : Option Minimum) → IsLed p q s before before
        told_least bytes before = (told_of told_event.x n, told_leads p q w s bytes keeps id n piece told_event told_so, refl)

        pub told_ready : (GoesOn event → IsWalkReady w) → IsWalkReady q.walk
        told_ready ready = ready_kept (record p { walk = w }) q told_event.carries.1.next (ready (subst GoesOn (sym e) tt)) keeps told_so.stands

  -- ---- a question

  module _ (worth : MinimizedIsWorth) (questions : QuestionsOfActive) (id : ℕ) (question : Question) (e : event ≡ Asked id question) where
    asked_event : IsEvent p.walk w s (Asked id question)
    asked_event = subst (λ (f : Event). IsEvent p.walk w s f) e h

    asked_holds : Holds (record p { walk = w }) asked_event.carries.1.next
    asked_holds = holds_after p w s asked_event.x (Ask question) asked_event.carries.1 kept holds

    asked_by : (named : Question) → named ≡ question → IsAskedBy named asked_event.x asked_event.carries.1.next.context
    asked_by CheckSat same = tt
    asked_by (Minimize o) same =
        worth s asked_event.x (record { state = asked_event.carries.1.next; effect = Ask question }) o holds.stands.made asked_event.carries.1.leads (ap Ask (sym same))

    asked_in : IsAskedIn question asked_event.x asked_event.carries.1.next
    asked_in =
        let of = questions s asked_event.x (record { state = asked_event.carries.1.next; effect = Ask question }) question asked_event.carries.1.leads refl in
        record { by = asked_by question refl; active = of.0; alone = of.1 }

    pub may_ask : (s : State) × (x : Sexpr) × Holds (record p { walk = w }) s × IsAskedIn question x s
    may_ask = (asked_event.carries.1.next, asked_event.x, asked_holds, asked_in)

    pub few_asked : (GoesOn event → IsWalkReady w) → (Asks event → w.number ≤ w.lexer.place) → w.number < 2 ^ 64 - 1
    few_asked ready counted =
        let there = ready (subst GoesOn (sym e) tt) in
        let within = there.within in
        let few = there.few in
        let count = counted (subst Asks (sym e) tt) in
        omega (arith, within, few, count)

    module _ (q : Session) (keeps : KeepsPlace (record p { walk = w }) q) where
      checked_step : w.lexer.bytes ≡ p.walk.lexer.bytes → IsAnswered question asked_event.x (record p { walk = w }) q asked_event.carries.1.next Decision → IsNext p q s Decision
      checked_step bytes h = checked_next p q w s bytes keeps id question asked_event h.0 h.1

      barred_step : w.lexer.bytes ≡ p.walk.lexer.bytes → (kind : Kind) → IsAnswered question asked_event.x (record p { walk = w }) q asked_event.carries.1.next (Error kind) → IsNext p q s (Error kind)
      barred_step bytes kind h = barred_next p q w s bytes keeps id question kind asked_event h.0 h.1

      -- no error, so it is a decision
      is_decided : (piece : Piece) → ((kind : Kind) → piece ≡ Error kind → ⊥) → IsAnswered question asked_event.x (record p { walk = w }) q asked_event.carries.1.next piece
          → IsAnswered question asked_event.x (record p { walk = w }) q asked_event.carries.1.next Decision
      is_decided Decision apart h = h
      is_decided (Error kind) apart h = absurd (apart kind refl)
      is_decided Opening apart h = absurd h
      is_decided Proof apart h = absurd h
      is_decided Told apart h = absurd h
      is_decided Closing apart h = absurd h

      goes_by : (piece : Piece) → ((kind : Kind) → piece ≡ Error kind → ⊥) → IsAnswered question asked_event.x (record p { walk = w }) q asked_event.carries.1.next piece → IsGoing piece
      goes_by Decision apart h = tt
      goes_by (Error kind) apart h = apart kind refl
      goes_by Opening apart h = tt
      goes_by Proof apart h = tt
      goes_by Told apart h = tt
      goes_by Closing apart h = h

      checked_least : w.lexer.bytes ≡ p.walk.lexer.bytes → (before : Option Minimum) → IsAnswered question asked_event.x (record p { walk = w }) q asked_event.carries.1.next Decision
          → IsLed p q s before (minimum_told question before q.held)
      checked_least bytes before h = (
        answers question asked_event.x h.1.entry,
        checked_leads p q w s bytes keeps id question asked_event h.0 h.1,
        ap (minimum_told question before) h.1.held ∙ told_at question before h.1.entry,
      )

      answered_by : w.lexer.bytes ≡ p.walk.lexer.bytes → (piece : Piece) → IsAnswered question asked_event.x (record p { walk = w }) q asked_event.carries.1.next piece → IsNext p q s piece
      answered_by bytes Decision h = checked_step bytes h
      answered_by bytes (Error kind) h = barred_step bytes kind h
      answered_by bytes Opening h = absurd h
      answered_by bytes Proof h = absurd h
      answered_by bytes Told h = absurd h
      answered_by bytes Closing h = absurd h

      -- the walk behind an answer
      ready_answered : (piece : Piece) → IsGoing piece → (GoesOn event → IsWalkReady w) → (Asks event → w.number ≤ w.lexer.place) → IsAnswered question asked_event.x (record p { walk = w }) q asked_event.carries.1.next piece → IsWalkReady q.walk
      ready_answered Decision going ready counted h =
          let now = h.1 in
          ready_settled w q (settled (verdict_of now.entry) asked_event.carries.1.next) (ready (subst GoesOn (sym e) tt)) (counted (subst Asks (sym e) tt)) keeps.lexer keeps.sexprs now.number now.stands
      ready_answered (Error kind) going ready counted h = absurd going
      ready_answered Opening going ready counted h = absurd h
      ready_answered Proof going ready counted h = absurd h
      ready_answered Told going ready counted h = absurd h
      ready_answered Closing going ready counted h = absurd going

      module _ (piece : Piece) (answered : (s : State) (x : Sexpr) → Holds (record p { walk = w }) s → IsAskedIn question x s → IsAnswered question x (record p { walk = w }) q s piece) where
        pub asked_step : w.lexer.bytes ≡ p.walk.lexer.bytes → IsNext p q s piece
        asked_step bytes = answered_by bytes piece (answered asked_event.carries.1.next asked_event.x asked_holds asked_in)

        pub asked_least : w.lexer.bytes ≡ p.walk.lexer.bytes → (before now : Option Minimum) → ((kind : Kind) → piece ≡ Error kind → ⊥) → now ≡ minimum_told question before q.held
            → IsLed p q s before now
        asked_least bytes before now apart is =
            subst (λ (m : Option Minimum). IsLed p q s before m) (sym is)
            (checked_least bytes before (is_decided piece apart (answered asked_event.carries.1.next asked_event.x asked_holds asked_in)))

        pub decided_ready : ((kind : Kind) → piece ≡ Error kind → ⊥) → (GoesOn event → IsWalkReady w) → (Asks event → w.number ≤ w.lexer.place) → IsWalkReady q.walk
        decided_ready apart ready counted =
            ready_answered Decision tt ready counted (is_decided piece apart (answered asked_event.carries.1.next asked_event.x asked_holds asked_in))

        pub barred_least : (kind : Kind) → piece ≡ Error kind → EndsHere p s 1
        barred_least kind is =
            let to = asked_event.carries.1 in
            let h = subst (λ (z : Piece). IsAnswered question asked_event.x (record p { walk = w }) q to.next z) is (answered to.next asked_event.x asked_holds asked_in) in
            fails_here p s kind to.next
            (barred_from verdict_of p.walk.lexer.bytes p.walk.lexer.place w.lexer.place (place_of p s []) asked_event.x asked_event.spells to.next question kind to.leads h.0)

        pub asked_going : ((kind : Kind) → piece ≡ Error kind → ⊥) → IsGoing piece
        asked_going apart = goes_by piece apart (answered asked_event.carries.1.next asked_event.x asked_holds asked_in)

        pub asked_ready : IsGoing piece → (GoesOn event → IsWalkReady w) → (Asks event → w.number ≤ w.lexer.place) → IsWalkReady q.walk
        asked_ready going ready counted = ready_answered piece going ready counted (answered asked_event.carries.1.next asked_event.x asked_holds asked_in)

-- ---- the end

module _ (p : Session) (w : Walk) (s : State) (event : Event) (h : IsEvent p.walk w s event) (holds : Holds p s) where
  pub ended_step : event ≡ Ended → IsNext p (record p { walk = w }) s Closing
  ended_step e = closing_next p (record p { walk = w }) s refl (ends_with verdict_of p.walk w (place_of p s []) holds.stands (subst (λ (f : Event). IsEvent p.walk w s f) e h))

  pub failed_step : (kind : Kind) → event ≡ Failed kind → IsNext p (record p { walk = w }) s (Error kind)
  failed_step kind e =
      let last = fails_with verdict_of p.walk w (place_of p s []) holds.stands kind (subst (λ (f : Event). IsEvent p.walk w s f) e h) in
      error_next p (record p { walk = w }) s refl kind last.number last.last last.is

  pub ended_least : event ≡ Ended → EndsHere p s 0
  ended_least e = ends_here p s w (ends_with verdict_of p.walk w (place_of p s []) holds.stands (subst (λ (f : Event). IsEvent p.walk w s f) e h))

  pub failed_least : (kind : Kind) → event ≡ Failed kind → EndsHere p s 1
  failed_least kind e =
      let last = fails_with verdict_of p.walk w (place_of p s []) holds.stands kind (subst (λ (f : Event). IsEvent p.walk w s f) e h) in
      fails_here p s kind last.last last.is
