-- What is handed in to answer a session's questions, since a visitor's own calls start no threads.
-- These are words of the code's inner contracts, and no part of the meaning.
use Rattle.std.specs.Prelude.{◌≡◌, ◌<◌, ◌-◌, ◌^◌, Result, IfOk}
use Rattle.std.specs.Fn.{Shared}
use denote.Ref.{MutBor}
use Rattle.smt_sexpr.specs.Tree.{Sexpr}
use Rattle.smt_script.specs.declared.state.Question.{Question}
use Rattle.smt_script.specs.States.{State}
use Rattle.dtp_session.specs.declared.piece.Piece.{Piece}
use Rattle.dtp_session.specs.declared.session.Session.{Session}
use Rattle.dtp_session.specs.code.Sessions.{Holds, IsAskedIn, KeepsPlace, IsAnswered}

module _ {F R : Type 0} (g : Shared F (MutBor Session × (Question × Unit {0})) (R × (MutBor Session × Unit {0}))) (f : F) where
  -- it may be called at a `&mut` to p, and at the question
  abbrev pub TakesAt : Session → Question → Type 0
  TakesAt p question = (y : MutBor Session) → y.now ≡ p → g.pre f (y, (question, tt))

  -- such a call may give r, and leave q
  pub record GivesAt (p : Session) (question : Question) (r : R) (q : Session) : Type 0 where
    pub shown : MutBor Session
    pub shows : shown.now ≡ p
    pub left : MutBor Session
    pub met : g.post f (shown, (question, tt)) (r, (left, tt))
    pub leaves : left.now ≡ q

-- where a question may be asked
pub record MayAsk (p : Session) (question : Question) : Type 0 where
  pub holds : (s : State) × (x : Sexpr) × Holds p s × IsAskedIn question x s
  pub few : p.walk.number < 2 ^ 64 - 1

-- the question was answered, or it is refused
pub record Answers {E : Type 0} (p : Session) (question : Question) (r : Result Piece E) (q : Session) : Type 0 where
  pub keeps : KeepsPlace p q
  pub answered : IfOk r (λ piece. (s : State) (x : Sexpr) → Holds p s → IsAskedIn question x s → IsAnswered question x p q s piece)

-- each question is answered so
pub record IsAsker {E : Type 0} (Takes : Session → Question → Type 0) (Gives : Session → Question → Result Piece E → Session → Type 0) : Type 0 where
  pub takes : (p : Session) (question : Question) → MayAsk p question → Takes p question
  pub gives : (p q : Session) (question : Question) (r : Result Piece E) → Gives p question r q → Answers p question r q
