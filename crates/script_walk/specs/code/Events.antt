-- How the code walks through a script: what stands next, and what a command comes to, whatever the questions are answered.
-- These are words of the code's contracts, and no part of the meaning.
use Rattle.std.specs.Prelude.{◌≡◌, ◌⊎◌, ◌≤◌, ◌<◌, ◌^◌, ℕ, ◌+◌, List, length, None, Ok, Err}
use Rattle.smt_sexpr.specs.Tree.{Sexpr}
use Rattle.smt_sexpr.specs.Table.{Table, Means}
use Rattle.smt_sexpr.specs.Reading.{Spells, Outcomes, finished, refused}
use Rattle.smt_sexpr.specs.declared.error.SexprRefusal.{SexprRefusal}
use Rattle.smt_script.specs.declared.state.Effect.{Effect}
use Rattle.smt_script.specs.declared.state.Effect.TheVariants.{Ask, Exit, Tell}
use Rattle.smt_script.specs.declared.error.Refusal.{Refusal}
use Rattle.smt_script.specs.States.{State, start_state, after}
use Rattle.smt_answer.specs.declared.kind.Kind.{Kind}
use Rattle.smt_answer.specs.Kinds.{kind_of, kind_of_unreadable}
use Rattle.script_walk.specs.code.Standing.{Stands}
use Rattle.script_walk.specs.declared.reader.Next.{Next}
use Rattle.script_walk.specs.declared.reader.Next.TheVariants.{Command, End, Unread}
use Rattle.script_walk.specs.declared.walk.Event.{Event}
use Rattle.script_walk.specs.declared.walk.Event.TheVariants.{Told, Asked, Ended, Failed}
use Rattle.script_walk.specs.declared.walk.Walk.{Walk}

-- ---- reading

-- what stands at the place, and the place behind it
abbrev pub IsNext : List ℕ → ℕ → Table → ℕ → Next → Type 0
IsNext bytes place t behind (Command id) = (x : Sexpr) × Means t id x × Spells bytes place x behind
IsNext bytes place t behind End = Outcomes bytes place finished behind
IsNext bytes place t behind (Unread kind) =
    (why : SexprRefusal) × Outcomes bytes place (refused why) behind × (kind ≡ kind_of_unreadable why)

-- a command, behind which more may stand
abbrev pub IsMore : Next → Type 0
IsMore (Command id) = Unit {0}
IsMore _ = ⊥

-- ---- the walk

-- before the first command
pub record IsStart (w : Walk) : Type 0 where
  pub fresh : w.lexer.failed ≡ None
  pub same : w.sexprs.bytes ≡ w.lexer.bytes
  pub place : w.lexer.place ≡ 0
  pub number : w.number ≡ 1
  pub few : length w.lexer.bytes < 2 ^ 63
  pub stands : Stands w.state start_state

-- ready to read the next command
pub record IsReady (w : Walk) : Type 0 where
  pub fresh : w.lexer.failed ≡ None
  pub same : w.sexprs.bytes ≡ w.lexer.bytes
  pub within : w.lexer.place ≤ length w.lexer.bytes
  pub counted : w.number ≤ w.lexer.place + 1
  pub few : length w.lexer.bytes < 2 ^ 63
  pub stands : (s : State) × Stands w.state s

-- the script goes on behind it
abbrev pub GoesOn : Event → Type 0
GoesOn (Told id notice) = Unit {0}
GoesOn (Asked id question) = Unit {0}
GoesOn _ = ⊥

-- a question is asked, which is counted when it is answered
abbrev pub Asks : Event → Type 0
Asks (Asked id question) = Unit {0}
Asks _ = ⊥

-- ---- a command

-- command x leads to a state that is kept
pub record Leads (w : Walk) (s : State) (x : Sexpr) (effect : Effect) : Type 0 where
  pub next : State
  pub leads : after s x ≡ Ok (record { state = next; effect = effect })
  pub stands : Stands w.state next

-- command x is refused, and the state stays
pub record Refuses (v w : Walk) (s : State) (x : Sexpr) (kind : Kind) : Type 0 where
  pub why : Refusal
  pub refuses : after s x ≡ Err why
  pub is : kind ≡ kind_of why
  pub same : w.state ≡ v.state

-- what command x comes to, from one walk to the next
abbrev pub Carries : Walk → Walk → State → Sexpr → Event → Type 0
Carries v w s x (Told id notice) =
    Means w.sexprs id x × Leads w s x (Tell notice) × (w.number ≡ v.number + 1)
Carries v w s x (Asked id question) =
    Means w.sexprs id x × Leads w s x (Ask question) × (w.number ≡ v.number)
Carries v w s x Ended = Leads w s x Exit × (w.number ≡ v.number)
Carries v w s x (Failed kind) = Refuses v w s x kind × (w.number ≡ v.number)

-- ---- the next event

-- the command that stands next, and what it comes to
pub record IsCommand (v w : Walk) (s : State) (event : Event) : Type 0 where
  pub x : Sexpr
  pub spells : Spells v.lexer.bytes v.lexer.place x w.lexer.place
  pub carries : Carries v w s x event

-- the end of the text
pub record IsEnd (v w : Walk) : Type 0 where
  pub behind : ℕ
  pub reads : Outcomes v.lexer.bytes v.lexer.place finished behind
  pub state : w.state ≡ v.state
  pub number : w.number ≡ v.number

-- what can't be read
pub record IsUnread (v w : Walk) (kind : Kind) : Type 0 where
  pub behind : ℕ
  pub why : SexprRefusal
  pub reads : Outcomes v.lexer.bytes v.lexer.place (refused why) behind
  pub is : kind ≡ kind_of_unreadable why
  pub state : w.state ≡ v.state
  pub number : w.number ≡ v.number

-- what the text comes to from the walk's place on, in a state
abbrev pub IsEvent : Walk → Walk → State → Event → Type 0
IsEvent v w s Ended = IsCommand v w s Ended ⊎ IsEnd v w
IsEvent v w s (Failed kind) = IsCommand v w s (Failed kind) ⊎ IsUnread v w kind
IsEvent v w s event = IsCommand v w s event

-- the next event of a walk
pub record IsNextEvent (v w : Walk) (event : Event) : Type 0 where
  pub is : (s : State) → Stands v.state s → IsEvent v w s event
  pub ready : GoesOn event → IsReady w
  pub counted : Asks event → w.number ≤ w.lexer.place
  pub forward : GoesOn event → v.lexer.place < w.lexer.place
  pub bytes : w.lexer.bytes ≡ v.lexer.bytes
