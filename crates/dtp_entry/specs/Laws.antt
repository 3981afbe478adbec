-- What holds of what is written of every script.
use Rattle.std.specs.Prelude.{◌≡◌, ℕ, List, map, false, Ok}
use Rattle.std.specs.List.{AllByRecursion}
use Rattle.smt_sexpr.specs.Tree.{Sexpr}
use Rattle.smt_script.specs.declared.state.Effect.TheVariants.{Ask}
use Rattle.smt_script.specs.declared.state.Question.{Question}
use Rattle.smt_script.specs.Commands.{asks_verdict}
use Rattle.smt_script.specs.States.{Step, State, IsMadeState, after}
use Rattle.cert_text.specs.declared.entry.Entry.{Entry}
use Rattle.script_walk.specs.Course.{Turn, Outcome, tells, answers, asks, ends, fails}
use Rattle.dtp_entry.specs.declared.report.Report.{Report}
use Rattle.dtp_entry.specs.declared.report.Report.TheVariants.{Verdicts}
use Rattle.dtp_entry.specs.Entries.{IsRight, verdict_of}
use Rattle.dtp_entry.specs.Transcripts.{IsSo, decision_line, Output, IsOutput, IsTranscript, lines_with_gaps}

-- What a right entry says of the assertions and of the term is so: the question is asked by command x in some state that came
-- about by declarations, definitions and assertions.
abbrev pub RightIsSo : Type 0
RightIsSo =
    (s : State) (x : Sexpr) (step : Step) (question : Question) (entry : Entry)
    → IsMadeState s → after s x ≡ Ok step → step.effect ≡ Ask question
    → IsRight question x step.state.context entry → IsSo x step.state.context entry

-- The verdicts at a script's questions, its status, and the lines that its questions are answered, minimum values among them, are
-- the same in everything that is written of it, in the transcript and in the certificate.
abbrev pub OneVerdict : Type 0
OneVerdict = (script : List ℕ) (r q : Report) (a b : Output) → IsOutput r script a → IsOutput q script b
    → (map verdict_of a.found ≡ map verdict_of b.found) × (a.status ≡ b.status)
    × (map (decision_line Verdicts) a.found ≡ map (decision_line Verdicts) b.found)

-- What is written in a transcript, and the status, are decided by the script's bytes and the entries that decided its
-- questions: which schedule, which refutation and which set of points is found is all that is free.
abbrev pub OneTranscriptByEntries : Type 0
OneTranscriptByEntries =
    (script : List ℕ) (a b : Output) → IsOutput Verdicts script a → IsOutput Verdicts script b
    → a.found ≡ b.found → a ≡ b

-- Two transcripts of a script have the same lines in the same places, but for models, values, proofs and cores, and the same status:
-- the script's bytes alone decide them.
abbrev pub OneTranscriptButGaps : Type 0
OneTranscriptButGaps =
    (script : List ℕ) (a b : Output) (h : IsOutput Verdicts script a) (k : IsOutput Verdicts script b)
    → (lines_with_gaps h.turns ≡ lines_with_gaps k.turns) × (a.status ≡ b.status)

-- where the turn's command is told something, it asks for no model, for no values, for no proof and for no core
abbrev pub AsksNoneBy : Outcome Entry → Type 0
AsksNoneBy (tells x notice) = asks_verdict x ≡ false
AsksNoneBy (answers question x entry) = Unit {0}
AsksNoneBy (asks question x) = Unit {0}
AsksNoneBy ends = Unit {0}
AsksNoneBy (fails kind) = Unit {0}

-- no command that is answered asks for them
abbrev pub AskNone : List (Turn Entry) → Type 0
AskNone turns = AllByRecursion (λ (t : Turn Entry). AsksNoneBy t.outcome) turns

-- A script none of whose answered commands asks for them has one transcript at most: its bytes alone decide what is written,
-- and the status. Whatever stands behind `exit` or an error isn't looked at.
abbrev pub OneTranscript : Type 0
OneTranscript =
    (script a b : List ℕ) (s t : ℕ) (h : IsTranscript script a s) → AskNone h.1.turns → IsTranscript script b t
    → (a ≡ b) × (s ≡ t)
