-- What is written where no lemma is kept.
use Rattle.std.proofs.Common.{refl, ap, ◌∙◌, ◌≡◌, ℕ, List, [], ◌∷◌, ◌++◌}
use Rattle.kept_lemmas.specs.Facts.{Shelf}
use Rattle.cert_text.specs.declared.entry.Version.TheVariants.{One, Two}
use Rattle.cert_text.specs.declared.entry.Entry.{Entry}
use Rattle.idl_term.specs.Contexts.{Context}
use Rattle.smt_script.specs.declared.state.Question.{Question}
use Rattle.script_walk.specs.Course.{Turn, Outcome, tells, answers, asks, ends, fails}
use Rattle.dtp_entry.specs.declared.report.Report.{Report}
use Rattle.dtp_entry.specs.declared.report.Report.TheVariants.{Verdicts, Certificate}
use Rattle.dtp_entry.specs.Transcripts.{decision_line, piece_by, pieces, IsLine, IsPiece, IsWritten}

-- each entry stands as it is
abbrev pub KeepsNone : Report → Type 0
KeepsNone Verdicts = Unit {0}
KeepsNone (Certificate One) = Unit {0}
KeepsNone (Certificate Two) = ⊥

line_is : (report : Report) → KeepsNone report → (shelf now : Shelf) (question : Question) (c : Context) (entry : Entry) (line : List ℕ) → IsLine report shelf question c entry line now → line ≡ decision_line report entry
line_is Verdicts none shelf now question c entry line h = h.0
line_is (Certificate One) none shelf now question c entry line h = h.0
line_is (Certificate Two) none shelf now question c entry line h = absurd none

is_line : (report : Report) → KeepsNone report → (shelf : Shelf) (question : Question) (c : Context) (entry : Entry) → IsLine report shelf question c entry (decision_line report entry) shelf
is_line Verdicts none shelf question c entry = (refl, refl)
is_line (Certificate One) none shelf question c entry = (refl, refl)
is_line (Certificate Two) none shelf question c entry = absurd none

piece_is : (report : Report) → KeepsNone report → (shelf now : Shelf) (t : Turn Entry) (outcome : Outcome Entry) (piece : List ℕ) → IsPiece report shelf t outcome piece now → piece ≡ piece_by report t outcome
piece_is report none shelf now t (tells x notice) piece h = h.0
piece_is report none shelf now t (answers question x entry) piece h = line_is report none shelf now question t.state.context entry piece h
piece_is report none shelf now t (asks question x) piece h = h.0
piece_is report none shelf now t ends piece h = h.0
piece_is report none shelf now t (fails kind) piece h = h.0

is_piece : (report : Report) → KeepsNone report → (shelf : Shelf) (t : Turn Entry) (outcome : Outcome Entry) → IsPiece report shelf t outcome (piece_by report t outcome) shelf
is_piece report none shelf t (tells x notice) = (refl, refl)
is_piece report none shelf t (answers question x entry) = is_line report none shelf question t.state.context entry
is_piece report none shelf t (asks question x) = (refl, refl)
is_piece report none shelf t ends = (refl, refl)
is_piece report none shelf t (fails kind) = (refl, refl)

-- the text is that of the pieces
pub pieces_are : (report : Report) → KeepsNone report → (shelf : Shelf) (ts : List (Turn Entry)) (text : List ℕ) → IsWritten report shelf ts text → text ≡ pieces report ts
pieces_are report none shelf [] text h = h
pieces_are report none shelf (t ∷ ts) text (piece, rest, now, e, here, more) =
    e ∙ ap (λ (l : List ℕ). l ++ rest) (piece_is report none shelf now t t.outcome piece here)
    ∙ ap (λ (l : List ℕ). piece_by report t t.outcome ++ l) (pieces_are report none now ts rest more)

-- and these may be written
pub are_pieces : (report : Report) → KeepsNone report → (shelf : Shelf) (ts : List (Turn Entry)) → IsWritten report shelf ts (pieces report ts)
are_pieces report none shelf [] = refl
are_pieces report none shelf (t ∷ ts) =
    (piece_by report t t.outcome, pieces report ts, shelf, refl, is_piece report none shelf t t.outcome, are_pieces report none shelf ts)
