-- The entries of a conversion.
use Rattle.std.specs.Prelude.{◌≡◌, List, [], ◌∷◌, ◌++◌, map, Option, Some, None}
use Rattle.smt_sexpr.specs.Tree.{Sexpr}
use Rattle.smt_sexpr.specs.Commands.{ended}
use Rattle.cert_text.specs.declared.entry.Version.TheVariants.{One}
use Rattle.cert_text.specs.declared.entry.Entry.{Entry}
use Rattle.cert_text.specs.declared.entry.FileEntry.{FileEntry}
use Rattle.cert_text.specs.Form.{items_in, with_lemmas}
use Rattle.kept_lemmas.specs.declared.item.Item.{Item}
use Rattle.refute_tree.specs.declared.lemma.Lemma.{Lemma}
use Rattle.refute_tree.specs.Lengths.{lengthened_lemma}
use Rattle.idl_term.specs.Contexts.{Context}
use Rattle.kept_lemmas.specs.Entries.{Placed}
use Rattle.lemma_shelf.specs.Lowering.{StandFor}
use Rattle.smt_script.specs.declared.state.Question.{Question}
use Rattle.smt_script.specs.States.{State}
use Rattle.script_walk.specs.Course.{start_with, Turn, Outcome, tells, answers, asks, ends, fails, course, AreAnswered}
use Rattle.dtp_entry.specs.Entries.{verdict_of}
use Rattle.dtp_entry.specs.Transcripts.{DecidesIn}
use Rattle.dtp_check.specs.Judged.{placed, OfPlaced}

-- the turns of the commands, with these entries as answers
abbrev pub turns_of : List Sexpr → List Entry → List (Turn Entry)
turns_of xs entries = course verdict_of (start_with entries) xs ended

-- no command is refused, and the entries decide the questions, one for each, in order
abbrev pub AreConverted : List Sexpr → List Entry → Type 0
AreConverted xs entries = AreAnswered (DecidesIn One) (turns_of xs entries) entries

-- What becomes of the items of an entry behind these entries: the lemmas that stand for them, each with its clashes written
-- out as the cases of their clauses, and no literal is changed.
abbrev pub StayAs : List Placed → Placed → List Lemma → Type 0
StayAs before entry shown =
    (lemmas : List Lemma) × (shown ≡ map (lengthened_lemma entry.clauses) lemmas) × StandFor before entry lemmas

-- what becomes of an entry, by its items
abbrev pub StaysBy : FileEntry → Option (List Item) → (List Lemma → Type 0) → Entry → Type 0
StaysBy entry None Stay shown = shown ≡ with_lemmas entry []
StaysBy entry (Some items) Stay shown = (lemmas : List Lemma) × (shown ≡ with_lemmas entry lemmas) × Stay lemmas

-- What becomes of the entry of a question, behind these entries: lemmas come in the place of its items, and all else stays as it is.
abbrev pub StaysAs : List Placed → Question → Context → FileEntry → Entry → Type 0
StaysAs before question c entry shown =
    StaysBy entry (items_in entry) (λ lemmas. OfPlaced question c entry (λ placed. StayAs before placed lemmas)) shown

-- the first of the shown entries is what becomes of this one
abbrev pub IsFirst : List Placed → Question → Context → FileEntry → List Entry → (List Entry → Type 0) → Type 0
IsFirst before question c entry [] Rest = ⊥
IsFirst before question c entry (shown ∷ others) Rest = StaysAs before question c entry shown × Rest others

-- what becomes of the entry of a turn, behind these entries
abbrev pub ShowsBy : List Placed → State → Outcome FileEntry → List Entry → (List Placed → List Entry → Type 0) → Type 0
ShowsBy before s (tells x notice) shown Rest = Rest before shown
ShowsBy before s (answers question x entry) shown Rest =
    IsFirst before question s.context entry shown (λ others. Rest (before ++ placed question s.context entry ∷ []) others)
ShowsBy before s (asks question x) shown Rest = ⊥
ShowsBy before s ends shown Rest = shown ≡ []
ShowsBy before s (fails kind) shown Rest = ⊥

-- what becomes of the entries of all turns behind these entries, one for each and in order
abbrev pub AreShown : List Placed → List (Turn FileEntry) → List Entry → Type 0
AreShown before [] shown = ⊥
AreShown before (t ∷ ts) shown = ShowsBy before t.state t.outcome shown (λ now others. AreShown now ts others)
