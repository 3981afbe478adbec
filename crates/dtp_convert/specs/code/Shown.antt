-- One entry that is converted.
use Rattle.std.specs.Prelude.{◌≡◌, ◌^◌, ℕ, List, [], ◌∷◌, ◌++◌, All, Some, None, option_map, Result, Ok, Err}
use Rattle.smt_sexpr.specs.Tree.{Sexpr}
use Rattle.stn_core.specs.declared.literal.Literal.{Literal}
use Rattle.refute_tree.specs.declared.lemma.Lemma.{Lemma}
use Rattle.refute_tree.specs.Trees.{IsRefutation}
use Rattle.cert_text.specs.declared.entry.Version.TheVariants.{One}
use Rattle.cert_text.specs.declared.entry.Entry.{Entry}
use Rattle.cert_text.specs.declared.entry.FileEntry.{FileEntry}
use Rattle.cert_text.specs.Limits.{LemmaWithin}
use Rattle.idl_term.specs.Contexts.{Context}
use Rattle.kept_lemmas.specs.declared.item.Item.{Item}
use Rattle.kept_lemmas.specs.Entries.{Placed, shelf_of}
use Rattle.lemma_shelf.specs.ItemFlaws.{items_flaw}
use Rattle.smt_script.specs.declared.state.Question.{Question}
use Rattle.dtp_entry.specs.Entries.{verdict_of}
use Rattle.dtp_entry.specs.Transcripts.{Decides}
use Rattle.dtp_check.specs.declared.judgement.EntryFlaw.{EntryFlaw}
use Rattle.dtp_check.specs.declared.judgement.EntryFlaw.TheVariants.{Flawed}
use Rattle.dtp_check.specs.Judged.{told_by, entry_flaw}
use Rattle.dtp_convert.specs.Turns.{StayAs, StaysAs}

-- the lemmas are what becomes of the items behind these entries, and refute the problem
pub record ShowsItems (before : List Placed) (points : ℕ) (clauses : List (List Literal)) (items : List Item) (lemmas : List Lemma) : Type 0 where
  pub refutes : IsRefutation points clauses lemmas
  pub within : All (LemmaWithin One (2 ^ 32)) lemmas
  pub stay : StayAs before (record { points = points; clauses = clauses; items = items }) lemmas

-- what items that were read come to behind these entries: they refute the problem, and are shown so, or this is wrong
abbrev pub AreItemsShown : List Placed → ℕ → List (List Literal) → List Item → Result (List Lemma) EntryFlaw → Type 0
AreItemsShown before points clauses items (Ok lemmas) =
    (items_flaw (shelf_of before) points clauses items ≡ None) × ShowsItems before points clauses items lemmas
AreItemsShown before points clauses items (Err flaw) =
    option_map Flawed (items_flaw (shelf_of before) points clauses items) ≡ Some flaw

-- the entry decides the question of command x, and is what becomes of the entry that was read behind these
abbrev pub IsConvertedTo : List Placed → Question → Sexpr → Context → FileEntry → Entry → Type 0
IsConvertedTo before question x c entry shown =
    Decides One question x c shown × (verdict_of shown ≡ told_by entry) × StaysAs before question c entry shown

-- it was added to the shown ones
abbrev pub IsAdded : List Entry → List Entry → List Placed → Question → Sexpr → Context → FileEntry → Type 0
IsAdded first now before question x c entry =
    (shown : Entry) × IsConvertedTo before question x c entry shown × (now ≡ first ++ shown ∷ [])

-- what an entry that was read comes to behind these: it is right, and is shown so, or this is wrong with it
abbrev pub IsShown : List Placed → Question → Sexpr → Context → FileEntry → Result Entry EntryFlaw → Type 0
IsShown before question x c entry (Ok shown) =
    (entry_flaw before question x c entry ≡ None) × IsConvertedTo before question x c entry shown
IsShown before question x c entry (Err flaw) = entry_flaw before question x c entry ≡ Some flaw
