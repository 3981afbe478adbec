-- The laws of carried lemmas.
use Rattle.std.specs.Prelude.{ℕ, List, [], All}
use Rattle.stn_core.specs.declared.literal.Literal.{Literal}
use Rattle.refute_tree.specs.declared.lemma.Lemma.{Lemma}
use Rattle.refute_tree.specs.Batches.{LemmaBatch, AreRefuted, LemmaIsOver}
use Rattle.carried_lemmas.specs.Carried.{IsCarried}

-- lemmas that are refuted over their problem are, as far as they are carried, refuted over the new one
abbrev pub CarriedRefuted : Type 0
CarriedRefuted =
    (old : List (List Literal)) (lemmas : List Lemma) (points : ℕ) (new : List (List Literal)) (batch : LemmaBatch)
    → IsCarried old lemmas points new batch
    → (old_points : ℕ) → AreRefuted old_points old [] lemmas → AreRefuted points new [] batch.lemmas

-- and their literals are within the new problem's limits, if they were within those of the old one
abbrev pub CarriedOver : Type 0
CarriedOver =
    (old : List (List Literal)) (lemmas : List Lemma) (points : ℕ) (new : List (List Literal)) (batch : LemmaBatch)
    → IsCarried old lemmas points new batch
    → (old_points : ℕ) → All (LemmaIsOver old_points) lemmas → All (LemmaIsOver points) batch.lemmas
