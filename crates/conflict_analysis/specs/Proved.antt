-- Lemmas that may be delivered: refuted, with their literals within the limits.
use Rattle.std.specs.Prelude.{ℕ, List, All}
use Rattle.stn_core.specs.declared.literal.Literal.{Literal}
use Rattle.stn_core.specs.Literal.{IsOver}
use Rattle.refute_tree.specs.declared.lemma.Lemma.{Lemma}
use Rattle.refute_tree.specs.Trees.{IsRefuted}
use Rattle.refute_tree.specs.Batches.{LemmaIsOver}

-- the clause's literals lie over so many points and within the limits
abbrev pub IsClauseOver : ℕ → List Literal → Type 0
IsClauseOver points clause = All (IsOver points) clause

-- over a problem and the clauses of the lemmas before it
pub record IsProved (points : ℕ) (inputs earlier : List (List Literal)) (lemma : Lemma) : Type 0 where
  pub refuted : IsRefuted points inputs earlier lemma
  pub over : LemmaIsOver points lemma
