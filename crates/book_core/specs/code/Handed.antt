-- Of the code and not of the meaning: a batch of which the lemmas are kept as they were published.
use Rattle.std.specs.Prelude.{ℕ, ◌+◌, ◌≤◌, List, length, All}
use Rattle.refute_tree.specs.declared.lemma.Lemma.{Lemma}
use Rattle.refute_tree.specs.Limits.{lemmas_limit}
use Rattle.refute_tree.specs.Batches.{LemmaBatch, LemmaRefersBelow, moved}

-- the batch that was made over the first `seen` lemmas, and whose lemmas were published behind `base` ones
abbrev pub handed_in : ℕ → ℕ → List Lemma → LemmaBatch
handed_in seen base published = moved seen (record { seen = base; lemmas = published })

-- its lemmas can be moved back
pub record IsMovable (seen base : ℕ) (published : List Lemma) : Type 0 where
  pub below : All (LemmaRefersBelow (base + length published)) published
  pub fits : seen + length published ≤ lemmas_limit
