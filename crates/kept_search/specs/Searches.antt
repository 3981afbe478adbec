-- What contracts see of a search that is kept: its net's points, and the lemmas that it has proved.
use Rattle.std.specs.Prelude.{ℕ, List}
use Rattle.refute_tree.specs.declared.lemma.Lemma.{Lemma}

pub record Searched : Type 0 where
  pub points : ℕ
  pub lemmas : List Lemma
