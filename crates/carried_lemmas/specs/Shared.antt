-- Lemmas that several owners share.
use Rattle.std.specs.Prelude.{List, map}
use Rattle.std.specs.Arc.{arc_value}
use Rattle.std.specs.declared.sync.Arc.{Arc}
use Rattle.refute_tree.specs.declared.lemma.Lemma.{Lemma}

module _ {Z : Type 0} where
  abbrev pub lemmas_of : List (Arc Lemma Z) → List Lemma
  lemmas_of shared = map (λ (a : Arc Lemma Z). arc_value a) shared
