-- Of the code and not of the meaning: lists of lemmas that end as a refutation does.
use Rattle.std.specs.Prelude.{◌≡◌, ◌<◌, ◌-◌, List, [], length, Some, slice_get}
use Rattle.refute_tree.specs.declared.lemma.Lemma.{Lemma}

-- there are lemmas, and the last has no literals
abbrev pub EndsEmpty : List Lemma → Type 0
EndsEmpty lemmas = (0 < length lemmas) × ((lemma : Lemma) → slice_get lemmas (length lemmas - 1) ≡ Some lemma → lemma.clause ≡ [])
