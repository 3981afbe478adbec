-- Worked entries over p and not p, where p is point 1, true where it is at most zero.
use Rattle.std.specs.Prelude.{pos, List, [], ◌∷◌}
use Rattle.stn_core.specs.declared.literal.Literal.{Literal}
use Rattle.refute_tree.specs.declared.step.Step.TheVariants.{Input, Clash, Either}
use Rattle.refute_tree.specs.Examples.{literal, less}
use Rattle.cert_check.specs.FlawExamples.{both_truths}
use Rattle.kept_lemmas.specs.declared.item.Item.{Item}
use Rattle.kept_lemmas.specs.declared.item.Item.TheVariants.{Own, Keep}
use Rattle.kept_lemmas.specs.Facts.{Shelf, facts_of}

-- the first clause's only case, in which the second is denied
abbrev pub by_clash : List Item
by_clash = Own (record { clause = []; steps = Input 0 ∷ Clash 1 ∷ [] }) ∷ []

-- the same behind the cases of a literal of point 2
abbrev pub by_cases : List Item
by_cases = Own (record {
  clause = [];
  steps = Either (literal 2 0 (pos 0)) ∷ Input 0 ∷ Clash 1 ∷ Input 0 ∷ Clash 1 ∷ [];
}) ∷ []

-- the first item of the first entry is kept
abbrev pub first_kept : List Item
first_kept = Keep (record { entry = 1; item = 0 }) ∷ []

-- a certificate's first entry
abbrev pub shelf_with : List Item → Shelf
shelf_with items = facts_of [] both_truths items ∷ []

-- not p and p, and not p alone
abbrev pub other_order : List (List Literal)
other_order = (literal 0 1 less ∷ []) ∷ (literal 1 0 (pos 0) ∷ []) ∷ []

abbrev pub one_truth : List (List Literal)
one_truth = (literal 0 1 less ∷ []) ∷ []
