-- A worked example, made by hand: the old problem says that point 1 lies before point 2 and point 2 before point 1, and of the
-- new one's two clauses the second is the old one's first. Of two lemmas the one that rests on that clause alone is carried.
use Rattle.std.specs.Prelude.{pos, List, [], ◌∷◌}
use Rattle.stn_core.specs.declared.literal.Literal.{Literal}
use Rattle.refute_tree.specs.declared.step.Step.TheVariants.{Cycle, Input, Lemma as Earlier}
use Rattle.refute_tree.specs.declared.lemma.Lemma.{Lemma}
use Rattle.refute_tree.specs.Examples.{literal, less}

abbrev pub one_clause : List Literal
one_clause = literal 1 2 less ∷ []

abbrev pub other_clause : List Literal
other_clause = literal 2 1 less ∷ []

abbrev pub old_clauses : List (List Literal)
old_clauses = one_clause ∷ other_clause ∷ []

abbrev pub new_clauses : List (List Literal)
new_clauses = (literal 0 1 (pos 0) ∷ []) ∷ one_clause ∷ []

-- the literal and its negation
abbrev pub pair : List Literal
pair = literal 1 2 less ∷ literal 2 1 (pos 0) ∷ []

abbrev pub both : List Literal
both = literal 1 2 less ∷ literal 2 1 less ∷ []

-- the first states the clause that it rests on, and the second, which cites it, rests on both
abbrev pub old_lemmas : List Lemma
old_lemmas =
    record { clause = one_clause; steps = Input 0 ∷ Cycle pair ∷ [] }
    ∷ record { clause = []; steps = Earlier 0 ∷ Input 1 ∷ Cycle both ∷ [] }
    ∷ []

abbrev pub new_lemmas : List Lemma
new_lemmas = record { clause = one_clause; steps = Input 1 ∷ Cycle pair ∷ [] } ∷ []
