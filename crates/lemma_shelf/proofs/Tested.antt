-- The tests answer what the definitions say.
use Rattle.std.proofs.Common.{arith, ◌≡◌, zero, suc, inl, inr, List, [], ◌∷◌, true, refl, sym, subst}
use Rattle.std.specs.Prelude.{All, Contains}
use Rattle.std.specs.Bool.{Decides}
use Rattle.std.specs.List.{list_all}
use Rattle.std.proofs.lemmas.Bool.{and_parts, and_from, or_cases, or_left, or_right}
use Rattle.std.proofs.lemmas.Bool.Decides.{Decides-by_and}
use Rattle.stn_core.specs.declared.literal.Literal.{Literal}
use Rattle.stn_core.specs.Literal.{same_literal}
use Rattle.stn_core.proofs.SameLiteral.{same_literal_decides}
use Rattle.lemma_shelf.specs.Clauses.{same_clause, is_clause_of}

pub same_forth : (ls ms : List Literal) → same_clause ls ms ≡ true → ls ≡ ms
same_forth [] [] e = refl
same_forth [] (m ∷ ms) e = absurd (cc)
same_forth (l ∷ ls) [] e = absurd (cc)
same_forth (l ∷ ls) (m ∷ ms) e =
    let parts = and_parts (same_literal l m) (same_clause ls ms) e in
    let first : l ≡ m = (same_literal_decides l m).0 parts.0 in
    let rest : ls ≡ ms = same_forth ls ms parts.1 in
    cc

same_itself : (ls : List Literal) → same_clause ls ls ≡ true
same_itself [] = refl
same_itself (l ∷ ls) = and_from (same_literal l l) (same_clause ls ls) ((same_literal_decides l l).1 refl) (same_itself ls)

pub same_back : (ls ms : List Literal) → ls ≡ ms → same_clause ls ms ≡ true
same_back ls ms e = subst (λ (x : List Literal). same_clause ls x ≡ true) e (same_itself ls)

clause_forth : (clauses : List (List Literal)) (clause : List Literal) → is_clause_of clauses clause ≡ true → Contains clauses clause
clause_forth [] clause e = absurd (cc)
clause_forth (c ∷ cs) clause e = elim (or_cases (same_clause clause c) (is_clause_of cs clause) e) [
  | inl a ↦ (0, omega arith, sym (same_forth clause c a))
  | inr b ↦ let h = clause_forth cs clause b in (suc h.0, omega (arith, h.1), h.2)
]

clause_back : (clauses : List (List Literal)) (clause : List Literal) → Contains clauses clause → is_clause_of clauses clause ≡ true
clause_back [] clause h = absurd (omega (arith, h.1))
clause_back (c ∷ cs) clause (zero, lt, e) = or_left (same_clause clause c) (is_clause_of cs clause) (same_back clause c (sym e))
clause_back (c ∷ cs) clause (suc k, lt, e) = or_right (same_clause clause c) (is_clause_of cs clause) (clause_back cs clause (k, omega arith, e))

pub is_clause_of_decides : (clauses : List (List Literal)) (clause : List Literal) → Decides (is_clause_of clauses clause) (Contains clauses clause)
is_clause_of_decides clauses clause = (clause_forth clauses clause, clause_back clauses clause)

pub all_clauses_decide : (clauses support : List (List Literal)) → Decides (list_all (is_clause_of clauses) support) (All (Contains clauses) support)
all_clauses_decide clauses support = Decides-by_and (is_clause_of clauses) (Contains clauses) (list_all (is_clause_of clauses)) (is_clause_of_decides clauses) refl (λ _ _. refl) support
