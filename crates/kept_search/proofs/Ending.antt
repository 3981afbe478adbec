-- How the lemmas end.
use Rattle.std.proofs.Common.{arith, ◌≡◌, ℕ, ◌+◌, List, [], ◌∷◌, ◌++◌, length, map, Some, All, refl, sym, ap, ◌∙◌, subst, append-nil}
use Rattle.std.specs.Prelude.{slice_get}
use Rattle.std.proofs.lemmas.List.Elements.{All-nil, All-cons, All-append}
use Rattle.stn_core.specs.declared.literal.Literal.{Literal}
use Rattle.stn_core.specs.declared.problem.Problem.{Problem}
use Rattle.stn_core.specs.Literal.{IsOver}
use Rattle.cover_tree.proofs.Sets.{get_behind}
use Rattle.refute_tree.specs.declared.step.Step.{Step}
use Rattle.refute_tree.specs.declared.step.Step.TheVariants.{Input, Lemma as Earlier}
use Rattle.refute_tree.specs.declared.lemma.Lemma.{Lemma}
use Rattle.refute_tree.specs.Trees.{Tree, cases, more, none, stated, IsRefutation}
use Rattle.refute_tree.specs.Batches.{AreRefuted, NamesOver, LemmaIsOver}
use Rattle.more_inputs.specs.Laws.{MoreInputsRefuteEach}
use Rattle.book_core.specs.declared.verdict.Verdict.TheVariants.{Unsat}
use Rattle.book_core.specs.Books.{IsShutBy}
use Rattle.book_core.specs.code.Closing.{leaf_steps, two_cycle}
use Rattle.book_core.specs.Verdicts.{IsRight, last_lemma}
use Rattle.book_core.proofs.ClosedTrees.{leaf_tree}
use Rattle.book_core.proofs.Concluding.{closed_refutation}
use Rattle.kept_search.specs.Searches.{Searched}
use Rattle.kept_search.specs.Kept.{IsSearchOf, HasClauseMore}
use Rattle.kept_search.specs.code.Closing.{Closes}

pairs_named : (points : ℕ) (clause : List Literal) → All (NamesOver points) (map two_cycle clause)
pairs_named points [] = All-nil (NamesOver points)
pairs_named points (l ∷ clause) = All-cons (NamesOver points) (two_cycle l) (map two_cycle clause) (All-nil (IsOver points)) (pairs_named points clause)

leaf_named : (points j : ℕ) (clause : List Literal) → All (NamesOver points) (leaf_steps j clause)
leaf_named points j clause = All-cons (NamesOver points) (Earlier j) (map two_cycle clause) (All-nil (IsOver points)) (pairs_named points clause)

closed : (inputs : List (List Literal)) (lemmas : List (List Literal)) (cube clause : List Literal) (j : ℕ) → slice_get lemmas j ≡ Some clause → IsShutBy lemmas cube j → Tree inputs lemmas cube (leaf_steps j clause) []
closed inputs lemmas cube clause j at shut =
    let same : Some shut.0 ≡ Some clause = sym shut.1 ∙ at in
    let t : Tree inputs lemmas cube (leaf_steps j shut.0 ++ []) [] = leaf_tree inputs lemmas cube shut.0 j [] shut.1 shut.2 in
    subst (λ (c : List Literal). Tree inputs lemmas cube (leaf_steps j c) []) (some_same same) (subst (λ (steps : List Step). Tree inputs lemmas cube steps []) (append-nil (leaf_steps j shut.0)) t)
  where
    some_same : {x y : List Literal} → Some x ≡ Some y → x ≡ y
    some_same e = cc

ended : (problem : Problem) (lemmas res : List Lemma) (steps : List Step) → AreRefuted problem.points problem.clauses [] lemmas → All (LemmaIsOver problem.points) lemmas → Tree problem.clauses (map stated lemmas) [] steps []
    → All (NamesOver problem.points) steps → res ≡ lemmas ++ last_lemma steps ∷ [] → IsRight problem (Unsat res)
ended problem lemmas res steps refuted over tree named is =
    let last : LemmaIsOver problem.points (last_lemma steps) = record { clause = All-nil (IsOver problem.points); steps = named } in
    subst (λ (ls : List Lemma). IsRefutation problem.points problem.clauses ls × All (LemmaIsOver problem.points) ls) (sym is)
    (closed_refutation problem lemmas steps refuted tree named, All-append (LemmaIsOver problem.points) lemmas (last_lemma steps ∷ []) over (All-cons (LemmaIsOver problem.points) (last_lemma steps) [] last (All-nil (LemmaIsOver problem.points))))

pub refutes : (problem : Problem) (s : Searched) (j : ℕ) (shown res : List Lemma) (begun steps : List Step) → IsSearchOf problem s → IsShutBy (map stated s.lemmas) [] j → shown ≡ s.lemmas → begun ≡ []
    → Closes (map stated shown) j begun steps → res ≡ s.lemmas ++ last_lemma steps ∷ [] → IsRight problem (Unsat res)
refutes problem s j shown res begun steps of shut same empty c is =
    let at : slice_get (map stated s.lemmas) j ≡ Some c.clause = subst (λ (ls : List Lemma). slice_get (map stated ls) j ≡ Some c.clause) same c.at in
    let added : steps ≡ leaf_steps j c.clause = c.added ∙ ap (λ (b : List Step). b ++ leaf_steps j c.clause) empty in
    let tree : Tree problem.clauses (map stated s.lemmas) [] steps [] = subst (λ (t : List Step). Tree problem.clauses (map stated s.lemmas) [] t []) (sym added) (closed problem.clauses (map stated s.lemmas) [] c.clause j at shut) in
    ended problem s.lemmas res steps of.refuted of.over tree (subst (All (NamesOver problem.points)) (sym added) (leaf_named problem.points j c.clause)) is

pub refutes_with : MoreInputsRefuteEach → (problem asked : Problem) (s : Searched) (l : Literal) (j n : ℕ) (shown res : List Lemma) (begun steps : List Step) → IsSearchOf problem s → HasClauseMore problem asked (l ∷ [])
    → IsShutBy (map stated s.lemmas) (l ∷ []) j → shown ≡ s.lemmas → n ≡ length problem.clauses → begun ≡ Input n ∷ [] → Closes (map stated shown) j begun steps → res ≡ s.lemmas ++ last_lemma steps ∷ [] → IsRight asked (Unsat res)
refutes_with law problem asked s l j n shown res begun steps of one shut same number input c is =
    let at : slice_get (map stated s.lemmas) j ≡ Some c.clause = subst (λ (ls : List Lemma). slice_get (map stated ls) j ≡ Some c.clause) same c.at in
    let added : steps ≡ Input n ∷ leaf_steps j c.clause = c.added ∙ ap (λ (b : List Step). b ++ leaf_steps j c.clause) input in
    let last : slice_get asked.clauses n ≡ Some (l ∷ []) = ap (λ (cs : List (List Literal)). slice_get cs n) one.clauses ∙ (ap (slice_get (problem.clauses ++ (l ∷ []) ∷ [])) (number ∙ omega arith) ∙ get_behind problem.clauses ((l ∷ []) ∷ []) 0) in
    let leaf = closed asked.clauses (map stated s.lemmas) (l ∷ []) c.clause j at shut in
    let tree : Tree asked.clauses (map stated s.lemmas) [] steps [] = subst (λ (t : List Step). Tree asked.clauses (map stated s.lemmas) [] t []) (sym added) (cases last (more leaf none)) in
    let named : All (NamesOver asked.points) steps = subst (All (NamesOver asked.points)) (sym added) (All-cons (NamesOver asked.points) (Input n) (leaf_steps j c.clause) (All-nil (IsOver asked.points)) (leaf_named asked.points j c.clause)) in
    let wide : AreRefuted problem.points (problem.clauses ++ (l ∷ []) ∷ []) [] s.lemmas = law problem.points problem.clauses ((l ∷ []) ∷ []) [] s.lemmas of.refuted in
    let refuted : AreRefuted asked.points asked.clauses [] s.lemmas = subst (λ (p : ℕ). AreRefuted p asked.clauses [] s.lemmas) (sym one.points) (subst (λ (cs : List (List Literal)). AreRefuted problem.points cs [] s.lemmas) (sym one.clauses) wide) in
    ended asked s.lemmas res steps refuted (subst (λ (p : ℕ). All (LemmaIsOver p) s.lemmas) (sym one.points) of.over) tree named is
