-- What is kept of a refutation is refuted over its problem.
use Rattle.std.proofs.Common.{◌≡◌, ℕ, List, [], map, All, sym, subst, ◌∙◌}
use Rattle.stn_core.specs.declared.problem.Problem.{Problem}
use Rattle.refute_tree.specs.declared.lemma.Lemma.{Lemma}
use Rattle.refute_tree.specs.Trees.{IsRefutation}
use Rattle.refute_tree.specs.Batches.{LemmaBatch, AreRefuted, LemmaIsOver}
use Rattle.refute_tree.proofs.Numbered.{each_refuted, refuted_each}
use Rattle.trim_lemmas.specs.Trimming.{StaysRefuted, StaysOver}
use Rattle.book_core.specs.Books.{IsOpening}
use Rattle.learned_lemmas.specs.code.Ends.{EndsEmpty}

-- what is left of a batch of its lemmas, as it is given away
pub kept_opens : (problem : Problem) (refutation lent kept : List Lemma) (batch left : LemmaBatch)
    → IsRefutation problem.points problem.clauses refutation → All (LemmaIsOver problem.points) refutation
    → batch.seen ≡ 0 → batch.lemmas ≡ refutation → StaysRefuted batch left → StaysOver batch.lemmas left.lemmas
    → lent ≡ left.lemmas → kept ≡ lent → IsOpening problem kept
kept_opens problem refutation lent kept batch left refutes over seen is stays stays_over e f =
    let all : AreRefuted problem.points problem.clauses [] batch.lemmas =
    subst (AreRefuted problem.points problem.clauses []) (sym is) (refuted_each problem.points problem.clauses [] refutation refutes.each) in
    let within : All (LemmaIsOver problem.points) batch.lemmas = subst (All (LemmaIsOver problem.points)) (sym is) over in
    let here : IsOpening problem left.lemmas = record { refuted = stays problem.points problem.clauses [] (sym seen) all; over = stays_over problem.points within } in
    subst (IsOpening problem) (sym f) (subst (IsOpening problem) (sym e) here)

-- carried lemmas that end as a refutation does are one
pub carried_refutes : (problem : Problem) (lemmas given lent : List Lemma) → AreRefuted problem.points problem.clauses [] lemmas → All (LemmaIsOver problem.points) lemmas → lent ≡ lemmas → given ≡ lemmas → EndsEmpty lent
    → IsRefutation problem.points problem.clauses given × All (LemmaIsOver problem.points) given
carried_refutes problem lemmas given lent refuted over same is ends =
    let end : EndsEmpty lemmas = subst EndsEmpty same ends in
    subst (λ (ls : List Lemma). IsRefutation problem.points problem.clauses ls × All (LemmaIsOver problem.points) ls) (sym is)
    (record { some = end.0; each = each_refuted problem.points problem.clauses [] lemmas refuted; last = end.1 }, over)

-- carried lemmas, of which some are left
pub carried_opens : (problem : Problem) (batch left : LemmaBatch) → AreRefuted problem.points problem.clauses [] batch.lemmas → All (LemmaIsOver problem.points) batch.lemmas → batch.seen ≡ 0 → left.seen ≡ batch.seen
    → StaysRefuted batch left → StaysOver batch.lemmas left.lemmas → (left.seen ≡ 0) × IsOpening problem left.lemmas
carried_opens problem batch left refuted over none seen stays stays_over =
    (seen ∙ none, record { refuted = stays problem.points problem.clauses [] (sym none) refuted; over = stays_over problem.points over })

-- shared lemmas, as they are lent
pub over_lent : {A : Type 0} (value : A → Lemma) (points : ℕ) (own lent : List A) → lent ≡ own → All (LemmaIsOver points) (map value own) → All (LemmaIsOver points) (map value lent)
over_lent {A = A} value points own lent e h = subst (λ (xs : List A). All (LemmaIsOver points) (map value xs)) (sym e) h
