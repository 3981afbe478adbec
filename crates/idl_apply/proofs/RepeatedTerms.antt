-- Terms behind references, by their places.
use Rattle.std.proofs.Common.{sym, ap, subst, arith, inl, inr, ◌∙◌, ◌≡◌, ◌<◌, ◌≤◌, ◌+◌, ℕ, List, [], ◌∷◌, length, get_or, Bor, Some}
use Rattle.std.specs.Prelude.{slice_get, option_map, Result}
use Rattle.std.specs.List.{AllByRecursion}
use Rattle.std.proofs.lemmas.Bool.{cases_lt}
use Rattle.std.proofs.lemmas.Option.{get_or_from_slice_get, slice_get-map, slice_get_read}
use Rattle.idl_node.specs.Nodes.{NodeValue, Placed}
use Rattle.idl_cases.specs.Guarded.{CaseValue}
use Rattle.idl_cases.specs.code.GuardBounds.{AreGuardsBelow}
use Rattle.idl_apply.specs.code.Repeats.{AreGuarded, term_at}
use Rattle.idl_apply.specs.Comparing.{cases_compared}
use Rattle.idl_apply.specs.declared.comparing.Relation.{Relation}
use Rattle.idl_apply.specs.declared.error.TermRefusal.{TermRefusal}
use Rattle.idl_apply.proofs.Arguments.{seen}

pub seen_at : {A : Type 0} (terms : List (Bor A)) (i : ℕ) (t : Bor A) → i < length terms → t ≡ get_or terms i t → slice_get (seen terms) i ≡ Some t.now
seen_at {A = A} terms i t within at = slice_get-map (λ (b : Bor A). b.now) terms i ∙ ap (option_map (λ (b : Bor A). b.now)) (slice_get_read terms (length terms) i t (omega arith) within at)

pub seen_term : (terms : List (Bor (List CaseValue))) (i : ℕ) (t : Bor (List CaseValue)) → i < length terms → t ≡ get_or terms i t → term_at (seen terms) i ≡ t.now
seen_term terms i t within at = get_or_from_slice_get (seen terms) i t.now [] (seen_at terms i t within at)

pub compared_seen : (relation : Relation) (nodes : List NodeValue) (terms : List (Bor (List CaseValue))) (i j : ℕ) (t u : Bor (List CaseValue)) (made : Result Placed TermRefusal) → i < length terms → j < length terms
    → t ≡ get_or terms i t → u ≡ get_or terms j u → cases_compared relation nodes (get_or terms i t).now (get_or terms j u).now ≡ made → cases_compared relation nodes (term_at (seen terms) i) (term_at (seen terms) j) ≡ made
compared_seen relation nodes terms i j t u made hi hj at_t at_u e =
    let now : Bor (List CaseValue) → List CaseValue = λ (b : Bor (List CaseValue)). b.now in
    ap (λ (a : List CaseValue). cases_compared relation nodes a (term_at (seen terms) j)) (seen_term terms i t hi at_t ∙ ap now at_t)
    ∙ ap (λ (b : List CaseValue). cases_compared relation nodes (get_or terms i t).now b) (seen_term terms j u hj at_u ∙ ap now at_u)
    ∙ e

pub guarded_more : (count : ℕ) (terms : List (Bor (List CaseValue))) (i : ℕ) (t : Bor (List CaseValue)) → i < length terms → t ≡ get_or terms i t → AreGuardsBelow count t.now
    → ((k : ℕ) → k < i → AreGuardsBelow count (term_at (seen terms) k)) → (k : ℕ) → k < i + 1 → AreGuardsBelow count (term_at (seen terms) k)
guarded_more count terms i t within at one before k h =
    let here : AreGuardsBelow count (term_at (seen terms) i) = subst (λ (cs : List CaseValue). AreGuardsBelow count cs) (sym (seen_term terms i t within at)) one in
    elim (cases_lt k i) [ inl lt ↦ before k lt | inr le ↦ subst (λ (m : ℕ). AreGuardsBelow count (term_at (seen terms) m)) (omega (arith, le, h)) here ]

-- ---- guards below a larger number

guards_more : (m n : ℕ) → m ≤ n → (gs : List ℕ) → AllByRecursion (λ g. g < m) gs → AllByRecursion (λ g. g < n) gs
guards_more m n le [] h = tt
guards_more m n le (g ∷ gs) h = (omega (arith, le, h.0), guards_more m n le gs h.1)

cases_more : (m n : ℕ) → m ≤ n → (cases : List CaseValue) → AreGuardsBelow m cases → AreGuardsBelow n cases
cases_more m n le [] h = tt
cases_more m n le (case ∷ cases) h = (guards_more m n le case.guards h.0, cases_more m n le cases h.1)

pub guarded_longer : (m n : ℕ) → m ≤ n → (terms : List (List CaseValue)) → AreGuarded m terms → AreGuarded n terms
guarded_longer m n le terms h k lt = cases_more m n le (term_at terms k) (h k lt)
