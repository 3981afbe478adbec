-- A schedule that is tested.
use Rattle.std.proofs.Common.{arith, ◌≡◌, ◌<◌, ◌+◌, ◌∙◌, sym, subst, ℕ, zero, suc, List, [], ◌∷◌, ◌++◌, length, map, take, get_or, Bool, true, false, ℤ}
use Rattle.std.specs.List.{AllByRecursion}
use Rattle.std.proofs.lemmas.List.{length-map}
use Rattle.stn_core.specs.declared.named.NamedValue.{NamedValue}
use Rattle.idl_node.specs.declared.node.Node.{Node}
use Rattle.idl_node.specs.declared.sort.Sort.{Sort}
use Rattle.idl_node.specs.Nodes.{NodeValue, node_value}
use Rattle.idl_node.specs.Sorts.{IsOfSort, AreOfSorts}
use Rattle.idl_node.specs.Truth.{truth}

more_of_sorts : (sorts : List Sort) (k : ℕ) (d : Sort) (named : List NamedValue) (one : NamedValue) → length named ≡ k → k < length sorts → AreOfSorts (take k sorts) named → IsOfSort (get_or sorts k d) one → AreOfSorts (take (suc k) sorts) (named ++ one ∷ [])
more_of_sorts [] k d named one e lt h i = absurd (omega arith)
more_of_sorts (s ∷ sorts) zero d [] one e lt h i = (i, tt)
more_of_sorts (s ∷ sorts) zero d (n ∷ named) one e lt h i = absurd (omega (arith, e))
more_of_sorts (s ∷ sorts) (suc k) d [] one e lt h i = absurd (omega (arith, e))
more_of_sorts (s ∷ sorts) (suc k) d (n ∷ named) one e lt h i = (h.0, more_of_sorts sorts k d named one (omega (arith, e)) (omega arith) h.1 i)

pub next_of_sorts : (sorts : List Sort) (k : ℕ) (d : Sort) (named more : List NamedValue) (one : NamedValue) → length named ≡ k → k < length sorts → AreOfSorts (take k sorts) named → IsOfSort (get_or sorts k d) one → more ≡ named ++ one ∷ [] → AreOfSorts (take (k + 1) sorts) more
next_of_sorts sorts k d named more one e lt h i is =
    let next : suc k ≡ k + 1 = omega arith in
    subst (AreOfSorts (take (k + 1) sorts)) (sym is) (subst (λ (n : ℕ). AreOfSorts (take n sorts) (named ++ one ∷ [])) next (more_of_sorts sorts k d named one e lt h i))

marked_within : (bs : List Bool) (j : ℕ) → get_or bs j false ≡ true → j < length bs
marked_within [] j h = absurd (cc)
marked_within (b ∷ bs) zero h = omega arith
marked_within (b ∷ bs) (suc j) h = let less = marked_within bs j h in omega arith

each : {A : Type 0} (P Q : A → Type 0) (xs : List A) → ((x : A) → P x → Q x) → AllByRecursion P xs → AllByRecursion Q xs
each P Q [] f h = tt
each P Q (x ∷ xs) f h = (f x h.0, each P Q xs f h.1)

-- marked roots are true, where the marks tell of each node
pub marked_true : (nodes : List NodeValue) (values : List ℤ) (marks : List Bool) (roots : List ℕ) → length marks ≡ length nodes
    → ((k : ℕ) → k < length nodes → get_or marks k false ≡ truth nodes values k)
    → AllByRecursion (λ r. get_or marks r false ≡ true) roots → AllByRecursion (λ r. truth nodes values r ≡ true) roots
marked_true nodes values marks roots room tells h =
    each (λ r. get_or marks r false ≡ true) (λ r. truth nodes values r ≡ true) roots (λ r m. (let lt : r < length nodes = (let w = marked_within marks r m in omega (arith, room)) in sym (tells r lt) ∙ m)) h

-- as many nodes are seen as there are
pub seen_count : (nodes : List Node) → length nodes ≡ length (map node_value nodes)
seen_count nodes = sym (length-map nodes node_value)
