-- The paths of linked numbers.
use Rattle.std.proofs.Common.{arith, ◌≡◌, ℕ, zero, suc, ◌<◌, ◌+◌, List, [], ◌∷◌, ◌++◌, length, get_or, refl, sym, ap, ◌∙◌, append_assoc}
use Rattle.std.proofs.lemmas.List.{length-append, get_or_append_left, get_or-append-add}
use Rattle.stn_core.specs.declared.literal.Literal.{Literal}
use Rattle.cover_tree.specs.declared.link.Link.{Link}
use Rattle.cover_tree.specs.code.Links.{linked_path, paths_from, AreBack}

abbrev pub Paths : Type 0
Paths = List (List Literal)

pub paths_count : (done : Paths) (links : List Link) → length (paths_from done links) ≡ length done + length links
paths_count done [] = omega arith
paths_count done (link ∷ links) = omega (arith, paths_count (done ++ linked_path done link ∷ []) links, length-append done (linked_path done link ∷ []))

pub paths_longer : (done : Paths) (links : List Link) (k : ℕ) → k < length done → get_or (paths_from done links) k [] ≡ get_or done k []
paths_longer done [] k lt = refl
paths_longer done (link ∷ links) k lt =
    paths_longer (done ++ linked_path done link ∷ []) links k (omega (arith, length-append done (linked_path done link ∷ []))) ∙ get_or_append_left done (linked_path done link ∷ []) [] k lt

-- a number's path is its parent's and then its literal
pub path_of_link : (done : Paths) (links : List Link) (n : ℕ) → n ≡ length done → AreBack n links → (i : ℕ) (d : Link) → i < length links
    → ((get_or links i d).parent < n + i) × (get_or (paths_from done links) (n + i) [] ≡ get_or (paths_from done links) (get_or links i d).parent [] ++ (get_or links i d).literal ∷ [])
path_of_link done [] n e back i d lt = absurd (omega arith)
path_of_link done (link ∷ links) n e back zero d lt =
    let new : Paths = done ++ linked_path done link ∷ [] in
    let count = length-append done (linked_path done link ∷ []) in
    let low : link.parent < length done = omega (arith, back.0) in
    let at : get_or (paths_from new links) (n + 0) [] ≡ linked_path done link = ap (λ (m : ℕ). get_or (paths_from new links) m []) (omega arith) ∙ (paths_longer new links (length done + 0) (omega arith) ∙ get_or-append-add done (linked_path done link ∷ []) 0 []) in
    let up : get_or (paths_from new links) link.parent [] ≡ get_or done link.parent [] = paths_longer new links link.parent (omega arith) ∙ get_or_append_left done (linked_path done link ∷ []) [] link.parent low in
    (omega (arith, back.0), at ∙ ap (λ (p : List Literal). p ++ link.literal ∷ []) (sym up))
path_of_link done (link ∷ links) n e back (suc i) d lt =
    let new : Paths = done ++ linked_path done link ∷ [] in
    let count = length-append done (linked_path done link ∷ []) in
    let rest = path_of_link new links (n + 1) (omega arith) back.1 i d (omega arith) in
    let same : n + suc i ≡ n + 1 + i = omega arith in
    (omega (arith, rest.0), ap (λ (m : ℕ). get_or (paths_from new links) m []) same ∙ rest.1)

pub paths_push : (done : Paths) (links : List Link) (a : Link) → paths_from done (links ++ a ∷ []) ≡ paths_from done links ++ linked_path (paths_from done links) a ∷ []
paths_push done [] a = refl
paths_push done (link ∷ links) a = paths_push (done ++ linked_path done link ∷ []) links a

pub back_push : (n : ℕ) (links : List Link) (a : Link) → AreBack n links → a.parent < n + length links → AreBack n (links ++ a ∷ [])
back_push n [] a back lt = (omega arith, tt)
back_push n (link ∷ links) a back lt = (back.0, back_push (n + 1) links a back.1 (omega arith))

-- two numbers that hang on one
pub paths_two : (done : Paths) (links : List Link) (a b : Link) (k : ℕ) → a.parent ≡ k → b.parent ≡ k → k < length (paths_from done links)
    → paths_from done ((links ++ a ∷ []) ++ b ∷ []) ≡ paths_from done links ++ (get_or (paths_from done links) k [] ++ a.literal ∷ []) ∷ (get_or (paths_from done links) k [] ++ b.literal ∷ []) ∷ []
paths_two done links a b k ea eb lt =
    let old : Paths = paths_from done links in
    let one : Paths = old ++ linked_path old a ∷ [] in
    let cube : List Literal = get_or old k [] in
    let first : linked_path old a ≡ cube ++ a.literal ∷ [] = ap (λ (m : ℕ). get_or old m [] ++ a.literal ∷ []) ea in
    let second : linked_path one b ≡ cube ++ b.literal ∷ [] = ap (λ (m : ℕ). get_or one m [] ++ b.literal ∷ []) eb ∙ ap (λ (p : List Literal). p ++ b.literal ∷ []) (get_or_append_left old (linked_path old a ∷ []) [] k lt) in
    paths_push done (links ++ a ∷ []) b
    ∙ ap (λ (ps : Paths). ps ++ linked_path ps b ∷ []) (paths_push done links a)
    ∙ append_assoc old (linked_path old a ∷ []) (linked_path one b ∷ [])
    ∙ ap (λ (p : List Literal). old ++ p ∷ linked_path one b ∷ []) first
    ∙ ap (λ (p : List Literal). old ++ (cube ++ a.literal ∷ []) ∷ p ∷ []) second
