-- The tables of a cover, after a leaf changed or was divided.
use Rattle.std.proofs.Common.{arith, ◌≡◌, ◌≢◌, ℕ, zero, suc, ◌<◌, ◌≤◌, ◌+◌, ◌-◌, Bool, true, false, List, [], ◌∷◌, ◌++◌, length, map, get_or, set, Some, refl, sym, ap, ◌∙◌, subst, append_assoc, reverse}
use Rattle.std.specs.Prelude.{slice_get, if◌then◌else◌, Option, None, IfNone}
use Rattle.std.proofs.lemmas.List.{length-append, length-set, length-map, map-append, map-set, reverse-append}
use Rattle.std.proofs.lemmas.Option.{slice_get_within, get_or_from_slice_get}
use Rattle.stn_core.specs.declared.literal.Literal.{Literal}
use Rattle.stn_core.specs.Literal.{negation_of}
use Rattle.cover_tree.specs.declared.node.Node.{Node}
use Rattle.cover_tree.specs.declared.node.Node.TheVariants.{Free, Held, Shut, Split}
use Rattle.cover_tree.specs.declared.link.Link.{Link}
use Rattle.cover_tree.specs.Covers.{Cubes, IsCover, opening, changes, divides, IsLeaf, is_free, is_held, held_count, divided, whole, NoneFree, NoneHeld, node_at}
use Rattle.cover_tree.specs.code.Members.{NoMember}
use Rattle.cover_tree.specs.code.Links.{paths_of, AreBack, cubes_of, AreTables}
use Rattle.cover_tree.proofs.Paths.{paths_count, paths_longer, path_of_link, back_push, paths_two}
use Rattle.cover_tree.proofs.Sets.{get_set_other, get_behind, get_longer}

pub get_map : {A B : Type 0} (f : A → B) (xs : List A) (k : ℕ) (x : A) → slice_get xs k ≡ Some x → slice_get (map f xs) k ≡ Some (f x)
get_map f [] k x e = absurd cc
get_map f (y ∷ xs) zero x e = let s : y ≡ x = cc in ap (λ z. Some (f z)) s
get_map f (y ∷ xs) (suc k) x e = get_map f xs k x e

-- a number that is set to what it was
pub set_known : {A : Type 0} (xs : List A) (k : ℕ) (x : A) → slice_get xs k ≡ Some x → set xs k x ≡ xs
set_known [] k x e = refl
set_known (y ∷ xs) zero x e = let s : x ≡ y = cc in ap (λ z. z ∷ xs) s
set_known (y ∷ xs) (suc k) x e = ap (λ z. y ∷ z) (set_known xs k x e)

pub count_set : (nodes : List Node) (k : ℕ) (old new : Node) → slice_get nodes k ≡ Some old → held_count (set nodes k new) + (if is_held old then 1 else 0) ≡ held_count nodes + (if is_held new then 1 else 0)
count_set [] k old new e = absurd cc
count_set (n ∷ nodes) zero old new e = let s : n ≡ old = cc in ap (λ (m : Node). ((if is_held new then 1 else 0) + held_count nodes) + (if is_held m then 1 else 0)) (sym s) ∙ omega arith
count_set (n ∷ nodes) (suc k) old new e = omega (arith, count_set nodes k old new e)

pub count_two : (nodes : List Node) → held_count (nodes ++ Free ∷ Free ∷ []) ≡ held_count nodes
count_two [] = refl
count_two (n ∷ nodes) = ap (λ (m : ℕ). (if is_held n then 1 else 0) + m) (count_two nodes)

abbrev pub cubes_with : List (List Literal) → List Node → Cubes
cubes_with paths nodes = record { paths = paths; nodes = nodes }

set_two : (fs : List Bool) → set (set (fs ++ false ∷ false ∷ []) (length fs) true) (length fs + 1) true ≡ fs ++ true ∷ true ∷ []
set_two [] = refl
set_two (f ∷ fs) =
    let n : suc (length fs) + 1 ≡ suc (length fs + 1) = omega arith in
    ap (λ (m : ℕ). set (f ∷ set (fs ++ false ∷ false ∷ []) (length fs) true) m true) n ∙ ap (λ (gs : List Bool). f ∷ gs) (set_two fs)

two_set : (fs : List Bool) (n : ℕ) → length fs ≡ n → set (set ((fs ++ false ∷ []) ++ false ∷ []) n true) (n + 1) true ≡ fs ++ true ∷ true ∷ []
two_set fs n e =
    ap (λ (gs : List Bool). set (set gs n true) (n + 1) true) (append_assoc fs (false ∷ []) (false ∷ [])) ∙ (ap (λ (m : ℕ). set (set (fs ++ false ∷ false ∷ []) m true) (m + 1) true) (sym e) ∙ set_two fs)

set_left : (xs ys : List Bool) (k : ℕ) (b : Bool) → k < length xs → set (xs ++ ys) k b ≡ set xs k b ++ ys
set_left [] ys k b lt = absurd (omega arith)
set_left (x ∷ xs) ys zero b lt = refl
set_left (x ∷ xs) ys (suc k) b lt = ap (λ (gs : List Bool). x ∷ gs) (set_left xs ys k b (omega arith))

-- the flags of two new numbers
pub fresh_first : (free f0 f1 f2 : List Bool) (n : ℕ) → length free ≡ n → f0 ≡ free → f1 ≡ f0 ++ false ∷ [] → f2 ≡ f1 ++ false ∷ [] → slice_get f2 n ≡ Some false
fresh_first free f0 f1 f2 n e a b c =
    let is : f2 ≡ free ++ false ∷ false ∷ [] = c ∙ (ap (λ (gs : List Bool). gs ++ false ∷ []) (b ∙ ap (λ (gs : List Bool). gs ++ false ∷ []) a) ∙ append_assoc free (false ∷ []) (false ∷ [])) in
    ap (λ (gs : List Bool). slice_get gs n) is ∙ (ap (λ (m : ℕ). slice_get (free ++ false ∷ false ∷ []) m) (omega arith) ∙ get_behind free (false ∷ false ∷ []) 0)

pub fresh_second : (free f0 f1 f2 f3 : List Bool) (n : ℕ) → length free ≡ n → f0 ≡ free → f1 ≡ f0 ++ false ∷ [] → f2 ≡ f1 ++ false ∷ [] → f3 ≡ set f2 n true → slice_get f3 (n + 1) ≡ Some false
fresh_second free f0 f1 f2 f3 n e a b c d =
    let is : f2 ≡ free ++ false ∷ false ∷ [] = c ∙ (ap (λ (gs : List Bool). gs ++ false ∷ []) (b ∙ ap (λ (gs : List Bool). gs ++ false ∷ []) a) ∙ append_assoc free (false ∷ []) (false ∷ [])) in
    ap (λ (gs : List Bool). slice_get gs (n + 1)) d ∙ (get_set_other f2 n (n + 1) true (λ (h : n + 1 ≡ n). absurd (omega arith)) ∙ (ap (λ (gs : List Bool). slice_get gs (n + 1)) is ∙ (ap (λ (m : ℕ). slice_get (free ++ false ∷ false ∷ []) m) (omega arith) ∙ get_behind free (false ∷ false ∷ []) 1)))

pub first_flag : (a b c d : List Bool) → a ≡ [] → b ≡ a → c ≡ b ++ false ∷ [] → d ≡ set c 0 true → d ≡ true ∷ []
first_flag a b c d ea eb ec ed = ed ∙ ap (λ (fs : List Bool). set fs 0 true) (ec ∙ ap (λ (fs : List Bool). fs ++ false ∷ []) (eb ∙ ea))

pub first_unflagged : (a b c : List Bool) → a ≡ [] → b ≡ a → c ≡ b ++ false ∷ [] → c ≡ false ∷ []
first_unflagged a b c ea eb ec = ec ∙ ap (λ (fs : List Bool). fs ++ false ∷ []) (eb ∙ ea)

pub whole_tables : (links : List Link) (nodes nodes_new : List Node) (free held : List Bool) → links ≡ [] → nodes ≡ [] → nodes_new ≡ nodes ++ Free ∷ [] → free ≡ true ∷ [] → held ≡ false ∷ [] → AreTables links nodes_new free held 0
whole_tables links nodes nodes_new free held el e0 en ef eh =
    let table : nodes_new ≡ Free ∷ [] = en ∙ ap (λ (ns : List Node). ns ++ Free ∷ []) e0 in
    rw (el, table, ef, eh) (record { cover = opening; back = tt; same = refl; free_are = refl; held_are = refl; count = refl })

pub whole_is : (links : List Link) (nodes nodes_new : List Node) → links ≡ [] → nodes ≡ [] → nodes_new ≡ nodes ++ Free ∷ [] → cubes_of links nodes_new ≡ whole
whole_is links nodes nodes_new el e0 en =
    let table : nodes_new ≡ Free ∷ [] = en ∙ ap (λ (ns : List Node). ns ++ Free ∷ []) e0 in
    rw (el, table) refl

held_most : (nodes : List Node) → held_count nodes ≤ length nodes
held_most [] = omega arith
held_most (Free ∷ nodes) = omega (arith, held_most nodes)
held_most (Held seat ∷ nodes) = omega (arith, held_most nodes)
held_most (Shut lemma ∷ nodes) = omega (arith, held_most nodes)
held_most (Split l n ∷ nodes) = omega (arith, held_most nodes)

-- the walk has come to the root
pub cube_end : (links : List Link) (at id : ℕ) (cube turned res : List Literal) → at ≡ 0 → res ≡ turned → turned ≡ reverse cube → get_or (paths_of links) at [] ++ reverse cube ≡ get_or (paths_of links) id [] → res ≡ get_or (paths_of links) id []
cube_end links at id cube turned res z er et h =
    let root : get_or (paths_of links) at [] ≡ [] = ap (λ (m : ℕ). get_or (paths_of links) m []) z ∙ paths_longer ([] ∷ []) links 0 (omega arith) in
    er ∙ (et ∙ (ap (λ (p : List Literal). p ++ reverse cube) (sym root) ∙ h))

-- what is said of the shown cover, of the tables
pub at_inside : (links : List Link) (nodes : List Node) (seen : Cubes) (k : ℕ) (o : Option Node) → cubes_of links nodes ≡ seen → node_at seen k ≡ o → slice_get nodes k ≡ o
at_inside links nodes seen k o view e = ap (λ (c : Cubes). node_at c k) view ∙ e

pub links_chain : (links l0 l1 l2 : List Link) (a b : Link) → l0 ≡ links → l1 ≡ l0 ++ a ∷ [] → l2 ≡ l1 ++ b ∷ [] → l2 ≡ (links ++ a ∷ []) ++ b ∷ []
links_chain links l0 l1 l2 a b e0 e1 e2 = e2 ∙ ap (λ (ls : List Link). ls ++ b ∷ []) (e1 ∙ ap (λ (ls : List Link). ls ++ a ∷ []) e0)

pub nodes_chain : (nodes n0 n1 n2 : List Node) (k first : ℕ) (l : Literal) → n0 ≡ nodes → first ≡ length nodes → n1 ≡ set n0 k (Split l first) ++ Free ∷ [] → n2 ≡ n1 ++ Free ∷ [] → n2 ≡ (set nodes k (Split l (length nodes)) ++ Free ∷ []) ++ Free ∷ []
nodes_chain nodes n0 n1 n2 k first l e0 ef e1 e2 =
    e2 ∙ ap (λ (ns : List Node). ns ++ Free ∷ []) (e1 ∙ (ap (λ (ns : List Node). set ns k (Split l first) ++ Free ∷ []) e0 ∙ ap (λ (m : ℕ). set nodes k (Split l m) ++ Free ∷ []) ef))

pub free_chain : (free f0 f1 f2 f3 f4 : List Bool) (first n : ℕ) → first ≡ n → f0 ≡ free → f1 ≡ f0 ++ false ∷ [] → f2 ≡ f1 ++ false ∷ [] → f3 ≡ set f2 first true → f4 ≡ set f3 (first + 1) true → f4 ≡ set (set ((free ++ false ∷ []) ++ false ∷ []) n true) (n + 1) true
free_chain free f0 f1 f2 f3 f4 first n en e0 e1 e2 e3 e4 =
    let base : f2 ≡ (free ++ false ∷ []) ++ false ∷ [] = e2 ∙ ap (λ (gs : List Bool). gs ++ false ∷ []) (e1 ∙ ap (λ (gs : List Bool). gs ++ false ∷ []) e0) in
    e4 ∙ (ap (λ (gs : List Bool). set gs (first + 1) true) (e3 ∙ ap (λ (gs : List Bool). set gs first true) base) ∙ ap (λ (m : ℕ). set (set ((free ++ false ∷ []) ++ false ∷ []) m true) (m + 1) true) en)

pub held_chain : (held h0 h1 h2 h3 : List Bool) (k : ℕ) → h0 ≡ held → h1 ≡ h0 ++ false ∷ [] → h2 ≡ h1 ++ false ∷ [] → h3 ≡ set h2 k false → h3 ≡ set ((held ++ false ∷ []) ++ false ∷ []) k false
held_chain held h0 h1 h2 h3 k e0 e1 e2 e3 =
    e3 ∙ ap (λ (gs : List Bool). set gs k false) (e2 ∙ ap (λ (gs : List Bool). gs ++ false ∷ []) (e1 ∙ ap (λ (gs : List Bool). gs ++ false ∷ []) e0))

pub old_flag : (held h0 h1 h2 : List Bool) (k : ℕ) (b : Bool) → slice_get held k ≡ Some b → h0 ≡ held → h1 ≡ h0 ++ false ∷ [] → h2 ≡ h1 ++ false ∷ [] → slice_get h2 k ≡ Some b
old_flag held h0 h1 h2 k b e e0 e1 e2 =
    let is : h2 ≡ (held ++ false ∷ []) ++ false ∷ [] = e2 ∙ ap (λ (gs : List Bool). gs ++ false ∷ []) (e1 ∙ ap (λ (gs : List Bool). gs ++ false ∷ []) e0) in
    ap (λ (gs : List Bool). slice_get gs k) is ∙ get_longer (held ++ false ∷ []) (false ∷ []) k b (get_longer held (false ∷ []) k b e)

free_from : (nodes : List Node) (k : ℕ) → slice_get (map is_free nodes) k ≡ Some true → slice_get nodes k ≡ Some Free
free_from [] k e = absurd cc
free_from (Free ∷ nodes) zero e = refl
free_from (Held seat ∷ nodes) zero e = absurd cc
free_from (Shut lemma ∷ nodes) zero e = absurd cc
free_from (Split l n ∷ nodes) zero e = absurd cc
free_from (n ∷ nodes) (suc k) e = free_from nodes k e

held_from : (nodes : List Node) (k : ℕ) → slice_get (map is_held nodes) k ≡ Some true → (seat : ℕ) × (slice_get nodes k ≡ Some (Held seat))
held_from [] k e = absurd cc
held_from (Free ∷ nodes) zero e = absurd cc
held_from (Held seat ∷ nodes) zero e = (seat, refl)
held_from (Shut lemma ∷ nodes) zero e = absurd cc
held_from (Split l n ∷ nodes) zero e = absurd cc
held_from (n ∷ nodes) (suc k) e = held_from nodes k e

module _ (links : List Link) (nodes : List Node) (free held : List Bool) (holds : ℕ) (t : AreTables links nodes free held holds) where
  pub free_flag : (k : ℕ) (n : Node) (b : Bool) → slice_get nodes k ≡ Some n → is_free n ≡ b → slice_get free k ≡ Some b
  free_flag k n b e is = ap (λ (fs : List Bool). slice_get fs k) t.free_are ∙ (get_map is_free nodes k n e ∙ ap (λ (c : Bool). Some c) is)

  pub held_flag : (k : ℕ) (n : Node) (b : Bool) → slice_get nodes k ≡ Some n → is_held n ≡ b → slice_get held k ≡ Some b
  held_flag k n b e is = ap (λ (fs : List Bool). slice_get fs k) t.held_are ∙ (get_map is_held nodes k n e ∙ ap (λ (c : Bool). Some c) is)

  pub changed : (k : ℕ) (old new : Node) (nodes_new : List Node) (free_new held_new : List Bool) (holds_new : ℕ) → slice_get nodes k ≡ Some old → IsLeaf old → IsLeaf new
      → nodes_new ≡ set nodes k new → free_new ≡ set free k (is_free new) → held_new ≡ set held k (is_held new) → holds_new + (if is_held old then 1 else 0) ≡ holds + (if is_held new then 1 else 0)
      → AreTables links nodes_new free_new held_new holds_new
  changed k old new nodes_new free_new held_new holds_new e lo ln en ef eh ec =
      let same = t.same in
      let count = count_set nodes k old new e in
      let was = t.count in
      rw en (record {
        cover = changes (cubes_of links nodes) k old new t.cover e lo ln;
        back = t.back;
        same = omega (arith, length-set nodes k new);
        free_are = ef ∙ (ap (λ (fs : List Bool). set fs k (is_free new)) t.free_are ∙ sym (map-set is_free nodes k new));
        held_are = eh ∙ (ap (λ (fs : List Bool). set fs k (is_held new)) t.held_are ∙ sym (map-set is_held nodes k new));
        count = omega arith;
      })

  pub unset_free : (k : ℕ) (n : Node) → slice_get nodes k ≡ Some n → free ≡ set free k (is_free n)
  unset_free k n e = sym (set_known free k (is_free n) (free_flag k n (is_free n) e refl))

  module _ (k seat : ℕ) (l : Literal) (e : slice_get nodes k ≡ Some (Held seat)) where
    within : k < length (paths_of links)
    within = let same = t.same in let lt = slice_get_within nodes k (Held seat) e in omega (arith, paths_count ([] ∷ []) links)

    pub divided_is : (a b : Link) (links_new : List Link) (nodes_new : List Node) → a.parent ≡ k → b.parent ≡ k → a.literal ≡ l → b.literal ≡ negation_of l
        → links_new ≡ (links ++ a ∷ []) ++ b ∷ [] → nodes_new ≡ (set nodes k (Split l (length nodes)) ++ Free ∷ []) ++ Free ∷ []
        → cubes_of links_new nodes_new ≡ divided (cubes_of links nodes) k l
    divided_is a b links_new nodes_new pa pb la lb el en =
        let cube : List Literal = get_or (paths_of links) k [] in
        let paths : paths_of links_new ≡ paths_of links ++ (cube ++ l ∷ []) ∷ (cube ++ negation_of l ∷ []) ∷ [] =
        ap paths_of el ∙ (paths_two ([] ∷ []) links a b k pa pb within
        ∙ (ap (λ (m : Literal). paths_of links ++ (cube ++ m ∷ []) ∷ (cube ++ b.literal ∷ []) ∷ []) la
        ∙ ap (λ (m : Literal). paths_of links ++ (cube ++ l ∷ []) ∷ (cube ++ m ∷ []) ∷ []) lb)) in
        let table : nodes_new ≡ set nodes k (Split l (length nodes)) ++ Free ∷ Free ∷ [] = en ∙ append_assoc (set nodes k (Split l (length nodes))) (Free ∷ []) (Free ∷ []) in
        ap (λ (ps : List (List Literal)). cubes_with ps nodes_new) paths ∙ ap (λ (ns : List Node). cubes_with (paths_of links ++ (cube ++ l ∷ []) ∷ (cube ++ negation_of l ∷ []) ∷ []) ns) table

    pub divided_tables : (a b : Link) (links_new : List Link) (nodes_new : List Node) (free_new held_new : List Bool) (holds_new : ℕ) → a.parent ≡ k → b.parent ≡ k → a.literal ≡ l → b.literal ≡ negation_of l
        → links_new ≡ (links ++ a ∷ []) ++ b ∷ [] → nodes_new ≡ (set nodes k (Split l (length nodes)) ++ Free ∷ []) ++ Free ∷ []
        → free_new ≡ set (set ((free ++ false ∷ []) ++ false ∷ []) (length nodes) true) (length nodes + 1) true
        → held_new ≡ set ((held ++ false ∷ []) ++ false ∷ []) k false
        → holds_new + 1 ≡ holds
        → AreTables links_new nodes_new free_new held_new holds_new
    divided_tables a b links_new nodes_new free_new held_new holds_new pa pb la lb el en ef eh ec =
        let split : Node = Split l (length nodes) in
        let is = divided_is a b links_new nodes_new pa pb la lb el en in
        let table : nodes_new ≡ set nodes k split ++ Free ∷ Free ∷ [] = en ∙ append_assoc (set nodes k split) (Free ∷ []) (Free ∷ []) in
        let same = t.same in
        let was = t.count in
        let lt = slice_get_within nodes k (Held seat) e in
        let count = count_set nodes k (Held seat) split e in
        let counted : held_count nodes_new ≡ held_count (set nodes k split) = ap held_count table ∙ count_two (set nodes k split) in
        let n_links : length links_new ≡ length links + 2 = ap length el ∙ omega (arith, length-append (links ++ a ∷ []) (b ∷ []), length-append links (a ∷ [])) in
        let n_nodes : length nodes_new ≡ length nodes + 2 = ap length table ∙ omega (arith, length-append (set nodes k split) (Free ∷ Free ∷ []), length-set nodes k split) in
        let n_free : length free ≡ length nodes = ap length t.free_are ∙ length-map nodes is_free in
        let old_free : map is_free (set nodes k split) ≡ free = map-set is_free nodes k split ∙ (ap (λ (fs : List Bool). set fs k false) (sym t.free_are) ∙ sym (unset_free k (Held seat) e)) in
        let n_held : length held ≡ length nodes = ap length t.held_are ∙ length-map nodes is_held in
        let old_held : map is_held (set nodes k split) ≡ set held k false = map-set is_held nodes k split ∙ ap (λ (fs : List Bool). set fs k false) (sym t.held_are) in
        record {
          cover = subst IsCover (sym is) (divides (cubes_of links nodes) k (Held seat) l t.cover e tt);
          back = subst (AreBack 1) (sym el) (back_push 1 (links ++ a ∷ []) b (back_push 1 links a t.back (omega arith)) (omega (arith, length-append links (a ∷ []))));
          same = omega arith;
          free_are = ef ∙ (two_set free (length nodes) n_free ∙ (ap (λ (fs : List Bool). fs ++ true ∷ true ∷ []) (sym old_free) ∙ (sym (map-append is_free (set nodes k split) (Free ∷ Free ∷ [])) ∙ ap (map is_free) (sym table))));
          held_are = eh ∙ (ap (λ (fs : List Bool). set fs k false) (append_assoc held (false ∷ []) (false ∷ [])) ∙ set_left held (false ∷ false ∷ []) k false (omega arith) ∙ (ap (λ (fs : List Bool). fs ++ false ∷ false ∷ []) (sym old_held) ∙ (sym (map-append is_held (set nodes k split) (Free ∷ Free ∷ [])) ∙ ap (map is_held) (sym table))));
          count = omega arith;
        }

  -- what a flag says of the node
  pub flagged_free : (k : ℕ) → slice_get free k ≡ Some true → slice_get nodes k ≡ Some Free
  flagged_free k e = free_from nodes k (ap (λ (fs : List Bool). slice_get fs k) (sym t.free_are) ∙ e)

  pub flagged_held : (k : ℕ) → slice_get held k ≡ Some true → (seat : ℕ) × (slice_get nodes k ≡ Some (Held seat))
  flagged_held k e = held_from nodes k (ap (λ (fs : List Bool). slice_get fs k) (sym t.held_are) ∙ e)

  pub some_held : (k seat : ℕ) → slice_get nodes k ≡ Some (Held seat) → 1 ≤ holds
  some_held k seat e = let was = t.count in omega (arith, count_set nodes k (Held seat) Free e)

  pub few_held : (k : ℕ) → slice_get nodes k ≡ Some Free → holds + 1 ≤ length nodes
  few_held k e = let was = t.count in omega (arith, count_set nodes k Free (Held 0) e, held_most (set nodes k (Held 0)), length-set nodes k (Held 0))

  pub free_long : length free ≡ length nodes
  free_long = ap length t.free_are ∙ length-map nodes is_free

  -- a held number's node as it is read
  pub held_node : (k : ℕ) (node : Node) → slice_get held k ≡ Some true → node ≡ get_or nodes k node → (k < length nodes) × ((seat : ℕ) × (node ≡ Held seat) × (slice_get nodes k ≡ Some (Held seat)))
  held_node k node e is =
      let h = flagged_held k e in
      (slice_get_within nodes k (Held h.0) h.1, (h.0, is ∙ get_or_from_slice_get nodes k (Held h.0) node h.1, h.1))

  pub none_free : NoMember free → NoneFree (cubes_of links nodes)
  none_free none k e = none k (free_flag k Free true e refl)

  pub none_held : NoMember held → NoneHeld (cubes_of links nodes)
  none_held none k seat e = none k (held_flag k (Held seat) true e refl)

  -- one step towards the root
  pub step_up : (at id : ℕ) (link : Link) (cube cube_new : List Literal) → at ≢ 0 → at < length nodes → link ≡ get_or links (at - 1) link → cube_new ≡ cube ++ link.literal ∷ []
      → get_or (paths_of links) at [] ++ reverse cube ≡ get_or (paths_of links) id []
      → (get_or (paths_of links) link.parent [] ++ reverse cube_new ≡ get_or (paths_of links) id []) × (link.parent < at)
  step_up at id link cube cube_new ne lt el ec h =
      let same = t.same in
      let here = path_of_link ([] ∷ []) links 1 refl t.back (at - 1) link (omega (arith, ne)) in
      let n : 1 + (at - 1) ≡ at = omega (arith, ne) in
      let up : get_or (paths_of links) at [] ≡ get_or (paths_of links) link.parent [] ++ link.literal ∷ [] =
      ap (λ (m : ℕ). get_or (paths_of links) m []) (sym n) ∙ (here.1 ∙ ap (λ (m : Link). get_or (paths_of links) m.parent [] ++ m.literal ∷ []) (sym el)) in
      let lower : link.parent < at = subst (λ (m : Link). m.parent < at) (sym el) (omega (arith, here.0)) in
      let turned : reverse cube_new ≡ link.literal ∷ reverse cube = ap reverse ec ∙ reverse-append cube (link.literal ∷ []) in
      (ap (λ (p : List Literal). get_or (paths_of links) link.parent [] ++ p) turned ∙ (sym (append_assoc (get_or (paths_of links) link.parent []) (link.literal ∷ []) (reverse cube)) ∙ (ap (λ (p : List Literal). p ++ reverse cube) (sym up) ∙ h)), lower)
