-- What the accessors find.
use Rattle.std.proofs.Common.{◌≡◌, ℕ, zero, suc, ◌+◌, ◌<◌, ◌≤◌, List, [], ◌∷◌, length, take, drop, Option, Some, refl, sym, ap, subst, ◌∙◌, arith, get_or}
use Rattle.std.specs.Prelude.{slice_get}
use Rattle.std.proofs.lemmas.Option.{slice_get_read}
use Rattle.std.proofs.lemmas.List.{get_or-take, get_or-drop, length-take-le, length-drop}
use Rattle.smt_lex.specs.declared.token.Token.{Token}
use Rattle.smt_sexpr.specs.declared.node.Node.{Node}
use Rattle.smt_sexpr.specs.declared.node.Node.TheVariants.{Leaf, List as ListOf}
use Rattle.smt_sexpr.specs.Tree.{Sexpr, Items, leaf, list, none, more, item_at, item_of}
use Rattle.smt_sexpr.specs.Table.{Table, Means, MeansEach, Shows, IsNodeOf}
use Rattle.smt_sexpr.proofs.TableGrowth.{means_within}

token_is : (a b : Token) (x : Option Node) → x ≡ Some (Leaf a) → x ≡ Some (Leaf b) → a ≡ b
token_is a b x p q = cc

leaf_not_list : (token : Token) (first count : ℕ) (x : Option Node) → x ≡ Some (Leaf token) → x ≡ Some (ListOf first count) → ⊥
leaf_not_list token first count x p q = cc

first_is : (a b c d : ℕ) (x : Option Node) → x ≡ Some (ListOf a b) → x ≡ Some (ListOf c d) → a ≡ c
first_is a b c d x p q = cc

count_is : (a b c d : ℕ) (x : Option Node) → x ≡ Some (ListOf a b) → x ≡ Some (ListOf c d) → b ≡ d
count_is a b c d x p q = cc

-- the table as its parts
pub within_parts : (t s : Table) (id : ℕ) (x : Sexpr) → s ≡ t → Means t id x → id < length s.nodes
within_parts t s id x e m = means_within s id x (subst (λ (u : Table). Means u id x) (sym e) m)

pub node_is : (t : Table) (id : ℕ) (x : Sexpr) (node : Node) → Means t id x → slice_get t.nodes id ≡ Some node → IsNodeOf t x node
node_is t id (leaf kind text) (Leaf u) (token, at, shows) e = subst (λ (v : Token). Shows t.bytes v kind text) (token_is token u (slice_get t.nodes id) at e) shows
node_is t id (leaf kind text) (ListOf first count) (token, at, shows) e = absurd (leaf_not_list token first count (slice_get t.nodes id) at e)
node_is t id (list xs) (Leaf u) (first, count, at, le, below, m) e = absurd (leaf_not_list u first count (slice_get t.nodes id) e at)
node_is t id (list xs) (ListOf f c) (first, count, at, le, below, m) e =
    let same_first = first_is first count f c (slice_get t.nodes id) at e in
    let same_count = count_is first count f c (slice_get t.nodes id) at e in
    let H : ℕ → ℕ → Type 0 = λ a b. (a + b ≤ length t.items) × MeansEach t (take b (drop a t.items)) xs in
    let h : H first count = (le, m) in
    subst (λ (b : ℕ). H f b) same_count (subst (λ (a : ℕ). H a count) same_first h)

pub node_read : (t s : Table) (id : ℕ) (node : Node) (x y : Sexpr) → s ≡ t → node ≡ get_or s.nodes id node → Means t id y → Means t id x → IsNodeOf t x node
node_read t s id node x y e read m n =
    let at : slice_get s.nodes id ≡ Some node = slice_get_read s.nodes (length s.nodes) id node refl (within_parts t s id y e m) read in
    node_is t id x node n (subst (λ (u : Table). slice_get u.nodes id ≡ Some node) e at)

-- ---- a list's item

pub each_item : (t : Table) (ids : List ℕ) (xs : Items) (k d : ℕ) (y : Sexpr) → MeansEach t ids xs → item_at xs k ≡ Some y → (k < length ids) × Means t (get_or ids k d) y
each_item t [] none k d y m e = absurd cc
each_item t [] (more x xs) k d y m e = absurd m
each_item t (id ∷ ids) none k d y m e = absurd m
each_item t (id ∷ ids) (more x xs) zero d y m e = let h : x ≡ y = cc in (omega arith, subst (Means t id) h m.0)
each_item t (id ∷ ids) (more x xs) (suc k) d y m e = let h = each_item t ids xs k d y m.1 e in let lt : k < length ids = h.0 in (omega arith, h.1)

item_known : (t : Table) (x y : Sexpr) (first count k d : ℕ) → IsNodeOf t x (ListOf first count) → item_of x k ≡ Some y → (first + k < length t.items) × Means t (get_or t.items (first + k) d) y
item_known t (leaf kind text) y first count k d h e = absurd h
item_known t (list xs) y first count k d (le, m) e =
    let ids = take count (drop first t.items) in
    let h = each_item t ids xs k d y m e in
    let lt : k < length ids = h.0 in
    let few : length ids ≡ count = length-take-le count (drop first t.items) (omega (arith, length-drop first t.items)) in
    let short : k < count = omega arith in
    let same : get_or ids k d ≡ get_or t.items (first + k) d = get_or-take count (drop first t.items) k d short ∙ get_or-drop first t.items k d in
    (omega arith, subst (λ (i : ℕ). Means t i y) same h.1)

pub item_within : (t s : Table) (x y : Sexpr) (node : Node) (first count k : ℕ) → s ≡ t → node ≡ ListOf first count → IsNodeOf t x node → item_of x k ≡ Some y → first + k < length s.items
item_within t s x y node first count k e n h i = rw e ((item_known t x y first count k 0 (subst (IsNodeOf t x) n h) i).0)

pub item_means : (t s : Table) (x y : Sexpr) (node : Node) (first count k id : ℕ) → s ≡ t → node ≡ ListOf first count → IsNodeOf t x node → id ≡ get_or s.items (first + k) id → item_of x k ≡ Some y → Means t id y
item_means t s x y node first count k id e n h read i =
    subst (λ (j : ℕ). Means t j y) (ap (λ (u : Table). get_or u.items (first + k) id) (sym e) ∙ sym read) ((item_known t x y first count k id (subst (IsNodeOf t x) n h) i).1)

pub leaf_no_item : (t : Table) (x y : Sexpr) (node : Node) (token : Token) (k : ℕ) → node ≡ Leaf token → IsNodeOf t x node → item_of x k ≡ Some y → ⊥
leaf_no_item t (leaf kind text) y node token k n h i = cc
leaf_no_item t (list xs) y node token k n h i = absurd (subst (IsNodeOf t (list xs)) n h)
