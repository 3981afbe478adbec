-- The variables of a `let`'s bindings, found to differ one by one.
use Rattle.std.proofs.Common.{◌≡◌, ℕ, suc, ◌+◌, ◌<◌, List, [], ◌∷◌, ◌++◌, length, take, drop, get_or, Option, Some, None, Bool, true, false, ◌||◌, Bor, refl, sym, ap, subst, ◌∙◌, arith}
use Rattle.std.specs.Prelude.{if◌then◌else◌, not, ◌&&◌, ◌==◌, option_map}
use Rattle.std.proofs.lemmas.Bool.Decides.{nat_tests}
use Rattle.std.specs.List.{list_any}
use Rattle.std.proofs.lemmas.List.{append_assoc, take_more, take-append-drop}
use Rattle.std.specs.Str.{bytes_eq}
use Rattle.smt_lex.specs.declared.token.TokenKind.{TokenKind}
use Rattle.smt_sexpr.specs.Table.{Table, Means, ItemsAre}
use Rattle.smt_sexpr.specs.Tree.{Sexpr, Items, leaf, list, none, more}
use Rattle.idl_term.specs.Lowered.{is_binding, are_bindings, variable_in, variables_in, are_different, is_let}
use Rattle.idl_term.specs.code.Trees.{tree_of, trees_of, AreTrees}
use Rattle.idl_scope.proofs.NamesKept.{texts, is_among}
use Rattle.idl_scope.proofs.LocalsKept.{bytes_sym}
use Rattle.idl_term.specs.code.Heads.{AreParts}
use Rattle.idl_term.proofs.HeadShapes.{variable_by}
use Rattle.idl_term.proofs.TreesOfIds.{two_trees, tree_at, IsListOf, list_from}

abbrev pub variables : Table → List ℕ → List (List ℕ)
variables t ids = variables_in (trees_of t ids)

abbrev pub all_bind : Table → List ℕ → Bool
all_bind t ids = are_bindings (trees_of t ids)

pub variables_count : (t : Table) (ids : List ℕ) → length (variables t ids) ≡ length ids
variables_count t [] = refl
variables_count t (id ∷ ids) = ap suc (variables_count t ids)

pub variables_append : (t : Table) (xs ys : List ℕ) → variables t (xs ++ ys) ≡ variables t xs ++ variables t ys
variables_append t [] ys = refl
variables_append t (x ∷ xs) ys = ap (λ (ns : List (List ℕ)). variable_in (tree_of t x) ∷ ns) (variables_append t xs ys)

pub and_assoc : (a b c : Bool) → (a && (b && c)) ≡ ((a && b) && c)
and_assoc true b c = refl
and_assoc false b c = refl

pub bind_append : (t : Table) (xs ys : List ℕ) → all_bind t (xs ++ ys) ≡ (all_bind t xs && all_bind t ys)
bind_append t [] ys = refl
bind_append t (x ∷ xs) ys = ap (λ (b : Bool). is_binding (tree_of t x) && b) (bind_append t xs ys) ∙ and_assoc (is_binding (tree_of t x)) (all_bind t xs) (all_bind t ys)

and_false : (b : Bool) → (b && false) ≡ false
and_false true = refl
and_false false = refl

-- ---- different names

any_step : (a b c : Bool) → (a || b) ≡ false → (b ≡ false → c ≡ false) → (a || c) ≡ false
any_step true b c e h = e
any_step false b c e h = h e

any_more : (n x : List ℕ) (xs : List (List ℕ)) → list_any (bytes_eq n) xs ≡ false → bytes_eq n x ≡ false → list_any (bytes_eq n) (xs ++ x ∷ []) ≡ false
any_more n x [] e f = rw f refl
any_more n x (y ∷ xs) e f = any_step (bytes_eq n y) (list_any (bytes_eq n) xs) (list_any (bytes_eq n) (xs ++ x ∷ [])) e (λ g. any_more n x xs g f)

left_false : (a b : Bool) → (a || b) ≡ false → a ≡ false
left_false true b e = e
left_false false b e = refl

right_false : (a b : Bool) → (a || b) ≡ false → b ≡ false
right_false true b e = absurd cc
right_false false b e = e

different_step : (a c d e : Bool) → (not a && d) ≡ true → (a ≡ false → c ≡ false) → (d ≡ true → e ≡ true) → (not c && e) ≡ true
different_step true c d e h f g = absurd cc
different_step false true d e h f g = absurd (let bad : true ≡ false = f refl in cc)
different_step false false d e h f g = g h

pub different_more : (xs : List (List ℕ)) (n : List ℕ) → are_different xs ≡ true → list_any (bytes_eq n) xs ≡ false → are_different (xs ++ n ∷ []) ≡ true
different_more [] n e f = refl
different_more (x ∷ xs) n e f =
    let apart : bytes_eq x n ≡ false = bytes_sym x n ∙ left_false (bytes_eq n x) (list_any (bytes_eq n) xs) f in
    let rest : list_any (bytes_eq n) xs ≡ false = right_false (bytes_eq n x) (list_any (bytes_eq n) xs) f in
    different_step (list_any (bytes_eq x) xs) (list_any (bytes_eq x) (xs ++ n ∷ [])) (are_different xs) (are_different (xs ++ n ∷ [])) e (λ g. any_more x n xs g apart) (λ g. different_more xs n g rest)

or_true : (a b : Bool) → b ≡ true → (a || b) ≡ true
or_true true b e = refl
or_true false b e = e

any_middle : (x n : List ℕ) (xs ys : List (List ℕ)) → bytes_eq x n ≡ true → list_any (bytes_eq x) (xs ++ n ∷ ys) ≡ true
any_middle x n [] ys e = rw e refl
any_middle x n (z ∷ xs) ys e = or_true (bytes_eq x z) (list_any (bytes_eq x) (xs ++ n ∷ ys)) (any_middle x n xs ys e)

same_step : (a b c d : Bool) → (a || b) ≡ true → (a ≡ true → c ≡ true) → (b ≡ true → d ≡ false) → (not c && d) ≡ false
same_step true b c d e f g = let h : c ≡ true = f refl in rw h refl
same_step false b c d e f g = let h : d ≡ false = g e in rw h (and_false (not c))

pub different_no_more : (xs : List (List ℕ)) (n : List ℕ) (ys : List (List ℕ)) → list_any (bytes_eq n) xs ≡ true → are_different (xs ++ n ∷ ys) ≡ false
different_no_more [] n ys e = absurd cc
different_no_more (x ∷ xs) n ys e =
    same_step (bytes_eq n x) (list_any (bytes_eq n) xs) (list_any (bytes_eq x) (xs ++ n ∷ ys)) (are_different (xs ++ n ∷ ys)) e (λ h. any_middle x n xs ys (bytes_sym x n ∙ h)) (different_no_more xs n ys)

-- ---- one binding more

split_at : (ids : List ℕ) (i : ℕ) → i < length ids → ids ≡ take i ids ++ get_or ids i 0 ∷ drop (i + 1) ids
split_at ids i h =
    sym (take-append-drop (i + 1) ids)
    ∙ ap (λ (xs : List ℕ). xs ++ drop (i + 1) ids) (take_more ids i 0 h)
    ∙ append_assoc (take i ids) (get_or ids i 0 ∷ []) (drop (i + 1) ids)

-- the bindings so far are such, and their variables are the keys and differ
pub record SoFar (t : Table) (ids : List ℕ) (keys : List (List ℕ)) : Type 0 where
  pub binds : all_bind t ids ≡ true
  pub names : keys ≡ variables t ids
  pub differ : are_different (variables t ids) ≡ true

by_test : (b : Bool) (v name : List ℕ) → Some name ≡ (if b then Some v else None) → (b ≡ true) × (name ≡ v)
by_test true v name e = (refl, cc)
by_test false v name e = absurd cc

no_test : (b : Bool) (v : List ℕ) → None ≡ (if b then Some v else None) → b ≡ false
no_test true v e = absurd cc
no_test false v e = refl

pub so_far_more : (t : Table) (ids : List ℕ) (i : ℕ) (keys more_keys : List (List ℕ)) (name : List ℕ) → i < length ids → SoFar t (take i ids) keys → Some name ≡ variable_by (tree_of t (get_or ids i 0)) → list_any (bytes_eq name) keys ≡ false → more_keys ≡ keys ++ name ∷ []
    → SoFar t (take (i + 1) ids) more_keys
so_far_more t ids i keys more_keys name lt so is fresh added =
    let x = get_or ids i 0 in
    let binding = by_test (is_binding (tree_of t x)) (variable_in (tree_of t x)) name is in
    let names : variables t (take i ids ++ x ∷ []) ≡ variables t (take i ids) ++ variable_in (tree_of t x) ∷ [] = variables_append t (take i ids) (x ∷ []) in
    let absent : list_any (bytes_eq (variable_in (tree_of t x))) (variables t (take i ids)) ≡ false = subst (λ (n : List ℕ). list_any (bytes_eq n) (variables t (take i ids)) ≡ false) binding.1 (subst (λ (ks : List (List ℕ)). list_any (bytes_eq name) ks ≡ false) so.names fresh) in
    subst (λ (is : List ℕ). SoFar t is more_keys) (sym (take_more ids i 0 lt)) (
    record {
      binds = bind_append t (take i ids) (x ∷ []) ∙ rw (so.binds, binding.0) refl;
      names = added ∙ ap (λ (ks : List (List ℕ)). ks ++ name ∷ []) so.names ∙ ap (λ (n : List ℕ). variables t (take i ids) ++ n ∷ []) binding.1 ∙ sym names;
      differ = ap are_different names ∙ different_more (variables t (take i ids)) (variable_in (tree_of t x)) so.differ absent;
    }
    )

abbrev pub shaped : Table → List ℕ → Bool
shaped t ids = all_bind t ids && are_different (variables t ids)

pub not_shaped : (t : Table) (ids : List ℕ) (i : ℕ) → i < length ids → None ≡ variable_by (tree_of t (get_or ids i 0)) → shaped t ids ≡ false
not_shaped t ids i lt is =
    let x = get_or ids i 0 in
    let bad : is_binding (tree_of t x) ≡ false = no_test (is_binding (tree_of t x)) (variable_in (tree_of t x)) is in
    let all : all_bind t ids ≡ false = ap (all_bind t) (split_at ids i lt) ∙ bind_append t (take i ids) (x ∷ drop (i + 1) ids) ∙ ap (λ (b : Bool). all_bind t (take i ids) && (b && all_bind t (drop (i + 1) ids))) bad ∙ and_false (all_bind t (take i ids)) in
    rw all refl

pub not_different : (t : Table) (ids : List ℕ) (i : ℕ) (keys : List (List ℕ)) (name : List ℕ) → i < length ids → SoFar t (take i ids) keys → Some name ≡ variable_by (tree_of t (get_or ids i 0)) → list_any (bytes_eq name) keys ≡ true → shaped t ids ≡ false
not_different t ids i keys name lt so is there =
    let x = get_or ids i 0 in
    let binding = by_test (is_binding (tree_of t x)) (variable_in (tree_of t x)) name is in
    let present : list_any (bytes_eq (variable_in (tree_of t x))) (variables t (take i ids)) ≡ true = subst (λ (n : List ℕ). list_any (bytes_eq n) (variables t (take i ids)) ≡ true) binding.1 (subst (λ (ks : List (List ℕ)). list_any (bytes_eq name) ks ≡ true) so.names there) in
    let all : are_different (variables t ids) ≡ false =
    ap (λ (is : List ℕ). are_different (variables t is)) (split_at ids i lt) ∙ ap are_different (variables_append t (take i ids) (x ∷ drop (i + 1) ids)) ∙ different_no_more (variables t (take i ids)) (variable_in (tree_of t x)) (variables t (drop (i + 1) ids)) present in
    rw all (and_false (all_bind t ids))

pub among_texts : (name : List ℕ) (keys : List (Bor (List ℕ))) → list_any (bytes_eq name) (texts keys) ≡ is_among name keys
among_texts name [] = refl
among_texts name (k ∷ keys) = ap (λ (b : Bool). bytes_eq name k.now || b) (among_texts name keys)

pub not_true : (b c : Bool) → b ≡ not c → b ≡ true → c ≡ false
not_true b true e f = absurd cc
not_true b false e f = refl

pub not_false : (b c : Bool) → b ≡ not c → b ≡ false → c ≡ true
not_false b true e f = refl
not_false b false e f = absurd cc

-- ---- what is a `let`

short : (x : Sexpr) → is_let (more x none) ≡ false
unfolding is_let
short (leaf kind text) = refl
short (list none) = refl
short (list (more b bs)) = refl

long : (x y z : Sexpr) (rest : Items) → is_let (more x (more y (more z rest))) ≡ false
unfolding is_let
long (leaf kind text) y z rest = refl
long (list none) y z rest = refl
long (list (more b bs)) y z rest = refl

empty_let : is_let none ≡ false
unfolding is_let
empty_let = refl

pub let_needs_two : (t : Table) (items : List ℕ) → (length items ≡ 2 → ⊥) → is_let (trees_of t items) ≡ false
let_needs_two t [] h = empty_let
let_needs_two t (a ∷ []) h = short (tree_of t a)
let_needs_two t (a ∷ b ∷ []) h = absurd (h refl)
let_needs_two t (a ∷ b ∷ c ∷ items) h = long (tree_of t a) (tree_of t b) (tree_of t c) (trees_of t items)

let_of_two : (t : Table) (items : List ℕ) → length items ≡ 2 → is_let (trees_of t items) ≡ is_let (more (tree_of t (get_or items 0 0)) (more (tree_of t (get_or items 1 0)) none))
let_of_two t items e = ap is_let (two_trees t items e)

leaf_binds_nothing : (kind : TokenKind) (text : List ℕ) (body : Sexpr) → is_let (more (leaf kind text) (more body none)) ≡ false
unfolding is_let
leaf_binds_nothing kind text body = refl

pub let_needs_list : (t : Table) (items : List ℕ) (kind : TokenKind) (text : List ℕ) → length items ≡ 2 → tree_of t (get_or items 0 0) ≡ leaf kind text → is_let (trees_of t items) ≡ false
let_needs_list t items kind text e is = let_of_two t items e ∙ ap (λ (x : Sexpr). is_let (more x (more (tree_of t (get_or items 1 0)) none))) is ∙ leaf_binds_nothing kind text (tree_of t (get_or items 1 0))

none_bound : (body : Sexpr) → is_let (more (list none) (more body none)) ≡ false
unfolding is_let
none_bound body = refl

let_by : (t : Table) (ids : List ℕ) (body : Sexpr) → (length ids ≡ 0 → ⊥) → is_let (more (list (trees_of t ids)) (more body none)) ≡ shaped t ids
unfolding is_let
let_by t [] body h = absurd (h refl)
let_by t (id ∷ ids) body h = refl

pub let_needs_binding : (t : Table) (items ids : List ℕ) → length items ≡ 2 → tree_of t (get_or items 0 0) ≡ list (trees_of t ids) → length ids ≡ 0 → is_let (trees_of t items) ≡ false
let_needs_binding t items [] e is none_there = let_of_two t items e ∙ ap (λ (x : Sexpr). is_let (more x (more (tree_of t (get_or items 1 0)) none))) is ∙ none_bound (tree_of t (get_or items 1 0))
let_needs_binding t items (id ∷ ids) e is none_there = absurd (omega (arith, none_there))

pub let_is_shaped : (t : Table) (items ids : List ℕ) → length items ≡ 2 → tree_of t (get_or items 0 0) ≡ list (trees_of t ids) → (length ids ≡ 0 → ⊥) → is_let (trees_of t items) ≡ shaped t ids
let_is_shaped t items ids e is some = let_of_two t items e ∙ ap (λ (x : Sexpr). is_let (more x (more (tree_of t (get_or items 1 0)) none))) is ∙ let_by t ids (tree_of t (get_or items 1 0)) some

pub parts_of : (t : Table) (items ids : List ℕ) → AreTrees t items → length items ≡ 2 → IsListOf t (get_or items 0 0) ids → is_let (trees_of t items) ≡ true → AreParts t items ids (get_or items 1 0)
parts_of t items ids trees e is shape = record {
  is = shape;
  shape = two_trees t items e ∙ ap (λ (x : Sexpr). more x (more (tree_of t (get_or items 1 0)) none)) is.is;
  bindings = is.trees;
  tree = tree_at t items 1 trees (omega (arith, e));
}

pub first_list : {B : Type 0} (now : B → List ℕ) (t : Table) (items : List ℕ) (o : Option B) (s : B) → AreTrees t items → length items ≡ 2 → ((x : Sexpr) → Means t (get_or items 0 0) x → ItemsAre t x (option_map now o)) → o ≡ Some s → IsListOf t (get_or items 0 0) (now s)
first_list now t items o s trees two f e = list_from now t (get_or items 0 0) o s (tree_at t items 0 trees (omega (arith, two))) f e

pub some_there : (b : Bool) (n : ℕ) → b ≡ (n == 0) → b ≡ false → n ≡ 0 → ⊥
some_there b n e f z = let bad : (n == 0) ≡ true = grind (arith, nat_tests, z) in cc
