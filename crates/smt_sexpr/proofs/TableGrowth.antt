-- What an id means stays, as the table grows.
use Rattle.std.proofs.Common.{◌≡◌, ℕ, zero, suc, ◌+◌, ◌<◌, ◌≤◌, List, [], ◌∷◌, ◌++◌, length, take, drop, Some, None, refl, sym, ap, subst, ◌∙◌, arith}
use Rattle.std.specs.Prelude.{Option, slice_get, slice_range}
use Rattle.std.proofs.lemmas.List.{length-append, length-drop, take-append-le, drop-append-le, append-nil, append_assoc}
use Rattle.smt_sexpr.specs.declared.node.Node.{Node}
use Rattle.smt_sexpr.specs.Tree.{Sexpr, Items, leaf, list, none, more, leaf_text}
use Rattle.smt_lex.specs.declared.token.TokenKind.{TokenKind}
use Rattle.smt_lex.specs.declared.token.Token.{Token}
use Rattle.smt_sexpr.specs.declared.node.Node.TheVariants.{Leaf, List as ListOf}
use Rattle.smt_sexpr.specs.Printing.{IsWritable, AreWritable}
use Rattle.smt_sexpr.specs.Table.{Table, Means, MeansEach, AreBelow, Shows, Grows}

-- one more at the end
abbrev pub push : Items → Sexpr → Items
push none x = more x none
push (more y ys) x = more y (push ys x)

pub get_grows : {A : Type 0} (xs ys : List A) (i : ℕ) (x : A) → slice_get xs i ≡ Some x → slice_get (xs ++ ys) i ≡ Some x
get_grows [] ys i x e = absurd cc
get_grows (a ∷ xs) ys zero x e = e
get_grows (a ∷ xs) ys (suc i) x e = get_grows xs ys i x e

pub get_last : {A : Type 0} (xs : List A) (x : A) (ys : List A) → slice_get (xs ++ x ∷ ys) (length xs) ≡ Some x
get_last [] x ys = refl
get_last (a ∷ xs) x ys = get_last xs x ys

pub part_grows : (xs ys : List ℕ) (first count : ℕ) → first + count ≤ length xs → take count (drop first (xs ++ ys)) ≡ take count (drop first xs)
part_grows xs ys first count le =
    let enough : count ≤ length (drop first xs) = omega (arith, length-drop first xs) in
    ap (take count) (drop-append-le first xs ys (omega arith)) ∙ take-append-le count (drop first xs) ys enough

mutual
  pub means_grows : (s t : Table) (id : ℕ) (x : Sexpr) → Grows s t → Means s id x → Means t id x
  means_grows s t id (leaf kind text) g (token, at, shows) =
      (token, rw (g.nodes.1) (get_grows s.nodes g.nodes.0 id _ at), rw (g.bytes) shows)
  means_grows s t id (list xs) g (first, count, at, le, below, m) =
      let part : take count (drop first t.items) ≡ take count (drop first s.items) = ap (λ (ys : List ℕ). take count (drop first ys)) g.items.1 ∙ part_grows s.items g.items.0 first count le in (
        first,
        count,
        rw (g.nodes.1) (get_grows s.nodes g.nodes.0 id _ at),
        omega (arith, ap length g.items.1, length-append s.items g.items.0),
        subst (AreBelow id) (sym part) below,
        subst (λ (ids : List ℕ). MeansEach t ids xs) (sym part) (means_each_grows s t (take count (drop first s.items)) xs g m),
      )

  pub means_each_grows : (s t : Table) (ids : List ℕ) (xs : Items) → Grows s t → MeansEach s ids xs → MeansEach t ids xs
  means_each_grows s t [] none g m = tt
  means_each_grows s t [] (more x xs) g m = m
  means_each_grows s t (id ∷ ids) none g m = m
  means_each_grows s t (id ∷ ids) (more x xs) g m = (means_grows s t id x g m.0, means_each_grows s t ids xs g m.1)

pub grows_refl : (t : Table) → Grows t t
grows_refl t = record { bytes = refl; nodes = ([], sym (append-nil t.nodes)); items = ([], sym (append-nil t.items)) }

pub grows_trans : (s t u : Table) → Grows s t → Grows t u → Grows s u
grows_trans s t u g h = record {
  bytes = h.bytes ∙ g.bytes;
  nodes = (g.nodes.0 ++ h.nodes.0, h.nodes.1 ∙ ap (λ (xs : List Node). xs ++ h.nodes.0) g.nodes.1 ∙ append_assoc s.nodes g.nodes.0 h.nodes.0);
  items = (g.items.0 ++ h.items.0, h.items.1 ∙ ap (λ (xs : List ℕ). xs ++ h.items.0) g.items.1 ∙ append_assoc s.items g.items.0 h.items.0);
}

pub means_each_push : (t : Table) (ids : List ℕ) (xs : Items) (id : ℕ) (x : Sexpr) → MeansEach t ids xs → Means t id x → MeansEach t (ids ++ id ∷ []) (push xs x)
means_each_push t [] none id x m h = (h, tt)
means_each_push t [] (more y ys) id x m h = absurd m
means_each_push t (i ∷ ids) none id x m h = absurd m
means_each_push t (i ∷ ids) (more y ys) id x m h = (m.0, means_each_push t ids ys id x m.1 h)

pub get_none : {A : Type 0} (xs : List A) → slice_get xs 0 ≡ None → xs ≡ []
get_none [] e = refl
get_none (x ∷ xs) e = absurd cc

pub get_some : {A : Type 0} (xs : List A) (x : A) → slice_get xs 0 ≡ Some x → xs ≡ x ∷ drop 1 xs
get_some [] x e = absurd cc
get_some (y ∷ xs) x e = let h : y ≡ x = cc in ap (λ (z : _). z ∷ xs) h

-- ---- ids and what they mean

get_within : {A : Type 0} (xs : List A) (i : ℕ) (x : A) → slice_get xs i ≡ Some x → i < length xs
get_within [] i x e = absurd cc
get_within (a ∷ xs) zero x e = omega arith
get_within (a ∷ xs) (suc i) x e = let h = get_within xs i x e in omega arith

pub means_within : (t : Table) (id : ℕ) (x : Sexpr) → Means t id x → id < length t.nodes
means_within t id (leaf kind text) (token, at, shows) = get_within t.nodes id _ at
means_within t id (list xs) (first, count, at, le, below, m) = get_within t.nodes id _ at

pub each_below : (t : Table) (ids : List ℕ) (xs : Items) → MeansEach t ids xs → AreBelow (length t.nodes) ids
each_below t [] none m = tt
each_below t [] (more x xs) m = absurd m
each_below t (id ∷ ids) none m = absurd m
each_below t (id ∷ ids) (more x xs) m = (means_within t id x m.0, each_below t ids xs m.1)

same_token : (a b : Token) (x : Option Node) → x ≡ Some (Leaf a) → x ≡ Some (Leaf b) → a ≡ b
same_token a b x p q = cc

same_first : (a b c d : ℕ) (x : Option Node) → x ≡ Some (ListOf a b) → x ≡ Some (ListOf c d) → a ≡ c
same_first a b c d x p q = cc

same_count : (a b c d : ℕ) (x : Option Node) → x ≡ Some (ListOf a b) → x ≡ Some (ListOf c d) → b ≡ d
same_count a b c d x p q = cc

apart : (token : Token) (first count : ℕ) (x : Option Node) → x ≡ Some (Leaf token) → x ≡ Some (ListOf first count) → ⊥
apart token first count x p q = cc

leaf_is : (token : Token) (bytes : List ℕ) (kind other : TokenKind) (a b : List ℕ) → Shows bytes token kind a → Shows bytes token other b → leaf kind a ≡ leaf other b
leaf_is token bytes kind other a b s u =
    let k : kind ≡ other = sym s.same_kind ∙ u.same_kind in
    let text : a ≡ b = sym s.same_text ∙ ap (λ (x : TokenKind). leaf_text x (slice_range bytes token.start token.end)) k ∙ u.same_text in
    cc

more_is : (x y : Sexpr) (xs ys : Items) → x ≡ y → xs ≡ ys → more x xs ≡ more y ys
more_is x y xs ys p q = cc

mutual
  pub means_one : (t : Table) (id : ℕ) (x y : Sexpr) → Means t id x → Means t id y → x ≡ y
  means_one t id (leaf kind a) (leaf other b) (token, at, shows) (token', at', shows') =
      leaf_is token t.bytes kind other a b shows (subst (λ (u : Token). Shows t.bytes u other b) (same_token token' token (slice_get t.nodes id) at' at) shows')
  means_one t id (leaf kind a) (list ys) (token, at, shows) (first, count, at', le, below, m) = absurd (apart token first count (slice_get t.nodes id) at at')
  means_one t id (list xs) (leaf other b) (first, count, at', le, below, m) (token, at, shows) = absurd (apart token first count (slice_get t.nodes id) at at')
  means_one t id (list xs) (list ys) (first, count, at, le, below, m) (first', count', at', le', below', m') =
      let f = same_first first' count' first count (slice_get t.nodes id) at' at in
      let c = same_count first' count' first count (slice_get t.nodes id) at' at in
      let there : MeansEach t (take count (drop first t.items)) ys = subst (λ (n : ℕ). MeansEach t (take n (drop first t.items)) ys) c (subst (λ (n : ℕ). MeansEach t (take count' (drop n t.items)) ys) f m') in
      ap list (means_each_one t (take count (drop first t.items)) xs ys m there)

  means_each_one : (t : Table) (ids : List ℕ) (xs ys : Items) → MeansEach t ids xs → MeansEach t ids ys → xs ≡ ys
  means_each_one t [] none none m n = refl
  means_each_one t [] none (more y ys) m n = absurd n
  means_each_one t [] (more x xs) ys m n = absurd m
  means_each_one t (id ∷ ids) none ys m n = absurd m
  means_each_one t (id ∷ ids) (more x xs) none m n = absurd n
  means_each_one t (id ∷ ids) (more x xs) (more y ys) m n = more_is x y xs ys (means_one t id x y m.0 n.0) (means_each_one t ids xs ys m.1 n.1)

mutual
  pub means_writable : (t : Table) (id : ℕ) (x : Sexpr) → Means t id x → IsWritable x
  means_writable t id (leaf kind text) (token, at, shows) = shows.fits
  means_writable t id (list xs) (first, count, at, le, below, m) = means_each_writable t (take count (drop first t.items)) xs m

  means_each_writable : (t : Table) (ids : List ℕ) (xs : Items) → MeansEach t ids xs → AreWritable xs
  means_each_writable t [] none m = tt
  means_each_writable t [] (more x xs) m = absurd m
  means_each_writable t (id ∷ ids) none m = absurd m
  means_each_writable t (id ∷ ids) (more x xs) m = (means_writable t id x m.0, means_each_writable t ids xs m.1)
