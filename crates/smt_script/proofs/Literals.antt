-- What assumptions are, one after the other.
use Rattle.std.proofs.Common.{refl, sym, ap, ◌∙◌, ◌≡◌, ◌<◌, ◌≤◌, ◌+◌, ◌++◌, ◌&&◌, ℕ, List, [], ◌∷◌, length, drop, get_or, codes, Bool, true, false, Option, Some, None}
use Rattle.std.specs.Prelude.{option_map}
use Rattle.std.specs.Str.{bytes_eq}
use Rattle.smt_lex.specs.declared.token.TokenKind.TheVariants.{Symbol}
use Rattle.smt_sexpr.specs.Tree.{Sexpr, Items, leaf, list, none, more, symbol_of}
use Rattle.smt_sexpr.specs.Table.{Table, Means, MeansEach}
use Rattle.smt_sexpr.specs.Shapes.{symbol, form, items_of, headed_of}
use Rattle.smt_sexpr.proofs.Shapes.{next_of, none_of}
use Rattle.idl_scope.proofs.LocalsKept.{same_bytes}
use Rattle.smt_script.specs.Commands.{is_literal, are_literals}

symbol_is : (x : Sexpr) (name : List ℕ) → symbol_of x ≡ Some name → x ≡ leaf Symbol name
symbol_is (leaf Symbol text) name e = ap (leaf Symbol) (let same : text ≡ name = cc in same)
symbol_is _ name e = absurd cc

headed_by : (h : Sexpr) (ys : Items) (head : List ℕ) (xs : Items) (o : Option (List ℕ)) → symbol_of h ≡ o → option_map {U = List ℕ × Items} (λ (name : List ℕ). (name, ys)) o ≡ Some (head, xs) → list (more h ys) ≡ list (more (leaf Symbol head) xs)
headed_by h ys head xs None e f = absurd cc
headed_by h ys head xs (Some name) e f =
    let both : ◌≡◌ {A = List ℕ × Items} (name, ys) (head, xs) = cc in
    let one : name ≡ head = ap (λ (p : List ℕ × Items). p.0) both in
    let two : ys ≡ xs = ap (λ (p : List ℕ × Items). p.1) both in
    ap (λ (s : Sexpr). list (more s ys)) (symbol_is h name e ∙ ap (leaf Symbol) one) ∙ ap (λ (zs : Items). list (more (leaf Symbol head) zs)) two

headed_is : (x : Sexpr) (head : List ℕ) (xs : Items) → headed_of x ≡ Some (head, xs) → x ≡ list (more (leaf Symbol head) xs)
headed_is (list (more h ys)) head xs e = headed_by h ys head xs (symbol_of h) refl e
headed_is _ head xs e = absurd cc

-- a symbol behind a `not`
pub negated_is : (x s : Sexpr) (head name : List ℕ) (xs : Items) → headed_of x ≡ Some (head, xs) → xs ≡ more s none → bytes_eq head (codes "not") ≡ true → symbol_of s ≡ Some name
    → (is_literal x ≡ true) × (form (codes "not") (symbol name ∷ []) ≡ x)
negated_is x s head name xs e one is named =
    let not_ : head ≡ codes "not" = same_bytes head (codes "not") is in
    let whole : x ≡ form (codes "not") (symbol name ∷ []) =
    headed_is x head xs e ∙ ap (λ (ys : Items). list (more (leaf Symbol head) ys)) (one ∙ ap (λ (y : Sexpr). more y none) (symbol_is s name named))
    ∙ ap (λ (h : List ℕ). list (more (leaf Symbol h) (more (leaf Symbol name) none))) not_ in
    (ap is_literal whole, sym whole)

and_left : (a b : Bool) → (a && b) ≡ true → (a ≡ true) × (b ≡ true)
and_left true b e = (refl, e)
and_left false b e = absurd cc

-- ---- one after the other

module _ (t : Table) (ids : List ℕ) where
  -- the first i are literals: all are where the others are
  abbrev pub AreLiteralsTo : ℕ → Type 0
  AreLiteralsTo i = (xs : Items) → MeansEach t ids xs → (rest : Items) × MeansEach t (drop i ids) rest × (are_literals xs ≡ are_literals rest)

  pub literals_none : AreLiteralsTo 0
  literals_none xs h = (xs, h, refl)

  module _ (i : ℕ) (within : i < length ids) where
    pub literals_more : AreLiteralsTo i → ((x : Sexpr) → Means t (get_or ids i 0) x → is_literal x ≡ true) → AreLiteralsTo (i + 1)
    literals_more h literal xs means =
        let so_far = h xs means in
        let n = next_of t ids i so_far.0 within so_far.1 in
        (n.others, n.means, so_far.2 ∙ ap are_literals n.is ∙ ap (λ (b : Bool). b && are_literals n.others) (literal n.first n.first_means))

    pub literals_not : AreLiteralsTo i → ((x : Sexpr) → Means t (get_or ids i 0) x → is_literal x ≡ false) → (xs : Items) → MeansEach t ids xs → false ≡ are_literals xs
    literals_not h other xs means =
        let so_far = h xs means in
        let n = next_of t ids i so_far.0 within so_far.1 in
        sym (so_far.2 ∙ ap are_literals n.is ∙ ap (λ (b : Bool). b && are_literals n.others) (other n.first n.first_means))

  pub literals_all : (i : ℕ) → length ids ≤ i → AreLiteralsTo i → drop i ids ≡ [] → (xs : Items) → MeansEach t ids xs → true ≡ are_literals xs
  literals_all i all h end xs means =
      let so_far = h xs means in
      let empty : so_far.0 ≡ none = none_of t ids i so_far.0 end so_far.1 in
      sym (so_far.2 ∙ ap are_literals empty)

-- these stand in front of the others
abbrev pub in_front : List Sexpr → Items → Items
in_front [] rest = rest
in_front (x ∷ xs) rest = more x (in_front xs rest)

in_front_added : (read : List Sexpr) (x : Sexpr) (rest : Items) → in_front (read ++ x ∷ []) rest ≡ in_front read (more x rest)
in_front_added [] x rest = refl
in_front_added (y ∷ read) x rest = ap (more y) (in_front_added read x rest)

in_front_none : (read : List Sexpr) → in_front read none ≡ items_of read
in_front_none [] = refl
in_front_none (y ∷ read) = ap (more y) (in_front_none read)

module _ (t : Table) (ids : List ℕ) where
  -- the first i are read
  abbrev pub AreReadTo : List Sexpr → ℕ → Type 0
  AreReadTo read i = (xs : Items) → MeansEach t ids xs → are_literals xs ≡ true → (rest : Items) × MeansEach t (drop i ids) rest × (are_literals rest ≡ true) × (in_front read rest ≡ xs)

  pub read_none : AreReadTo [] 0
  read_none xs h all = (xs, h, all, refl)

  module _ (read : List Sexpr) (i : ℕ) (h : AreReadTo read i) where
    -- the next one is a literal
    pub next_literal : i < length ids → (xs : Items) → MeansEach t ids xs → are_literals xs ≡ true → (x : Sexpr) × Means t (get_or ids i 0) x × (is_literal x ≡ true)
    next_literal within xs means all =
        let so_far = h xs means all in
        let n = next_of t ids i so_far.0 within so_far.1 in
        let both = and_left (is_literal n.first) (are_literals n.others) (sym (ap are_literals n.is) ∙ so_far.2) in
        (n.first, n.first_means, both.0)

    pub read_more : i < length ids → (literal : Sexpr) → ((x : Sexpr) → Means t (get_or ids i 0) x → literal ≡ x) → AreReadTo (read ++ literal ∷ []) (i + 1)
    read_more within literal shown xs means all =
        let so_far = h xs means all in
        let n = next_of t ids i so_far.0 within so_far.1 in
        let both = and_left (is_literal n.first) (are_literals n.others) (sym (ap are_literals n.is) ∙ so_far.2) in
        (n.others, n.means, both.1, in_front_added read literal n.others ∙ ap (λ (x : Sexpr). in_front read (more x n.others)) (shown n.first n.first_means) ∙ ap (in_front read) (sym n.is) ∙ so_far.3)

    pub read_all : drop i ids ≡ [] → (xs : Items) → MeansEach t ids xs → are_literals xs ≡ true → items_of read ≡ xs
    read_all end xs means all =
        let so_far = h xs means all in
        let empty : so_far.0 ≡ none = none_of t ids i so_far.0 end so_far.1 in
        sym (in_front_none read) ∙ ap (in_front read) (sym empty) ∙ so_far.3
