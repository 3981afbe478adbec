-- What the ids of some items say of the items.
use Rattle.std.proofs.Common.{refl, sym, subst, ap, ◌∙◌, arith, ◌≡◌, ◌<◌, ◌≤◌, ◌+◌, ◌-◌, ℕ, List, [], ◌∷◌, length, take, drop, get_or, Option, Some, None}
use Rattle.std.specs.Prelude.{option_map}
use Rattle.std.proofs.lemmas.List.{take_all, drop_more}
use Rattle.smt_sexpr.specs.Tree.{Sexpr, Items, leaf, list, none, more, symbol_of}
use Rattle.smt_sexpr.specs.Shapes.{headed_of}
use Rattle.smt_sexpr.specs.Table.{Table, Means, MeansEach, ItemsAre}

-- one item
pub record IsOne (t : Table) (ids : List ℕ) (xs : Items) : Type 0 where
  pub first : Sexpr
  pub is : xs ≡ more first none
  pub first_means : Means t (get_or ids 0 0) first

pub one_of : (t : Table) (ids : List ℕ) (xs : Items) → MeansEach t ids xs → 1 ≤ length ids → length ids < 2 → IsOne t ids xs
one_of t [] xs h low high = absurd (omega arith)
one_of t (a ∷ []) none h low high = absurd h
one_of t (a ∷ []) (more x none) h low high = record { first = x; is = refl; first_means = h.0 }
one_of t (a ∷ []) (more x (more y ys)) h low high = absurd h.1
one_of t (a ∷ b ∷ ids) xs h low high = absurd (omega arith)

-- two items
pub record IsTwo (t : Table) (ids : List ℕ) (xs : Items) : Type 0 where
  pub first : Sexpr
  pub second : Sexpr
  pub is : xs ≡ more first (more second none)
  pub first_means : Means t (get_or ids 0 0) first
  pub second_means : Means t (get_or ids 1 0) second

pub two_of : (t : Table) (ids : List ℕ) (xs : Items) → MeansEach t ids xs → 2 ≤ length ids → length ids < 3 → IsTwo t ids xs
two_of t [] xs h low high = absurd (omega arith)
two_of t (a ∷ []) xs h low high = absurd (omega arith)
two_of t (a ∷ b ∷ []) none h low high = absurd h
two_of t (a ∷ b ∷ []) (more x none) h low high = absurd h.1
two_of t (a ∷ b ∷ []) (more x (more y none)) h low high = record { first = x; second = y; is = refl; first_means = h.0; second_means = h.1.0 }
two_of t (a ∷ b ∷ []) (more x (more y (more z zs))) h low high = absurd h.1.1
two_of t (a ∷ b ∷ c ∷ ids) xs h low high = absurd (omega arith)

-- three items
pub record IsThree (t : Table) (ids : List ℕ) (xs : Items) : Type 0 where
  pub first : Sexpr
  pub second : Sexpr
  pub third : Sexpr
  pub is : xs ≡ more first (more second (more third none))
  pub first_means : Means t (get_or ids 0 0) first
  pub second_means : Means t (get_or ids 1 0) second
  pub third_means : Means t (get_or ids 2 0) third

pub three_of : (t : Table) (ids : List ℕ) (xs : Items) → MeansEach t ids xs → 3 ≤ length ids → length ids < 4 → IsThree t ids xs
three_of t [] xs h low high = absurd (omega arith)
three_of t (a ∷ []) xs h low high = absurd (omega arith)
three_of t (a ∷ b ∷ []) xs h low high = absurd (omega arith)
three_of t (a ∷ b ∷ c ∷ []) none h low high = absurd h
three_of t (a ∷ b ∷ c ∷ []) (more x none) h low high = absurd h.1
three_of t (a ∷ b ∷ c ∷ []) (more x (more y none)) h low high = absurd h.1.1
three_of t (a ∷ b ∷ c ∷ []) (more x (more y (more z none))) h low high = record { first = x; second = y; third = z; is = refl; first_means = h.0; second_means = h.1.0; third_means = h.1.1.0 }
three_of t (a ∷ b ∷ c ∷ []) (more x (more y (more z (more w ws)))) h low high = absurd h.1.1.1
three_of t (a ∷ b ∷ c ∷ d ∷ ids) xs h low high = absurd (omega arith)

-- four items
pub record IsFour (t : Table) (ids : List ℕ) (xs : Items) : Type 0 where
  pub first : Sexpr
  pub second : Sexpr
  pub third : Sexpr
  pub fourth : Sexpr
  pub is : xs ≡ more first (more second (more third (more fourth none)))
  pub first_means : Means t (get_or ids 0 0) first
  pub second_means : Means t (get_or ids 1 0) second
  pub third_means : Means t (get_or ids 2 0) third
  pub fourth_means : Means t (get_or ids 3 0) fourth

four_by : (t : Table) (a b c d : ℕ) (xs : Items) → MeansEach t (a ∷ b ∷ c ∷ d ∷ []) xs → IsFour t (a ∷ b ∷ c ∷ d ∷ []) xs
four_by t a b c d none h = absurd h
four_by t a b c d (more x none) h = absurd h.1
four_by t a b c d (more x (more y none)) h = absurd h.1.1
four_by t a b c d (more x (more y (more z none))) h = absurd h.1.1.1
four_by t a b c d (more x (more y (more z (more w none)))) h = record { first = x; second = y; third = z; fourth = w; is = refl; first_means = h.0; second_means = h.1.0; third_means = h.1.1.0; fourth_means = h.1.1.1.0 }
four_by t a b c d (more x (more y (more z (more w (more v vs))))) h = absurd h.1.1.1.1

pub four_of : (t : Table) (ids : List ℕ) (xs : Items) → MeansEach t ids xs → 4 ≤ length ids → length ids < 5 → IsFour t ids xs
four_of t [] xs h low high = absurd (omega arith)
four_of t (a ∷ []) xs h low high = absurd (omega arith)
four_of t (a ∷ b ∷ []) xs h low high = absurd (omega arith)
four_of t (a ∷ b ∷ c ∷ []) xs h low high = absurd (omega arith)
four_of t (a ∷ b ∷ c ∷ d ∷ []) xs h low high = four_by t a b c d xs h
four_of t (a ∷ b ∷ c ∷ d ∷ e ∷ ids) xs h low high = absurd (omega arith)

-- one item, and others
pub record IsBegun (t : Table) (ids : List ℕ) (xs : Items) : Type 0 where
  pub first : Sexpr
  pub others : Items
  pub is : xs ≡ more first others
  pub first_means : Means t (get_or ids 0 0) first
  pub means : MeansEach t (take (length ids - 1) (drop 1 ids)) others

pub begun : (t : Table) (ids : List ℕ) (xs : Items) → MeansEach t ids xs → 1 ≤ length ids → IsBegun t ids xs
begun t [] xs h low = absurd (omega arith)
begun t (id ∷ ids) none h low = absurd h
begun t (id ∷ ids) (more x xs) h low = record { first = x; others = xs; is = refl; first_means = h.0; means = subst (λ (rest : List ℕ). MeansEach t rest xs) (sym (take_all (length (id ∷ ids) - 1) ids (omega arith))) h.1 }

-- the item at a place, and those behind it
pub record IsNext (t : Table) (ids : List ℕ) (i : ℕ) (rest : Items) : Type 0 where
  pub first : Sexpr
  pub others : Items
  pub is : rest ≡ more first others
  pub first_means : Means t (get_or ids i 0) first
  pub means : MeansEach t (drop (i + 1) ids) others

next_by : (t : Table) (ids : List ℕ) (i : ℕ) (rest : Items) → MeansEach t (get_or ids i 0 ∷ drop (i + 1) ids) rest → IsNext t ids i rest
next_by t ids i none h = absurd h
next_by t ids i (more x xs) h = record { first = x; others = xs; is = refl; first_means = h.0; means = h.1 }

pub next_of : (t : Table) (ids : List ℕ) (i : ℕ) (rest : Items) → i < length ids → MeansEach t (drop i ids) rest → IsNext t ids i rest
next_of t ids i rest lt h = next_by t ids i rest (subst (λ (ks : List ℕ). MeansEach t ks rest) (drop_more ids i 0 lt) h)

none_by : (t : Table) (ids : List ℕ) (rest : Items) → ids ≡ [] → MeansEach t ids rest → rest ≡ none
none_by t [] none e h = refl
none_by t [] (more x xs) e h = absurd h
none_by t (id ∷ ids) rest e h = absurd cc

pub none_of : (t : Table) (ids : List ℕ) (i : ℕ) (rest : Items) → drop i ids ≡ [] → MeansEach t (drop i ids) rest → rest ≡ none
none_of t ids i rest e h = none_by t (drop i ids) rest e h

-- ---- lists

-- a list of these items
pub record IsListOf (t : Table) (x : Sexpr) (ids : List ℕ) : Type 0 where
  pub items : Items
  pub is : x ≡ list items
  pub means : MeansEach t ids items

pub listed : (t : Table) (x : Sexpr) (ids : List ℕ) → ItemsAre t x (Some ids) → IsListOf t x ids
listed t (leaf kind text) ids h = absurd h
listed t (list xs) ids h = record { items = xs; is = refl; means = h }

-- ---- lists that begin with a symbol

-- the parts of such a list
pub record IsHeaded (x : Sexpr) (text : List ℕ) (rest : Items) : Type 0 where
  pub head : Sexpr
  pub is : x ≡ list (more head rest)
  pub symbol : symbol_of head ≡ Some text

pair_same : (p q : List ℕ × Items) → ◌≡◌ {A = Option (List ℕ × Items)} (Some p) (Some q) → p ≡ q
pair_same p q e = cc

headed_by : (head : Sexpr) (rest xs : Items) (name : Option (List ℕ)) (text : List ℕ)
    → symbol_of head ≡ name → option_map {U = List ℕ × Items} (λ (n : List ℕ). (n, rest)) name ≡ Some (text, xs) → IsHeaded (list (more head rest)) text xs
headed_by head rest xs None text e h = absurd cc
headed_by head rest xs (Some n) text e h =
    let same = pair_same (n, rest) (text, xs) h in
    record {
      head = head;
      is = ap (λ (p : List ℕ × Items). list (more head p.1)) same;
      symbol = e ∙ ap (λ (p : List ℕ × Items). Some p.0) same;
    }
