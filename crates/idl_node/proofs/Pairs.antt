-- `and` of what is made of each pair: the chain of neighbours, and all pairs.
use Rattle.std.proofs.Common.{refl, sym, ap, ◌∙◌, ◌≡◌, ◌<◌, ℕ, List, [], ◌∷◌, ◌++◌, length, map, Bool, true, false, ◌&&◌, Option, Some, ℤ}
use Rattle.std.specs.List.{AllByRecursion, list_all}
use Rattle.std.proofs.lemmas.List.Folds.{list_all-append, list_all-map}
use Rattle.stn_core.specs.declared.literal.Literal.{Literal}
use Rattle.stn_core.specs.Literal.{negation_of}
use Rattle.idl_node.specs.Nodes.{NodeValue, Placed}
use Rattle.idl_node.specs.Making.{equal, different, neighbours, pairs, each_pair, all_equal, all_different}
use Rattle.idl_node.specs.Meaning.{IsMade}
use Rattle.idl_node.specs.Tables.{IsTableOf}
use Rattle.idl_node.specs.Truth.{truth, equal_truth, different_truth, chain, all_pairs}
use Rattle.idl_node.proofs.Growing.{AreThere, are_there_push, made-are_there, made-keeps, made-means, made-on, IsLonger, longer-itself, longer-there, longer-keeps, longer-made, then-is}
use Rattle.idl_node.proofs.Makers.{and_true, conjoined-made, equal-made, different-made}
use Rattle.idl_node.proofs.Truths.{list_all-agree}

-- ---- lists of pairs

pub neighbours-chain : {A B : Type 0} (test : B → B → Bool) (f : A → B) (xs : List A) → list_all (λ (p : A × A). test (f p.0) (f p.1)) (neighbours xs) ≡ chain test (map f xs)
neighbours-chain test f [] = refl
neighbours-chain test f (a ∷ []) = refl
neighbours-chain test f (a ∷ b ∷ rest) = ap (λ (u : Bool). test (f a) (f b) && u) (neighbours-chain test f (b ∷ rest))

pub pairs-all_pairs : {A B : Type 0} (test : B → B → Bool) (f : A → B) (xs : List A) → list_all (λ (p : A × A). test (f p.0) (f p.1)) (pairs xs) ≡ all_pairs test (map f xs)
pairs-all_pairs test f [] = refl
pairs-all_pairs {A = A} test f (a ∷ rest) =
    let here : A × A → Bool = λ (p : A × A). test (f p.0) (f p.1) in
    list_all-append here (map (λ b. (a, b)) rest) (pairs rest)
    ∙ ap (λ (u : Bool). u && list_all here (pairs rest)) (list_all-map here (λ (b : A). (a, b)) rest ∙ sym (list_all-map (test (f a)) f rest))
    ∙ ap (λ (u : Bool). list_all (test (f a)) (map f rest) && u) (pairs-all_pairs test f rest)

module _ {A : Type 0} (P : A → Type 0) (Q : A → A → Type 0) (both : (a b : A) → P a → P b → Q a b) where
  pub neighbours-are : (xs : List A) → AllByRecursion P xs → AllByRecursion (λ (p : A × A). Q p.0 p.1) (neighbours xs)
  neighbours-are [] h = tt
  neighbours-are (a ∷ []) h = tt
  neighbours-are (a ∷ b ∷ rest) h = (both a b h.0 h.1.0, neighbours-are (b ∷ rest) h.1)

  with_each : (a : A) (xs : List A) (others : List (A × A)) → P a → AllByRecursion P xs → AllByRecursion (λ (p : A × A). Q p.0 p.1) others → AllByRecursion (λ (p : A × A). Q p.0 p.1) (map (λ b. (a, b)) xs ++ others)
  with_each a [] others h i j = j
  with_each a (b ∷ xs) others h i j = (both a b h i.0, with_each a xs others h i.1 j)

  pub pairs-are : (xs : List A) → AllByRecursion P xs → AllByRecursion (λ (p : A × A). Q p.0 p.1) (pairs xs)
  pairs-are [] h = tt
  pairs-are (a ∷ rest) h = with_each a rest (pairs rest) h.0 h.1 (pairs-are rest h.1)

-- ---- what is made of each pair

and_and : (a b c : Bool) → ((a && b) && c) ≡ (a && (b && c))
and_and true b c = refl
and_and false b c = refl

-- `make` makes a node of a pair in any table that begins with `base`, where the pair is fit, and the node says the test
module _ (Good : Literal → Type 0) (base : List NodeValue) (make : List NodeValue → ℕ → ℕ → Option Placed) (Fits : ℕ → ℕ → Type 0) (test : List ℤ → ℕ → ℕ → Bool)
    (makes : (nodes : List NodeValue) (a b : ℕ) (p : Placed) → IsLonger base nodes → IsTableOf Good nodes → Fits a b → make nodes a b ≡ Some p → IsMade Good nodes p (λ values. test values a b)) where
  pub each_pair-made : (nodes : List NodeValue) (members : List ℕ) (ps : List (ℕ × ℕ)) (q : Placed) → IsLonger base nodes → IsTableOf Good nodes → AreThere nodes members → AllByRecursion (λ (p : ℕ × ℕ). Fits p.0 p.1) ps
      → each_pair make nodes members ps ≡ Some q → IsMade Good nodes q (λ values. list_all (truth nodes values) members && list_all (λ (p : ℕ × ℕ). test values p.0 p.1) ps)
  each_pair-made nodes members [] q longer table h i e =
      made-means Good nodes q (λ values. list_all (truth nodes values) members) (conjoined-made Good nodes table members q h e) (λ values. list_all (truth nodes values) members && true)
      (λ values. sym (and_true (list_all (truth nodes values) members)))
  each_pair-made nodes members (pair ∷ rest) q longer table h i e =
      let x : List ℤ → Bool = λ values. test values pair.0 pair.1 in
      let t = then-is (make nodes pair.0 pair.1) (λ p. each_pair make p.nodes (members ++ p.number ∷ []) rest) q e in
      let p : Placed = t.middle in
      let one = makes nodes pair.0 pair.1 p longer table i.0 t.begins in
      let there = are_there_push p.nodes members p.number (made-are_there Good nodes p x one members h) one.in_range in
      let later = each_pair-made p.nodes (members ++ p.number ∷ []) rest q (longer-made base nodes longer Good p x one) one.table there i.1 t.goes_on in
      let others : List ℤ → Bool = λ values. list_all (λ (p : ℕ × ℕ). test values p.0 p.1) rest in
      let meaning : List ℤ → Bool = λ values. list_all (truth nodes values) members && (x values && others values) in
      made-on Good nodes p x one q meaning
      (made-means Good p.nodes q (λ values. list_all (truth p.nodes values) (members ++ p.number ∷ []) && others values) later meaning
      (λ values.
      ap (λ (u : Bool). u && others values)
      (list_all-append (truth p.nodes values) members (p.number ∷ [])
      ∙ ap (λ (u : Bool). u && (truth p.nodes values p.number && true)) (list_all-agree (truth p.nodes values) (truth nodes values) (length nodes) (made-keeps Good nodes p x one table values) members h)
      ∙ ap (λ (u : Bool). list_all (truth nodes values) members && u) (and_true (truth p.nodes values p.number) ∙ one.says values))
      ∙ and_and (list_all (truth nodes values) members) (x values) (others values)))

-- ---- pairs of formulas

module _ (Good : Literal → Type 0) (nodes : List NodeValue) (table : IsTableOf Good nodes) (make : List NodeValue → ℕ → ℕ → Option Placed) (test : Bool → Bool → Bool)
    (makes : (longer : List NodeValue) → IsTableOf Good longer → (a b : ℕ) → a < length longer → b < length longer → (p : Placed) → make longer a b ≡ Some p → IsMade Good longer p (λ values. test (truth longer values a) (truth longer values b))) where
  abbrev AreIn : ℕ → ℕ → Type 0
  AreIn a b = (a < length nodes) × (b < length nodes)

  one_pair : (later : List NodeValue) (a b : ℕ) (p : Placed) → IsLonger nodes later → IsTableOf Good later → AreIn a b → make later a b ≡ Some p → IsMade Good later p (λ values. test (truth nodes values a) (truth nodes values b))
  one_pair later a b p longer over h e =
      made-means Good later p (λ values. test (truth later values a) (truth later values b)) (makes later over a b (longer-there nodes later longer a h.0) (longer-there nodes later longer b h.1) p e)
      (λ values. test (truth nodes values a) (truth nodes values b))
      (λ values. ap (λ (u : Bool). test u (truth later values b)) (longer-keeps nodes later longer Good table values a h.0) ∙ ap (λ (u : Bool). test (truth nodes values a) u) (longer-keeps nodes later longer Good table values b h.1))

  pub formula_pairs-made : (ps : List (ℕ × ℕ)) (q : Placed) → AllByRecursion (λ (p : ℕ × ℕ). AreIn p.0 p.1) ps → each_pair make nodes [] ps ≡ Some q
      → IsMade Good nodes q (λ values. list_all (λ (p : ℕ × ℕ). test (truth nodes values p.0) (truth nodes values p.1)) ps)
  formula_pairs-made ps q h e = each_pair-made Good nodes make AreIn (λ values a b. test (truth nodes values a) (truth nodes values b)) one_pair nodes [] ps q (longer-itself nodes) table tt h e

module _ (Good : Literal → Type 0) (negates : (l : Literal) → Good l → Good (negation_of l)) (nodes : List NodeValue) (table : IsTableOf Good nodes) (members : List ℕ) (h : AreThere nodes members) (q : Placed) where
  pub all_equal-made : all_equal nodes members ≡ Some q → IsMade Good nodes q (λ values. chain equal_truth (map (truth nodes values) members))
  all_equal-made e =
      made-means Good nodes q (λ values. list_all (λ (p : ℕ × ℕ). equal_truth (truth nodes values p.0) (truth nodes values p.1)) (neighbours members))
      (formula_pairs-made Good nodes table equal equal_truth (equal-made Good negates) (neighbours members) q
      (neighbours-are (λ m. m < length nodes) (λ a b. (a < length nodes) × (b < length nodes)) (λ a b f g. (f, g)) members h) e)
      (λ values. chain equal_truth (map (truth nodes values) members)) (λ values. neighbours-chain equal_truth (truth nodes values) members)

  pub all_different-made : all_different nodes members ≡ Some q → IsMade Good nodes q (λ values. all_pairs different_truth (map (truth nodes values) members))
  all_different-made e =
      made-means Good nodes q (λ values. list_all (λ (p : ℕ × ℕ). different_truth (truth nodes values p.0) (truth nodes values p.1)) (pairs members))
      (formula_pairs-made Good nodes table different different_truth (different-made Good negates) (pairs members) q
      (pairs-are (λ m. m < length nodes) (λ a b. (a < length nodes) × (b < length nodes)) (λ a b f g. (f, g)) members h) e)
      (λ values. all_pairs different_truth (map (truth nodes values) members)) (λ values. pairs-all_pairs different_truth (truth nodes values) members)
