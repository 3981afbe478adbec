-- What is kept behind the assumptions of a check-sat-assuming.
use Rattle.std.proofs.Common.{refl, sym, ap, subst, ◌∙◌, arith, ◌≡◌, ◌+◌, ◌-◌, ◌++◌, ℕ, zero, suc, List, [], ◌∷◌, length, take, map, replicate, Option, Some, None, Ok}
use Rattle.std.proofs.lemmas.List.{length-append, length-map, length-replicate, take_all}
use Rattle.idl_node.specs.Nodes.{NodeValue}
use Rattle.smt_sexpr.specs.Tree.{Sexpr, Items, none, more}
use Rattle.smt_sexpr.specs.Table.{Table, MeansEach}
use Rattle.smt_sexpr.specs.Shapes.{items_of}
use Rattle.smt_script.specs.States.{State, Assumed, count_of, with_assumptions, assuming_by, after_assuming}
use Rattle.smt_script.specs.code.Kept.{Kept, IsKept, Ascend, IsNoLess, amount_of, amount_without, IsAssumed, StandsFor, sexpr_of}
use Rattle.smt_script.specs.code.Shapes.{Agrees, IsAsked, AreAssumed, shown_literal, literal_pair}
use Rattle.smt_script.specs.declared.assumption.AssumedLiteral.{AssumedLiteral}
use Rattle.smt_script.specs.declared.state.Active.{Active}
use Rattle.smt_script.specs.declared.state.Effect.TheVariants.{Ask}
use Rattle.smt_script.specs.declared.state.Question.TheVariants.{CheckSat}
use Rattle.smt_script.specs.declared.state.Level.{Level}
use Rattle.smt_script.specs.declared.state.Mode.TheVariants as mode
use Rattle.smt_script.proofs.Levels.{IsFront, take_own, ascend_grown, amount_grown, levels_grown}

pub count_is : (t : Table) (ids : List ℕ) (ts : Items) → MeansEach t ids ts → length ids ≡ count_of ts
count_is t [] none h = refl
count_is t [] (more x xs) h = absurd h
count_is t (id ∷ ids) none h = absurd h
count_is t (id ∷ ids) (more x xs) h = let r = count_is t ids xs h.1 in omega arith

pairs_shown : (ls : List AssumedLiteral) → map sexpr_of (map literal_pair ls) ≡ map shown_literal ls
pairs_shown [] = refl
pairs_shown (l ∷ ls) = ap (λ (xs : List Sexpr). shown_literal l ∷ xs) (pairs_shown ls)

none_mapped : {A B : Type 0} (f : A → B) (empty : A) (labels : List A) (n : ℕ) → map f (labels ++ replicate n empty) ≡ map f labels ++ replicate n (f empty)
none_mapped f empty [] zero = refl
none_mapped {B = B} f empty [] (suc n) = ap (λ (xs : List B). f empty ∷ xs) (none_mapped f empty [] n)
none_mapped {B = B} f empty (l ∷ labels) n = ap (λ (xs : List B). f l ∷ xs) (none_mapped f empty labels n)

-- so many names more, where none is there
pub labels_are : {A B : Type 0} (f : A → B) (empty : A) (labels items : List A) (count n m : ℕ) → m ≡ length labels → items ≡ take count labels ++ replicate (count - m) empty → count ≡ length labels + n
    → map f items ≡ map f labels ++ replicate n (f empty)
labels_are {A = A} {B = B} f empty labels items count n m long is sum =
    let all : take count labels ≡ labels = take_all count labels (omega (arith, sum)) in
    let left : count - m ≡ n = omega (arith, long, sum) in
    ap (λ (xs : List A). map f xs) (is ∙ ap (λ (xs : List A). xs ++ replicate (count - m) empty) all ∙ ap (λ (k : ℕ). labels ++ replicate k empty) left) ∙ none_mapped f empty labels n

pub sum_is : {A B : Type 0} (f : A → B) (labels : List A) (count n k m : ℕ) → length (map f labels) ≡ m → k ≡ m → count ≡ k + n → count ≡ length labels + n
sum_is f labels count n k m same is sum =
    let long = length-map labels f in
    omega (arith, same, is, sum, long)

module _ (v : Kept) (sound : IsKept v) (count : ℕ) (nodes : List NodeValue) (roots : List ℕ) (ls : List AssumedLiteral) (n : Active)
    (table : take (length v.nodes) nodes ≡ v.nodes) (front : take (length v.roots) roots ≡ v.roots) (nodes_count : n.nodes ≡ length v.nodes) (roots_count : n.roots ≡ length v.roots) where
  abbrev pub behind : Kept
  behind = record v { nodes = nodes; roots = roots; labels = v.labels ++ replicate count None; mode = mode.Nothing; literals = map literal_pair ls; assumed = Some n }

  is_front : IsFront v behind
  is_front = record { names = take_own v.scope.declared; defined = take_own v.scope.bound; nodes = table; roots = front }

  amount_same : amount_without behind n ≡ amount_of v
  amount_same =
      ap (λ (k : ℕ). record { names = length v.scope.declared; defined = length v.scope.bound; nodes = k; roots = n.roots }) nodes_count
      ∙ ap (λ (k : ℕ). record { names = length v.scope.declared; defined = length v.scope.bound; nodes = length v.nodes; roots = k }) roots_count

  pub behind_kept : length roots ≡ length v.roots + count → IsKept behind
  behind_kept grown =
      let less = amount_grown v behind is_front in
      record {
        few = sound.few;
        labelled = length-append v.labels (replicate count None) ∙ ap (λ (k : ℕ). length v.labels + k) (length-replicate count None) ∙ ap (λ (k : ℕ). k + count) sound.labelled ∙ sym grown;
        ascend = ascend_grown v.levels (amount_of v) (amount_of behind) sound.ascend less;
        without = (subst (λ (l : Level). Ascend (v.levels ++ l ∷ [])) (sym amount_same) sound.ascend, subst (λ (l : Level). IsNoLess l (amount_of behind)) (sym amount_same) less);
      }

  module _ (s : State) (h : StandsFor v s) (ts : Items) (counted : count ≡ count_of ts) (asked : AreAssumed v.scope nodes roots (with_assumptions s.context ts) (Ok tt)) (literals : items_of (map shown_literal ls) ≡ ts) where
    pub behind_stands : Agrees (after_assuming s ts) behind (Ok (Ask CheckSat))
    behind_stands =
        let assumed : Assumed = record { literals = ts; active = s.context; asked = asked.0 } in
        let is : IsAssumed behind n assumed = record {
          literals = ap items_of (pairs_shown ls) ∙ literals;
          scope = h.scope;
          nodes = sym h.nodes ∙ sym table ∙ ap (λ (k : ℕ). take k nodes) (sym nodes_count);
          roots = sym h.roots ∙ sym front ∙ ap (λ (k : ℕ). take k roots) (sym roots_count);
        } in (
          record s { context = asked.0; labels = s.labels ++ replicate (count_of ts) None; mode = mode.Nothing; assumed = Some assumed },
          ap (assuming_by s ts) asked.1,
          record {
            scope = sym asked.2.scope_is;
            nodes = sym asked.2.nodes_are;
            roots = sym asked.2.roots_are;
            labels = ap (λ (labels : List (Option (List ℕ))). labels ++ replicate count None) h.labels ∙ ap (λ (k : ℕ). s.labels ++ replicate k None) counted;
            levels = levels_grown v behind v.levels s.below is_front h.levels;
            ascend = h.ascend;
            mode = refl;
            assumed = is;
            print_success = h.print_success;
          },
        )

module _ (v : Kept) (s : State) (h : StandsFor v s) where
  pub asked_same : IsAsked v.scope v.nodes v.roots s.context
  asked_same = record { scope_is = sym h.scope; nodes_are = sym h.nodes; roots_are = sym h.roots }
