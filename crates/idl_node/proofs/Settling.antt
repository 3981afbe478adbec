-- What is made once is found again in each longer table.
use Rattle.std.proofs.Common.{refl, sym, ap, subst, arith, ◌∙◌, ◌≡◌, ◌<◌, ◌+◌, ℕ, List, [], ◌∷◌, ◌++◌, length, drop, get_or, Bool, true, false, Option, Some, None}
use Rattle.std.specs.Prelude.{cond, nat_lt, slice_get, if◌then◌else◌}
use Rattle.std.specs.List.{position_from}
use Rattle.std.proofs.Math.ListN.{get_or-append}
use Rattle.std.proofs.Math.Seq.{take-append_seam}
use Rattle.std.proofs.lemmas.Bool.Decides.{nat_tests}
use Rattle.std.proofs.lemmas.Iterator.Adapters.{position_from-zero}
use Rattle.std.proofs.lemmas.List.{length-append, take-append-drop}
use Rattle.std.proofs.lemmas.Option.{slice_get-get_or}
use Rattle.std.proofs.lemmas.Slice.Eq.{bytes_eq-Decides}
use Rattle.stn_core.specs.Literal.{negation_of}
use Rattle.stn_core.proofs.SameLiteral.{same_literal_decides}
use Rattle.idl_node.specs.Limits.{nodes_limit}
use Rattle.idl_node.specs.Making.{then, there, denied, denied_by, conjoined, disjoined, and_not, not_and, different}
use Rattle.idl_node.specs.Nodes.{NodeValue, always, atom, denial, conjunction, disjunction, same_node, number_in, Placed, placed, placed_by}
use Rattle.idl_node.specs.code.Repeats.{IsFront, IsSettled}
use Rattle.idl_node.proofs.Growing.{then-is}
use Rattle.idl_node.proofs.Steps.{take_whole, front_on, front_within}

-- ---- tables that begin with one

pub front_is : (nodes later : List NodeValue) → IsFront nodes later → later ≡ nodes ++ drop (length nodes) later
front_is nodes later f = sym (take-append-drop (length nodes) later) ∙ ap (λ (ns : List NodeValue). ns ++ drop (length nodes) later) f

get_or_front : (nodes added later : List NodeValue) (k : ℕ) → later ≡ nodes ++ added → k < length nodes → slice_get later k ≡ slice_get nodes k
get_or_front nodes added later k e h =
    let within : k < length later = omega (arith, h, ap length e, length-append nodes added) in
    slice_get-get_or later k always within
    ∙ ap (λ (ns : List NodeValue). Some (get_or ns k always)) e
    ∙ ap Some (get_or-append nodes added always k h)
    ∙ sym (slice_get-get_or nodes k always h)

-- ---- a node that is looked for

same_itself : (node : NodeValue) → same_node node node ≡ true
same_itself always = refl
same_itself (atom l) = (same_literal_decides l l).1 refl
same_itself (denial k) = grind (arith, nat_tests)
same_itself (conjunction ms) = (bytes_eq-Decides ms ms).1 refl
same_itself (disjunction ms) = (bytes_eq-Decides ms ms).1 refl

found_step : (i k : ℕ) (b : Bool) (rest more : Option ℕ) → (rest ≡ Some k → more ≡ Some k) → cond b (Some i) rest ≡ Some k → cond b (Some i) more ≡ Some k
found_step i k true rest more h e = e
found_step i k false rest more h e = h e

found_longer : {A : Type 0} (test : A → Bool) (i k : ℕ) (xs ys : List A) → position_from test i xs ≡ Some k → position_from test i (xs ++ ys) ≡ Some k
found_longer test i k [] ys e = absurd cc
found_longer test i k (x ∷ xs) ys e = found_step i k (test x) (position_from test (i + 1) xs) (position_from test (i + 1) (xs ++ ys)) (found_longer test (i + 1) k xs ys) e

end_step : (i n : ℕ) (b : Bool) (rest more : Option ℕ) → (rest ≡ None → more ≡ Some n) → cond b (Some i) rest ≡ None → cond b (Some i) more ≡ Some n
end_step i n true rest more h e = absurd cc
end_step i n false rest more h e = h e

found_last : {A : Type 0} (test : A → Bool) (i : ℕ) (xs : List A) (x : A) → test x ≡ true → position_from test i xs ≡ None → position_from test i (xs ++ x ∷ []) ≡ Some (i + length xs)
found_last test i [] x t e = rw t (ap Some (omega arith))
found_last test i (y ∷ xs) x t e =
    end_step i (i + length (y ∷ xs)) (test y) (position_from test (i + 1) xs) (position_from test (i + 1) (xs ++ x ∷ []))
    (λ f. found_last test (i + 1) xs x t f ∙ ap Some (omega arith)) e

number_longer : (nodes added : List NodeValue) (node : NodeValue) (k : ℕ) → number_in nodes node ≡ Some k → number_in (nodes ++ added) node ≡ Some k
number_longer nodes added node k e =
    position_from-zero (same_node node) (nodes ++ added)
    ∙ found_longer (same_node node) 0 k nodes added (sym (position_from-zero (same_node node) nodes) ∙ e)

number_last : (nodes : List NodeValue) (node : NodeValue) → number_in nodes node ≡ None → number_in (nodes ++ node ∷ []) node ≡ Some (length nodes)
number_last nodes node e =
    position_from-zero (same_node node) (nodes ++ node ∷ [])
    ∙ found_last (same_node node) 0 nodes node (same_itself node) (sym (position_from-zero (same_node node) nodes) ∙ e)
    ∙ ap Some (omega arith)

number_settled : (nodes : List NodeValue) (node : NodeValue) (k : ℕ) → number_in nodes node ≡ Some k → IsSettled (λ (later : List NodeValue). placed later node) nodes k
number_settled nodes node k e later f =
    let found : number_in later node ≡ Some k =
    ap (λ (ns : List NodeValue). number_in ns node) (front_is nodes later f) ∙ number_longer nodes (drop (length nodes) later) node k e in
    ap (λ (o : Option ℕ). placed_by o later node) found

-- ---- makings that give the same again

-- from a table that begins with the base on
abbrev pub Repeats : List NodeValue → (List NodeValue → Option Placed) → Type 0
Repeats base make = (nodes : List NodeValue) (p : Placed) → IsFront base nodes → make nodes ≡ Some p → IsFront nodes p.nodes × IsSettled make p.nodes p.number

module _ (base : List NodeValue) where
  pub there_repeats : (k : ℕ) → Repeats base (λ (nodes : List NodeValue). there nodes k)
  there_repeats k nodes p f e =
      let is : record { nodes = nodes; number = k } ≡ p = cc in
      subst (λ (q : Placed). IsFront nodes q.nodes × IsSettled (λ (later : List NodeValue). there later k) q.nodes q.number) is
      (take_whole nodes, λ later g. refl)

  module _ (node : NodeValue) where
    abbrev Good : List NodeValue → Placed → Type 0
    Good nodes q = IsFront nodes q.nodes × IsSettled (λ (later : List NodeValue). placed later node) q.nodes q.number

    last_repeats : (nodes : List NodeValue) (p : Placed) (test : Bool) → number_in nodes node ≡ None
        → (if test then Some (record { nodes = nodes ++ node ∷ []; number = length nodes }) else None) ≡ Some p → Good nodes p
    last_repeats nodes p false e f = absurd cc
    last_repeats nodes p true e f =
        let is : record { nodes = nodes ++ node ∷ []; number = length nodes } ≡ p = cc in
        subst (Good nodes) is (take-append_seam nodes (node ∷ []), number_settled (nodes ++ node ∷ []) node (length nodes) (number_last nodes node e))

    found_repeats : (nodes : List NodeValue) (p : Placed) (found : Option ℕ) → number_in nodes node ≡ found → placed_by found nodes node ≡ Some p → Good nodes p
    found_repeats nodes p (Some k) e f =
        let is : record { nodes = nodes; number = k } ≡ p = cc in
        subst (Good nodes) is (take_whole nodes, number_settled nodes node k e)
    found_repeats nodes p None e f = last_repeats nodes p (nat_lt (length nodes) nodes_limit) e f

    pub placed_repeats : Repeats base (λ (nodes : List NodeValue). placed nodes node)
    placed_repeats nodes p f e = found_repeats nodes p (number_in nodes node) refl e

  -- one making, and then another
  pub then_repeats : (first : List NodeValue → Option Placed) (next : Placed → Option Placed) → Repeats base first
      → ((k : ℕ) → Repeats base (λ (nodes : List NodeValue). next (record { nodes = nodes; number = k }))) → Repeats base (λ (nodes : List NodeValue). (then) (first nodes) next)
  then_repeats first next one two nodes q f e =
      let t = then-is (first nodes) next q e in
      let p : Placed = t.middle in
      let before = one nodes p f t.begins in
      let behind = two p.number p.nodes q (front_on base nodes p.nodes f before.0) t.goes_on in (
        front_on nodes p.nodes q.nodes before.0 behind.0,
        λ later g. ap (λ (o : Option Placed). (then) o next) (before.1 later (front_on p.nodes q.nodes later behind.0 g)) ∙ behind.1 later g,
      )

  denied_by_repeats : (o : Option NodeValue) (k : ℕ) → Repeats base (λ (nodes : List NodeValue). denied_by o nodes k)
  denied_by_repeats None k = placed_repeats (denial k)
  denied_by_repeats (Some always) k = placed_repeats (denial k)
  denied_by_repeats (Some (atom l)) k = placed_repeats (atom (negation_of l))
  denied_by_repeats (Some (denial m)) k = there_repeats m
  denied_by_repeats (Some (conjunction ms)) k = placed_repeats (denial k)
  denied_by_repeats (Some (disjunction ms)) k = placed_repeats (denial k)

  pub denied_repeats : (k : ℕ) → k < length base → Repeats base (λ (nodes : List NodeValue). denied nodes k)
  denied_repeats k h nodes p f e =
      let within : k < length nodes = omega (arith, h, front_within base nodes f) in
      let made = denied_by_repeats (slice_get nodes k) k nodes p f e in (
        made.0,
        λ later g.
            let same : slice_get later k ≡ slice_get nodes k = get_or_front nodes _ later k (front_is nodes later (front_on nodes p.nodes later made.0 g)) within in
            ap (λ (o : Option NodeValue). denied_by o later k) same ∙ made.1 later g,
      )

  pub conjoined_repeats : (members : List ℕ) → Repeats base (λ (nodes : List NodeValue). conjoined nodes members)
  conjoined_repeats [] = placed_repeats (conjunction [])
  conjoined_repeats (k ∷ []) = there_repeats k
  conjoined_repeats (k ∷ m ∷ ms) = placed_repeats (conjunction (k ∷ m ∷ ms))

  pub disjoined_repeats : (members : List ℕ) → Repeats base (λ (nodes : List NodeValue). disjoined nodes members)
  disjoined_repeats [] = placed_repeats (disjunction [])
  disjoined_repeats (k ∷ []) = there_repeats k
  disjoined_repeats (k ∷ m ∷ ms) = placed_repeats (disjunction (k ∷ m ∷ ms))

  pub different_repeats : (a b : ℕ) → a < length base → b < length base → Repeats base (λ (nodes : List NodeValue). different nodes a b)
  different_repeats a b ha hb =
      then_repeats (λ (nodes : List NodeValue). and_not nodes a b) (λ (p : Placed). (then) (not_and p.nodes a b) (λ (q : Placed). placed q.nodes (disjunction (p.number ∷ q.number ∷ []))))
      (then_repeats (λ (nodes : List NodeValue). denied nodes b) (λ (p : Placed). placed p.nodes (conjunction (a ∷ p.number ∷ []))) (denied_repeats b hb) (λ k. placed_repeats (conjunction (a ∷ k ∷ []))))
      (λ k. then_repeats (λ (nodes : List NodeValue). not_and nodes a b) (λ (q : Placed). placed q.nodes (disjunction (k ∷ q.number ∷ [])))
      (then_repeats (λ (nodes : List NodeValue). denied nodes a) (λ (p : Placed). placed p.nodes (conjunction (p.number ∷ b ∷ []))) (denied_repeats a ha) (λ m. placed_repeats (conjunction (m ∷ b ∷ []))))
      (λ m. placed_repeats (disjunction (k ∷ m ∷ []))))
