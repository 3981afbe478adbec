-- Terms and their values, one after the other.
use Rattle.std.proofs.Common.{arith, refl, sym, ap, subst, ◌∙◌, ◌≡◌, ◌<◌, ◌+◌, ℕ, zero, suc, List, [], ◌++◌, ◌∷◌, length, drop, get_or, codes, pos, ◌≤◌}
use Rattle.std.proofs.lemmas.List.{append_assoc, drop_all, drop_more}
use Rattle.smt_sexpr.specs.Tree.{Sexpr, Items, none, more}
use Rattle.smt_sexpr.specs.Table.{Table, Means, MeansEach, HasMeaning}
use Rattle.smt_sexpr.proofs.Shapes.{next_of, none_of}
use Rattle.idl_term.specs.Values.{Value}
use Rattle.smt_script.specs.code.TermValues.{value_shown}
use Rattle.smt_script.specs.declared.value.TermValue.{TermValue}
use Rattle.smt_script.specs.declared.value.TermValue.TheVariants as term
use Rattle.smt_answer.specs.code.Answers.{AreAnswers}
use Rattle.smt_answer.specs.Texts.{pair_text, pairs_behind, values_line}

abbrev pub no_answer : TermValue
no_answer = term.Int (pos 0)

pub means_at : (t : Table) (ids : List ℕ) (xs : Items) (i : ℕ) → MeansEach t ids xs → i < length ids → HasMeaning t (get_or ids i 0)
means_at t [] xs i h within = absurd (omega arith)
means_at t (id ∷ ids) none i h within = absurd h
means_at t (id ∷ ids) (more x xs) zero h within = (x, h.0)
means_at t (id ∷ ids) (more x xs) (suc i) h within = means_at t ids xs i h.1 (omega arith)

-- a term and its value are the next ones
record IsNext (value_of : Sexpr → Value) (answers : List TermValue) (i : ℕ) (first : Sexpr) (others : Items) : Type 0 where
  same : value_of first ≡ value_shown (get_or answers i no_answer)
  behind : AreAnswers value_of others (drop (i + 1) answers)

answers_next : (value_of : Sexpr → Value) (answers : List TermValue) (i : ℕ) (first : Sexpr) (others : Items) → i < length answers → AreAnswers value_of (more first others) (drop i answers) → IsNext value_of answers i first others
answers_next value_of answers i first others within h =
    let there : AreAnswers value_of (more first others) (get_or answers i no_answer ∷ drop (i + 1) answers) = subst (AreAnswers value_of (more first others)) (drop_more answers i no_answer within) h in
    record { same = there.0; behind = there.1 }

module _ (t : Table) (ids : List ℕ) (answers : List TermValue) (start : List ℕ) where
  -- the terms before i are written
  abbrev pub IsWrittenTo : List ℕ → ℕ → Type 0
  IsWrittenTo out i =
      (value_of : Sexpr → Value) (ts : Items) → MeansEach t (drop 1 ids) ts → AreAnswers value_of ts (drop 1 answers)
      → (rest : Items) × MeansEach t (drop i ids) rest × AreAnswers value_of rest (drop i answers) × (out ++ pairs_behind value_of rest ≡ start ++ pairs_behind value_of ts)

  pub written_none : IsWrittenTo start 1
  written_none value_of ts h a = (ts, h, a, refl)

  -- behind a space the next pair
  pub written_more : (out space now : List ℕ) (i : ℕ) → IsWrittenTo out i → i < length ids → i < length answers → space ≡ out ++ codes " "
      → ((x : Sexpr) → Means t (get_or ids i 0) x → now ≡ space ++ pair_text x (value_shown (get_or answers i no_answer))) → IsWrittenTo now (i + 1)
  written_more out space now i h in_ids in_answers spaced pair value_of ts means a =
      let w = h value_of ts means a in
      let n = next_of t ids i w.0 in_ids w.1 in
      let next = answers_next value_of answers i n.first n.others in_answers (subst (λ (r : Items). AreAnswers value_of r (drop i answers)) n.is w.2) in
      let shown : pair_text n.first (value_shown (get_or answers i no_answer)) ≡ pair_text n.first (value_of n.first) = ap (pair_text n.first) (sym next.same) in
      let p = pair_text n.first (value_of n.first) in
      let written : now ≡ (out ++ codes " ") ++ p = pair n.first n.first_means ∙ ap (λ (s : List ℕ). space ++ s) shown ∙ ap (λ (s : List ℕ). s ++ p) spaced in
      let rest = pairs_behind value_of n.others in
      let here : now ++ rest ≡ out ++ (codes " " ++ (p ++ rest)) =
      ap (λ (s : List ℕ). s ++ rest) written ∙ append_assoc (out ++ codes " ") p rest ∙ append_assoc out (codes " ") (p ++ rest) in
      (n.others, n.means, next.behind, here ∙ ap (λ (r : Items). out ++ pairs_behind value_of r) (sym n.is) ∙ w.3)

  pub written_all : (out now : List ℕ) (i : ℕ) → IsWrittenTo out i → length ids ≤ i → now ≡ out ++ codes ")\n" → (value_of : Sexpr → Value) (ts : Items) → MeansEach t (drop 1 ids) ts → AreAnswers value_of ts (drop 1 answers)
      → now ≡ start ++ pairs_behind value_of ts
  written_all out now i h all e value_of ts means a =
      let w = h value_of ts means a in
      let end : w.0 ≡ none = none_of t ids i w.0 (drop_all i ids all) w.1 in
      e ∙ ap (λ (r : Items). out ++ pairs_behind value_of r) (sym end) ∙ w.3

-- ---- the whole line

module _ (t : Table) (value_of : Sexpr → Value) where
  pub no_pairs : (ids : List ℕ) (ts : Items) (answers : List TermValue) (old begun now : List ℕ) → length ids ≡ 0 → MeansEach t ids ts → begun ≡ old ++ codes "(" → now ≡ begun ++ codes ")\n" → now ≡ old ++ values_line value_of ts
  no_pairs [] none answers old begun now e h f g = g ∙ ap (λ (s : List ℕ). s ++ codes ")\n") f ∙ append_assoc old (codes "(") (codes ")\n")
  no_pairs [] (more x xs) answers old begun now e h f g = absurd h
  no_pairs (id ∷ ids) ts answers old begun now e h f g = absurd (omega arith)

  pub pairs_written : (ids : List ℕ) (ts : Items) (answers : List TermValue) (old begun pair now : List ℕ) → 1 ≤ length ids → MeansEach t ids ts → AreAnswers value_of ts answers → begun ≡ old ++ codes "("
      → ((x : Sexpr) → Means t (get_or ids 0 0) x → pair ≡ begun ++ pair_text x (value_shown (get_or answers 0 no_answer)))
      → ((xs : Items) → MeansEach t (drop 1 ids) xs → AreAnswers value_of xs (drop 1 answers) → now ≡ pair ++ pairs_behind value_of xs)
      → now ≡ old ++ values_line value_of ts
  pairs_written [] ts answers old begun pair now some h a f g k = absurd (omega arith)
  pairs_written (id ∷ ids) none answers old begun pair now some h a f g k = absurd h
  pairs_written (id ∷ ids) (more x xs) [] old begun pair now some h a f g k = absurd a
  pairs_written (id ∷ ids) (more x xs) (v ∷ answers) old begun pair now some h a f g k =
      let p = pair_text x (value_of x) in
      let rest = pairs_behind value_of xs in
      let first : pair ≡ (old ++ codes "(") ++ p = g x h.0 ∙ ap (λ (w : Value). begun ++ pair_text x w) (sym a.0) ∙ ap (λ (s : List ℕ). s ++ p) f in
      k xs h.1 a.1 ∙ ap (λ (s : List ℕ). s ++ rest) first ∙ append_assoc (old ++ codes "(") p rest ∙ append_assoc old (codes "(") (p ++ rest)
