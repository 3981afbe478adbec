-- What is written of a node.
use Rattle.std.proofs.Common.{refl, sym, ap, ◌∙◌, ◌≡◌, ℕ, List, [], ◌∷◌, ◌++◌, map, Bool, true, false, append_assoc, append-nil, Some, None}
use Rattle.stn_core.specs.declared.literal.Literal.{Literal}
use Rattle.stn_core.specs.Literal.{negation_of}
use Rattle.idl_node.specs.declared.node.Node.{Node}
use Rattle.idl_node.specs.Nodes.{NodeValue, always, atom, denial, conjunction, disjunction, node_value}
use Rattle.clause_form.specs.declared.form.Marks.{Marks}
use Rattle.clause_form.specs.code.Marked.{marked_clauses}
use Rattle.clause_form.specs.code.Marking.{signed_literal, denied_member}
use Rattle.clause_form.specs.Polarity.{node_at}
use Rattle.clause_form.specs.ClauseForm.{stands, fails, body_literal, node_literal, literal_of, asserted_clauses, denied_clauses, inner_clauses, fresh_point, when}

module _ (points : ℕ) (nodes : List NodeValue) (inner : List ℕ) where
  plain_by : (k : ℕ) (node : NodeValue) → denied_member node ≡ None → node_literal points nodes inner k node ≡ body_literal points inner k node
  plain_by k always e = refl
  plain_by k (atom l) e = refl
  plain_by k (denial m) e = absurd cc
  plain_by k (conjunction ms) e = refl
  plain_by k (disjunction ms) e = refl

  pub plain_literal : (k : ℕ) → denied_member (node_at nodes k) ≡ None → literal_of points nodes inner k ≡ body_literal points inner k (node_at nodes k)
  plain_literal k e = plain_by k (node_at nodes k) e

  turned_by : (k m : ℕ) (node : NodeValue) → denied_member node ≡ Some m → node_literal points nodes inner k node ≡ negation_of (body_literal points inner m (node_at nodes m))
  turned_by k m always e = absurd cc
  turned_by k m (atom l) e = absurd cc
  turned_by k m (denial j) e = let is : j ≡ m = cc in ap (λ (i : ℕ). negation_of (body_literal points inner i (node_at nodes i))) is
  turned_by k m (conjunction ms) e = absurd cc
  turned_by k m (disjunction ms) e = absurd cc

  pub turned_literal : (k m : ℕ) → denied_member (node_at nodes k) ≡ Some m → literal_of points nodes inner k ≡ negation_of (body_literal points inner m (node_at nodes m))
  turned_literal k m e = turned_by k m (node_at nodes k) e

  module _ (node : Node) (value : NodeValue) (is : node_value node ≡ value) (old new : List (List Literal)) (clause : List Literal) where
    pub asserted_or : (k : ℕ) (ms read : List ℕ) → value ≡ disjunction ms → read ≡ ms → clause ≡ map (signed_literal false points nodes inner) read → new ≡ old ++ clause ∷ []
        → new ≡ old ++ asserted_clauses points nodes inner k (node_value node)
    asserted_or k ms read v same e f =
        f ∙ ap (λ (c : List Literal). old ++ c ∷ []) (e ∙ ap (λ (xs : List ℕ). map (signed_literal false points nodes inner) xs) same)
        ∙ ap (λ (n : NodeValue). old ++ asserted_clauses points nodes inner k n) (sym (is ∙ v))

    pub denied_and : (k : ℕ) (ms read : List ℕ) → value ≡ conjunction ms → read ≡ ms → clause ≡ map (signed_literal true points nodes inner) read → new ≡ old ++ clause ∷ []
        → new ≡ old ++ denied_clauses points nodes inner k (node_value node)
    denied_and k ms read v same e f =
        f ∙ ap (λ (c : List Literal). old ++ c ∷ []) (e ∙ ap (λ (xs : List ℕ). map (signed_literal true points nodes inner) xs) same)
        ∙ ap (λ (n : NodeValue). old ++ denied_clauses points nodes inner k n) (sym (is ∙ v))

    pub inner_and : (f : ℕ) (first second : Literal) (mid : List (List Literal)) (ms read again : List ℕ) → value ≡ conjunction ms → read ≡ ms → again ≡ ms → first ≡ fails f → second ≡ stands f
        → mid ≡ old ++ map (λ m. first ∷ signed_literal false points nodes inner m ∷ []) read → clause ≡ second ∷ map (signed_literal true points nodes inner) again → new ≡ mid ++ clause ∷ []
        → new ≡ old ++ inner_clauses points nodes inner f (node_value node)
    inner_and f first second mid ms read again v same same_again one two e g h =
        let pairs : Literal → List ℕ → List (List Literal) = λ l xs. map (λ m. l ∷ signed_literal false points nodes inner m ∷ []) xs in
        let longer : Literal → List ℕ → List Literal = λ l xs. l ∷ map (signed_literal true points nodes inner) xs in
        h ∙ ap (λ (c : List Literal). mid ++ c ∷ []) (g ∙ ap (λ (l : Literal). longer l again) two ∙ ap (λ (xs : List ℕ). longer (stands f) xs) same_again)
        ∙ ap (λ (m : List (List Literal)). m ++ longer (stands f) ms ∷ []) (e ∙ ap (λ (l : Literal). old ++ pairs l read) one ∙ ap (λ (xs : List ℕ). old ++ pairs (fails f) xs) same)
        ∙ append_assoc old (pairs (fails f) ms) (longer (stands f) ms ∷ [])
        ∙ ap (λ (n : NodeValue). old ++ inner_clauses points nodes inner f n) (sym (is ∙ v))

    pub inner_or : (f : ℕ) (first second : Literal) (mid : List (List Literal)) (ms read again : List ℕ) → value ≡ disjunction ms → read ≡ ms → again ≡ ms → first ≡ fails f → second ≡ stands f
        → clause ≡ first ∷ map (signed_literal false points nodes inner) read → mid ≡ old ++ clause ∷ [] → new ≡ mid ++ map (λ m. second ∷ signed_literal true points nodes inner m ∷ []) again
        → new ≡ old ++ inner_clauses points nodes inner f (node_value node)
    inner_or f first second mid ms read again v same same_again one two e g h =
        let pairs : Literal → List ℕ → List (List Literal) = λ l xs. map (λ m. l ∷ signed_literal true points nodes inner m ∷ []) xs in
        let longer : Literal → List ℕ → List Literal = λ l xs. l ∷ map (signed_literal false points nodes inner) xs in
        h ∙ ap (λ (l : Literal). mid ++ pairs l again) two ∙ ap (λ (xs : List ℕ). mid ++ pairs (stands f) xs) same_again
        ∙ ap (λ (m : List (List Literal)). m ++ pairs (stands f) ms) (g ∙ ap (λ (c : List Literal). old ++ c ∷ []) (e ∙ ap (λ (l : Literal). longer l read) one ∙ ap (λ (xs : List ℕ). longer (fails f) xs) same))
        ∙ append_assoc old (longer (fails f) ms ∷ []) (pairs (stands f) ms)
        ∙ ap (λ (n : NodeValue). old ++ inner_clauses points nodes inner f n) (sym (is ∙ v))

-- ---- one behind the other

module _ (old new added : List (List Literal)) where
  pub when_written : (b : Bool) → b ≡ true → new ≡ old ++ added → new ≡ old ++ when b added
  when_written true e f = f
  when_written false e f = absurd cc

  pub when_left : (b : Bool) → b ≡ false → new ≡ old → new ≡ old ++ when b added
  when_left true e f = absurd cc
  when_left false e f = f ∙ sym (append-nil old)

pub three_written : (old first second new x y z : List (List Literal)) → first ≡ old ++ x → second ≡ first ++ y → new ≡ second ++ z → new ≡ old ++ (x ++ (y ++ z))
three_written old first second new x y z e f g =
    g ∙ ap (λ (m : List (List Literal)). m ++ z) (f ∙ ap (λ (m : List (List Literal)). m ++ y) e)
    ∙ append_assoc (old ++ x) y z ∙ append_assoc old x (y ++ z)

pub node_written : (points : ℕ) (nodes : List NodeValue) (inner : List ℕ) (marks : Marks) (k f : ℕ) (v : NodeValue) (old first second new : List (List Literal)) → v ≡ node_at nodes k → f ≡ fresh_point points inner k
    → first ≡ old ++ when marks.asserted (asserted_clauses points nodes inner k v) → second ≡ first ++ when marks.denied (denied_clauses points nodes inner k v) → new ≡ second ++ when marks.inner (inner_clauses points nodes inner f v)
    → new ≡ old ++ marked_clauses marks points nodes inner k
node_written points nodes inner marks k f v old first second new is point a d i =
    three_written old first second new (when marks.asserted (asserted_clauses points nodes inner k v)) (when marks.denied (denied_clauses points nodes inner k v)) (when marks.inner (inner_clauses points nodes inner f v)) a d i
    ∙ ap (λ (p : ℕ). old ++ (when marks.asserted (asserted_clauses points nodes inner k v) ++ (when marks.denied (denied_clauses points nodes inner k v) ++ when marks.inner (inner_clauses points nodes inner p v)))) point
    ∙ ap (λ (n : NodeValue). old ++ (when marks.asserted (asserted_clauses points nodes inner k n) ++ (when marks.denied (denied_clauses points nodes inner k n) ++ when marks.inner (inner_clauses points nodes inner (fresh_point points inner k) n)))) is
