-- The same lemma by other numbers.
use Rattle.std.proofs.Common.{◌≡◌, ℕ, ◌<◌, List, [], ◌∷◌, ◌++◌, length, map, flat_map, Some, All, refl, sym, ap, subst, ◌∙◌}
use Rattle.std.specs.Prelude.{slice_get, option_map}
use Rattle.std.specs.List.{AllZip}
use Rattle.std.proofs.lemmas.List.Elements.{All-cons}
use Rattle.std.proofs.lemmas.Option.{slice_get-map, slice_get_within, slice_get-get_or}
use Rattle.stn_core.specs.declared.literal.Literal.{Literal}
use Rattle.refute_tree.specs.declared.step.Step.{Step}
use Rattle.refute_tree.specs.declared.step.Step.TheVariants.{Cycle, Input, Lemma as Earlier, Clash, Either}
use Rattle.refute_tree.specs.Trees.{clause_of, Tree, Forest, leaf, clash, cases, none, more}
use Rattle.kept_lemmas.specs.Facts.{Fact, Facts, stated_by, no_fact, support_of_clause, support_of_fact, named_by_fact, step_support, step_named, own_fact}
use Rattle.kept_lemmas.proofs.FactLists.{all_at}
use Rattle.lemma_shelf.specs.code.Tables.{fact_at, facts_at, IsKnownStep, IsRenumbered, to_input, to_clash, to_earlier, keeps_cycle, keeps_either, AreRenumbered}
use Rattle.lemma_shelf.proofs.Lists.{get_longer}

-- two steps name the same clauses and cite lemmas that state the same and rest on the same
pub data Alike (clauses : List (List Literal)) (facts : Facts) (book : List (List Literal)) (table : Facts) : Step → Step → Type 0 where
  same_input : {i n : ℕ} {clause : List Literal} → slice_get clauses i ≡ Some clause → slice_get book n ≡ Some clause → Alike clauses facts book table (Input i) (Input n)
  same_clash : {i n : ℕ} {clause : List Literal} → slice_get clauses i ≡ Some clause → slice_get book n ≡ Some clause → Alike clauses facts book table (Clash i) (Clash n)
  same_earlier : {j n : ℕ} {fact : Fact} → slice_get facts j ≡ Some fact → slice_get table n ≡ Some fact → Alike clauses facts book table (Earlier j) (Earlier n)
  same_cycle : {literals : List Literal} → Alike clauses facts book table (Cycle literals) (Cycle literals)
  same_either : {l : Literal} → Alike clauses facts book table (Either l) (Either l)

module _ (clauses : List (List Literal)) (facts : Facts) (book : List (List Literal)) (table : Facts) where
  abbrev Same : Step → Step → Type 0
  Same s t = Alike clauses facts book table s t

  abbrev AreSame : List Step → List Step → Type 0
  AreSame steps others = AllZip (Alike clauses facts book table) steps others

  flipped : (s t : Step) → Alike clauses facts book table s t → Alike book table clauses facts t s
  flipped s t (same_input a b) = same_input b a
  flipped s t (same_clash a b) = same_clash b a
  flipped s t (same_earlier a b) = same_earlier b a
  flipped s t same_cycle = same_cycle
  flipped s t same_either = same_either

  pub all_flipped : (steps others : List Step) → AreSame steps others → AllZip (Alike book table clauses facts) others steps
  all_flipped [] [] h = h
  all_flipped [] (t ∷ others) h = elim h [ ]
  all_flipped (s ∷ steps) [] h = elim h [ ]
  all_flipped (s ∷ steps) (t ∷ others) h = (flipped s t h.0, all_flipped steps others h.1)

  opened : (s t : Step) (clause : List Literal) → Same s t → clause_of clauses (map stated_by facts) s ≡ Some clause → clause_of book (map stated_by table) t ≡ Some clause
  opened s t clause (same_input a b) e = b ∙ sym a ∙ e
  opened s t clause (same_clash a b) e = absurd (cc)
  opened s t clause (same_earlier {j = j} {n = n} {fact = fact} a b) e =
      slice_get-map stated_by table n ∙ ap (option_map stated_by) (b ∙ sym a) ∙ sym (slice_get-map stated_by facts j) ∙ e
  opened s t clause same_cycle e = absurd (cc)
  opened s t clause same_either e = e

  pub record Moved (assumed : List Literal) (rest others : List Step) : Type 0 where
    pub left : List Step
    pub tree : Tree book (map stated_by table) assumed others left
    pub same : AreSame rest left

  pub record MovedForest (assumed clause : List Literal) (rest others : List Step) : Type 0 where
    pub left : List Step
    pub forest : Forest book (map stated_by table) assumed clause others left
    pub same : AreSame rest left

  leaf_moved : {assumed literals : List Literal} {rest : List Step} (t : Step) (others : List Step) → Same (Cycle literals) t → ((left : List Step) → Tree book (map stated_by table) assumed (Cycle literals ∷ left) left) → AreSame rest others → Moved assumed rest (t ∷ others)
  leaf_moved t others same_cycle tree h = record { left = others; tree = tree others; same = h }

  clash_moved : {assumed clause : List Literal} {i : ℕ} {rest : List Step} (t : Step) (others : List Step) → Same (Clash i) t → slice_get clauses i ≡ Some clause → ((n : ℕ) → slice_get book n ≡ Some clause → (left : List Step) → Tree book (map stated_by table) assumed (Clash n ∷ left) left) → AreSame rest others → Moved assumed rest (t ∷ others)
  clash_moved t others (same_clash {n = n} a b) e tree h = record { left = others; tree = tree n (b ∙ sym a ∙ e) others; same = h }

  mutual
    pub moved : {assumed : List Literal} {steps rest : List Step} → Tree clauses (map stated_by facts) assumed steps rest → (others : List Step) → AreSame steps others → Moved assumed rest others
    moved (leaf h) [] same = elim same [ ]
    moved (leaf {assumed = assumed} h) (t ∷ others) same = leaf_moved {assumed = assumed} t others same.0 (λ left. leaf h) same.1
    moved (clash e h) [] same = elim same [ ]
    moved (clash {assumed = assumed} e h) (t ∷ others) same = clash_moved {assumed = assumed} t others same.0 e (λ n at left. clash at h) same.1
    moved (cases e f) [] same = elim same [ ]
    moved (cases {clause = clause} {step = step} e f) (t ∷ others) same =
        let after = moved_forest f others same.1 in
        record { left = after.left; tree = cases (opened step t clause same.0 e) after.forest; same = after.same }

    moved_forest : {assumed clause : List Literal} {steps rest : List Step} → Forest clauses (map stated_by facts) assumed clause steps rest → (others : List Step) → AreSame steps others → MovedForest assumed clause rest others
    moved_forest none others same = record { left = others; forest = none; same = same }
    moved_forest (more t f) others same =
        let first = moved t others same in
        let after = moved_forest f first.left first.same in
        record { left = after.left; forest = more first.tree after.forest; same = after.same }

  none_left : (left : List Step) → AreSame [] left → left ≡ []
  none_left [] h = refl
  none_left (t ∷ left) h = elim h [ ]

  pub tree_moved : (assumed : List Literal) (steps others : List Step) → Tree clauses (map stated_by facts) assumed steps [] → AreSame steps others → Tree book (map stated_by table) assumed others []
  tree_moved assumed steps others tree same =
      let m = moved tree others same in
      subst (λ (left : List Step). Tree book (map stated_by table) assumed others left) (none_left m.left m.same) m.tree

  -- ---- it rests on the same and names the same

  support_same : (s t : Step) → Same s t → step_support clauses facts s ≡ step_support book table t
  support_same s t (same_input a b) = ap support_of_clause (a ∙ sym b)
  support_same s t (same_clash a b) = ap support_of_clause (a ∙ sym b)
  support_same s t (same_earlier a b) = ap support_of_fact (a ∙ sym b)
  support_same s t same_cycle = refl
  support_same s t same_either = refl

  named_same : (s t : Step) → Same s t → step_named facts s ≡ step_named table t
  named_same s t (same_input a b) = refl
  named_same s t (same_clash a b) = refl
  named_same s t (same_earlier a b) = ap named_by_fact (a ∙ sym b)
  named_same s t same_cycle = refl
  named_same s t same_either = refl

  flat_same : {Y : Type 0} (f g : Step → List Y) → ((s t : Step) → Same s t → f s ≡ g t) → (steps others : List Step) → AreSame steps others → flat_map f steps ≡ flat_map g others
  flat_same f g each [] [] h = refl
  flat_same f g each [] (t ∷ others) h = elim h [ ]
  flat_same f g each (s ∷ steps) [] h = elim h [ ]
  flat_same f g each (s ∷ steps) (t ∷ others) h =
      ap (λ xs. xs ++ flat_map f steps) (each s t h.0) ∙ ap (λ xs. g t ++ xs) (flat_same f g each steps others h.1)

  pub fact_same : (clause : List Literal) (steps others : List Step) → AreSame steps others → own_fact clauses facts (record { clause = clause; steps = steps }) ≡ own_fact book table (record { clause = clause; steps = others })
  fact_same clause steps others h =
      let one = flat_same (step_support clauses facts) (step_support book table) support_same steps others h in
      let two = flat_same (step_named facts) (step_named table) named_same steps others h in
      ap (λ (support : List (List Literal)). record { clause = clause; support = support; named = clause ++ flat_map (step_named facts) steps }) one
      ∙ ap (λ (named : List Literal). record { clause = clause; support = flat_map (step_support book table) others; named = clause ++ named }) two

-- ---- by the numbers

module _ (clauses : List (List Literal)) (numbers : List ℕ) (book : List (List Literal)) (table : Facts) (within : All (λ (n : ℕ). n < length table) numbers) where
  is_alike : (s t : Step) → IsRenumbered clauses numbers book s t → Alike clauses (facts_at table numbers) book table s t
  is_alike s t (to_input a b) = same_input a b
  is_alike s t (to_clash a b) = same_clash a b
  is_alike s t (to_earlier {j = j} {n = n} a) =
      let lt : n < length table = all_at (λ (m : ℕ). m < length table) numbers j n within a in
      let there : slice_get (facts_at table numbers) j ≡ Some (fact_at table n) = slice_get-map (fact_at table) numbers j ∙ ap (option_map (fact_at table)) a in
      same_earlier there (slice_get-get_or table n no_fact lt)
  is_alike s t keeps_cycle = same_cycle
  is_alike s t keeps_either = same_either

  pub are_alike : (steps others : List Step) → AreRenumbered clauses numbers book steps others → AllZip (Alike clauses (facts_at table numbers) book table) steps others
  are_alike [] [] h = h
  are_alike [] (t ∷ others) h = elim h [ ]
  are_alike (s ∷ steps) [] h = elim h [ ]
  are_alike (s ∷ steps) (t ∷ others) h = (is_alike s t h.0, are_alike steps others h.1)

-- ---- what stays when the book grows

renumbered_longer : (clauses : List (List Literal)) (numbers : List ℕ) (book more_ : List (List Literal)) (s t : Step) → IsRenumbered clauses numbers book s t → IsRenumbered clauses numbers (book ++ more_) s t
renumbered_longer clauses numbers book more_ s t (to_input {n = n} {clause = clause} a b) = to_input a (get_longer book more_ n clause b)
renumbered_longer clauses numbers book more_ s t (to_clash {n = n} {clause = clause} a b) = to_clash a (get_longer book more_ n clause b)
renumbered_longer clauses numbers book more_ s t (to_earlier a) = to_earlier a
renumbered_longer clauses numbers book more_ s t keeps_cycle = keeps_cycle
renumbered_longer clauses numbers book more_ s t keeps_either = keeps_either

pub all_renumbered_longer : (clauses : List (List Literal)) (numbers : List ℕ) (book more_ : List (List Literal)) (steps others : List Step) → AreRenumbered clauses numbers book steps others → AreRenumbered clauses numbers (book ++ more_) steps others
all_renumbered_longer clauses numbers book more_ [] [] h = h
all_renumbered_longer clauses numbers book more_ [] (t ∷ others) h = elim h [ ]
all_renumbered_longer clauses numbers book more_ (s ∷ steps) [] h = elim h [ ]
all_renumbered_longer clauses numbers book more_ (s ∷ steps) (t ∷ others) h = (renumbered_longer clauses numbers book more_ s t h.0, all_renumbered_longer clauses numbers book more_ steps others h.1)

-- ---- what a tree names is there

step_known : (inputs lemmas : List (List Literal)) (s : Step) (c : List Literal) → clause_of inputs lemmas s ≡ Some c → IsKnownStep (length inputs) (length lemmas) s
step_known inputs lemmas (Cycle cs) c e = tt
step_known inputs lemmas (Input i) c e = slice_get_within inputs i c e
step_known inputs lemmas (Earlier j) c e = slice_get_within lemmas j c e
step_known inputs lemmas (Clash i) c e = absurd (cc)
step_known inputs lemmas (Either l) c e = tt

mutual
  pub tree_known : {inputs lemmas : List (List Literal)} {assumed : List Literal} {steps rest : List Step} → Tree inputs lemmas assumed steps rest → All (IsKnownStep (length inputs) (length lemmas)) rest → All (IsKnownStep (length inputs) (length lemmas)) steps
  tree_known {inputs} {lemmas} (leaf {cycle = c} {rest = rest} h) all = All-cons (IsKnownStep (length inputs) (length lemmas)) (Cycle c) rest tt all
  tree_known {inputs} {lemmas} (clash {clause = c} {i = i} {rest = rest} e h) all = All-cons (IsKnownStep (length inputs) (length lemmas)) (Clash i) rest (slice_get_within inputs i c e) all
  tree_known {inputs} {lemmas} (cases {clause = c} {step = s} {steps = steps} e f) all = All-cons (IsKnownStep (length inputs) (length lemmas)) s steps (step_known inputs lemmas s c e) (forest_known f all)

  forest_known : {inputs lemmas : List (List Literal)} {assumed clause : List Literal} {steps rest : List Step} → Forest inputs lemmas assumed clause steps rest → All (IsKnownStep (length inputs) (length lemmas)) rest → All (IsKnownStep (length inputs) (length lemmas)) steps
  forest_known none all = all
  forest_known (more t f) all = tree_known t (forest_known f all)
