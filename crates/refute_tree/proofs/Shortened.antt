-- Cases closed by their literals and the negations as clashes: a tree stays one.
use Rattle.std.proofs.Common.{arith, ◌≡◌, ◌<◌, ℕ, zero, suc, inl, inr, Bool, true, false, if◌then◌else◌, List, [], ◌∷◌, ◌++◌, length, drop, map, Option, Some, All, Contains, append-nil, subst, sym, ap, ◌∙◌, refl}
use Rattle.std.specs.Prelude.{slice_get}
use Rattle.std.proofs.lemmas.Bool.{and_parts}
use Rattle.std.proofs.lemmas.Int.{ints}
use Rattle.std.proofs.lemmas.List.Elements.{All-nil, All-cons, All-head, All-tail, Contains-push_cases}
use Rattle.stn_core.specs.declared.literal.Literal.{Literal}
use Rattle.stn_core.specs.Literal.{negation_of, same_literal}
use Rattle.stn_core.specs.Answer.{IsCycleAmong}
use Rattle.stn_core.proofs.SameLiteral.{same_literal_decides}
use Rattle.refute_tree.specs.declared.step.Step.{Step}
use Rattle.refute_tree.specs.declared.step.Step.TheVariants.{Cycle, Input, Lemma as Earlier, Clash, Either}
use Rattle.refute_tree.specs.declared.lemma.Lemma.{Lemma}
use Rattle.refute_tree.specs.Pairs.{pair_of}
use Rattle.refute_tree.specs.Trees.{clause_of, Tree, Forest, IsDenied, leaf, clash, cases, none, more, IsOnPoints, NamesPoints}
use Rattle.refute_tree.specs.Lengths.{pair_step, is_pair_of, begin_with_pairs, closes, cases_count, shortened_behind, shortened, StaysRefuted}
use Rattle.refute_tree.proofs.Kept.{AreIn, IsDenied-more}

-- no literal is its own negation
not_itself : (l : Literal) → l ≡ negation_of l → ⊥
not_itself l e = let c : l.c ≡ (negation_of l).c = ap (λ (k : Literal). k.c) e in absurd (omega (arith, ints, c))

pair_step_is : (l a b : Literal) → a ≡ l → b ≡ negation_of l → Cycle (a ∷ b ∷ []) ≡ pair_step l
pair_step_is l a b e f = ap (λ (k : Literal). Cycle (k ∷ b ∷ [])) e ∙ ap (λ (k : Literal). Cycle (l ∷ k ∷ [])) f

pub pair_is : (l : Literal) (step : Step) → is_pair_of l step ≡ true → step ≡ pair_step l
pair_is l (Cycle []) e = absurd (cc)
pair_is l (Cycle (a ∷ [])) e = absurd (cc)
pair_is l (Cycle (a ∷ b ∷ [])) e =
    let parts = and_parts (same_literal a l) (same_literal b (negation_of l)) e in
    pair_step_is l a b ((same_literal_decides a l).0 parts.0) ((same_literal_decides b (negation_of l)).0 parts.1)
pair_is l (Cycle (a ∷ b ∷ k ∷ ls)) e = absurd (cc)
pair_is l (Input i) e = absurd (cc)
pair_is l (Earlier j) e = absurd (cc)
pair_is l (Clash i) e = absurd (cc)
pair_is l (Either k) e = absurd (cc)

module _ (inputs lemmas : List (List Literal)) where
  -- what a tree that begins with a cycle is
  pub record IsLeafOf (assumed cycle : List Literal) (steps rest : List Step) : Type 0 where
    pub after : steps ≡ rest
    pub among : IsCycleAmong assumed cycle

  leaf_of : (assumed cycle : List Literal) (steps rest : List Step) → Tree inputs lemmas assumed (Cycle cycle ∷ steps) rest → IsLeafOf assumed cycle steps rest
  leaf_of assumed cycle steps rest (leaf h) = record { after = refl; among = h }
  leaf_of assumed cycle steps rest (cases e f) = absurd (cc)

  -- the literal is assumed beside what denies it
  denied_by : (assumed : List Literal) (l : Literal) → IsCycleAmong (assumed ++ l ∷ []) (pair_of l) → Contains assumed (negation_of l)
  denied_by assumed l h =
      let both : Contains (assumed ++ l ∷ []) (negation_of l) = All-head (Contains (assumed ++ l ∷ [])) (negation_of l) [] (All-tail (Contains (assumed ++ l ∷ [])) l (negation_of l ∷ []) h.given) in
      elim (Contains-push_cases assumed l (negation_of l) both) [
        | inl c ↦ c
        | inr e ↦ absurd (not_itself l e)
      ]

  -- the steps begin with the pairs, and the clause is denied
  pub record AreClosed (assumed clause : List Literal) (steps rest : List Step) : Type 0 where
    pub pairs : steps ≡ map pair_step clause ++ rest
    pub denied : IsDenied assumed clause

  closed_more : (assumed clause : List Literal) (l : Literal) (steps others rest : List Step) → Tree inputs lemmas (assumed ++ l ∷ []) (pair_step l ∷ steps) others → (steps ≡ others → AreClosed (assumed ++ negation_of l ∷ []) clause steps rest) → AreClosed assumed (l ∷ clause) (pair_step l ∷ steps) rest
  closed_more assumed clause l steps others rest t later =
      let here = leaf_of (assumed ++ l ∷ []) (pair_of l) steps others t in
      let after = later here.after in
      let denied : Contains assumed (negation_of l) = denied_by assumed l here.among in
      let kept : AreIn (assumed ++ negation_of l ∷ []) assumed = λ m c. (elim (Contains-push_cases assumed (negation_of l) m c) [ inl d ↦ d | inr e ↦ subst (Contains assumed) e denied ]) in
      record {
        pairs = ap (λ (ss : List Step). pair_step l ∷ ss) after.pairs;
        denied = All-cons (Contains assumed) (negation_of l) (map negation_of clause) denied (IsDenied-more (assumed ++ negation_of l ∷ []) assumed clause kept after.denied);
      }

  closed_first : (assumed clause : List Literal) (l : Literal) (step : Step) (steps others rest : List Step) → step ≡ pair_step l → Tree inputs lemmas (assumed ++ l ∷ []) (step ∷ steps) others → (steps ≡ others → AreClosed (assumed ++ negation_of l ∷ []) clause steps rest) → AreClosed assumed (l ∷ clause) (step ∷ steps) rest
  closed_first assumed clause l step steps others rest e t later =
      subst (λ (s : Step). AreClosed assumed (l ∷ clause) (s ∷ steps) rest) (sym e)
      (closed_more assumed clause l steps others rest (subst (λ (s : Step). Tree inputs lemmas (assumed ++ l ∷ []) (s ∷ steps) others) e t) later)

  pub closed : (assumed clause : List Literal) (steps rest : List Step) → Forest inputs lemmas assumed clause steps rest → begin_with_pairs clause steps ≡ true → AreClosed assumed clause steps rest
  closed assumed [] steps rest none b = record { pairs = refl; denied = All-nil (Contains assumed) }
  closed assumed (l ∷ clause) [] rest (more t f) b = absurd (cc)
  closed assumed (l ∷ clause) (step ∷ steps) rest (more {others = others} t f) b =
      let parts = and_parts (is_pair_of l step) (begin_with_pairs clause steps) b in
      closed_first assumed clause l step steps others rest (pair_is l step parts.0) t
      (λ e. closed (assumed ++ negation_of l ∷ []) clause steps rest (subst (λ (ss : List Step). Forest inputs lemmas (assumed ++ negation_of l ∷ []) clause ss rest) (sym e) f) parts.1)

  pairs_skipped : (clause : List Literal) (rest : List Step) → shortened_behind inputs (length clause) (map pair_step clause ++ rest) ≡ shortened inputs rest
  pairs_skipped [] rest = refl
  pairs_skipped (l ∷ clause) rest = pairs_skipped clause rest

  abbrev input_shortened : ℕ → List Step → Option (List Literal) → Bool → List Step
  input_shortened i steps found b = if b then Clash i ∷ shortened_behind inputs (cases_count found) steps else Input i ∷ shortened inputs steps

  input_tree : (assumed clause : List Literal) (i : ℕ) (steps rest : List Step) (b : Bool) → slice_get inputs i ≡ Some clause → begin_with_pairs clause steps ≡ b → Forest inputs lemmas assumed clause steps rest → Forest inputs lemmas assumed clause (shortened inputs steps) (shortened inputs rest) → Tree inputs lemmas assumed (input_shortened i steps (Some clause) b) (shortened inputs rest)
  input_tree assumed clause i steps rest false e b f g = cases e g
  input_tree assumed clause i steps rest true e b f g =
      let c = closed assumed clause steps rest f b in
      let after : shortened inputs rest ≡ shortened_behind inputs (length clause) steps = sym (ap (shortened_behind inputs (length clause)) c.pairs ∙ pairs_skipped clause rest) in
      subst (λ (ss : List Step). Tree inputs lemmas assumed (Clash i ∷ ss) (shortened inputs rest)) after (clash e c.denied)

  opened_tree : (assumed clause : List Literal) (step : Step) (steps rest : List Step) → clause_of inputs lemmas step ≡ Some clause → Forest inputs lemmas assumed clause steps rest → Forest inputs lemmas assumed clause (shortened inputs steps) (shortened inputs rest) → Tree inputs lemmas assumed (shortened inputs (step ∷ steps)) (shortened inputs rest)
  opened_tree assumed clause (Cycle cycle) steps rest e f g = absurd (cc)
  opened_tree assumed clause (Input i) steps rest e f g =
      subst (λ (o : Option (List Literal)). Tree inputs lemmas assumed (input_shortened i steps o (closes o steps)) (shortened inputs rest)) (sym e) (input_tree assumed clause i steps rest (begin_with_pairs clause steps) e refl f g)
  opened_tree assumed clause (Earlier j) steps rest e f g = cases e g
  opened_tree assumed clause (Clash i) steps rest e f g = absurd (cc)
  opened_tree assumed clause (Either l) steps rest e f g = cases e g

  mutual
    pub tree_shortened : {assumed : List Literal} {steps rest : List Step} → Tree inputs lemmas assumed steps rest → Tree inputs lemmas assumed (shortened inputs steps) (shortened inputs rest)
    tree_shortened (leaf h) = leaf h
    tree_shortened (clash e h) = clash e h
    tree_shortened (cases {assumed = assumed} {clause = clause} {step = step} {steps = steps} {rest = rest} e f) = opened_tree assumed clause step steps rest e f (forest_shortened f)

    forest_shortened : {assumed clause : List Literal} {steps rest : List Step} → Forest inputs lemmas assumed clause steps rest → Forest inputs lemmas assumed clause (shortened inputs steps) (shortened inputs rest)
    forest_shortened none = none
    forest_shortened (more t f) = more (tree_shortened t) (forest_shortened f)

module _ (points : ℕ) (clauses : List (List Literal)) where
  abbrev Named : Step → Type 0
  Named step = NamesPoints points step

  input_named : (i skip : ℕ) (short long : List Step) (b : Bool) → All Named short → All Named long → All Named (if b then Clash i ∷ short else Input i ∷ long)
  input_named i skip short long true h k = All-cons Named (Clash i) short (All-nil (IsOnPoints points)) h
  input_named i skip short long false h k = All-cons Named (Input i) long (All-nil (IsOnPoints points)) k

  pub shortened_named : (skip : ℕ) (steps : List Step) → All Named steps → All Named (shortened_behind clauses skip steps)
  shortened_named skip [] h = All-nil Named
  shortened_named (suc skip) (step ∷ steps) h = shortened_named skip steps (All-tail Named step steps h)
  shortened_named zero (Cycle cycle ∷ steps) h = All-cons Named (Cycle cycle) (shortened clauses steps) (All-head Named (Cycle cycle) steps h) (shortened_named 0 steps (All-tail Named (Cycle cycle) steps h))
  shortened_named zero (Input i ∷ steps) h =
      let others = All-tail Named (Input i) steps h in
      input_named i 0 (shortened_behind clauses (cases_count (slice_get clauses i)) steps) (shortened clauses steps) (closes (slice_get clauses i) steps) (shortened_named (cases_count (slice_get clauses i)) steps others) (shortened_named 0 steps others)
  shortened_named zero (Earlier j ∷ steps) h = All-cons Named (Earlier j) (shortened clauses steps) (All-head Named (Earlier j) steps h) (shortened_named 0 steps (All-tail Named (Earlier j) steps h))
  shortened_named zero (Clash i ∷ steps) h = All-cons Named (Clash i) (shortened clauses steps) (All-head Named (Clash i) steps h) (shortened_named 0 steps (All-tail Named (Clash i) steps h))
  shortened_named zero (Either l ∷ steps) h = All-cons Named (Either l) (shortened clauses steps) (All-head Named (Either l) steps h) (shortened_named 0 steps (All-tail Named (Either l) steps h))

pub shortened_refuted : (clauses : List (List Literal)) (lemma : Lemma) (clause : List Literal) (skip : ℕ) (steps left : List Step) → clause ≡ lemma.clause → left ≡ [] → steps ++ shortened_behind clauses skip left ≡ shortened clauses lemma.steps → StaysRefuted clauses lemma (record { clause = clause; steps = steps })
shortened_refuted clauses lemma clause skip steps left e ends built points earlier r =
    let whole : shortened clauses lemma.steps ≡ steps = sym built ∙ ap (λ (ss : List Step). steps ++ shortened_behind clauses skip ss) ends ∙ append-nil steps in
    record {
      clause = subst (All (IsOnPoints points)) (sym e) r.clause;
      steps = subst (All (NamesPoints points)) whole (shortened_named points clauses 0 lemma.steps r.steps);
      tree = subst (λ (ss : List Step). Tree clauses earlier (map negation_of clause) ss []) whole
          (subst (λ (ls : List Literal). Tree clauses earlier (map negation_of ls) (shortened clauses lemma.steps) []) (sym e) (tree_shortened clauses earlier r.tree));
    }

-- there is no step where a pair is to stand
pub none_left : (k : ℕ) (literals : List Literal) (steps : List Step) → k < length literals → steps ≡ [] → begin_with_pairs (drop k literals) steps ≡ false
none_left k [] steps h e = absurd (omega arith)
none_left zero (l ∷ literals) steps h e = ap (begin_with_pairs (l ∷ literals)) e
none_left (suc k) (l ∷ literals) steps h e = none_left k literals steps (omega arith) e
