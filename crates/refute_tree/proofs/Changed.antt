-- Refutations whose lemmas are lengthened or shortened.
use Rattle.std.proofs.Common.{arith, ◌≡◌, ◌-◌, ℕ, zero, suc, List, [], ◌∷◌, ◌++◌, length, map, take, Option, Some, All, append-nil, subst, sym, ap, ◌∙◌, refl}
use Rattle.std.specs.Prelude.{slice_get}
use Rattle.std.proofs.lemmas.List.{length-map, take-map}
use Rattle.std.proofs.lemmas.List.Elements.{All-nil, All-cons, All-head, All-tail, All-append}
use Rattle.stn_core.specs.declared.literal.Literal.{Literal}
use Rattle.refute_tree.specs.declared.step.Step.{Step}
use Rattle.refute_tree.specs.declared.step.Step.TheVariants.{Cycle, Input, Lemma as Earlier, Clash, Either}
use Rattle.refute_tree.specs.declared.lemma.Lemma.{Lemma}
use Rattle.refute_tree.specs.Trees.{clause_of, Tree, Forest, leaf, clash, cases, none, more, IsRefuted, IsRefutation, stated}
use Rattle.refute_tree.specs.Lengths.{pair_step, written_out, lengthened_step, lengthened, IsNoClash, lengthened_lemma, shortened_lemma, shortened, StaysRefuted}
use Rattle.refute_tree.proofs.Lengthened.{lengthened_refuted}
use Rattle.refute_tree.proofs.Shortened.{shortened_refuted}

plain_step : (clauses : List (List Literal)) (step : Step) → IsNoClash step → lengthened_step clauses step ≡ step ∷ []
plain_step clauses (Cycle cycle) h = refl
plain_step clauses (Input i) h = refl
plain_step clauses (Earlier j) h = refl
plain_step clauses (Clash i) h = absurd h
plain_step clauses (Either l) h = refl

pub plain_lengthened : (clauses : List (List Literal)) (steps : List Step) → All IsNoClash steps → lengthened clauses steps ≡ steps
plain_lengthened clauses [] h = refl
plain_lengthened clauses (step ∷ steps) h =
    ap (λ (front : List Step). front ++ lengthened clauses steps) (plain_step clauses step (All-head IsNoClash step steps h))
    ∙ ap (λ (rest : List Step). step ∷ rest) (plain_lengthened clauses steps (All-tail IsNoClash step steps h))

module _ (inputs lemmas : List (List Literal)) where
  pairs_plain : (clause : List Literal) → All IsNoClash (map pair_step clause)
  pairs_plain [] = All-nil IsNoClash
  pairs_plain (l ∷ clause) = All-cons IsNoClash (pair_step l) (map pair_step clause) tt (pairs_plain clause)

  written_plain : (i : ℕ) (found : Option (List Literal)) (clause : List Literal) (rest : List Step) → found ≡ Some clause → All IsNoClash rest → All IsNoClash (written_out i found ++ rest)
  written_plain i found clause rest e h =
      subst (λ (o : Option (List Literal)). All IsNoClash (written_out i o ++ rest)) (sym e)
      (All-append IsNoClash (written_out i (Some clause)) rest (All-cons IsNoClash (Input i) (map pair_step clause) tt (pairs_plain clause)) h)

  opened_plain : (step : Step) (clause : List Literal) → clause_of inputs lemmas step ≡ Some clause → IsNoClash step
  opened_plain (Cycle cycle) clause e = tt
  opened_plain (Input i) clause e = tt
  opened_plain (Earlier j) clause e = tt
  opened_plain (Clash i) clause e = absurd (cc)
  opened_plain (Either l) clause e = tt

  cases_plain : (step : Step) (clause : List Literal) (rest : List Step) → clause_of inputs lemmas step ≡ Some clause → All IsNoClash rest → All IsNoClash (lengthened_step inputs step ++ rest)
  cases_plain step clause rest e h =
      let plain = opened_plain step clause e in
      subst (λ (front : List Step). All IsNoClash (front ++ rest)) (sym (plain_step inputs step plain)) (All-cons IsNoClash step rest plain h)

  mutual
    tree_plain : {assumed : List Literal} {steps rest : List Step} → Tree inputs lemmas assumed steps rest → All IsNoClash (lengthened inputs rest) → All IsNoClash (lengthened inputs steps)
    tree_plain (leaf {cycle = cycle} {rest = rest} h) k = All-cons IsNoClash (Cycle cycle) (lengthened inputs rest) tt k
    tree_plain (clash {clause = clause} {i = i} {rest = rest} e h) k = written_plain i (slice_get inputs i) clause (lengthened inputs rest) e k
    tree_plain (cases {clause = clause} {step = step} {steps = steps} e f) k = cases_plain step clause (lengthened inputs steps) e (forest_plain f k)

    forest_plain : {assumed clause : List Literal} {steps rest : List Step} → Forest inputs lemmas assumed clause steps rest → All IsNoClash (lengthened inputs rest) → All IsNoClash (lengthened inputs steps)
    forest_plain none k = k
    forest_plain (more t f) k = tree_plain t (forest_plain f k)

pub refuted_plain : (points : ℕ) (clauses earlier : List (List Literal)) (lemma : Lemma) → IsRefuted points clauses earlier lemma → All IsNoClash (lengthened clauses lemma.steps)
refuted_plain points clauses earlier lemma r = tree_plain clauses earlier r.tree (All-nil IsNoClash)

module _ (change : Lemma → Lemma) (clauses : List (List Literal)) (same : (lemma : Lemma) → (change lemma).clause ≡ lemma.clause) (stays : (lemma : Lemma) → StaysRefuted clauses lemma (change lemma)) where
  stated_changed : (lemmas : List Lemma) → map stated (map change lemmas) ≡ map stated lemmas
  stated_changed [] = refl
  stated_changed (lemma ∷ lemmas) = ap (λ (ls : List Literal). ls ∷ map stated (map change lemmas)) (same lemma) ∙ ap (λ (cs : List (List Literal)). lemma.clause ∷ cs) (stated_changed lemmas)

  pub record IsChangedAt (lemmas : List Lemma) (j : ℕ) (other : Lemma) : Type 0 where
    pub lemma : Lemma
    pub at : slice_get lemmas j ≡ Some lemma
    pub is : change lemma ≡ other

  changed_at : (lemmas : List Lemma) (j : ℕ) (other : Lemma) → slice_get (map change lemmas) j ≡ Some other → IsChangedAt lemmas j other
  changed_at [] j other e = absurd (cc)
  changed_at (lemma ∷ lemmas) zero other e = record { lemma = lemma; at = refl; is = cc }
  changed_at (lemma ∷ lemmas) (suc j) other e = let rest = changed_at lemmas j other e in record { lemma = rest.lemma; at = rest.at; is = rest.is }

  before_changed : (lemmas : List Lemma) (j : ℕ) → map stated (take j (map change lemmas)) ≡ map stated (take j lemmas)
  before_changed lemmas j = ap (map stated) (take-map change j lemmas) ∙ stated_changed (take j lemmas)

  pub refutation_changed : (points : ℕ) (lemmas : List Lemma) → IsRefutation points clauses lemmas → IsRefutation points clauses (map change lemmas)
  refutation_changed points lemmas r = record {
    some = omega (arith, r.some, length-map lemmas change);
    each = λ j other e. (let c = changed_at lemmas j other e in
        subst (λ (cs : List (List Literal)). IsRefuted points clauses cs other) (sym (before_changed lemmas j))
        (subst (IsRefuted points clauses (map stated (take j lemmas))) c.is (stays c.lemma points (map stated (take j lemmas)) (r.each j c.lemma c.at))));
    last = λ other e. (
        let n : length (map change lemmas) - 1 ≡ length lemmas - 1 = omega (arith, length-map lemmas change) in
        let c = changed_at lemmas (length lemmas - 1) other (subst (λ (k : ℕ). slice_get (map change lemmas) k ≡ Some other) n e) in
        sym (ap stated c.is) ∙ same c.lemma ∙ r.last c.lemma c.at);
  }

pub refutation_lengthened : (points : ℕ) (clauses : List (List Literal)) (lemmas : List Lemma) → IsRefutation points clauses lemmas → IsRefutation points clauses (map (lengthened_lemma clauses) lemmas)
refutation_lengthened points clauses lemmas r =
    refutation_changed (lengthened_lemma clauses) clauses (λ lemma. refl)
    (λ lemma. lengthened_refuted clauses lemma lemma.clause (lengthened clauses lemma.steps) [] refl refl (append-nil (lengthened clauses lemma.steps))) points lemmas r

pub refutation_shortened : (points : ℕ) (clauses : List (List Literal)) (lemmas : List Lemma) → IsRefutation points clauses lemmas → IsRefutation points clauses (map (shortened_lemma clauses) lemmas)
refutation_shortened points clauses lemmas r =
    refutation_changed (shortened_lemma clauses) clauses (λ lemma. refl)
    (λ lemma. shortened_refuted clauses lemma lemma.clause 0 (shortened clauses lemma.steps) [] refl refl (append-nil (shortened clauses lemma.steps))) points lemmas r
