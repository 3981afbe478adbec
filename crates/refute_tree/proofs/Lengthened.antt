-- Clashes written out: a tree stays one.
use Rattle.std.proofs.Common.{arith, ◌≡◌, ℕ, List, [], ◌∷◌, ◌++◌, map, Option, Some, None, All, Contains, pos, ◌+ℤ◌, ◌<ℤ◌, append_assoc, append-nil, subst, sym, ap, ◌∙◌, refl}
use Rattle.std.specs.Prelude.{slice_get}
use Rattle.std.proofs.lemmas.Int.{ints}
use Rattle.std.proofs.lemmas.List.Elements.{All-nil, All-cons, All-head, All-tail, All-append, Contains-push, Contains-append_left}
use Rattle.stn_core.specs.declared.literal.Literal.{Literal}
use Rattle.stn_core.specs.Literal.{negation_of}
use Rattle.stn_core.specs.Answer.{IsCycleAmong}
use Rattle.refute_tree.specs.declared.step.Step.{Step}
use Rattle.refute_tree.specs.declared.step.Step.TheVariants.{Cycle, Input, Lemma as Earlier, Clash, Either}
use Rattle.refute_tree.specs.declared.lemma.Lemma.{Lemma}
use Rattle.refute_tree.specs.declared.reader.StepView.{StepView}
use Rattle.refute_tree.specs.declared.reader.StepView.TheVariants.{Clash as ClashView}
use Rattle.refute_tree.specs.Pairs.{pair_of}
use Rattle.refute_tree.specs.code.Views.{step_seen}
use Rattle.refute_tree.specs.Trees.{clause_of, Tree, Forest, IsDenied, leaf, clash, cases, none, more, IsOnPoints, NamesPoints}
use Rattle.refute_tree.specs.Lengths.{pair_step, written_out, lengthened_step, lengthened, StaysRefuted}
use Rattle.refute_tree.proofs.Kept.{AreIn, IsDenied-more}

-- a literal and its negation are a negative cycle
pub pair_cycle : (assumed : List Literal) (l : Literal) → Contains assumed l → Contains assumed (negation_of l) → IsCycleAmong assumed (pair_of l)
pair_cycle assumed l h k = record {
  negative = record { some = omega arith; closed = (l.x, (refl, (refl, refl))); negative = pair_negative l };
  given = All-cons (Contains assumed) l (negation_of l ∷ []) h (All-cons (Contains assumed) (negation_of l) [] k (All-nil (Contains assumed)));
}
  where
    pair_negative : (l : Literal) → (l.c +ℤ ((negation_of l).c +ℤ pos 0)) <ℤ pos 0
    pair_negative l = omega (arith, ints)

module _ (inputs lemmas : List (List Literal)) where
  pub pairs_forest : (assumed clause : List Literal) (rest : List Step) → IsDenied assumed clause → Forest inputs lemmas assumed clause (map pair_step clause ++ rest) rest
  pairs_forest assumed [] rest h = none
  pairs_forest assumed (l ∷ clause) rest h =
      let denied : Contains assumed (negation_of l) = All-head (Contains assumed) (negation_of l) (map negation_of clause) h in
      let others : IsDenied assumed clause = All-tail (Contains assumed) (negation_of l) (map negation_of clause) h in
      let kept : AreIn assumed (assumed ++ negation_of l ∷ []) = λ m c. Contains-append_left assumed (negation_of l ∷ []) m c in
      more (leaf (pair_cycle (assumed ++ l ∷ []) l (Contains-push assumed l) (Contains-append_left assumed (l ∷ []) (negation_of l) denied)))
      (pairs_forest (assumed ++ negation_of l ∷ []) clause rest (IsDenied-more assumed (assumed ++ negation_of l ∷ []) clause kept others))

  written_tree : (assumed clause : List Literal) (i : ℕ) (found : Option (List Literal)) (rest : List Step) → found ≡ Some clause → slice_get inputs i ≡ Some clause → IsDenied assumed clause → Tree inputs lemmas assumed (written_out i found ++ rest) rest
  written_tree assumed clause i found rest e is h =
      subst (λ (o : Option (List Literal)). Tree inputs lemmas assumed (written_out i o ++ rest) rest) (sym e) (cases is (pairs_forest assumed clause rest h))

  plain_step : (step : Step) (clause : List Literal) → clause_of inputs lemmas step ≡ Some clause → lengthened_step inputs step ≡ step ∷ []
  plain_step (Cycle cycle) clause e = refl
  plain_step (Input i) clause e = refl
  plain_step (Earlier j) clause e = refl
  plain_step (Clash i) clause e = absurd (cc)
  plain_step (Either l) clause e = refl

  opened_tree : (assumed clause : List Literal) (step : Step) (steps rest : List Step) → clause_of inputs lemmas step ≡ Some clause → Forest inputs lemmas assumed clause (lengthened inputs steps) (lengthened inputs rest) → Tree inputs lemmas assumed (lengthened inputs (step ∷ steps)) (lengthened inputs rest)
  opened_tree assumed clause step steps rest e f =
      subst (λ (front : List Step). Tree inputs lemmas assumed (front ++ lengthened inputs steps) (lengthened inputs rest)) (sym (plain_step step clause e)) (cases e f)

  mutual
    pub tree_lengthened : {assumed : List Literal} {steps rest : List Step} → Tree inputs lemmas assumed steps rest → Tree inputs lemmas assumed (lengthened inputs steps) (lengthened inputs rest)
    tree_lengthened (leaf h) = leaf h
    tree_lengthened (clash {assumed = assumed} {clause = clause} {i = i} {rest = rest} e h) = written_tree assumed clause i (slice_get inputs i) (lengthened inputs rest) e e h
    tree_lengthened (cases {assumed = assumed} {clause = clause} {step = step} {steps = steps} {rest = rest} e f) = opened_tree assumed clause step steps rest e (forest_lengthened f)

    forest_lengthened : {assumed clause : List Literal} {steps rest : List Step} → Forest inputs lemmas assumed clause steps rest → Forest inputs lemmas assumed clause (lengthened inputs steps) (lengthened inputs rest)
    forest_lengthened none = none
    forest_lengthened (more t f) = more (tree_lengthened t) (forest_lengthened f)

module _ (points : ℕ) (clauses : List (List Literal)) where
  pairs_named : (clause : List Literal) → All (NamesPoints points) (map pair_step clause)
  pairs_named [] = All-nil (NamesPoints points)
  pairs_named (l ∷ clause) = All-cons (NamesPoints points) (pair_step l) (map pair_step clause) (All-nil (IsOnPoints points)) (pairs_named clause)

  written_named : (i : ℕ) (found : Option (List Literal)) → All (NamesPoints points) (written_out i found)
  written_named i None = All-cons (NamesPoints points) (Clash i) [] (All-nil (IsOnPoints points)) (All-nil (NamesPoints points))
  written_named i (Some clause) = All-cons (NamesPoints points) (Input i) (map pair_step clause) (All-nil (IsOnPoints points)) (pairs_named clause)

  step_named : (step : Step) → NamesPoints points step → All (NamesPoints points) (lengthened_step clauses step)
  step_named (Cycle cycle) h = All-cons (NamesPoints points) (Cycle cycle) [] h (All-nil (NamesPoints points))
  step_named (Input i) h = All-cons (NamesPoints points) (Input i) [] h (All-nil (NamesPoints points))
  step_named (Earlier j) h = All-cons (NamesPoints points) (Earlier j) [] h (All-nil (NamesPoints points))
  step_named (Clash i) h = written_named i (slice_get clauses i)
  step_named (Either l) h = All-cons (NamesPoints points) (Either l) [] h (All-nil (NamesPoints points))

  pub lengthened_named : (steps : List Step) → All (NamesPoints points) steps → All (NamesPoints points) (lengthened clauses steps)
  lengthened_named [] h = All-nil (NamesPoints points)
  lengthened_named (step ∷ steps) h =
      All-append (NamesPoints points) (lengthened_step clauses step) (lengthened clauses steps)
      (step_named step (All-head (NamesPoints points) step steps h))
      (lengthened_named steps (All-tail (NamesPoints points) step steps h))

pub lengthened_refuted : (clauses : List (List Literal)) (lemma : Lemma) (clause : List Literal) (steps left : List Step) → clause ≡ lemma.clause → left ≡ [] → steps ++ lengthened clauses left ≡ lengthened clauses lemma.steps → StaysRefuted clauses lemma (record { clause = clause; steps = steps })
lengthened_refuted clauses lemma clause steps left e ends built points earlier r =
    let whole : lengthened clauses lemma.steps ≡ steps = sym built ∙ ap (λ (ss : List Step). steps ++ lengthened clauses ss) ends ∙ append-nil steps in
    record {
      clause = subst (All (IsOnPoints points)) (sym e) r.clause;
      steps = subst (All (NamesPoints points)) whole (lengthened_named points clauses lemma.steps r.steps);
      tree = subst (λ (ss : List Step). Tree clauses earlier (map negation_of clause) ss []) whole
          (subst (λ (ls : List Literal). Tree clauses earlier (map negation_of ls) (lengthened clauses lemma.steps) []) (sym e) (tree_lengthened clauses earlier r.tree));
    }

-- a clash that was read, and added so
pub clash_added : (clauses : List (List Literal)) (step : StepView) (i : ℕ) (clause : List Literal) (before between after : List Step) → step ≡ ClashView i → slice_get clauses i ≡ Some clause → between ≡ before ++ Input i ∷ [] → after ≡ between ++ map pair_step clause → after ≡ before ++ lengthened_step clauses (step_seen step)
clash_added clauses step i clause before between after is found opened closed =
    closed
    ∙ ap (λ (ss : List Step). ss ++ map pair_step clause) opened
    ∙ append_assoc before (Input i ∷ []) (map pair_step clause)
    ∙ sym (ap (λ (o : Option (List Literal)). before ++ written_out i o) found)
    ∙ sym (ap (λ (s : StepView). before ++ lengthened_step clauses (step_seen s)) is)
