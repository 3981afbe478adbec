-- What is carried is refuted over the new problem, and within its limits.
use Rattle.std.proofs.Common.{arith, ◌≡◌, ◌<◌, ◌+◌, ℕ, zero, suc, true, false, List, [], ◌∷◌, ◌++◌, length, map, take, Option, Some, None, All, Contains, refl, sym, ap, subst, ◌∙◌, get_or, length-append, flat_map, unwrap_or}
use Rattle.std.specs.Prelude.{slice_get}
use Rattle.std.specs.List.{items_where_true}
use Rattle.std.proofs.lemmas.List.{take-map, length-take-le, length-map}
use Rattle.std.proofs.lemmas.List.Elements.{All-nil, All-cons, All-head, All-tail, All-map, All-weaker, All-contains_itself}
use Rattle.std.proofs.lemmas.Option.{slice_get_within}
use Rattle.stn_core.specs.declared.literal.Literal.{Literal}
use Rattle.stn_core.specs.Literal.{IsOver}
use Rattle.refute_tree.specs.declared.step.Step.{Step}
use Rattle.refute_tree.specs.declared.step.Step.TheVariants.{Cycle, Input, Lemma as Earlier, Clash, Either}
use Rattle.refute_tree.specs.declared.lemma.Lemma.{Lemma}
use Rattle.refute_tree.specs.Trees.{clause_of, Tree, Forest, leaf, clash, cases, none, more, IsOnPoints, NamesPoints, IsRefuted, stated}
use Rattle.refute_tree.specs.Batches.{LemmaBatch, AreRefuted, NamesOver, LemmaIsOver, LemmaRefersBelow}
use Rattle.refute_tree.proofs.References.{all_below}
use Rattle.refute_tree.proofs.Numbered.{each_refuted, refuted_each}
use Rattle.kept_lemmas.specs.declared.item.Item.{Item}
use Rattle.kept_lemmas.specs.declared.item.Item.TheVariants.{Own}
use Rattle.kept_lemmas.specs.Facts.{Fact, Facts, support_of_clause, support_of_fact, named_by_fact, step_support, step_named, own_fact, facts_from}
use Rattle.kept_lemmas.specs.Entries.{IsUsable}
use Rattle.kept_lemmas.proofs.FactLists.{all_at}
use Rattle.trim_lemmas.specs.Trimming.{place}
use Rattle.trim_lemmas.proofs.Picked.{comes_from, goes_to, get_mapped, map_get}
use Rattle.carried_lemmas.specs.Carried.{lemma_facts, IsEqualAt, carried_step, carried_lemma, IsCarried}
use Rattle.carried_lemmas.specs.code.Carrying.{ReferBack}
use Rattle.carried_lemmas.proofs.Lists.{all_before, all_behind, all_from_get, taken_get, some_there, of_each}

-- refuted lemmas refer to none behind them
pub refer_back : (points : ℕ) (clauses : List (List Literal)) (lemmas : List Lemma) → AreRefuted points clauses [] lemmas → ReferBack lemmas
refer_back points clauses lemmas h k lemma at =
    let r = each_refuted points clauses [] lemmas h k lemma at in
    let before = map stated (take k lemmas) in
    let below : All (LemmaRefersBelow (length before + length (lemma ∷ []))) (lemma ∷ []) = all_below points clauses before (lemma ∷ []) (r, tt) in
    let within : k < length lemmas = slice_get_within lemmas k lemma at in
    let count : length before + 1 ≡ k + 1 = omega (arith, length-map (take k lemmas) stated, length-take-le k lemmas (omega arith)) in
    subst (λ (n : ℕ). LemmaRefersBelow n lemma) count (All-head (LemmaRefersBelow (length before + 1)) lemma [] below)

-- ---- the facts of lemmas

abbrev own : Lemma → Item
own lemma = Own lemma

front : (xs ys : Facts) (j : ℕ) (x : Fact) → slice_get xs j ≡ Some x → slice_get (xs ++ ys) j ≡ Some x
front [] ys j x e = absurd (cc)
front (y ∷ xs) ys zero x e = e
front (y ∷ xs) ys (suc j) x e = front xs ys j x e

facts_longer : (clauses : List (List Literal)) (facts : Facts) (lemmas : List Lemma) (j : ℕ) (fact : Fact) → slice_get facts j ≡ Some fact → slice_get (facts_from [] clauses facts (map own lemmas)) j ≡ Some fact
facts_longer clauses facts [] j fact e = e
facts_longer clauses facts (l ∷ lemmas) j fact e = facts_longer clauses (facts ++ own_fact clauses facts l ∷ []) lemmas j fact (front facts (own_fact clauses facts l ∷ []) j fact e)

-- the fact of the lemma with number k, where so many facts stand before
record HasFact (clauses : List (List Literal)) (all : Facts) (number : ℕ) (lemma : Lemma) : Type 0 where
  pub before : Facts
  pub count : length before ≡ number
  pub at : slice_get all number ≡ Some (own_fact clauses before lemma)
  pub same : (j : ℕ) (fact : Fact) → slice_get before j ≡ Some fact → slice_get all j ≡ Some fact

at_end : (xs : Facts) (x : Fact) → slice_get (xs ++ x ∷ []) (length xs) ≡ Some x
at_end [] x = refl
at_end (y ∷ xs) x = at_end xs x

fact_at : (clauses : List (List Literal)) (facts : Facts) (lemmas : List Lemma) (k : ℕ) (lemma : Lemma) → slice_get lemmas k ≡ Some lemma → HasFact clauses (facts_from [] clauses facts (map own lemmas)) (length facts + k) lemma
fact_at clauses facts [] k lemma e = absurd (cc)
fact_at clauses facts (l ∷ lemmas) zero lemma e =
    let same : l ≡ lemma = cc in
    let number : length facts ≡ length facts + 0 = omega arith in
    let all : Facts = facts_from [] clauses (facts ++ own_fact clauses facts l ∷ []) (map own lemmas) in
    record {
      before = facts;
      count = number;
      at = ap (slice_get all) (sym number) ∙ facts_longer clauses (facts ++ own_fact clauses facts l ∷ []) lemmas (length facts) (own_fact clauses facts l) (at_end facts (own_fact clauses facts l)) ∙ ap (λ (m : Lemma). Some (own_fact clauses facts m)) same;
      same = λ j fact f. facts_longer clauses facts (l ∷ lemmas) j fact f;
    }
fact_at clauses facts (l ∷ lemmas) (suc k) lemma e =
    let rest = fact_at clauses (facts ++ own_fact clauses facts l ∷ []) lemmas k lemma e in
    let number : length (facts ++ own_fact clauses facts l ∷ []) + k ≡ length facts + suc k = omega (arith, length-append facts (own_fact clauses facts l ∷ [])) in
    subst (λ (n : ℕ). HasFact clauses (facts_from [] clauses (facts ++ own_fact clauses facts l ∷ []) (map own lemmas)) n lemma) number rest

-- ---- a tree by the new numbers

module _ (inputs inputs_new lemmas lemmas_new : List (List Literal)) (named : Step → Step) (Good : Step → Type 0)
    (cycle_kept : (cycle : List Literal) → named (Cycle cycle) ≡ Cycle cycle)
    (clash_kept : (i : ℕ) (clause : List Literal) → Good (Clash i) → slice_get inputs i ≡ Some clause → (n : ℕ) × (named (Clash i) ≡ Clash n) × (slice_get inputs_new n ≡ Some clause))
    (same : (s : Step) (clause : List Literal) → Good s → clause_of inputs lemmas s ≡ Some clause → clause_of inputs_new lemmas_new (named s) ≡ Some clause) where
  mutual
    tree_carried : {assumed : List Literal} {steps rest : List Step} → Tree inputs lemmas assumed steps rest → All Good steps → Tree inputs_new lemmas_new assumed (map named steps) (map named rest) × All Good rest
    tree_carried (leaf {assumed = assumed} {cycle = cycle} {rest = rest} h) all = (
      subst (λ (s : Step). Tree inputs_new lemmas_new assumed (s ∷ map named rest) (map named rest)) (sym (cycle_kept cycle)) (leaf h),
      All-tail Good (Cycle cycle) rest all,
    )
    tree_carried (clash {assumed = assumed} {clause = clause} {i = i} {rest = rest} e h) all =
        let k = clash_kept i clause (All-head Good (Clash i) rest all) e in (
          subst (λ (s : Step). Tree inputs_new lemmas_new assumed (s ∷ map named rest) (map named rest)) (sym k.1) (clash k.2 h),
          All-tail Good (Clash i) rest all,
        )
    tree_carried (cases {clause = clause} {step = step} {steps = steps} e f) all =
        let after = forest_carried f (All-tail Good step steps all) in
        (cases (same step clause (All-head Good step steps all) e) after.0, after.1)

    forest_carried : {assumed clause : List Literal} {steps rest : List Step} → Forest inputs lemmas assumed clause steps rest → All Good steps → Forest inputs_new lemmas_new assumed clause (map named steps) (map named rest) × All Good rest
    forest_carried none all = (none, all)
    forest_carried (more t f) all =
        let first = tree_carried t all in
        let after = forest_carried f first.1 in
        (more first.0 after.0, after.1)

-- ---- the lemmas

number_is : (clauses : List (List Literal)) (clause : List Literal) (o : Option ℕ) (i : ℕ) → IsEqualAt clauses clause o → Contains clauses clause → slice_get clauses (unwrap_or o i) ≡ Some clause
number_is clauses clause None i h c = absurd (h c)
number_is clauses clause (Some n) i h c = h.at

module _ (old : List (List Literal)) (lemmas : List Lemma) (points : ℕ) (new : List (List Literal)) (batch : LemmaBatch) (c : IsCarried old lemmas points new batch) where
  -- what the step rests on is there
  IsGood : ℕ → Step → Type 0
  IsGood k (Input i) = (clause : List Literal) → slice_get old i ≡ Some clause → Contains new clause
  IsGood k (Clash i) = (clause : List Literal) → slice_get old i ≡ Some clause → Contains new clause
  IsGood k (Earlier j) = j < k → get_or c.kept j false ≡ true
  IsGood k (Cycle cycle) = Unit {0}
  IsGood k (Either l) = Unit {0}

  one_in : (clause : List Literal) (o : Option (List Literal)) → o ≡ Some clause → All (Contains new) (support_of_clause o) → Contains new clause
  one_in clause None e h = absurd (cc)
  one_in clause (Some d) e h = (let same : d ≡ clause = cc in subst (Contains new) same (All-head (Contains new) d [] h))

  module _ (k : ℕ) (lemma : Lemma) (at : slice_get lemmas k ≡ Some lemma) (marked : get_or c.kept k false ≡ true) where
    has : HasFact old (lemma_facts old lemmas) (0 + k) lemma
    has = fact_at old [] lemmas k lemma at

    usable : IsUsable points new (own_fact old has.before lemma)
    usable = (c.are.right k (own_fact old has.before lemma) (ap (slice_get (lemma_facts old lemmas)) (omega arith) ∙ has.at)).0 marked

    support_at : (s : Step) → Contains lemma.steps s → All (Contains new) (step_support old has.before s)
    support_at s in_ = of_each (Contains new) (step_support old has.before) lemma.steps s usable.active in_

    named_at : (s : Step) → Contains lemma.steps s → All (IsOnPoints points) (step_named has.before s)
    named_at s in_ = of_each (IsOnPoints points) (step_named has.before) lemma.steps s (all_behind (IsOnPoints points) lemma.clause (flat_map (step_named has.before) lemma.steps) usable.on_points) in_

    clause_on : All (IsOnPoints points) lemma.clause
    clause_on = all_before (IsOnPoints points) lemma.clause (flat_map (step_named has.before) lemma.steps) usable.on_points

    good : (s : Step) → Contains lemma.steps s → IsGood k s
    unfolding IsGood
    good (Input i) in_ = λ clause e. one_in clause (slice_get old i) e (support_at (Input i) in_)
    good (Clash i) in_ = λ clause e. one_in clause (slice_get old i) e (support_at (Clash i) in_)
    good (Earlier j) in_ = λ lt.
        let f = some_there has.before j (let n = has.count in omega arith) in
        let of : IsUsable points new f.0 = record {
          on_points = subst (λ (o : Option Fact). All (IsOnPoints points) (named_by_fact o)) f.1 (named_at (Earlier j) in_);
          active = subst (λ (o : Option Fact). All (Contains new) (support_of_fact o)) f.1 (support_at (Earlier j) in_);
        } in
        (c.are.right j f.0 (has.same j f.0 f.1)).1 of
    good (Cycle cycle) in_ = tt
    good (Either l) in_ = tt

    names_new : (s : Step) → Contains lemma.steps s → NamesPoints points (carried_step c.numbers c.kept s)
    names_new (Cycle cycle) in_ = named_at (Cycle cycle) in_
    names_new (Input i) in_ = named_at (Input i) in_
    names_new (Earlier j) in_ = All-nil (IsOnPoints points)
    names_new (Clash i) in_ = named_at (Clash i) in_
    names_new (Either l) in_ = named_at (Either l) in_

    all_named : All (λ s. NamesPoints points (carried_step c.numbers c.kept s)) lemma.steps
    all_named = All-weaker (Contains lemma.steps) (λ s. NamesPoints points (carried_step c.numbers c.kept s)) names_new lemma.steps (All-contains_itself lemma.steps)

    same_opened : (s : Step) (clause : List Literal) → IsGood k s → clause_of old (map stated (take k lemmas)) s ≡ Some clause
        → clause_of new (map stated (items_where_true c.kept (take k lemmas))) (carried_step c.numbers c.kept s) ≡ Some clause
    unfolding IsGood
    same_opened (Cycle cycle) clause g e = absurd (cc)
    same_opened (Input i) clause g e = number_is new clause (get_or c.numbers i None) i (c.equal.each i clause e) (g clause e)
    same_opened (Earlier j) clause g e =
        let found = get_mapped stated (take k lemmas) j clause e in
        let lt = (taken_get lemmas k j found.0 found.1).1 in
        map_get stated (items_where_true c.kept (take k lemmas)) (place c.kept j) found.0 (goes_to c.kept (take k lemmas) j found.0 found.1 (g lt)) ∙ ap (λ (x : List Literal). Some x) found.2
    same_opened (Clash i) clause g e = absurd (cc)
    same_opened (Either l) clause g e = e

    carried_at : (old_points : ℕ) → IsRefuted old_points old (map stated (take k lemmas)) lemma → IsRefuted points new (map stated (items_where_true c.kept (take k lemmas))) (carried_lemma c.numbers c.kept lemma)
    unfolding IsGood
    carried_at old_points r =
        let all : All (IsGood k) lemma.steps = All-weaker (Contains lemma.steps) (IsGood k) good lemma.steps (All-contains_itself lemma.steps) in
        let tree = tree_carried old new (map stated (take k lemmas)) (map stated (items_where_true c.kept (take k lemmas))) (carried_step c.numbers c.kept) (IsGood k) (λ cycle. refl)
        (λ i clause g e. (unwrap_or (get_or c.numbers i None) i, refl, number_is new clause (get_or c.numbers i None) i (c.equal.each i clause e) (g clause e)))
        same_opened r.tree all in
        record {
          clause = clause_on;
          steps = All-map (NamesPoints points) (carried_step c.numbers c.kept) lemma.steps all_named;
          tree = tree.0;
        }

    -- ---- within the limits

    over_from : (old_points : ℕ) (ls : List Literal) → All (IsOver old_points) ls → All (IsOnPoints points) ls → All (IsOver points) ls
    over_from old_points [] h on = All-nil (IsOver points)
    over_from old_points (l ∷ ls) h on =
        let one = All-head (IsOver old_points) l ls h in
        let here = All-head (IsOnPoints points) l ls on in
        All-cons (IsOver points) l ls (record { x_in = here.x_in; y_in = here.y_in; low = one.low; high = one.high })
        (over_from old_points ls (All-tail (IsOver old_points) l ls h) (All-tail (IsOnPoints points) l ls on))

    named_over : (old_points : ℕ) (s : Step) → NamesOver old_points s → NamesPoints points (carried_step c.numbers c.kept s) → NamesOver points (carried_step c.numbers c.kept s)
    named_over old_points (Cycle cycle) h on = All-nil (IsOver points)
    named_over old_points (Input i) h on = All-nil (IsOver points)
    named_over old_points (Earlier j) h on = All-nil (IsOver points)
    named_over old_points (Clash i) h on = All-nil (IsOver points)
    named_over old_points (Either l) h on = over_from old_points (l ∷ []) h on

    steps_over : (old_points : ℕ) (steps : List Step) → All (NamesOver old_points) steps → All (λ s. NamesPoints points (carried_step c.numbers c.kept s)) steps → All (NamesOver points) (map (carried_step c.numbers c.kept) steps)
    steps_over old_points [] h on = All-nil (NamesOver points)
    steps_over old_points (s ∷ steps) h on =
        let P : Step → Type 0 = λ (t : Step). NamesPoints points (carried_step c.numbers c.kept t) in
        All-cons (NamesOver points) (carried_step c.numbers c.kept s) (map (carried_step c.numbers c.kept) steps)
        (named_over old_points s (All-head (NamesOver old_points) s steps h) (All-head P s steps on))
        (steps_over old_points steps (All-tail (NamesOver old_points) s steps h) (All-tail P s steps on))

    over_at : (old_points : ℕ) → LemmaIsOver old_points lemma → LemmaIsOver points (carried_lemma c.numbers c.kept lemma)
    over_at old_points h = record {
      clause = over_from old_points lemma.clause h.clause clause_on;
      steps = steps_over old_points lemma.steps h.steps all_named;
    }

  stated_carried : (ls : List Lemma) → map stated (map (carried_lemma c.numbers c.kept) ls) ≡ map stated ls
  stated_carried [] = refl
  stated_carried (l ∷ ls) = ap (λ (cs : List (List Literal)). l.clause ∷ cs) (stated_carried ls)

  pub carried_refuted : (old_points : ℕ) → AreRefuted old_points old [] lemmas → AreRefuted points new [] batch.lemmas
  carried_refuted old_points refuted = subst (AreRefuted points new []) (sym c.lemmas_are) (refuted_each points new [] (map (carried_lemma c.numbers c.kept) (items_where_true c.kept lemmas)) each)
    where
      each : (i : ℕ) (lemma : Lemma) → slice_get (map (carried_lemma c.numbers c.kept) (items_where_true c.kept lemmas)) i ≡ Some lemma
          → IsRefuted points new (map stated (take i (map (carried_lemma c.numbers c.kept) (items_where_true c.kept lemmas)))) lemma
      each i lemma e =
          let picked = items_where_true c.kept lemmas in
          let found = get_mapped (carried_lemma c.numbers c.kept) picked i lemma e in
          let from = comes_from c.kept lemmas i found.0 found.1 in
          let r = carried_at from.number found.0 from.at from.marked old_points (each_refuted old_points old [] lemmas refuted from.number found.0 from.at) in
          let earlier : map stated (take i (map (carried_lemma c.numbers c.kept) picked)) ≡ map stated (items_where_true c.kept (take from.number lemmas)) =
          ap (map stated) (take-map (carried_lemma c.numbers c.kept) i picked) ∙ stated_carried (take i picked) ∙ ap (map stated) from.before in
          subst (λ (cs : List (List Literal)). IsRefuted points new cs lemma) (sym earlier)
          (subst (IsRefuted points new (map stated (items_where_true c.kept (take from.number lemmas)))) found.2 r)

  pub carried_over : (old_points : ℕ) → All (LemmaIsOver old_points) lemmas → All (LemmaIsOver points) batch.lemmas
  carried_over old_points over = subst (All (LemmaIsOver points)) (sym c.lemmas_are) (all_from_get (LemmaIsOver points) (map (carried_lemma c.numbers c.kept) (items_where_true c.kept lemmas)) each)
    where
      each : (i : ℕ) (lemma : Lemma) → slice_get (map (carried_lemma c.numbers c.kept) (items_where_true c.kept lemmas)) i ≡ Some lemma → LemmaIsOver points lemma
      each i lemma e =
          let found = get_mapped (carried_lemma c.numbers c.kept) (items_where_true c.kept lemmas) i lemma e in
          let from = comes_from c.kept lemmas i found.0 found.1 in
          subst (LemmaIsOver points) found.2 (over_at from.number found.0 from.at from.marked old_points (all_at (LemmaIsOver old_points) lemmas from.number found.0 over from.at))
