-- Steps by the numbers of the book and of the table, one after the other.
use Rattle.std.proofs.Common.{◌≡◌, ℕ, ◌<◌, List, [], ◌∷◌, ◌++◌, length, map, All, refl, sym, ap, subst, ◌∙◌, append-nil, append_assoc, length-append}
use Rattle.std.specs.Prelude.{slice_get, slice_index_or, Result, Ok, Err, OnOk, ◌&&◌}
use Rattle.std.specs.List.{list_all}
use Rattle.std.proofs.lemmas.List.{length-map}
use Rattle.std.proofs.lemmas.List.Elements.{All-nil}
use Rattle.std.proofs.lemmas.Option.{slice_get-get_or}
use Rattle.stn_core.specs.declared.literal.Literal.{Literal}
use Rattle.refute_tree.specs.declared.step.Step.{Step}
use Rattle.refute_tree.specs.declared.step.Step.TheVariants.{Input, Lemma as Earlier, Clash}
use Rattle.refute_tree.specs.declared.lemma.Lemma.{Lemma}
use Rattle.refute_tree.specs.Trees.{Tree, IsRefuted}
use Rattle.cert_check.specs.Tests.{is_on_points}
use Rattle.kept_lemmas.specs.Facts.{Facts, stated_by}
use Rattle.lemma_shelf.specs.declared.table.Table.{Table}
use Rattle.lemma_shelf.specs.declared.trees.Trees.{Trees}
use Rattle.lemma_shelf.specs.declared.trees.Trees.TheVariants.{Held, LetGo}
use Rattle.lemma_shelf.specs.code.Tables.{table_facts, facts_at, fact_at, IsKnownStep, IsTable, IsRenumbered, to_input, to_clash, to_earlier, AreRenumbered, BeginsAs, AddsStep, AddsHeld, step_held, steps_held, HaveTrees, NeedsOf, step_fits}
use Rattle.lemma_shelf.specs.code.Walks.{facts_in, IsWhole, TreesIn, KeepsTrees, Pushes, HasLemma, BeginsTable}
use Rattle.lemma_shelf.proofs.Lists.{some_there}
use Rattle.lemma_shelf.proofs.Alike.{all_renumbered_longer, tree_known}
use Rattle.lemma_shelf.proofs.HeldSteps.{held_more, zip_more}
use Rattle.lemma_shelf.proofs.MoreLemmas.{one_more, kept_at, new_at, tree_more}

on_ok : {A E : Type 0} {P Q : Type 0} (r : Result A E) → (P → Q) → OnOk r P → OnOk r Q
on_ok (Ok x) f h = f h
on_ok (Err e) f h = h

module _ (clauses : List (List Literal)) (numbers : List ℕ) (book : List (List Literal)) (step : Step) (known : IsKnownStep (length clauses) (length numbers) step) (before after : List Step) where
  input_there : (i n : ℕ) → step ≡ Input i → slice_get book n ≡ slice_get clauses i → IsRenumbered clauses numbers book step (Input n)
  input_there i n e same =
      let lt : IsKnownStep (length clauses) (length numbers) (Input i) = subst (IsKnownStep (length clauses) (length numbers)) e known in
      let there = some_there clauses i lt in
      subst (λ (s : Step). IsRenumbered clauses numbers book s (Input n)) (sym e) (to_input there.1 (same ∙ there.1))

  clash_there : (i n : ℕ) → step ≡ Clash i → slice_get book n ≡ slice_get clauses i → IsRenumbered clauses numbers book step (Clash n)
  clash_there i n e same =
      let lt : IsKnownStep (length clauses) (length numbers) (Clash i) = subst (IsKnownStep (length clauses) (length numbers)) e known in
      let there = some_there clauses i lt in
      subst (λ (s : Step). IsRenumbered clauses numbers book s (Clash n)) (sym e) (to_clash there.1 (same ∙ there.1))

  pub adds_input : {A E : Type 0} (r : Result A E) (i n : ℕ) → step ≡ Input i → slice_get book n ≡ slice_get clauses i → OnOk r (after ≡ before ++ Input n ∷ []) → OnOk r (AddsStep clauses numbers book step before after)
  adds_input r i n e same h = on_ok r (λ g. (Input n, g, input_there i n e same)) h

  pub adds_clash : {A E : Type 0} (r : Result A E) (i n : ℕ) → step ≡ Clash i → slice_get book n ≡ slice_get clauses i → OnOk r (after ≡ before ++ Clash n ∷ []) → OnOk r (AddsStep clauses numbers book step before after)
  adds_clash r i n e same h = on_ok r (λ g. (Clash n, g, clash_there i n e same)) h

  pub adds_lemma : {A E : Type 0} (r : Result A E) (j : ℕ) → step ≡ Earlier j → OnOk r (after ≡ before ++ Earlier (slice_index_or numbers j 0) ∷ []) → OnOk r (AddsStep clauses numbers book step before after)
  adds_lemma r j e h =
      let lt : IsKnownStep (length clauses) (length numbers) (Earlier j) = subst (IsKnownStep (length clauses) (length numbers)) e known in
      let is : IsRenumbered clauses numbers book step (Earlier (slice_index_or numbers j 0)) = subst (λ (s : Step). IsRenumbered clauses numbers book s (Earlier (slice_index_or numbers j 0))) (sym e) (to_earlier (slice_get-get_or numbers j 0 lt)) in
      on_ok r (λ g. (Earlier (slice_index_or numbers j 0), g, is)) h

  pub adds_itself : {A E : Type 0} (r : Result A E) → IsRenumbered clauses numbers book step step → OnOk r (after ≡ before ++ step ∷ []) → OnOk r (AddsStep clauses numbers book step before after)
  adds_itself r is h = on_ok r (λ g. (step, g, is)) h

pub begins_itself : {A : Type 0} (xs : List A) → BeginsAs xs xs
begins_itself xs = record { more = []; longer = sym (append-nil xs) }

pub begins_further : {A : Type 0} (xs ys zs : List A) → BeginsAs xs ys → BeginsAs ys zs → BeginsAs xs zs
begins_further xs ys zs a b = record { more = a.more ++ b.more; longer = b.longer ∙ ap (λ us. us ++ b.more) a.longer ∙ append_assoc xs a.more b.more }

-- ---- what is held of a step

pub next_done : (trees : Trees) (clauses : List (List Literal)) (numbers : List ℕ) (book now : List (List Literal)) → BeginsAs book now → (all before after : List Step) (s : Step) (made next : List Step) → before ≡ s ∷ after
    → ((done : List Step) × (all ≡ done ++ before) × AreRenumbered clauses numbers book (steps_held trees done) made) → AddsHeld trees clauses numbers now s made next
    → (done : List Step) × (all ≡ done ++ after) × AreRenumbered clauses numbers now (steps_held trees done) next
next_done trees clauses numbers book now begins all before after s made next e done adds =
    let longer : AreRenumbered clauses numbers now (steps_held trees done.0) made =
    subst (λ (b : List (List Literal)). AreRenumbered clauses numbers b (steps_held trees done.0) made) (sym begins.longer) (all_renumbered_longer clauses numbers book begins.more (steps_held trees done.0) made done.2) in
    let whole : AreRenumbered clauses numbers now (steps_held trees done.0 ++ step_held trees s) (made ++ adds.0) = zip_more (IsRenumbered clauses numbers now) (steps_held trees done.0) made (step_held trees s) adds.0 longer adds.2 in (
      done.0 ++ s ∷ [],
      done.1 ∙ ap (λ (xs : List Step). done.0 ++ xs) e ∙ sym (append_assoc done.0 (s ∷ []) after),
      subst (λ (ss : List Step). AreRenumbered clauses numbers now ss next) (sym (held_more trees done.0 s))
          (subst (AreRenumbered clauses numbers now (steps_held trees done.0 ++ step_held trees s)) (sym adds.1) whole),
    )

-- ---- a lemma

pub steps_known : (clauses : List (List Literal)) (table : Facts) (numbers : List ℕ) (assumed : List Literal) (steps read : List Step) → Tree clauses (map stated_by (facts_at table numbers)) assumed steps [] → read ≡ steps → All (IsKnownStep (length clauses) (length numbers)) read
steps_known clauses table numbers assumed steps read tree e =
    let long : length (map stated_by (facts_at table numbers)) ≡ length numbers = length-map (facts_at table numbers) stated_by ∙ length-map numbers (fact_at table) in
    let all = tree_known tree (All-nil (IsKnownStep (length clauses) (length (map stated_by (facts_at table numbers))))) in
    subst (λ (ss : List Step). All (IsKnownStep (length clauses) (length numbers)) ss) (sym e)
    (subst (λ (n : ℕ). All (IsKnownStep (length clauses) n) steps) long all)

module _ (before now : Table) (book : List (List Literal)) (longer : BeginsAs before.book book)
    (whole : IsWhole before) (clauses : List (List Literal)) (numbers : List ℕ) (within : All (λ (n : ℕ). n < length before.lemmas.items) numbers)
    (count : ℕ) (lemma : Lemma) (refuted : IsRefuted count clauses (map stated_by (facts_at (facts_in before) numbers)) lemma)
    (trees : Trees) (others : List Step) (same : AreRenumbered clauses numbers book (steps_held trees lemma.steps) others) where
  abbrev Other : Lemma
  Other = record { clause = lemma.clause; steps = others }

  has_lemma : (needs : ℕ) → now.book ≡ book → now.lemmas.items ≡ before.lemmas.items ++ Other ∷ [] → now.points.items ≡ before.points.items ++ needs ∷ [] → NeedsOf needs (λ (c : ℕ). list_all (is_on_points c) lemma.clause && list_all (step_fits before.points.items c) others) → HasLemma before clauses numbers lemma now
  has_lemma needs b l p least =
      let grown : now.book ≡ before.book ++ longer.more = b ∙ longer.longer in
      let same_grown : AreRenumbered clauses numbers (before.book ++ longer.more) (steps_held trees lemma.steps) others = subst (λ (x : List (List Literal)). AreRenumbered clauses numbers x (steps_held trees lemma.steps) others) longer.longer same in
      let table = one_more before.book longer.more before.lemmas.items before.points.items whole clauses numbers within count lemma refuted trees others same_grown needs least in
      let facts : facts_in now ≡ table_facts (before.book ++ longer.more) (before.lemmas.items ++ Other ∷ []) =
      ap (λ (x : List (List Literal)). table_facts x now.lemmas.items) grown ∙ ap (table_facts (before.book ++ longer.more)) l in
      let long = length-append before.lemmas.items (Other ∷ []) in
      record {
        whole =
            subst (λ (x : List (List Literal)). IsTable x now.lemmas.items now.points.items) (sym grown)
            (subst (λ (ls : List Lemma). IsTable (before.book ++ longer.more) ls now.points.items) (sym l)
            (subst (λ (ps : List ℕ). IsTable (before.book ++ longer.more) (before.lemmas.items ++ Other ∷ []) ps) (sym p) table));
        one_more = ap (λ (ls : List Lemma). length ls) l ∙ long;
        fact = ap (λ (fs : Facts). fact_at fs (length before.lemmas.items)) facts ∙ new_at before.book longer.more before.lemmas.items before.points.items whole clauses numbers within count lemma refuted trees others same_grown needs least;
        kept = λ n lt. ap (λ (fs : Facts). fact_at fs n) facts ∙ kept_at before.book longer.more before.lemmas.items before.points.items whole clauses numbers within count lemma refuted trees others same_grown needs least n lt;
      }

  pub pushed : {A E : Type 0} (r : Result A E) (middle : Table) (other : Lemma) → middle.book ≡ book → middle.lemmas.items ≡ before.lemmas.items → middle.points.items ≡ before.points.items → other ≡ Other → OnOk r (Pushes middle other now) → OnOk r (HasLemma before clauses numbers lemma now)
  pushed r middle other b l p o h =
      on_ok r (λ g.
      has_lemma g.needs (g.book ∙ b) (g.lemmas ∙ ap (λ (ls : List Lemma). ls ++ other ∷ []) l ∙ ap (λ (x : Lemma). before.lemmas.items ++ x ∷ []) o) (g.points ∙ ap (λ (ps : List ℕ). ps ++ g.needs ∷ []) p)
      (λ c. g.least c
      ∙ ap (λ (x : Lemma). list_all (is_on_points c) x.clause && list_all (step_fits middle.points.items c) x.steps) o
      ∙ ap (λ (ps : List ℕ). list_all (is_on_points c) lemma.clause && list_all (step_fits ps c) others) p)) h

  -- and its tree, where trees are held
  has_tree : (needs : ℕ) → trees ≡ Held → now.book ≡ book → now.lemmas.items ≡ before.lemmas.items ++ Other ∷ [] → NeedsOf needs (λ (c : ℕ). list_all (is_on_points c) lemma.clause && list_all (step_fits before.points.items c) others) → TreesIn before → TreesIn now
  has_tree needs held b l least there =
      let grown : now.book ≡ before.book ++ longer.more = b ∙ longer.longer in
      let same_grown : AreRenumbered clauses numbers (before.book ++ longer.more) (steps_held trees lemma.steps) others = subst (λ (x : List (List Literal)). AreRenumbered clauses numbers x (steps_held trees lemma.steps) others) longer.longer same in
      subst (λ (x : List (List Literal)). HaveTrees x now.lemmas.items) (sym grown)
      (subst (λ (ls : List Lemma). HaveTrees (before.book ++ longer.more) ls) (sym l)
      (tree_more before.book longer.more before.lemmas.items before.points.items whole clauses numbers within count lemma refuted trees others same_grown needs least held there))

keeps_by : (trees : Trees) (before now : Table) → (trees ≡ Held → TreesIn before → TreesIn now) → KeepsTrees trees before now
keeps_by Held before now h = h refl
keeps_by LetGo before now h = tt

module _ (before now : Table) (book : List (List Literal)) (longer : BeginsAs before.book book)
    (whole : IsWhole before) (clauses : List (List Literal)) (numbers : List ℕ) (within : All (λ (n : ℕ). n < length before.lemmas.items) numbers)
    (count : ℕ) (lemma : Lemma) (refuted : IsRefuted count clauses (map stated_by (facts_at (facts_in before) numbers)) lemma)
    (trees : Trees) (others : List Step) (same : AreRenumbered clauses numbers book (steps_held trees lemma.steps) others) where
  pub pushed_trees : {A E : Type 0} (r : Result A E) (middle : Table) (other : Lemma) → middle.book ≡ book → middle.lemmas.items ≡ before.lemmas.items → middle.points.items ≡ before.points.items
      → other ≡ record { clause = lemma.clause; steps = others } → OnOk r (Pushes middle other now) → OnOk r (KeepsTrees trees before now)
  pushed_trees r middle other b l p o h =
      on_ok r (λ g.
      keeps_by trees before now (λ held.
      has_tree before now book longer whole clauses numbers within count lemma refuted trees others same g.needs held (g.book ∙ b)
      (g.lemmas ∙ ap (λ (ls : List Lemma). ls ++ other ∷ []) l ∙ ap (λ (x : Lemma). before.lemmas.items ++ x ∷ []) o)
      (λ c. g.least c
      ∙ ap (λ (x : Lemma). list_all (is_on_points c) x.clause && list_all (step_fits middle.points.items c) x.steps) o
      ∙ ap (λ (ps : List ℕ). list_all (is_on_points c) lemma.clause && list_all (step_fits ps c) others) p))) h

pub begins_same : {A : Type 0} (xs ys : List A) → ys ≡ xs → BeginsAs xs ys
begins_same xs ys e = record { more = []; longer = e ∙ sym (append-nil xs) }

pub begins_table : (a b c : Table) → BeginsTable a b → BeginsTable b c → BeginsTable a c
begins_table a b c g h = record {
  book = begins_further a.book b.book c.book g.book h.book;
  lemmas = begins_further a.lemmas.items b.lemmas.items c.lemmas.items g.lemmas h.lemmas;
  points = begins_further a.points.items b.points.items c.points.items g.points h.points;
}
