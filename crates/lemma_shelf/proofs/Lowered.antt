-- What is written out is a refutation.
use Rattle.std.proofs.Common.{arith, ◌≡◌, ℕ, ◌<◌, ◌-◌, List, [], ◌++◌, length, map, flat_map, take, Option, Some, None, true, All, Contains, refl, sym, ap, subst, ◌∙◌}
use Rattle.std.specs.Prelude.{slice_get, option_map, option_and_then}
use Rattle.std.proofs.lemmas.List.{length-map, length-take-le}
use Rattle.std.proofs.lemmas.List.Elements.{All-nil, All-contains, All-weaker}
use Rattle.std.proofs.lemmas.Option.{slice_get-map, slice_get_within, same_Some}
use Rattle.stn_core.specs.declared.literal.Literal.{Literal}
use Rattle.refute_tree.specs.declared.step.Step.{Step}
use Rattle.refute_tree.specs.declared.step.Step.TheVariants.{Cycle, Input, Lemma as Earlier, Clash, Either}
use Rattle.refute_tree.specs.declared.lemma.Lemma.{Lemma}
use Rattle.refute_tree.specs.Trees.{IsOnPoints, NamesPoints, IsRefuted, IsRefutation, stated}
use Rattle.kept_lemmas.specs.Facts.{Fact, Facts, Shelf, named_by_fact, step_named, own_fact}
use Rattle.kept_lemmas.proofs.FactLists.{all_at}
use Rattle.lemma_shelf.specs.code.Tables.{table_facts, fact_at, facts_at, shelf_by, IsTable, is_active, steps_at}
use Rattle.lemma_shelf.specs.Lowering.{Refutes, last_fact, StatesLast}
use Rattle.lemma_shelf.specs.code.WrittenOut.{RestsOn, itself, cited, IsLowered, last_of}
use Rattle.lemma_shelf.proofs.Lists.{some_there, all_parts, all_before, all_behind}
use Rattle.lemma_shelf.proofs.TableFacts.{table_length, table_fact, table_taken, fact_is}
use Rattle.lemma_shelf.proofs.Tested.{all_clauses_decide}
use Rattle.lemma_shelf.proofs.Walking.{steps_are}
use Rattle.lemma_shelf.proofs.Placing.{cited_below, rests_below}

-- ---- the root of an entry that refutes the problem

-- the lemma of this number is the entry's last, and states the clause without literals
pub record IsRoot (book : List (List Literal)) (lemmas : List Lemma) (entries : List (List ℕ)) (shelf : Shelf) (entry : ℕ) (points : ℕ) (clauses : List (List Literal)) (root : ℕ) : Type 0 where
  pub is : last_of entries entry ≡ Some root
  pub within : root < length lemmas
  pub empty : (fact_at (table_facts book lemmas) root).clause ≡ []
  pub on_points : All (IsOnPoints points) (fact_at (table_facts book lemmas) root).named
  pub active : is_active clauses (table_facts book lemmas) root ≡ true
  pub facts : Facts
  pub there : slice_get shelf entry ≡ Some facts
  pub states : last_fact facts ≡ Some (fact_at (table_facts book lemmas) root)

some_of : {A B : Type 0} (f : A → B) (found : Option A) (y : B) → option_map f found ≡ Some y → (x : A) × (found ≡ Some x) × (f x ≡ y)
some_of f None y e = absurd (cc)
some_of f (Some x) y e = (x, refl, same_Some (f x) y e)

module _ (book : List (List Literal)) (lemmas : List Lemma) (entries : List (List ℕ)) (within : All (λ (ns : List ℕ). All (λ (n : ℕ). n < length lemmas) ns) entries)
    (shelf : Shelf) (same : shelf_by book lemmas entries ≡ shelf) (entry points : ℕ) (clauses : List (List Literal)) (h : Refutes shelf entry points clauses) where
  abbrev T : Facts
  T = table_facts book lemmas

  pub root_there : (root : ℕ) × IsRoot book lemmas entries shelf entry points clauses root
  root_there =
      let row = some_of (facts_at T) (slice_get entries entry) h.facts (sym (slice_get-map (facts_at T) entries entry) ∙ ap (λ (s : Shelf). slice_get s entry) same ∙ h.there) in
      let numbers : List ℕ = row.0 in
      let long : length h.facts ≡ length numbers = ap (λ (fs : Facts). length fs) (sym row.2) ∙ length-map numbers (fact_at T) in
      let at : slice_get (facts_at T numbers) (length numbers - 1) ≡ Some h.fact =
      ap (λ (fs : Facts). slice_get fs (length numbers - 1)) row.2 ∙ ap (λ (n : ℕ). slice_get h.facts (n - 1)) (sym long) ∙ h.last in
      let found = some_of (fact_at T) (slice_get numbers (length numbers - 1)) h.fact (sym (slice_get-map (fact_at T) numbers (length numbers - 1)) ∙ at) in
      let root : ℕ = found.0 in
      let here : h.fact ≡ fact_at T root = sym found.2 in (
        root,
        record {
          is = ap (option_and_then (λ (ns : List ℕ). slice_get ns (length ns - 1))) row.1 ∙ found.1;
          within = all_at (λ (n : ℕ). n < length lemmas) numbers (length numbers - 1) root (all_at (λ (ns : List ℕ). All (λ (n : ℕ). n < length lemmas) ns) entries entry numbers within row.1) found.1;
          empty = ap (λ (f : Fact). f.clause) found.2 ∙ h.empty;
          on_points = subst (λ (f : Fact). All (IsOnPoints points) f.named) here h.usable.on_points;
          active = (all_clauses_decide clauses (fact_at T root).support).1 (subst (λ (f : Fact). All (Contains clauses) f.support) here h.usable.active);
          facts = h.facts;
          there = h.there;
          states = h.last ∙ ap (λ (f : Fact). Some f) here;
        },
      )

pub root_is : (book : List (List Literal)) (lemmas : List Lemma) (entries : List (List ℕ)) (shelf : Shelf) (entry points : ℕ) (clauses : List (List Literal)) (found : Option ℕ) (number : ℕ) → (root : ℕ) × IsRoot book lemmas entries shelf entry points clauses root → found ≡ last_of entries entry → found ≡ Some number → IsRoot book lemmas entries shelf entry points clauses number
root_is book lemmas entries shelf entry points clauses found number root e is =
    subst (IsRoot book lemmas entries shelf entry points clauses) (same_Some root.0 number (sym root.1.is ∙ sym e ∙ is)) root.1

-- ---- the points that it names

module _ (book : List (List Literal)) (lemmas : List Lemma) (needs : List ℕ) (table : IsTable book lemmas needs) (points root : ℕ) (within : root < length lemmas)
    (on_points : All (IsOnPoints points) (fact_at (table_facts book lemmas) root).named) where
  abbrev On : ℕ → Type 0
  On n = All (IsOnPoints points) (fact_at (table_facts book lemmas) n).named

  cited_on : (n j : ℕ) → n < length lemmas → On n → Contains (steps_at lemmas n) (Earlier j) → On j
  cited_on n j lt on in_ =
      let found = some_there lemmas n lt in
      let below = cited_below book lemmas needs table n j lt in_ in
      let fact = fact_is book lemmas n (own_fact book (table_facts book (take n lemmas)) found.0) (table_fact book lemmas n found.0 found.1) in
      let named : All (IsOnPoints points) (found.0.clause ++ flat_map (step_named (table_facts book (take n lemmas))) found.0.steps) = subst (λ (f : Fact). All (IsOnPoints points) f.named) fact on in
      let steps = all_parts (IsOnPoints points) (step_named (table_facts book (take n lemmas))) found.0.steps (all_behind (IsOnPoints points) found.0.clause (flat_map (step_named (table_facts book (take n lemmas))) found.0.steps) named) in
      let same = steps_are lemmas n found.0 found.0.steps found.1 refl in
      let here : All (IsOnPoints points) (named_by_fact (slice_get (table_facts book (take n lemmas)) j)) =
      All-contains (λ (s : Step). All (IsOnPoints points) (step_named (table_facts book (take n lemmas)) s)) found.0.steps (Earlier j) steps (subst (λ (ss : List Step). Contains ss (Earlier j)) (sym same) in_) in
      let long = table_length book (take n lemmas) in
      let taken = length-take-le n lemmas (omega (arith, lt)) in
      let there = some_there (table_facts book (take n lemmas)) j (omega (arith, long, taken, below)) in
      let is : fact_at (table_facts book lemmas) j ≡ there.0 = fact_is book lemmas j there.0 (table_taken book lemmas n j there.0 there.1) in
      subst (λ (f : Fact). All (IsOnPoints points) f.named) (sym is) (subst (λ (o : Option Fact). All (IsOnPoints points) (named_by_fact o)) there.1 here)

  pub rests_on_points : (n : ℕ) → RestsOn lemmas root n → On n
  rests_on_points n itself = on_points
  rests_on_points n (cited {n = m} {j = j} h c) =
      let le = rests_below book lemmas needs table root m within h in
      cited_on m j (omega (arith, le, within)) (rests_on_points m h) c

  -- ---- the refutation

  names : (facts : Facts) (s : Step) → All (IsOnPoints points) (step_named facts s) → NamesPoints points s
  names facts (Cycle cycle) h = h
  names facts (Input i) h = h
  names facts (Earlier j) h = All-nil (IsOnPoints points)
  names facts (Clash i) h = h
  names facts (Either l) h = h

  module _ (clauses : List (List Literal)) (made : List Lemma) (low : IsLowered clauses book lemmas root made) where
    -- each states what a lemma of the table states
    from_table : (j : ℕ) (lemma : Lemma) → slice_get made j ≡ Some lemma → (n : ℕ) × (slice_get low.numbers j ≡ Some n) × (fact_at (table_facts book lemmas) n ≡ own_fact clauses (table_facts clauses (take j made)) lemma)
    from_table j lemma is =
        some_of (fact_at (table_facts book lemmas)) (slice_get low.numbers j) (own_fact clauses (table_facts clauses (take j made)) lemma)
        (sym (slice_get-map (fact_at (table_facts book lemmas)) low.numbers j) ∙ ap (λ (fs : Facts). slice_get fs j) (sym low.written.facts) ∙ table_fact clauses made j lemma is)

    each : (j : ℕ) (lemma : Lemma) → slice_get made j ≡ Some lemma → IsRefuted points clauses (map stated (take j made)) lemma
    each j lemma is =
        let from = from_table j lemma is in
        let on : On from.0 = rests_on_points from.0 (all_at (RestsOn lemmas root) low.numbers j from.0 low.rests from.1) in
        let facts : Facts = table_facts clauses (take j made) in
        let named : All (IsOnPoints points) (lemma.clause ++ flat_map (step_named facts) lemma.steps) = subst (λ (f : Fact). All (IsOnPoints points) f.named) from.2 on in
        let parts = all_parts (IsOnPoints points) (step_named facts) lemma.steps (all_behind (IsOnPoints points) lemma.clause (flat_map (step_named facts) lemma.steps) named) in
        record {
          clause = all_before (IsOnPoints points) lemma.clause (flat_map (step_named facts) lemma.steps) named;
          steps = All-weaker (λ (s : Step). All (IsOnPoints points) (step_named facts s)) (NamesPoints points) (names facts) lemma.steps parts;
          tree = low.written.tree j lemma is;
        }

    as_many : length made ≡ length low.numbers
    as_many = sym (table_length clauses made) ∙ ap (λ (fs : Facts). length fs) low.written.facts ∙ length-map low.numbers (fact_at (table_facts book lemmas))

    pub refutation : (fact_at (table_facts book lemmas) root).clause ≡ [] → IsRefutation points clauses made
    refutation empty = record {
      some = let lt = slice_get_within low.numbers (length low.numbers - 1) root low.last in let many = as_many in omega (arith, lt, many);
      each = each;
      last = λ lemma is. last lemma is;
    }
      where
        last : (lemma : Lemma) → slice_get made (length made - 1) ≡ Some lemma → lemma.clause ≡ []
        last lemma is =
            let from = from_table (length made - 1) lemma is in
            let here : slice_get low.numbers (length made - 1) ≡ Some root = ap (λ (n : ℕ). slice_get low.numbers (n - 1)) as_many ∙ low.last in
            let same : from.0 ≡ root = same_Some from.0 root (sym from.1 ∙ here) in
            sym (ap (λ (f : Fact). f.clause) from.2) ∙ ap (λ (n : ℕ). (fact_at (table_facts book lemmas) n).clause) same ∙ empty

pub states_last : (book : List (List Literal)) (lemmas : List Lemma) (entries : List (List ℕ)) (shelf : Shelf) (entry points : ℕ) (clauses : List (List Literal)) (root : ℕ) (made : List Lemma) → IsRoot book lemmas entries shelf entry points clauses root → IsLowered clauses book lemmas root made → StatesLast shelf entry clauses made
states_last book lemmas entries shelf entry points clauses root made r low = record {
  facts = r.facts;
  there = r.there;
  same =
      ap last_fact low.written.facts
      ∙ ap (λ (n : ℕ). slice_get (facts_at (table_facts book lemmas) low.numbers) (n - 1)) (length-map low.numbers (fact_at (table_facts book lemmas)))
      ∙ slice_get-map (fact_at (table_facts book lemmas)) low.numbers (length low.numbers - 1)
      ∙ ap (option_map (fact_at (table_facts book lemmas))) low.last
      ∙ sym r.states;
}
