-- Kept items.
use Rattle.std.proofs.Common.{arith, ◌≡◌, ℕ, zero, suc, ◌<◌, ◌≤◌, List, [], ◌∷◌, ◌++◌, length, map, Option, Some, None, Bool, true, false, All, refl, sym, ap, ◌∙◌}
use Rattle.std.specs.Prelude.{slice_get, slice_index_or, option_map, option_and_then, nat_le, if◌then◌else◌}
use Rattle.std.specs.List.{list_all}
use Rattle.std.proofs.lemmas.Bool.{leb-true, le-leb}
use Rattle.std.proofs.lemmas.List.Elements.{All-head, All-tail}
use Rattle.std.proofs.lemmas.Option.{slice_get-map}
use Rattle.stn_core.specs.declared.literal.Literal.{Literal}
use Rattle.refute_tree.specs.declared.lemma.Lemma.{Lemma}
use Rattle.cert_check.specs.declared.flaw.FlawKind.{FlawKind}
use Rattle.cert_check.specs.declared.flaw.FlawKind.TheVariants.{NoSuchPoint, NotActive}
use Rattle.cert_check.specs.Tests.{is_on_points}
use Rattle.kept_lemmas.specs.declared.item.Kept.{Kept}
use Rattle.kept_lemmas.specs.declared.item.Item.{Item}
use Rattle.kept_lemmas.specs.declared.item.Item.TheVariants.{Own, Keep}
use Rattle.kept_lemmas.specs.Facts.{Fact, Facts, Shelf, kept_fact, fact_or_none}
use Rattle.kept_lemmas.specs.Entries.{IsOwn}
use Rattle.kept_lemmas.proofs.FactLists.{all_at}
use Rattle.cert_check.specs.Flaws.{first_of}
use Rattle.cert_check.specs.declared.flaw.Flaw.{Flaw}
use Rattle.lemma_shelf.specs.Clauses.{is_clause_of}
use Rattle.lemma_shelf.specs.ItemFlaws.{fact_flaw, kept_flaw, item_clause, item_flaw, items_flaw_from}
use Rattle.lemma_shelf.specs.code.Tables.{table_facts, fact_at, facts_at, shelf_by, entry_of, number_of, IsTable, is_active}
use Rattle.lemma_shelf.proofs.Lists.{some_there}
use Rattle.lemma_shelf.proofs.TableFacts.{table_fact, fact_is}

pub found_by : {V : Type 0} (items : V → List ℕ) (entries : List V) (kept : Kept) (place : ℕ) (numbers : V) (ns : List ℕ) (result : Option ℕ) → suc place ≡ kept.entry → slice_get entries place ≡ Some numbers → ns ≡ items numbers → result ≡ slice_get ns kept.item → result ≡ number_of (map items entries) kept
found_by items entries kept place numbers ns result e at is found =
    let there : entry_of (map items entries) (suc place) ≡ Some (items numbers) = slice_get-map items entries place ∙ ap (option_map items) at in
    found ∙ ap (λ (xs : List ℕ). slice_get xs kept.item) is
    ∙ sym (ap (option_and_then (λ (xs : List ℕ). slice_get xs kept.item)) (ap (entry_of (map items entries)) (sym e) ∙ there))

module _ (table : Facts) (entries : List (List ℕ)) where
  at_entry : (item : ℕ) (found : Option (List ℕ)) → option_and_then (λ (facts : Facts). slice_get facts item) (option_map (facts_at table) found) ≡ option_map (fact_at table) (option_and_then (λ (xs : List ℕ). slice_get xs item) found)
  at_entry item None = refl
  at_entry item (Some ns) = slice_get-map (fact_at table) ns item

  pub by_entry : (entry item : ℕ) → kept_fact (map (facts_at table) entries) (record { entry = entry; item = item }) ≡ option_map (fact_at table) (number_of entries (record { entry = entry; item = item }))
  by_entry zero item = refl
  by_entry (suc k) item = ap (option_and_then (λ (facts : Facts). slice_get facts item)) (slice_get-map (facts_at table) entries k) ∙ at_entry item (slice_get entries k)

  pub kept_is : (kept : Kept) (number : ℕ) → number_of entries kept ≡ Some number → kept_fact (map (facts_at table) entries) kept ≡ Some (fact_at table number)
  kept_is kept number e = by_entry kept.entry kept.item ∙ ap (option_map (fact_at table)) e

  in_entry : (P : ℕ → Type 0) (found : Option (List ℕ)) (item n : ℕ) → ((ns : List ℕ) → found ≡ Some ns → All P ns) → option_and_then (λ (xs : List ℕ). slice_get xs item) found ≡ Some n → P n
  in_entry P None item n all e = absurd (cc)
  in_entry P (Some ns) item n all e = all_at P ns item n (all ns refl) e

  pub number_holds : (P : ℕ → Type 0) (entry item n : ℕ) → All (λ (ns : List ℕ). All P ns) entries → number_of entries (record { entry = entry; item = item }) ≡ Some n → P n
  number_holds P zero item n all e = absurd (cc)
  number_holds P (suc k) item n all e = in_entry P (slice_get entries k) item n (λ ns is. all_at (λ (xs : List ℕ). All P xs) entries k ns all is) e

flaw_by : (points : ℕ) (clauses : List (List Literal)) (fact : Fact) (a b : Bool) → list_all (is_on_points points) fact.named ≡ a → list_all (is_clause_of clauses) fact.support ≡ b → fact_flaw points clauses fact ≡ (if a then (if b then None else Some NotActive) else Some NoSuchPoint)
flaw_by points clauses fact a b e f =
    ap (λ (x : Bool). if x then (if list_all (is_clause_of clauses) fact.support then None else Some NotActive) else Some NoSuchPoint) e
    ∙ ap (λ (y : Bool). if a then (if y then None else Some NotActive) else Some NoSuchPoint) f

module _ (book : List (List Literal)) (lemmas : List Lemma) (least : List ℕ) (table : IsTable book lemmas least) (entries : List (List ℕ))
    (points : ℕ) (clauses : List (List Literal)) (kept : Kept) (number : ℕ) (is : number_of entries kept ≡ Some number)
    (all : All (λ (ns : List ℕ). All (λ (n : ℕ). n < length lemmas) ns) entries) where
  pub within : number < length lemmas
  within = number_holds (table_facts book lemmas) entries (λ (n : ℕ). n < length lemmas) kept.entry kept.item number all is

  flaw_is : (f : Option FlawKind) → fact_flaw points clauses (fact_at (table_facts book lemmas) number) ≡ f → kept_flaw points clauses (kept_fact (shelf_by book lemmas entries) kept) ≡ f
  flaw_is f e = ap (kept_flaw points clauses) (kept_is (table_facts book lemmas) entries kept number is) ∙ e

  needs : (count : ℕ) → list_all (is_on_points count) (fact_at (table_facts book lemmas) number).named ≡ nat_le (slice_index_or least number 0) count
  needs = let found = some_there lemmas number within in (table.each number found.0 found.1).needs

  on_points : slice_index_or least number 0 ≤ points → list_all (is_on_points points) (fact_at (table_facts book lemmas) number).named ≡ true
  on_points le = needs points ∙ le-leb _ _ le

  pub not_on_points : points < slice_index_or least number 0 → kept_flaw points clauses (kept_fact (shelf_by book lemmas entries) kept) ≡ Some NoSuchPoint
  not_on_points lt =
      flaw_is (Some NoSuchPoint) (flaw_by points clauses (fact_at (table_facts book lemmas) number) false (list_all (is_clause_of clauses) (fact_at (table_facts book lemmas) number).support) (needs points ∙ above (nat_le (slice_index_or least number 0) points) refl) refl)
    where
      above : (b : Bool) → nat_le (slice_index_or least number 0) points ≡ b → b ≡ false
      above false e = refl
      above true e = let le = leb-true (slice_index_or least number 0) points e in absurd (omega (arith, le, lt))

  pub not_active : slice_index_or least number 0 ≤ points → is_active clauses (table_facts book lemmas) number ≡ false → kept_flaw points clauses (kept_fact (shelf_by book lemmas entries) kept) ≡ Some NotActive
  not_active le e = flaw_is (Some NotActive) (flaw_by points clauses (fact_at (table_facts book lemmas) number) true false (on_points le) e)

  pub usable : slice_index_or least number 0 ≤ points → is_active clauses (table_facts book lemmas) number ≡ true → kept_flaw points clauses (kept_fact (shelf_by book lemmas entries) kept) ≡ None
  usable le e = flaw_is None (flaw_by points clauses (fact_at (table_facts book lemmas) number) true true (on_points le) e)

-- the clause of a kept item is that of its lemma
pub clause_kept : (book : List (List Literal)) (lemmas : List Lemma) (entries : List (List ℕ)) (kept : Kept) (number : ℕ) (lemma : Lemma) → number_of entries kept ≡ Some number → slice_get lemmas number ≡ Some lemma → lemma.clause ≡ item_clause (shelf_by book lemmas entries) (Keep kept)
clause_kept book lemmas entries kept number lemma is at =
    sym (ap (λ (f : Option Fact). (fact_or_none f).clause) (kept_is (table_facts book lemmas) entries kept number is)
    ∙ ap (λ (f : Fact). f.clause) (fact_is book lemmas number _ (table_fact book lemmas number lemma at)))

-- own items have the same flaw over any entries
own_flaw_same : (shelf other : Shelf) (points : ℕ) (clauses earlier : List (List Literal)) (item : Item) → IsOwn item → (item_flaw shelf points clauses earlier item ≡ item_flaw other points clauses earlier item) × (item_clause shelf item ≡ item_clause other item)
own_flaw_same shelf other points clauses earlier (Own lemma) h = (refl, refl)
own_flaw_same shelf other points clauses earlier (Keep kept) h = elim h [ ]

pub owned_flaw_same : (shelf other : Shelf) (points : ℕ) (clauses earlier : List (List Literal)) (items : List Item) → All IsOwn items → items_flaw_from shelf points clauses earlier items ≡ items_flaw_from other points clauses earlier items
owned_flaw_same shelf other points clauses earlier [] all = refl
owned_flaw_same shelf other points clauses earlier (item ∷ items) all =
    let same = own_flaw_same shelf other points clauses earlier item (All-head IsOwn item items all) in
    ap (λ (f : Option Flaw). first_of f (items_flaw_from shelf points clauses (earlier ++ item_clause shelf item ∷ []) items)) same.0
    ∙ ap (λ (c : List Literal). first_of (item_flaw other points clauses earlier item) (items_flaw_from shelf points clauses (earlier ++ c ∷ []) items)) same.1
    ∙ ap (first_of (item_flaw other points clauses earlier item)) (owned_flaw_same shelf other points clauses (earlier ++ item_clause other item ∷ []) items (All-tail IsOwn item items all))

read_any : (xs : List ℕ) (n a b : ℕ) → n < length xs → slice_index_or xs n a ≡ slice_index_or xs n b
read_any [] n a b lt = absurd (omega arith)
read_any (x ∷ xs) zero a b lt = refl
read_any (x ∷ xs) (suc n) a b lt = read_any xs n a b (omega arith)

pub at_most : (xs : List ℕ) (n x points : ℕ) → x ≡ slice_index_or xs n x → n < length xs → x ≤ points → slice_index_or xs n 0 ≤ points
at_most xs n x points e lt le = let same = read_any xs n x 0 lt in omega (arith, e, same, le)

pub above : (xs : List ℕ) (n x points : ℕ) → x ≡ slice_index_or xs n x → n < length xs → points < x → points < slice_index_or xs n 0
above xs n x points e lt le = let same = read_any xs n x 0 lt in omega (arith, e, same, le)
