-- Entries, kind by kind: what a further kind adds to what is read, and to the forms that are read alone, stands in this file.
use Rattle.std.proofs.Common.{◌≡◌, inl, inr, ◌∙◌, refl, sym, ap, subst, arith, ℕ, ◌<◌, ◌≤◌, ◌-◌, ◌^◌, ℤ, Bool, true, false, List, [], ◌∷◌, map, Option, Some, None}
use Rattle.std.specs.Prelude.{All, codes, option_map, option_and_then, if◌then◌else◌}
use Rattle.std.specs.List.Sorted.{IsStrictlyIncreasing}
use Rattle.std.specs.Str.{bytes_eq}
use Rattle.smt_sexpr.specs.Tree.{Sexpr, Items, leaf, list, none, more}
use Rattle.smt_sexpr.specs.Printing.{IsWritable, AreWritable}
use Rattle.smt_sexpr.specs.Shapes.{symbol, items_of, headed_of}
use Rattle.stn_core.specs.Limits.{named_value_limit}
use Rattle.stn_core.specs.declared.named.NamedValue.{NamedValue}
use Rattle.kept_lemmas.specs.declared.item.Item.{Item}
use Rattle.cert_text.specs.declared.entry.Version.{Version}
use Rattle.cert_text.specs.declared.entry.FileEntry.{FileEntry}
use Rattle.cert_text.specs.declared.entry.FileEntry.TheVariants.{Sat, Unsat, Best, Unbounded}
use Rattle.cert_text.specs.Form.{numeral, number_of_value, item_sexpr, value_sexpr, values_sexpr, schedule_sexpr, points_sexpr, file_entry_sexpr}
use Rattle.cert_text.specs.Limits.{WholeFits}
use Rattle.cert_read.specs.Laws.{EntryIsItsForm, IsReadWithin}
use Rattle.cert_read.specs.Parts.{limit, index_of, whole_of, each_of, item_of, named_value_of, values_of, schedule_of, ascends, ascending, points_of, best_with, best_from, unbounded_with, unbounded_from, entry_named, entry_of}
use Rattle.cert_read.specs.Written.{ItemWithin, ValueFits, IsPlainFileEntry}
use Rattle.cert_read.specs.declared.line.Head.{Head}
use Rattle.cert_read.specs.declared.line.Head.TheVariants as head
use Rattle.cert_read.proofs.EntryBack.{each_back, index_back, whole_back, item_back, value_back, ItemFits}
use Rattle.cert_read.proofs.OnlyForms.{none_some, some_same, mapped, chained, branch, tested, index_only, within_only, between, more_same, Only, each_only, named, headed_only, item_only, value_only}
use Rattle.cert_read.proofs.Ascending.{nearest, ascends_up, ascends_passes, points_kept, points_plain}
use Rattle.cert_read.proofs.ObjectiveEntries.{best_is, unbounded_is}

-- ---- what is written is read

small_index : (n : ℕ) → n < 2 ^ 32 → index_of (numeral n) ≡ Some n
small_index n h = index_back n (omega arith)

points_back : (set : List ℕ) → All (λ (p : ℕ). p < 2 ^ 32) set → IsStrictlyIncreasing set → points_of (points_sexpr set) ≡ Some set
points_back set below up =
    let numbers : each_of index_of (items_of (map numeral set)) ≡ Some set = each_back index_of numeral (λ (p : ℕ). p < 2 ^ 32) small_index set below in
    let kept : ascending set ≡ Some (map nearest set) = ap (λ (b : Bool). if b then Some (map nearest set) else None) (ascends_passes set up) in
    ap (option_and_then ascending) numbers ∙ kept ∙ ap Some (points_kept set below)

pub entry_back : EntryIsItsForm
entry_back version (Sat values) h = rw (each_back named_value_of value_sexpr ValueFits value_back values h) refl
entry_back version (Unsat items) h = rw (each_back (item_of version) item_sexpr (ItemFits version) (item_back version) items h) refl
entry_back version (Best m values items) h =
    best_is version (number_of_value m) (values_sexpr values) (items_of (map item_sexpr items)) m values items
    (whole_back m h.0)
    (each_back named_value_of value_sexpr ValueFits value_back values h.1)
    (each_back (item_of version) item_sexpr (ItemFits version) (item_back version) items h.2)
entry_back version (Unbounded values set) h =
    unbounded_is (schedule_sexpr values) (points_sexpr set) values set
    (each_back whole_of number_of_value WholeFits whole_back values h.all_fit)
    (points_back set h.below h.ascending)

-- ---- what is read has the form that is written

abbrev EntryOnly : Version → Sexpr → FileEntry → Type 0
EntryOnly version x e = IsReadWithin version e × (IsPlainFileEntry version e → x ≡ file_entry_sexpr e)

whole_only : Only whole_of number_of_value WholeFits WholeFits
whole_only x n w e =
    let h = within_only named_value_limit x n w e in
    (between named_value_limit n h.0, λ fits. h.1)

index_form : Only index_of numeral (λ (n : ℕ). n ≤ limit) (λ (n : ℕ). n ≤ limit)
index_form x n w e =
    let h = index_only x n w e in
    (h.0, λ fits. h.1)

values_only : (x : Sexpr) (values : List NamedValue) → IsWritable x → values_of x ≡ Some values → All ValueFits values × (x ≡ values_sexpr values)
values_only (leaf kind text) values w e = absurd (none_some values e)
values_only (list xs) values w e =
    let h = each_only named_value_of value_sexpr ValueFits ValueFits value_only xs values w e in
    (h.0, ap list (h.1 h.0))

schedule_only : (x : Sexpr) (values : List ℤ) → IsWritable x → schedule_of x ≡ Some values → All WholeFits values × (x ≡ schedule_sexpr values)
schedule_only (leaf kind text) values w e = absurd (none_some values e)
schedule_only (list xs) values w e =
    let h = each_only whole_of number_of_value WholeFits WholeFits whole_only xs values w e in
    (h.0, ap list (h.1 h.0))

-- points are numerals that ascend, and these alone where none is the greatest point
abbrev AreFrom : List ℕ → Type 0
AreFrom set = (numbers : List ℕ) × IsStrictlyIncreasing numbers × (set ≡ map nearest numbers)

points_only : (x : Sexpr) (set : List ℕ) → IsWritable x → points_of x ≡ Some set → AreFrom set × (All (λ (p : ℕ). p < 2 ^ 32 - 1) set → x ≡ points_sexpr set)
points_only (leaf kind text) set w e = absurd (none_some set e)
points_only (list xs) set w e =
    let c = chained ascending (each_of index_of xs) set e in
    let t = tested (ascends c.0) (Some (map nearest c.0)) set c.2 in
    let same : map nearest c.0 ≡ set = some_same (map nearest c.0) set t.1 in
    let h = each_only index_of numeral (λ (n : ℕ). n ≤ limit) (λ (n : ℕ). n ≤ limit) index_form xs c.0 w c.1 in (
      (c.0, ascends_up c.0 t.0, sym same),
      λ plain. (
          let below : All (λ (p : ℕ). p < 2 ^ 32 - 1) (map nearest c.0) = subst (All (λ (p : ℕ). p < 2 ^ 32 - 1)) (sym same) plain in
          ap list (h.1 h.0) ∙ ap points_sexpr (sym (points_plain c.0 below) ∙ same)
          ),
    )

-- ---- the parts of an entry of a least value, and of one of a term that has none

pub best_parts : (o : Option ℤ) (p : Option (List NamedValue)) (q : Option (List Item)) (entry : FileEntry) → best_with o p q ≡ Some entry → (m : ℤ) × (values : List NamedValue) × (items : List Item) × (o ≡ Some m) × (p ≡ Some values) × (q ≡ Some items) × (Best m values items ≡ entry)
best_parts None p q entry e = absurd (none_some entry e)
best_parts (Some m) None q entry e = absurd (none_some entry e)
best_parts (Some m) (Some values) None entry e = absurd (none_some entry e)
best_parts (Some m) (Some values) (Some items) entry e = (m, values, items, refl, refl, refl, some_same (Best m values items) entry e)

abbrev best_items : ℤ → List NamedValue → List Item → Items
best_items m values items = more (number_of_value m) (more (values_sexpr values) (items_of (map item_sexpr items)))

best_behind : (version : Version) (xs : Items) (entry : FileEntry) → AreWritable xs → best_from version xs ≡ Some entry → (m : ℤ) × (values : List NamedValue) × (items : List Item) × (Best m values items ≡ entry) × IsReadWithin version (Best m values items) × (IsPlainFileEntry version (Best m values items) → xs ≡ best_items m values items)
best_behind version none entry w e = absurd (none_some entry e)
best_behind version (more first none) entry w e = absurd (none_some entry e)
best_behind version (more first (more second xs)) entry w e =
    let p = best_parts (whole_of first) (values_of second) (each_of (item_of version) xs) entry e in
    let m = within_only named_value_limit first p.0 w.0 p.3 in
    let v = values_only second p.1 w.1.0 p.4 in
    let i = each_only (item_of version) item_sexpr (ItemWithin version (2 ^ 32)) (ItemWithin version (2 ^ 32 - 1)) (item_only version) xs p.2 w.1.1 p.5 in (
      p.0,
      p.1,
      p.2,
      p.6,
      (between named_value_limit p.0 m.0, v.0, i.0),
      λ plain. more_same first (number_of_value p.0) (more second xs) (more (values_sexpr p.1) (items_of (map item_sexpr p.2))) m.1 (more_same second (values_sexpr p.1) xs (items_of (map item_sexpr p.2)) v.1 (i.1 plain.2)),
    )

pub unbounded_parts : (o : Option (List ℤ)) (p : Option (List ℕ)) (entry : FileEntry) → unbounded_with o p ≡ Some entry → (values : List ℤ) × (set : List ℕ) × (o ≡ Some values) × (p ≡ Some set) × (Unbounded values set ≡ entry)
unbounded_parts None p entry e = absurd (none_some entry e)
unbounded_parts (Some values) None entry e = absurd (none_some entry e)
unbounded_parts (Some values) (Some set) entry e = (values, set, refl, refl, some_same (Unbounded values set) entry e)

unbounded_behind : (version : Version) (xs : Items) (entry : FileEntry) → AreWritable xs → unbounded_from xs ≡ Some entry → (values : List ℤ) × (set : List ℕ) × (Unbounded values set ≡ entry) × IsReadWithin version (Unbounded values set) × (IsPlainFileEntry version (Unbounded values set) → xs ≡ items_of (schedule_sexpr values ∷ points_sexpr set ∷ []))
unbounded_behind version none entry w e = absurd (none_some entry e)
unbounded_behind version (more first none) entry w e = absurd (none_some entry e)
unbounded_behind version (more first (more second none)) entry w e =
    let p = unbounded_parts (schedule_of first) (points_of second) entry e in
    let v = schedule_only first p.0 w.0 p.2 in
    let s = points_only second p.1 w.1.0 p.3 in
    (p.0, p.1, p.4, (v.0, s.0), λ plain. more_same first (schedule_sexpr p.0) (more second none) (items_of (points_sexpr p.1 ∷ [])) v.1 (more_same second (points_sexpr p.1) none none (s.1 plain.below) refl))
unbounded_behind version (more first (more second (more x xs))) entry w e = absurd (none_some entry e)

module _ (version : Version) (x : Sexpr) (name : List ℕ) (xs : Items) (is : x ≡ list (more (symbol name) xs)) (w : AreWritable xs) where
  sat_only : (entry : FileEntry) → bytes_eq name (codes "sat") ≡ true → option_map Sat (each_of named_value_of xs) ≡ Some entry → EntryOnly version x entry
  sat_only entry test e =
      let m = mapped Sat (each_of named_value_of xs) entry e in
      let h = each_only named_value_of value_sexpr ValueFits ValueFits value_only xs m.0 w m.1 in
      subst (EntryOnly version x) m.2 (h.0, λ plain. named x name (codes "sat") xs (items_of (map value_sexpr m.0)) is test (h.1 plain))

  unsat_only : (entry : FileEntry) → bytes_eq name (codes "unsat") ≡ true → option_map Unsat (each_of (item_of version) xs) ≡ Some entry → EntryOnly version x entry
  unsat_only entry test e =
      let m = mapped Unsat (each_of (item_of version) xs) entry e in
      let h = each_only (item_of version) item_sexpr (ItemWithin version (2 ^ 32)) (ItemWithin version (2 ^ 32 - 1)) (item_only version) xs m.0 w m.1 in
      subst (EntryOnly version x) m.2 (h.0, λ plain. named x name (codes "unsat") xs (items_of (map item_sexpr m.0)) is test (h.1 plain))

  best_only : (entry : FileEntry) → bytes_eq name (codes "best") ≡ true → best_from version xs ≡ Some entry → EntryOnly version x entry
  best_only entry test e =
      let b = best_behind version xs entry w e in
      subst (EntryOnly version x) b.3 (b.4, λ plain. named x name (codes "best") xs (best_items b.0 b.1 b.2) is test (b.5 plain))

  unbounded_only : (entry : FileEntry) → bytes_eq name (codes "unbounded") ≡ true → unbounded_from xs ≡ Some entry → EntryOnly version x entry
  unbounded_only entry test e =
      let b = unbounded_behind version xs entry w e in
      subst (EntryOnly version x) b.2 (b.3, λ plain. named x name (codes "unbounded") xs (items_of (schedule_sexpr b.0 ∷ points_sexpr b.1 ∷ [])) is test (b.4 plain))

  entry_cases : (entry : FileEntry) → entry_named version name xs ≡ Some entry → EntryOnly version x entry
  entry_cases entry e =
      let fourth = if bytes_eq name (codes "unbounded") then unbounded_from xs else None in
      let third = if bytes_eq name (codes "best") then best_from version xs else fourth in
      let second = if bytes_eq name (codes "unsat") then option_map Unsat (each_of (item_of version) xs) else third in
      elim (branch (bytes_eq name (codes "sat")) (option_map Sat (each_of named_value_of xs)) second entry e) [
        | inl h ↦ sat_only entry h.0 h.1
        | inr e2 ↦ elim (branch (bytes_eq name (codes "unsat")) (option_map Unsat (each_of (item_of version) xs)) third entry e2) [
          | inl h ↦ unsat_only entry h.0 h.1
          | inr e3 ↦ elim (branch (bytes_eq name (codes "best")) (best_from version xs) fourth entry e3) [
            | inl h ↦ best_only entry h.0 h.1
            | inr e4 ↦ (let h = tested (bytes_eq name (codes "unbounded")) (unbounded_from xs) entry e4 in unbounded_only entry h.0 h.1)
          ]
        ]
      ]

pub entry_only : (version : Version) (x : Sexpr) (entry : FileEntry) → IsWritable x → entry_of version x ≡ Some entry → EntryOnly version x entry
entry_only version x entry w e =
    let c = chained (λ (p : List ℕ × Items). entry_named version p.0 p.1) (headed_of x) entry e in
    let h = headed_only x c.0.0 c.0.1 w c.1 in
    entry_cases version x c.0.0 c.0.1 h.0 h.1 entry c.2

-- ---- by the head of a list

abbrev pub entry_by : Version → Head → Items → Option FileEntry
entry_by version head.Sat xs = option_map Sat (each_of named_value_of xs)
entry_by version head.Unsat xs = option_map Unsat (each_of (item_of version) xs)
entry_by version head.Best xs = best_from version xs
entry_by version head.Unbounded xs = unbounded_from xs
entry_by version head.End xs = None
entry_by version head.Other xs = None

abbrev pub head_by : Bool → Bool → Bool → Bool → Bool → Head
head_by a b c d e = if a then head.Sat else (if b then head.Unsat else (if c then head.Best else (if d then head.Unbounded else (if e then head.End else head.Other))))

pub by_tests : (version : Version) (xs : Items) (a b c d e : Bool) → (if a then option_map Sat (each_of named_value_of xs) else (if b then option_map Unsat (each_of (item_of version) xs) else (if c then best_from version xs else (if d then unbounded_from xs else None)))) ≡ entry_by version (head_by a b c d e) xs
by_tests version xs true b c d e = refl
by_tests version xs false true c d e = refl
by_tests version xs false false true d e = refl
by_tests version xs false false false true e = refl
by_tests version xs false false false false true = refl
by_tests version xs false false false false false = refl

pub head_tests : (a b c d e : Bool) → head_by a b c d e ≡ head.End → e ≡ true
head_tests true b c d e is = absurd cc
head_tests false true c d e is = absurd cc
head_tests false false true d e is = absurd cc
head_tests false false false true e is = absurd cc
head_tests false false false false true is = refl
head_tests false false false false false is = absurd cc
