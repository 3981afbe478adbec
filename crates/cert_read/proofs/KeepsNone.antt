-- Entries that keep no lemma: all of version 1, and those of a text that doesn't have the word by which lemmas are kept.
use Rattle.std.proofs.Common.{ap, subst, arith, inl, inr, ◌∙◌, ◌≡◌, ◌<◌, ℕ, List, [], ◌∷◌, length, true, Some, None}
use Rattle.std.specs.Prelude.{All, codes, option_map, if◌then◌else◌}
use Rattle.std.specs.List.{AllByRecursion}
use Rattle.std.specs.Str.{bytes_eq}
use Rattle.std.proofs.lemmas.List.Elements.{All-from_recursion}
use Rattle.std.proofs.lemmas.Slice.Eq.{bytes_eq-Decides}
use Rattle.bstr.specs.Text.{Contains}
use Rattle.smt_sexpr.specs.Tree.{Sexpr, Items, leaf, list, none, more, symbol_of}
use Rattle.smt_sexpr.specs.Shapes.{headed_of}
use Rattle.smt_sexpr.specs.Reading.{Spells, SpellsEach}
use Rattle.kept_lemmas.specs.declared.item.Item.{Item}
use Rattle.kept_lemmas.specs.declared.item.Item.TheVariants.{Own, Keep}
use Rattle.kept_lemmas.specs.Entries.{IsOwn}
use Rattle.cert_text.specs.declared.entry.Version.{Version}
use Rattle.cert_text.specs.declared.entry.Version.TheVariants.{One}
use Rattle.cert_text.specs.declared.entry.FileEntry.{FileEntry}
use Rattle.cert_text.specs.declared.entry.FileEntry.TheVariants.{Sat, Unsat}
use Rattle.cert_read.specs.Parts.{whole_of, values_of, schedule_of, points_of, named_value_of, each_of, lemma_from, kept_from, only_in_two, item_named, item_of, best_from, unbounded_from, entry_named, entry_of}
use Rattle.cert_read.specs.Certificates.{HoldsEntries}
use Rattle.cert_read.specs.code.Entries.{KeepsNone}
use Rattle.cert_read.proofs.OnlyForms.{some_same, none_some, mapped, chained, branch, tested, put_parts}
use Rattle.cert_read.proofs.EntryKinds.{best_parts, unbounded_parts}
use Rattle.cert_read.proofs.KeepWord.{symbol_there}

module _ (bytes : List ℕ) where
  -- a list that begins with a symbol, and what stands behind that
  record IsHeaded (name : List ℕ) (xs : Items) : Type 0 where
    pub head : Sexpr
    pub here : ℕ
    pub mid : ℕ
    pub last : ℕ
    pub spells : Spells bytes here head mid
    pub is : symbol_of head ≡ Some name
    pub behind : SpellsEach bytes mid xs last

  headed : (x : Sexpr) (name : List ℕ) (xs : Items) (place after : ℕ) → Spells bytes place x after → headed_of x ≡ Some (name, xs) → IsHeaded name xs
  unfolding Spells SpellsEach
  headed (leaf kind text) name xs place after spells e = absurd (none_some (name, xs) e)
  headed (list none) name xs place after spells e = absurd (none_some (name, xs) e)
  headed (list (more first rest)) name xs place after (opening, here, last, closing, opens, left, (mid, spells, behind), closes, right) e =
      let m = mapped (λ (text : List ℕ). (text, rest)) (symbol_of first) (name, xs) e in
      record {
        head = first;
        here = here;
        mid = mid;
        last = last;
        spells = spells;
        is = m.1 ∙ ap (λ (p : List ℕ × Items). Some p.0) m.2;
        behind = subst (λ (ys : Items). SpellsEach bytes mid ys last) (ap (λ (p : List ℕ × Items). p.1) m.2) behind;
      }

  -- ---- entries whose items are own lemmas

  module _ (version : Version) (own : (x : Sexpr) (place after : ℕ) (item : Item) → Spells bytes place x after → item_of version x ≡ Some item → IsOwn item) where
    each_own : (xs : Items) (place after : ℕ) (items : List Item) → SpellsEach bytes place xs after → each_of (item_of version) xs ≡ Some items → AllByRecursion IsOwn items
    unfolding SpellsEach
    each_own none place after items spells e = subst (AllByRecursion IsOwn) (some_same [] items e) tt
    each_own (more x xs) place after items (mid, first, rest) e =
        let p = put_parts (item_of version x) (each_of (item_of version) xs) items e in
        subst (AllByRecursion IsOwn) p.4 (own x place mid p.0 first p.2, each_own xs mid after p.1 rest p.3)

    items_own : (xs : Items) (place after : ℕ) (items : List Item) → SpellsEach bytes place xs after → each_of (item_of version) xs ≡ Some items → All IsOwn items
    items_own xs place after items spells e = All-from_recursion IsOwn items (each_own xs place after items spells e)

    best_own : (xs : Items) (place after : ℕ) (entry : FileEntry) → SpellsEach bytes place xs after → best_from version xs ≡ Some entry → KeepsNone entry
    unfolding SpellsEach
    best_own none place after entry spells e = absurd (none_some entry e)
    best_own (more m none) place after entry spells e = absurd (none_some entry e)
    best_own (more m (more values xs)) place after entry (mid, first, (next, second, rest)) e =
        let p = best_parts (whole_of m) (values_of values) (each_of (item_of version) xs) entry e in
        subst KeepsNone p.6 (items_own xs next after p.2 rest p.5)

    unbounded_own : (xs : Items) (entry : FileEntry) → unbounded_from xs ≡ Some entry → KeepsNone entry
    unbounded_own none entry e = absurd (none_some entry e)
    unbounded_own (more values none) entry e = absurd (none_some entry e)
    unbounded_own (more values (more points none)) entry e =
        let p = unbounded_parts (schedule_of values) (points_of points) entry e in
        subst KeepsNone p.4 tt
    unbounded_own (more values (more points (more x xs))) entry e = absurd (none_some entry e)

    named_own : (name : List ℕ) (xs : Items) (place after : ℕ) (entry : FileEntry) → SpellsEach bytes place xs after → entry_named version name xs ≡ Some entry → KeepsNone entry
    named_own name xs place after entry spells e =
        let fourth = if bytes_eq name (codes "unbounded") then unbounded_from xs else None in
        let third = if bytes_eq name (codes "best") then best_from version xs else fourth in
        let second = if bytes_eq name (codes "unsat") then option_map Unsat (each_of (item_of version) xs) else third in
        elim (branch (bytes_eq name (codes "sat")) (option_map Sat (each_of named_value_of xs)) second entry e) [
          | inl h ↦ (let m = mapped Sat (each_of named_value_of xs) entry h.1 in subst KeepsNone m.2 tt)
          | inr e2 ↦ elim (branch (bytes_eq name (codes "unsat")) (option_map Unsat (each_of (item_of version) xs)) third entry e2) [
            | inl h ↦ (let m = mapped Unsat (each_of (item_of version) xs) entry h.1 in subst KeepsNone m.2 (items_own xs place after m.0 spells m.1))
            | inr e3 ↦ elim (branch (bytes_eq name (codes "best")) (best_from version xs) fourth entry e3) [
              | inl h ↦ best_own xs place after entry spells h.1
              | inr e4 ↦ unbounded_own xs entry (tested (bytes_eq name (codes "unbounded")) (unbounded_from xs) entry e4).1
            ]
          ]
        ]

    entry_own : (x : Sexpr) (place after : ℕ) (entry : FileEntry) → Spells bytes place x after → entry_of version x ≡ Some entry → KeepsNone entry
    entry_own x place after entry spells e =
        let c = chained (λ (p : List ℕ × Items). entry_named version p.0 p.1) (headed_of x) entry e in
        let h = headed x c.0.0 c.0.1 place after spells c.1 in
        named_own c.0.0 c.0.1 h.mid h.last entry h.behind c.2

    entries_own : (place : ℕ) (entries : List FileEntry) (here : ℕ) → HoldsEntries version bytes place entries here → AllByRecursion KeepsNone entries
    entries_own place [] here h = tt
    entries_own place (e ∷ es) here (x, mid, spells, is, rest) = (entry_own x place mid e spells is, entries_own mid es here rest)

  -- ---- items that are own lemmas

  -- an item that is kept begins with the word, and is of version 2
  own_unless_kept : (version : Version) (x : Sexpr) (place after : ℕ) (item : Item) → Spells bytes place x after → item_of version x ≡ Some item
      → ((name : List ℕ) (xs : Items) → IsHeaded name xs → bytes_eq name (codes "keep") ≡ true → option_map Keep (only_in_two version (kept_from xs)) ≡ Some item → ⊥) → IsOwn item
  own_unless_kept version x place after item spells e apart =
      let c = chained (λ (p : List ℕ × Items). item_named version p.0 p.1) (headed_of x) item e in
      let name = c.0.0 in
      let xs = c.0.1 in
      let kept = option_map Keep (only_in_two version (kept_from xs)) in
      let second = if bytes_eq name (codes "keep") then kept else None in
      elim (branch (bytes_eq name (codes "lemma")) (option_map Own (lemma_from version xs)) second item c.2) [
        | inl h ↦ (let m = mapped Own (lemma_from version xs) item h.1 in subst IsOwn m.2 tt)
        | inr e2 ↦ (let t = tested (bytes_eq name (codes "keep")) kept item e2 in absurd (apart name xs (headed x name xs place after spells c.1) t.0 t.1))
      ]

  pub first_keeps_none : (version : Version) → version ≡ One → (place : ℕ) (entries : List FileEntry) (here : ℕ) → HoldsEntries version bytes place entries here → AllByRecursion KeepsNone entries
  first_keeps_none version e =
      let own : (x : Sexpr) (place after : ℕ) (item : Item) → Spells bytes place x after → item_of One x ≡ Some item → IsOwn item =
      λ x place after item spells f. own_unless_kept One x place after item spells f (λ name xs h test g. none_some item g) in
      λ place entries here h. entries_own One own place entries here (subst (λ (v : Version). HoldsEntries v bytes place entries here) e h)

  pub wordless_keeps_none : (Contains bytes (codes "keep") → ⊥) → (version : Version) (place : ℕ) (entries : List FileEntry) (here : ℕ) → HoldsEntries version bytes place entries here → AllByRecursion KeepsNone entries
  wordless_keeps_none apart version =
      let some : 0 < length (codes "keep") = omega arith in
      entries_own version (λ x place after item spells f. own_unless_kept version x place after item spells f (λ name xs h test g.
      apart (symbol_there bytes (codes "keep") some h.here h.head h.mid h.spells (h.is ∙ ap Some ((bytes_eq-Decides name (codes "keep")).0 test)))))
