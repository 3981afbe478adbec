-- Items in the place of a found entry's lemmas.
use Rattle.std.proofs.Common.{inl, inr, refl, sym, subst, ◌≡◌, ◌-◌, ◌^◌, ℕ, List, [], ◌∷◌, ◌++◌, length, Option, Some, None}
use Rattle.std.specs.Prelude.{All}
use Rattle.std.specs.List.{AllZip, AllByRecursion}
use Rattle.std.proofs.lemmas.List.Elements.{recursion_from_All, All-from_recursion}
use Rattle.smt_sexpr.specs.Tree.{Sexpr}
use Rattle.stn_core.specs.declared.literal.Literal.{Literal}
use Rattle.refute_tree.specs.declared.lemma.Lemma.{Lemma}
use Rattle.refute_tree.specs.Laws.{RefutationStays}
use Rattle.refute_tree.specs.Lengths.{lengthened_lemma, shortened_lemma}
use Rattle.kept_lemmas.specs.declared.item.Kept.{Kept}
use Rattle.kept_lemmas.specs.declared.item.Item.{Item}
use Rattle.kept_lemmas.specs.declared.item.Item.TheVariants.{Own, Keep}
use Rattle.kept_lemmas.specs.Facts.{Shelf, facts_of}
use Rattle.kept_lemmas.specs.Entries.{AreRight}
use Rattle.lemma_shelf.proofs.Refuting.{again_right}
use Rattle.lemma_shelf.specs.InPlace.{StandsInPlace}
use Rattle.cert_text.specs.declared.entry.Version.{Version}
use Rattle.cert_text.specs.declared.entry.Version.TheVariants.{One, Two}
use Rattle.cert_text.specs.declared.entry.Entry.{Entry}
use Rattle.cert_text.specs.declared.entry.Entry.TheVariants.{Sat, Unsat, Best, Unbounded}
use Rattle.cert_text.specs.Limits.{LemmaWithin, ItemWithin}
use Rattle.idl_term.specs.Contexts.{Context}
use Rattle.smt_script.specs.declared.state.Question.{Question}
use Rattle.smt_script.specs.declared.state.Question.TheVariants.{CheckSat, Minimize}
use Rattle.dtp_entry.specs.declared.report.Report.{Report}
use Rattle.dtp_entry.specs.declared.report.Report.TheVariants.{Verdicts, Certificate}
use Rattle.dtp_entry.specs.Entries.{points_of, problem_of, problem_below, IsShort, IsEntryOf}
use Rattle.dtp_entry.specs.Keeping.{IsShortItem, AreInPlace, IsShownBy}
use Rattle.dtp_entry.specs.Reports.{version_of}
use Rattle.dtp_entry.specs.Transcripts.{IsLine}
use Rattle.dtp_session.specs.code.Forms.{shown_in}
use Rattle.dtp_session.specs.code.Keeping.{IsItemNamed, RefutesBy, AreEntered, IsEntered, IsOneKept, IsLastOf, IsProblemFor, IsShownIn, passed, line_shown}
use Rattle.dtp_session.specs.code.Sessions.{RefutesAgain}

-- ---- items for lemmas

-- what is so of the lemmas, and of what is kept, is so of the items
items_all : (P : Lemma → Type 0) (R Q : Item → Type 0) → ((lemma : Lemma) → P lemma → Q (Own lemma)) → ((kept : Kept) → R (Keep kept) → Q (Keep kept)) → (shelf : Shelf) (lemmas : List Lemma) (items : List Item)
    → AllZip (StandsInPlace shelf) lemmas items → AllByRecursion P lemmas → AllByRecursion R items → AllByRecursion Q items
items_all P R Q f g shelf [] [] all p r = tt
items_all P R Q f g shelf [] (item ∷ items) all p r = absurd all
items_all P R Q f g shelf (lemma ∷ lemmas) [] all p r = tt
items_all P R Q f g shelf (lemma ∷ lemmas) (Own own ∷ items) all p r =
    (subst (λ (l : Lemma). Q (Own l)) (sym all.0) (f lemma p.0), items_all P R Q f g shelf lemmas items all.1 p.1 r.1)
items_all P R Q f g shelf (lemma ∷ lemmas) (Keep kept ∷ items) all p r = (g kept r.0, items_all P R Q f g shelf lemmas items all.1 p.1 r.1)

module _ (shelf : Shelf) (lemmas : List Lemma) (items : List Item) (stand : AllZip (StandsInPlace shelf) lemmas items) (named : All IsItemNamed items) where
  all_items : (P : Lemma → Type 0) (Q : Item → Type 0) → ((lemma : Lemma) → P lemma → Q (Own lemma)) → ((kept : Kept) → IsItemNamed (Keep kept) → Q (Keep kept)) → All P lemmas → All Q items
  all_items P Q f g all =
      All-from_recursion Q items (items_all P IsItemNamed Q f g shelf lemmas items stand (recursion_from_All P lemmas all) (recursion_from_All IsItemNamed items named))

  items_short : (clauses : List (List Literal)) → All (IsShort clauses) lemmas → All (IsShortItem clauses) items
  items_short clauses all = all_items (IsShort clauses) (IsShortItem clauses) (λ lemma h. h) (λ kept h. tt) all

  items_within : All (LemmaWithin Two (2 ^ 32)) lemmas → All (ItemWithin Two (2 ^ 32)) items
  items_within all = all_items (LemmaWithin Two (2 ^ 32)) (ItemWithin Two (2 ^ 32)) (λ lemma h. h) (λ kept h. h) all

-- ---- in the words of the assertions

-- what a certificate of the second version has in the place of lemmas
record IsInPlace (shelf now : Shelf) (points : ℕ) (clauses : List (List Literal)) (items : List Item) : Type 0 where
  place : AreInPlace shelf points clauses items
  within : All (ItemWithin Two (2 ^ 32)) items
  states : now ≡ shelf ++ facts_of shelf clauses items ∷ []

kept_in_place : (shelf now : Shelf) (points : ℕ) (clauses : List (List Literal)) (items : List Item) → IsOneKept shelf points clauses items now → IsInPlace shelf now points clauses items
kept_in_place shelf now points clauses items one = record {
  place = record {
    right = one.right;
    short = subst (λ (is : List Item). All (IsShortItem clauses) is) (sym one.alone) (All-from_recursion (IsShortItem clauses) (Keep one.place ∷ []) (tt, tt));
  };
  within = subst (λ (is : List Item). All (ItemWithin Two (2 ^ 32)) is) (sym one.alone) (All-from_recursion (ItemWithin Two (2 ^ 32)) (Keep one.place ∷ []) (one.named, tt));
  states = one.states;
}

entered_in_place : (shelf now : Shelf) (points : ℕ) (clauses : List (List Literal)) (lemmas : List Lemma) (items : List Item) → All (IsShort clauses) lemmas → All (LemmaWithin Two (2 ^ 32)) lemmas
    → AreEntered shelf points clauses lemmas items now → IsInPlace shelf now points clauses items
entered_in_place shelf now points clauses lemmas items short within (inl e) = record {
  place = record { right = e.right; short = items_short shelf lemmas items e.stand e.named clauses short };
  within = items_within shelf lemmas items e.stand e.named within;
  states = e.states;
}
entered_in_place shelf now points clauses lemmas items short within (inr one) = kept_in_place shelf now points clauses items one

entered_as : (shelf now : Shelf) (points p : ℕ) (clauses q : List (List Literal)) (lemmas : List Lemma) (items : List Item) → points ≡ p → clauses ≡ q → AreEntered shelf points clauses lemmas items now → AreEntered shelf p q lemmas items now
entered_as shelf now points p clauses q lemmas items e f h =
    subst (λ (n : ℕ). AreEntered shelf n q lemmas items now) e (subst (λ (cs : List (List Literal)). AreEntered shelf points cs lemmas items now) f h)

-- an entry whose items were entered
pub entered_shows : (version : Version) (shelf now : Shelf) (question : Question) (x : Sexpr) (c : Context) (points : ℕ) (clauses : List (List Literal)) (entry : Entry) (items : List Item) → IsEntryOf version question x c entry
    → IsProblemFor question c points clauses entry → IsEntered version shelf points clauses entry items now → IsShownIn version shelf question c entry items now
entered_shows One shelf now question x c points clauses entry items right for_it h = h
entered_shows Two shelf now question x c points clauses (Sat schedule) items right for_it h = record { stand = tt; fits = right.fits; states = h }
entered_shows Two shelf now question x c points clauses (Unsat lemmas) items right for_it h =
    let e = entered_as shelf now points (points_of c) clauses (problem_of c) lemmas items for_it.0 for_it.1 h in
    let there = entered_in_place shelf now (points_of c) (problem_of c) lemmas items right.form right.fits e in
    record { stand = there.place; fits = there.within; states = there.states }
entered_shows Two shelf now CheckSat x c points clauses (Best m schedule lemmas) items right for_it h = absurd for_it
entered_shows Two shelf now (Minimize o) x c points clauses (Best m schedule lemmas) items right for_it h =
    let e = entered_as shelf now points (points_of c) clauses (problem_below c o m) lemmas items for_it.0 for_it.1 h in
    let there = entered_in_place shelf now (points_of c) (problem_below c o m) lemmas items right.form right.fits.2 e in
    record { stand = there.place; fits = (right.fits.0, right.fits.1, there.within); states = there.states }
entered_shows Two shelf now question x c points clauses (Unbounded values set) items right for_it h = record { stand = tt; fits = right.fits; states = h }

abbrev HasNoLemmas : Entry → Type 0
HasNoLemmas (Sat schedule) = Unit {0}
HasNoLemmas (Unsat lemmas) = ⊥
HasNoLemmas (Best m schedule lemmas) = ⊥
HasNoLemmas (Unbounded values set) = Unit {0}

passed_shows : (version : Version) (shelf : Shelf) (question : Question) (x : Sexpr) (c : Context) (entry : Entry) (items : List Item) → HasNoLemmas entry → IsEntryOf version question x c entry
    → IsShownIn version shelf question c entry items (passed version shelf)
passed_shows One shelf question x c entry items none right = refl
passed_shows Two shelf question x c (Sat schedule) items none right = record { stand = tt; fits = right.fits; states = refl }
passed_shows Two shelf question x c (Unsat lemmas) items none right = absurd none
passed_shows Two shelf question x c (Best m schedule lemmas) items none right = absurd none
passed_shows Two shelf question x c (Unbounded values set) items none right = record { stand = tt; fits = right.fits; states = refl }

-- an entry without lemmas
pub passed_as : (version : Version) (shelf now : Shelf) (question : Question) (x : Sexpr) (c : Context) (entry found : Entry) (items : List Item) → found ≡ entry → HasNoLemmas entry → IsEntryOf version question x c found
    → now ≡ passed version shelf → IsShownIn version shelf question c found items now
passed_as version shelf now question x c entry found items is none right behind =
    subst (λ (s : Shelf). IsShownIn version shelf question c found items s) (sym behind)
    (passed_shows version shelf question x c found items (subst HasNoLemmas (sym is) none) right)

-- an entry that keeps the last item of an earlier one
pub again_shows : (shelf now : Shelf) (question : Question) (c : Context) (points : ℕ) (clauses : List (List Literal)) (lemmas : List Lemma) (items : List Item) → points ≡ points_of c → clauses ≡ problem_of c
    → IsOneKept shelf points clauses items now → IsShownBy shelf question c (Unsat lemmas) items now
again_shows shelf now question c points clauses lemmas items e f h =
    let one : IsOneKept shelf (points_of c) (problem_of c) items now =
    subst (λ (n : ℕ). IsOneKept shelf n (problem_of c) items now) e (subst (λ (cs : List (List Literal)). IsOneKept shelf points cs items now) f h) in
    let there = kept_in_place shelf now (points_of c) (problem_of c) items one in
    record { stand = there.place; fits = there.within; states = there.states }

-- the last item of what stands in the last entry refutes the same problem
last_refutes : (version : Version) (shelf now : Shelf) (question : Question) (c : Context) (lemmas : List Lemma) (items : List Item) (place : Kept) → version ≡ Two → place.entry ≡ length now → place.item ≡ length items - 1
    → IsShownIn version shelf question c (Unsat lemmas) items now → AreRight now (points_of c) (problem_of c) (Keep place ∷ [])
last_refutes version shelf now question c lemmas items place two entry item shows =
    let h = subst (λ (v : Version). IsShownIn v shelf question c (Unsat lemmas) items now) two shows in
    again_right shelf now (points_of c) (problem_of c) items place h.stand.right h.states entry item

pub refutes_again : (version : Version) (shelf now : Shelf) (question : Question) (c : Context) (found : Entry) (lemmas : List Lemma) (items : List Item) (last : Option Kept) → found ≡ Unsat lemmas → IsLastOf version now items last
    → IsShownIn version shelf question c found items now → RefutesAgain now c last
refutes_again version shelf now question c found lemmas items None is of shows = tt
refutes_again version shelf now question c found lemmas items (Some place) is of shows =
    last_refutes version shelf now question c lemmas items place of.0 of.1 of.2 (subst (λ (e : Entry). IsShownIn version shelf question c e items now) is shows)

-- the line of an entry with its items
pub line_legal : (report : Report) (shelf now : Shelf) (question : Question) (c : Context) (entry : Entry) (items : List Item) → IsShownIn (version_of report) shelf question c entry items now
    → IsLine report shelf question c entry (line_shown report entry items) now
line_legal Verdicts shelf now question c entry items h = (refl, h)
line_legal (Certificate One) shelf now question c entry items h = (refl, h)
line_legal (Certificate Two) shelf now question c entry items h = (items, h, refl)

-- ---- in a version's form the lemmas refute the same

formed_lemmas : RefutationStays lengthened_lemma → RefutationStays shortened_lemma → (version : Version) (points : ℕ) (clauses : List (List Literal)) (entry : Entry) → RefutesBy points clauses entry → RefutesBy points clauses (shown_in version clauses entry)
formed_lemmas longer shorter version points clauses (Sat schedule) h = h
formed_lemmas longer shorter One points clauses (Unsat lemmas) h = longer points clauses lemmas h
formed_lemmas longer shorter Two points clauses (Unsat lemmas) h = shorter points clauses lemmas h
formed_lemmas longer shorter One points clauses (Best m schedule lemmas) h = longer points clauses lemmas h
formed_lemmas longer shorter Two points clauses (Best m schedule lemmas) h = shorter points clauses lemmas h
formed_lemmas longer shorter version points clauses (Unbounded values set) h = h

pub formed_refutes : RefutationStays lengthened_lemma → RefutationStays shortened_lemma → (version : Version) (points : ℕ) (clauses : List (List Literal)) (entry found : Entry) → found ≡ shown_in version clauses entry → RefutesBy points clauses entry
    → RefutesBy points clauses found
formed_refutes longer shorter version points clauses entry found e h = subst (RefutesBy points clauses) (sym e) (formed_lemmas longer shorter version points clauses entry h)
