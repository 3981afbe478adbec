-- The worked example is one.
use Rattle.std.proofs.Common.{arith, ◌≡◌, ◌≢◌, ◌↔◌, ◌<◌, ℕ, zero, suc, true, false, List, [], ◌∷◌, Option, Some, None, All, Contains, pos, ◌+ℤ◌, ◌<ℤ◌, refl, ap, subst}
use Rattle.std.specs.Prelude.{slice_get, slice_index_or}
use Rattle.std.proofs.lemmas.Int.{ints}
use Rattle.std.proofs.lemmas.List.Elements.{All-nil, All-cons, All-contains}
use Rattle.stn_core.specs.declared.literal.Literal.{Literal}
use Rattle.stn_core.specs.Answer.{IsCycleAmong}
use Rattle.refute_tree.specs.declared.step.Step.TheVariants.{Cycle, Input, Lemma as Earlier}
use Rattle.refute_tree.specs.declared.lemma.Lemma.{Lemma}
use Rattle.refute_tree.specs.Trees.{leaf, cases, none, more, IsOnPoints, NamesPoints, IsRefuted}
use Rattle.refute_tree.specs.Batches.{AreRefuted}
use Rattle.refute_tree.specs.Examples.{literal, less}
use Rattle.kept_lemmas.specs.Facts.{Fact, own_fact}
use Rattle.kept_lemmas.specs.Entries.{IsUsable}
use Rattle.carried_lemmas.specs.Carried.{lemma_facts, IsFirstEqual, IsEqualAt, IsCarried}
use Rattle.carried_lemmas.specs.Examples.{one_clause, other_clause, old_clauses, new_clauses, pair, both, old_lemmas, new_lemmas}

-- ---- the old lemmas are refuted

-- two literals that lead back
two_cycle : (assumed : List Literal) (a b : Literal) → Contains assumed a → Contains assumed b → b.x ≡ a.y → b.y ≡ a.x → (a.c +ℤ (b.c +ℤ pos 0)) <ℤ pos 0 → IsCycleAmong assumed (a ∷ b ∷ [])
two_cycle assumed a b in_a in_b there back below = record {
  negative = record { some = omega arith; closed = (a.x, (refl, (there, back))); negative = below };
  given = All-cons (Contains assumed) a (b ∷ []) in_a (All-cons (Contains assumed) b [] in_b (All-nil (Contains assumed)));
}

abbrev first_lemma : Lemma
first_lemma = record { clause = one_clause; steps = Input 0 ∷ Cycle pair ∷ [] }

abbrev second_lemma : Lemma
second_lemma = record { clause = []; steps = Earlier 0 ∷ Input 1 ∷ Cycle both ∷ [] }

on_points : All (IsOnPoints 3) one_clause
on_points = All-cons (IsOnPoints 3) (literal 1 2 less) [] (record { x_in = omega arith; y_in = omega arith }) (All-nil (IsOnPoints 3))

first_refuted : IsRefuted 3 old_clauses [] first_lemma
first_refuted = record {
  clause = on_points;
  steps = All-cons (NamesPoints 3) (Input 0) (Cycle pair ∷ []) (All-nil (IsOnPoints 3)) (All-cons (NamesPoints 3) (Cycle pair) [] (All-nil (IsOnPoints 3)) (All-nil (NamesPoints 3)));
  tree = cases refl (more (leaf (two_cycle _ _ _ (1, omega arith, refl) (0, omega arith, refl) refl refl (omega (arith, ints)))) none);
}

second_refuted : IsRefuted 3 old_clauses (one_clause ∷ []) second_lemma
second_refuted = record {
  clause = All-nil (IsOnPoints 3);
  steps = All-cons (NamesPoints 3) (Earlier 0) (Input 1 ∷ Cycle both ∷ []) (All-nil (IsOnPoints 3))
      (All-cons (NamesPoints 3) (Input 1) (Cycle both ∷ []) (All-nil (IsOnPoints 3)) (All-cons (NamesPoints 3) (Cycle both) [] (All-nil (IsOnPoints 3)) (All-nil (NamesPoints 3))));
  tree = cases refl (more (cases refl (more (leaf (two_cycle _ _ _ (0, omega arith, refl) (1, omega arith, refl) refl refl (omega (arith, ints)))) none)) none);
}

pub old_refuted : AreRefuted 3 old_clauses [] old_lemmas
old_refuted = (first_refuted, (second_refuted, tt))

-- ---- the first is carried

-- the first point that a clause names
abbrev first_point : Option (List Literal) → ℕ
first_point (Some (l ∷ ls)) = l.x
first_point other = 9

apart : (a b : ℕ) → a ≡ b → a < b → ⊥
apart a b e lt = absurd (omega arith)

not_before : (k : ℕ) → k < 1 → slice_get new_clauses k ≢ Some one_clause
not_before zero lt is = apart 0 1 (ap first_point is) (omega arith)
not_before (suc k) lt is = absurd (omega arith)

is_second : IsFirstEqual new_clauses one_clause 1
is_second = record { at = refl; first = not_before }

is_gone : Contains new_clauses other_clause → ⊥
is_gone (zero, lt, e) = apart 0 2 (ap (λ (c : List Literal). first_point (Some c)) e) (omega arith)
is_gone (suc zero, lt, e) = apart 1 2 (ap (λ (c : List Literal). first_point (Some c)) e) (omega arith)
is_gone (suc (suc k), lt, e) = absurd (omega (arith, lt))

abbrev new_numbers : List (Option ℕ)
new_numbers = Some 1 ∷ None ∷ []

number_of_each : (i : ℕ) (clause : List Literal) → slice_get old_clauses i ≡ Some clause → IsEqualAt new_clauses clause (slice_index_or new_numbers i None)
number_of_each zero clause at = let same : one_clause ≡ clause = cc in subst (λ (c : List Literal). IsFirstEqual new_clauses c 1) same is_second
number_of_each (suc zero) clause at = let same : other_clause ≡ clause = cc in subst (λ (c : List Literal). Contains new_clauses c → ⊥) same is_gone
number_of_each (suc (suc i)) clause at = absurd (cc)

abbrev first_fact : Fact
first_fact = own_fact old_clauses [] first_lemma

abbrev second_fact : Fact
second_fact = own_fact old_clauses (first_fact ∷ []) second_lemma

first_usable : IsUsable 3 new_clauses first_fact
first_usable = record {
  on_points = on_points;
  active = All-cons (Contains new_clauses) one_clause [] (1, omega arith, refl) (All-nil (Contains new_clauses));
}

second_not : IsUsable 3 new_clauses second_fact → ⊥
second_not u = is_gone (All-contains (Contains new_clauses) (one_clause ∷ other_clause ∷ []) other_clause u.active (1, omega arith, refl))

flag_of_each : (j : ℕ) (fact : Fact) → slice_get (lemma_facts old_clauses old_lemmas) j ≡ Some fact → (slice_index_or (true ∷ false ∷ []) j false ≡ true) ↔ IsUsable 3 new_clauses fact
flag_of_each zero fact at = let same : first_fact ≡ fact = cc in subst (λ (f : Fact). (true ≡ true) ↔ IsUsable 3 new_clauses f) same (λ e. first_usable, λ u. refl)
flag_of_each (suc zero) fact at = let same : second_fact ≡ fact = cc in subst (λ (f : Fact). (false ≡ true) ↔ IsUsable 3 new_clauses f) same (λ e. absurd (cc), λ u. absurd (second_not u))
flag_of_each (suc (suc j)) fact at = absurd (cc)

pub first_carried : IsCarried old_clauses old_lemmas 3 new_clauses (record { seen = 0; lemmas = new_lemmas })
first_carried = record {
  numbers = new_numbers;
  kept = true ∷ false ∷ [];
  equal = record { one_each = refl; each = number_of_each };
  are = record { one_each = refl; right = flag_of_each };
  seen = refl;
  lemmas_are = refl;
}
