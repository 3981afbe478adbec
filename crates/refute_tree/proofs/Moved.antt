-- What a move keeps.
use Rattle.std.proofs.Common.{arith, ◌≡◌, ℕ, zero, suc, ◌<◌, ◌≤◌, ◌+◌, ◌-◌, Bool, true, false, List, [], ◌∷◌, ◌++◌, length, map, Some, subst, sym, refl, ap, ◌∙◌, append_assoc, append-nil, length-append}
use Rattle.std.specs.Prelude.{slice_get, nat_lt, if◌then◌else◌}
use Rattle.std.proofs.lemmas.Bool.Decides.{nat_tests}
use Rattle.std.proofs.lemmas.List.Elements.{All-map, All-weaker}
use Rattle.stn_core.specs.declared.literal.Literal.{Literal}
use Rattle.refute_tree.specs.declared.step.Step.{Step}
use Rattle.refute_tree.specs.declared.step.Step.TheVariants.{Cycle, Input, Lemma as Earlier, Clash, Either}
use Rattle.refute_tree.specs.declared.lemma.Lemma.{Lemma}
use Rattle.refute_tree.specs.Trees.{clause_of, NamesPoints, IsRefuted, stated}
use Rattle.refute_tree.specs.Moves.{moved_number, moved_step}
use Rattle.refute_tree.specs.Batches.{AreRefuted, NamesOver, LemmaIsOver, moved_lemma}
use Rattle.refute_tree.proofs.Renamed.{tree_named}

-- what stands among the first ones
get_first : (first own later : List (List Literal)) (j : ℕ) (x : List Literal) → j < length first → slice_get (first ++ own) j ≡ Some x → slice_get ((first ++ later) ++ own) j ≡ Some x
get_first [] own later j x lt e = absurd (omega arith)
get_first (y ∷ first) own later zero x lt e = e
get_first (y ∷ first) own later (suc j) x lt e = get_first first own later j x (omega arith) e

-- what stands behind them
pub get_behind : (first own : List (List Literal)) (j : ℕ) → slice_get (first ++ own) (length first + j) ≡ slice_get own j
get_behind [] own j = ap (slice_get own) (omega arith)
get_behind (y ∷ first) own j =
    let e : length (y ∷ first) + j ≡ suc (length first + j) = omega arith in
    ap (slice_get (y ∷ (first ++ own))) e ∙ get_behind first own j

pub get_moved_by : (first later own : List (List Literal)) (j : ℕ) (x : List Literal) (b : Bool) → nat_lt j (length first) ≡ b → slice_get (first ++ own) j ≡ Some x → slice_get ((first ++ later) ++ own) (if b then j else (j - length first) + (length first + length later)) ≡ Some x
get_moved_by first later own j x true is e = get_first first own later j x (grind (arith, nat_tests)) e
get_moved_by first later own j x false is e =
    let above : length first ≤ j = grind (arith, nat_tests) in
    let k : length first + (j - length first) ≡ j = omega arith in
    let n : (j - length first) + (length first + length later) ≡ length (first ++ later) + (j - length first) = omega (arith, length-append first later) in
    ap (slice_get ((first ++ later) ++ own)) n ∙ (get_behind (first ++ later) own (j - length first) ∙ (sym (get_behind first own (j - length first)) ∙ (ap (slice_get (first ++ own)) k ∙ e)))

opened_moved : (inputs first later own : List (List Literal)) (s : Step) (clause : List Literal) → clause_of inputs (first ++ own) s ≡ Some clause → clause_of inputs ((first ++ later) ++ own) (moved_step (length first) (length first + length later) s) ≡ Some clause
opened_moved inputs first later own (Cycle cycle) clause e = e
opened_moved inputs first later own (Input i) clause e = e
opened_moved inputs first later own (Earlier j) clause e = get_moved_by first later own j clause (nat_lt j (length first)) refl e
opened_moved inputs first later own (Clash i) clause e = e
opened_moved inputs first later own (Either l) clause e = e

on_points_moved : (points seen base : ℕ) (s : Step) → NamesPoints points s → NamesPoints points (moved_step seen base s)
on_points_moved points seen base (Cycle cycle) h = h
on_points_moved points seen base (Input i) h = h
on_points_moved points seen base (Earlier j) h = h
on_points_moved points seen base (Clash i) h = h
on_points_moved points seen base (Either l) h = h

over_moved : (points seen base : ℕ) (s : Step) → NamesOver points s → NamesOver points (moved_step seen base s)
over_moved points seen base (Cycle cycle) h = h
over_moved points seen base (Input i) h = h
over_moved points seen base (Earlier j) h = h
over_moved points seen base (Clash i) h = h
over_moved points seen base (Either l) h = h

-- a lemma within the limits is so after its move
pub lemma_over_moved : (points seen base : ℕ) (lemma : Lemma) → LemmaIsOver points lemma → LemmaIsOver points (moved_lemma seen base lemma)
lemma_over_moved points seen base lemma h =
    let step = moved_step seen base in
    record {
      clause = h.clause;
      steps = All-map (NamesOver points) step lemma.steps (All-weaker (NamesOver points) (λ s. NamesOver points (step s)) (over_moved points seen base) lemma.steps h.steps);
    }

refuted_moved : (points : ℕ) (clauses first later own : List (List Literal)) (lemma : Lemma) → IsRefuted points clauses (first ++ own) lemma → IsRefuted points clauses ((first ++ later) ++ own) (moved_lemma (length first) (length first + length later) lemma)
refuted_moved points clauses first later own lemma r =
    let step = moved_step (length first) (length first + length later) in
    record {
      clause = r.clause;
      steps = All-map (NamesPoints points) step lemma.steps (All-weaker (NamesPoints points) (λ s. NamesPoints points (step s)) (on_points_moved points (length first) (length first + length later)) lemma.steps r.steps);
      tree = tree_named clauses (first ++ own) ((first ++ later) ++ own) step (λ cycle. refl) (λ i. refl) (opened_moved clauses first later own) r.tree;
    }

all_moved : (points : ℕ) (clauses first later own : List (List Literal)) (lemmas : List Lemma) → AreRefuted points clauses (first ++ own) lemmas → AreRefuted points clauses ((first ++ later) ++ own) (map (moved_lemma (length first) (length first + length later)) lemmas)
all_moved points clauses first later own [] h = tt
all_moved points clauses first later own (lemma ∷ lemmas) h =
    let rest = subst (λ (k : List (List Literal)). AreRefuted points clauses k lemmas) (append_assoc first own (lemma.clause ∷ [])) h.1 in (
      refuted_moved points clauses first later own lemma h.0,
      subst (λ (k : List (List Literal)). AreRefuted points clauses k (map (moved_lemma (length first) (length first + length later)) lemmas)) (sym (append_assoc (first ++ later) own (lemma.clause ∷ []))) (all_moved points clauses first later (own ++ lemma.clause ∷ []) lemmas rest),
    )

pub batch_moved : (points : ℕ) (clauses first later : List (List Literal)) (lemmas : List Lemma) → AreRefuted points clauses first lemmas → AreRefuted points clauses (first ++ later) (map (moved_lemma (length first) (length first + length later)) lemmas)
batch_moved points clauses first later lemmas h =
    let a = subst (λ (k : List (List Literal)). AreRefuted points clauses k lemmas) (sym (append-nil first)) h in
    subst (λ (k : List (List Literal)). AreRefuted points clauses k (map (moved_lemma (length first) (length first + length later)) lemmas)) (append-nil (first ++ later)) (all_moved points clauses first later [] lemmas a)

pub joined : (points : ℕ) (clauses earlier : List (List Literal)) (lemmas others : List Lemma) → AreRefuted points clauses earlier lemmas → AreRefuted points clauses (earlier ++ map stated lemmas) others → AreRefuted points clauses earlier (lemmas ++ others)
joined points clauses earlier [] others h k = subst (λ (e : List (List Literal)). AreRefuted points clauses e others) (append-nil earlier) k
joined points clauses earlier (lemma ∷ lemmas) others h k =
    (h.0, joined points clauses (earlier ++ lemma.clause ∷ []) lemmas others h.1 (subst (λ (e : List (List Literal)). AreRefuted points clauses e others) (sym (append_assoc earlier (lemma.clause ∷ []) (map stated lemmas))) k))

-- a lemma's number, moved, is the number of the same clause
pub get_moved : (first later own : List (List Literal)) (j : ℕ) (x : List Literal) → slice_get (first ++ own) j ≡ Some x → slice_get ((first ++ later) ++ own) (moved_number (length first) (length first + length later) j) ≡ Some x
get_moved first later own j x e = get_moved_by first later own j x (nat_lt j (length first)) refl e

pub stated_moved : (seen base : ℕ) (lemmas : List Lemma) → map stated (map (moved_lemma seen base) lemmas) ≡ map stated lemmas
stated_moved seen base [] = refl
stated_moved seen base (lemma ∷ lemmas) = ap (λ (k : List (List Literal)). lemma.clause ∷ k) (stated_moved seen base lemmas)
