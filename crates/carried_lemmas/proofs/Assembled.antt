-- What the three passes make together.
use Rattle.std.proofs.Common.{◌≡◌, ℕ, Bool, List, [], map, Option, sym, ap, subst, ◌∙◌}
use Rattle.std.specs.List.{items_where_true}
use Rattle.stn_core.specs.declared.literal.Literal.{Literal}
use Rattle.refute_tree.specs.declared.lemma.Lemma.{Lemma}
use Rattle.refute_tree.specs.Batches.{LemmaBatch}
use Rattle.carried_lemmas.specs.Carried.{lemma_facts, AreEqualAt, AreKept, carried_lemma, IsCarried}
use Rattle.carried_lemmas.specs.code.Carrying.{flags_from}
use Rattle.carried_lemmas.proofs.Flagged.{flags_right}

pub is_carried : (old : List (List Literal)) (lemmas : List Lemma) (points : ℕ) (new : List (List Literal)) (batch : LemmaBatch)
    (first second : List (List Literal)) (numbers third fourth : List (Option ℕ)) (kept fifth : List Bool) (all : List Lemma)
    → first ≡ old → second ≡ new → AreEqualAt first second numbers
    → third ≡ numbers → kept ≡ flags_from points third [] lemmas
    → fourth ≡ numbers → fifth ≡ kept → all ≡ map (carried_lemma fourth fifth) (items_where_true fifth lemmas)
    → batch.seen ≡ 0 → batch.lemmas ≡ all → IsCarried old lemmas points new batch
is_carried old lemmas points new batch first second numbers third fourth kept fifth all first_is second_is equal third_is kept_is fourth_is fifth_is all_is seen lemmas_is =
    let same : AreEqualAt old new numbers = subst (λ (cs : List (List Literal)). AreEqualAt cs new numbers) first_is (subst (λ (cs : List (List Literal)). AreEqualAt first cs numbers) second_is equal) in
    let flags : kept ≡ flags_from points numbers [] lemmas = kept_is ∙ ap (λ (ns : List (Option ℕ)). flags_from points ns [] lemmas) third_is in
    record {
      numbers = numbers;
      kept = kept;
      equal = same;
      are = subst (AreKept points new (lemma_facts old lemmas)) (sym flags) (flags_right old points new numbers same lemmas);
      seen = seen;
      lemmas_are = lemmas_is ∙ all_is ∙ ap (λ (ns : List (Option ℕ)). map (carried_lemma ns fifth) (items_where_true fifth lemmas)) fourth_is
          ∙ ap (λ (bs : List Bool). map (carried_lemma numbers bs) (items_where_true bs lemmas)) fifth_is;
    }
