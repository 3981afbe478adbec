-- The lemmas have no flaw exactly where they are a refutation.
use Rattle.std.proofs.Common.{arith, ◌≡◌, ◌<◌, ◌-◌, ℕ, zero, suc, List, [], ◌∷◌, ◌++◌, length, map, take, Option, Some, None, Bool, true, false, ◌==◌, refl, sym, ap, ◌∙◌, subst, append-nil, append_assoc}
use Rattle.std.specs.Prelude.{slice_get, if◌then◌else◌}
use Rattle.std.proofs.lemmas.Bool.{eqb-true, eq-eqb}
use Rattle.std.proofs.lemmas.Option.{same_Some, slice_get_within}
use Rattle.stn_core.specs.declared.literal.Literal.{Literal}
use Rattle.refute_tree.specs.declared.lemma.Lemma.{Lemma}
use Rattle.refute_tree.specs.Trees.{IsRefuted, IsRefutation, stated}
use Rattle.cert_check.specs.declared.flaw.FlawKind.TheVariants.{LastLemmaNotEmpty}
use Rattle.cert_check.specs.declared.flaw.Flaw.{Flaw}
use Rattle.cert_check.specs.Flaws.{flaw_at, lemma_flaw, ends_empty, first_of, lemmas_flaw, refutation_flaw}
use Rattle.cert_check.proofs.Reading.{unflawed_lemma, refuted_lemma}

no_literal : (clause : List Literal) → length clause ≡ 0 → clause ≡ []
no_literal [] e = refl
no_literal (l ∷ clause) e = absurd (omega arith)

last_index : (m n : Lemma) (lemmas : List Lemma) → slice_get (m ∷ n ∷ lemmas) (length (m ∷ n ∷ lemmas) - 1) ≡ slice_get (n ∷ lemmas) (length (n ∷ lemmas) - 1)
last_index m n lemmas =
    let k : length (m ∷ n ∷ lemmas) - 1 ≡ suc (length (n ∷ lemmas) - 1) = omega arith in
    ap (λ (i : ℕ). slice_get (m ∷ n ∷ lemmas) i) k

last_forth : (lemmas : List Lemma) → ends_empty (map stated lemmas) ≡ true → (lemma : Lemma) → slice_get lemmas (length lemmas - 1) ≡ Some lemma → lemma.clause ≡ []
last_forth [] e lemma is = absurd (cc)
last_forth (m ∷ []) e lemma is = let s : m ≡ lemma = cc in subst (λ (t : Lemma). t.clause ≡ []) s (no_literal m.clause (eqb-true _ _ e))
last_forth (m ∷ n ∷ lemmas) e lemma is = last_forth (n ∷ lemmas) e lemma (sym (last_index m n lemmas) ∙ is)

some_forth : (lemmas : List Lemma) → ends_empty (map stated lemmas) ≡ true → 0 < length lemmas
some_forth [] e = absurd (cc)
some_forth (m ∷ lemmas) e = omega arith

last_back : (lemmas : List Lemma) → 0 < length lemmas → ((lemma : Lemma) → slice_get lemmas (length lemmas - 1) ≡ Some lemma → lemma.clause ≡ []) → ends_empty (map stated lemmas) ≡ true
last_back [] some last = absurd (omega arith)
last_back (m ∷ []) some last = eq-eqb _ _ (ap (λ (c : List Literal). length c) (last m refl))
last_back (m ∷ n ∷ lemmas) some last = last_back (n ∷ lemmas) (omega arith) (λ lemma is. last lemma (last_index m n lemmas ∙ is))

pub ends_at : (lemmas : List Lemma) (lemma : Lemma) → slice_get lemmas (length lemmas - 1) ≡ Some lemma → lemma.clause ≡ [] → ends_empty (map stated lemmas) ≡ true
ends_at lemmas lemma is empty =
    let within = slice_get_within lemmas (length lemmas - 1) lemma is in
    last_back lemmas (omega arith) (λ other at. (let s : lemma ≡ other = same_Some lemma other (sym is ∙ at) in subst (λ (t : Lemma). t.clause ≡ []) s empty))

-- what the code finds of the last lemma
pub ends_tested : (lemmas : List Lemma) (lemma : Lemma) (clause : List Literal) (b : Bool) → Some lemma ≡ slice_get lemmas (length lemmas - 1) → clause ≡ lemma.clause → b ≡ (length clause == 0) → b ≡ ends_empty (map stated lemmas)
ends_tested [] lemma clause b is given e = absurd (cc)
ends_tested (m ∷ []) lemma clause b is given e =
    let s : lemma ≡ m = cc in
    e ∙ ap (λ (c : List Literal). length c == 0) (given ∙ ap (λ (t : Lemma). t.clause) s)
ends_tested (m ∷ n ∷ lemmas) lemma clause b is given e = ends_tested (n ∷ lemmas) lemma clause b (is ∙ last_index m n lemmas) given e

-- of two, the first and then the other
both_none : (a b : Option Flaw) → first_of a b ≡ None → (a ≡ None) × (b ≡ None)
both_none None b e = (refl, e)
both_none (Some flaw) b e = absurd (cc)

module _ (points : ℕ) (clauses : List (List Literal)) where
  -- the lemmas after those whose clauses are given are refuted, and all of them end with one without literals
  record IsRest (earlier : List (List Literal)) (lemmas : List Lemma) : Type 0 where
    each : (j : ℕ) (lemma : Lemma) → slice_get lemmas j ≡ Some lemma → IsRefuted points clauses (earlier ++ map stated (take j lemmas)) lemma
    last : ends_empty (earlier ++ map stated lemmas) ≡ true

  ends_by : (earlier : List (List Literal)) (b : Bool) → ends_empty earlier ≡ b → (if b then None else flaw_at earlier 0 LastLemmaNotEmpty) ≡ None → ends_empty earlier ≡ true
  ends_by earlier true e h = e
  ends_by earlier false e h = absurd (cc)

  unflawed_rest : (earlier : List (List Literal)) (lemmas : List Lemma) → lemmas_flaw points clauses earlier lemmas ≡ None → IsRest earlier lemmas
  unflawed_rest earlier [] h = record {
    each = λ j lemma is. absurd (cc);
    last = ap ends_empty (append-nil earlier) ∙ ends_by earlier (ends_empty earlier) refl h;
  }
  unflawed_rest earlier (lemma ∷ lemmas) h =
      let parts = both_none (lemma_flaw points clauses earlier lemma) (lemmas_flaw points clauses (earlier ++ lemma.clause ∷ []) lemmas) h in
      let rest = unflawed_rest (earlier ++ lemma.clause ∷ []) lemmas parts.1 in
      record {
        each = each (unflawed_lemma points clauses earlier lemma parts.0) rest;
        last = ap ends_empty (sym (append_assoc earlier (lemma.clause ∷ []) (map stated lemmas))) ∙ rest.last;
      }
    where
      each : IsRefuted points clauses earlier lemma → IsRest (earlier ++ lemma.clause ∷ []) lemmas → (j : ℕ) (other : Lemma) → slice_get (lemma ∷ lemmas) j ≡ Some other → IsRefuted points clauses (earlier ++ map stated (take j (lemma ∷ lemmas))) other
      each r rest zero other is =
          let s : lemma ≡ other = cc in
          subst (IsRefuted points clauses (earlier ++ [])) s (subst (λ (e : List (List Literal)). IsRefuted points clauses e lemma) (sym (append-nil earlier)) r)
      each r rest (suc j) other is =
          subst (λ (e : List (List Literal)). IsRefuted points clauses e other) (append_assoc earlier (lemma.clause ∷ []) (map stated (take j lemmas))) (rest.each j other is)

  rest_unflawed : (earlier : List (List Literal)) (lemmas : List Lemma) → IsRest earlier lemmas → lemmas_flaw points clauses earlier lemmas ≡ None
  rest_unflawed earlier [] r =
      ap (λ (b : Bool). if b then None else flaw_at earlier 0 LastLemmaNotEmpty) (ap ends_empty (sym (append-nil earlier)) ∙ r.last)
  rest_unflawed earlier (lemma ∷ lemmas) r =
      let here : IsRefuted points clauses earlier lemma = subst (λ (e : List (List Literal)). IsRefuted points clauses e lemma) (append-nil earlier) (r.each 0 lemma refl) in
      let rest : IsRest (earlier ++ lemma.clause ∷ []) lemmas = record {
        each = λ j other is. subst (λ (e : List (List Literal)). IsRefuted points clauses e other) (sym (append_assoc earlier (lemma.clause ∷ []) (map stated (take j lemmas)))) (r.each (suc j) other is);
        last = ap ends_empty (append_assoc earlier (lemma.clause ∷ []) (map stated lemmas)) ∙ r.last;
      } in
      ap (λ (f : Option Flaw). first_of f (lemmas_flaw points clauses (earlier ++ lemma.clause ∷ []) lemmas)) (refuted_lemma points clauses earlier lemma here) ∙ rest_unflawed (earlier ++ lemma.clause ∷ []) lemmas rest

  pub unflawed_refutation : (lemmas : List Lemma) → refutation_flaw points clauses lemmas ≡ None → IsRefutation points clauses lemmas
  unflawed_refutation lemmas h =
      let r = unflawed_rest [] lemmas h in
      record { some = some_forth lemmas r.last; each = r.each; last = last_forth lemmas r.last }

  pub refutation_unflawed : (lemmas : List Lemma) → IsRefutation points clauses lemmas → refutation_flaw points clauses lemmas ≡ None
  refutation_unflawed lemmas r = rest_unflawed [] lemmas (record { each = r.each; last = last_back lemmas r.some r.last })
