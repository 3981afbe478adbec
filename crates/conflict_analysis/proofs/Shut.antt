-- Leaves close the cases of a clause, and the steps of one resolved literal go round what follows.
use Rattle.std.proofs.Common.{arith, ◌≡◌, ◌≢◌, ℕ, ◌<◌, ◌+◌, inl, inr, List, [], ◌∷◌, ◌++◌, length, drop, All, Contains, Bool, true, append_assoc, subst, sym, ap, ◌∙◌, refl, Some, Result, Ok, Err, ℤ, pos, ◌-ℤ◌, neg_ℤ}
use Rattle.std.specs.Prelude.{OnOk}
use Rattle.std.proofs.lemmas.Int.{ints}
use Rattle.std.proofs.lemmas.Bool.{cases_eq}
use Rattle.std.proofs.Math.Seq.{drop-length}
use Rattle.std.proofs.lemmas.List.{drop_more}
use Rattle.std.proofs.lemmas.Option.{slice_get-get_or}
use Rattle.std.proofs.lemmas.List.Elements.{All-nil, All-cons, All-append, All-map, All-from_get_or, Contains-append_left, Contains-push}
use Rattle.stn_core.specs.declared.literal.Literal.{Literal}
use Rattle.stn_core.specs.Literal.{negation_of, literal_at}
use Rattle.stn_core.specs.Cycle.{IsNegativeCycle}
use Rattle.refute_tree.specs.declared.step.Step.{Step}
use Rattle.refute_tree.specs.declared.step.Step.TheVariants.{Cycle, Clash}
use Rattle.refute_tree.specs.Trees.{clause_of, Forest, leaf, clash, cases, none, more}
use Rattle.conflict_analysis.specs.declared.entry.Source.{Source}
use Rattle.conflict_analysis.specs.declared.entry.Source.TheVariants.{Input as OfInput, Lemma as OfLemma}
use Rattle.conflict_analysis.specs.declared.entry.Reason.{Reason}
use Rattle.conflict_analysis.specs.declared.entry.Reason.TheVariants.{Clause as ByClause}
use Rattle.conflict_analysis.specs.declared.entry.Entry.{Entry}
use Rattle.conflict_analysis.specs.declared.entry.Conflict.{Conflict}
use Rattle.conflict_analysis.specs.declared.entry.Conflict.TheVariants.{Clause as OfClause, Cycle as OfCycle}
use Rattle.conflict_analysis.specs.declared.entry.Role.{Role}
use Rattle.conflict_analysis.specs.code.Trails.{no_literal, source_clause, entry_at, on_trail, IsKnown, IsByClause, Follows, IsConflict, StandsUsed}
use Rattle.conflict_analysis.specs.code.Leaves.{at_leaves, StandsAssumed, IsLeafReason, AreLeaves, IsAssumedConflict}
use Rattle.conflict_analysis.specs.code.Spines.{step_of, Grows, NamesNone, Assumes, AreMore, IsShut, AreShut, Closes}

two_negative : (l : Literal) → IsNegativeCycle (l ∷ negation_of l ∷ [])
two_negative l = record { some = omega arith; closed = (l.x, (refl, (refl, refl))); negative = omega (arith, ints) }

pub negation_twice : (l : Literal) → negation_of (negation_of l) ≡ l
negation_twice l = let same : (neg_ℤ (neg_ℤ l.c -ℤ pos 1) -ℤ pos 1) ≡ l.c = omega (arith, ints) in ap (λ (c : ℤ). record { x = l.x; y = l.y; c = c }) same

names_one : (step : Step) → NamesNone step → All NamesNone (step ∷ [])
names_one step one = All-cons NamesNone step [] one (All-nil NamesNone)

-- steps that grow by some
pub grows_twice : (So : List Step → Type 0) (old mid new a b : List Step) → mid ≡ old ++ a → new ≡ mid ++ b → So (a ++ b) → Grows old new So
grows_twice So old mid new a b e f so = (a ++ b, f ∙ ap (λ (s : List Step). s ++ b) e ∙ append_assoc old a b, so)

-- one clause for a call that was made
pub ok_grows : {E : Type 0} (So : List Step → Type 0) (old new : List Step) (result : Result Unit E) (added : List Step) → OnOk result (new ≡ old ++ added) → So added → OnOk result (Grows old new So)
ok_grows So old new (Ok u) added e so = (added, e, so)
ok_grows So old new (Err x) added e so = tt

pub assumed_next : (trail : List Entry) (roles : List Role) (leaves : List Bool) (clause : List Literal) (q : ℕ) → ((i : ℕ) → i < q → StandsAssumed trail roles leaves (length trail) (negation_of (literal_at clause i))) → StandsAssumed trail roles leaves (length trail) (negation_of (literal_at clause q)) → (i : ℕ) → i < q + 1 → StandsAssumed trail roles leaves (length trail) (negation_of (literal_at clause i))
assumed_next trail roles leaves clause q h s i lt = elim (cases_eq i q) [
  | inl same ↦ subst (λ (j : ℕ). StandsAssumed trail roles leaves (length trail) (negation_of (literal_at clause j))) (sym same) s
  | inr other ↦ h i (omega arith)
]

module _ (inputs lemmas : List (List Literal)) where
  pub opened : (source : Source) → IsKnown inputs lemmas source → clause_of inputs lemmas (step_of source) ≡ Some (source_clause inputs lemmas source)
  opened (OfInput i) lt = slice_get-get_or inputs i [] lt
  opened (OfLemma j) lt = slice_get-get_or lemmas j [] lt

  pub source_names_none : (source : Source) → NamesNone (step_of source)
  source_names_none (OfInput i) = refl
  source_names_none (OfLemma j) = refl

  module _ (trail : List Entry) (roles : List Role) (leaves : List Bool) where
    -- what is assumed below a place is assumed where more is
    pub assumes_more : (below : ℕ) (assumed many : List Literal) → AreMore assumed many → Assumes trail roles leaves below assumed → Assumes trail roles leaves below many
    assumes_more below assumed many in_ has l s = in_ l (has l s)

    -- the literal and its negation
    pub shut_pair : (below : ℕ) (l : Literal) → StandsAssumed trail roles leaves below (negation_of l) → IsShut inputs lemmas (Assumes trail roles leaves below) l (Cycle (l ∷ negation_of l ∷ []) ∷ [])
    shut_pair below l s = record {
      names = names_one (Cycle (l ∷ negation_of l ∷ [])) refl;
      tree = λ assumed rest has.
          (let denied : Contains (assumed ++ l ∷ []) (negation_of l) = Contains-append_left assumed (l ∷ []) (negation_of l) (has (negation_of l) s) in
          let here : Contains (assumed ++ l ∷ []) l = Contains-push assumed l in
          leaf (record { negative = two_negative l; given = All-cons (Contains (assumed ++ l ∷ [])) l (negation_of l ∷ []) here (All-cons (Contains (assumed ++ l ∷ [])) (negation_of l) [] denied (All-nil (Contains (assumed ++ l ∷ [])))) }));
    }

    -- the clause that its negation follows from
    pub shut_clash : (below k i : ℕ) (place : ℕ) (l : Literal) → k < below → on_trail trail k ≡ negation_of l → IsByClause inputs lemmas (StandsAssumed trail roles leaves k) (on_trail trail k) (OfInput i) place → IsShut inputs lemmas (Assumes trail roles leaves below) l (Clash i ∷ [])
    shut_clash below k i place l lt is h = record {
      names = names_one (Clash i) refl;
      tree = λ assumed rest has.
          (let clause = source_clause inputs lemmas (OfInput i) in
          let many = assumed ++ l ∷ [] in
          let each : (q : ℕ) → q < length clause → Contains many (negation_of (literal_at clause q)) = λ q within. elim (cases_eq q place) [
            | inl same ↦ (let at : literal_at clause q ≡ negation_of l = ap (λ (n : ℕ). literal_at clause n) same ∙ h.at ∙ is in
                subst (Contains many) (sym (ap negation_of at ∙ negation_twice l)) (Contains-push assumed l))
            | inr other ↦ (let s = h.others q within other in
                let under = s.1 in
                Contains-append_left assumed (l ∷ []) (negation_of (literal_at clause q)) (has (negation_of (literal_at clause q)) (s.0, omega (arith, under), s.2, s.3, s.4)))
          ] in
          clash (opened (OfInput i) h.known) (All-map (Contains many) negation_of clause (All-from_get_or (λ (m : Literal). Contains many (negation_of m)) clause no_literal each)));
    }

    pub leaf_clause : (k : ℕ) (reason : Reason) → AreLeaves inputs lemmas trail roles leaves → at_leaves leaves k ≡ true → (entry_at trail k).reason ≡ reason → IsLeafReason inputs lemmas trail roles leaves k (on_trail trail k) reason
    leaf_clause k reason all t e = subst (IsLeafReason inputs lemmas trail roles leaves k (on_trail trail k)) e (all k t)

    module _ (below : ℕ) (clause : List Literal) where
      abbrev pub Shut : ℕ → ℕ → List Step → Type 0
      Shut low high added = AreShut inputs lemmas (Assumes trail roles leaves below) clause low high added

      pub shut_none : (low : ℕ) → Shut low low []
      shut_none low = record {
        names = All-nil NamesNone;
        forest = λ assumed tail rest has go. go assumed (λ l c. c);
      }

      pub shut_more : (low q : ℕ) (added one : List Step) → q < length clause → Shut low q added → IsShut inputs lemmas (Assumes trail roles leaves below) (literal_at clause q) one → Shut low (q + 1) (added ++ one)
      shut_more low q added one within shut last = record {
        names = All-append NamesNone added one shut.names last.names;
        forest = λ assumed tail rest has go.
            (let l = literal_at clause q in
            let next : drop q clause ≡ l ∷ drop (q + 1) clause = drop_more clause q no_literal within in
            let P : List Step → Type 0 = λ s. Forest inputs lemmas assumed (drop low clause) s rest in
            subst P (sym (append_assoc added one tail)) (shut.forest assumed (one ++ tail) rest has (λ many in_.
            (let Q : List Literal → Type 0 = λ ls. Forest inputs lemmas many ls (one ++ tail) rest in
            subst Q (sym next) (more (last.tree many tail (assumes_more below assumed many in_ has)) (go (many ++ negation_of l ∷ []) (λ m c. Contains-append_left many (negation_of l ∷ []) m (in_ m c))))))));
      }

    -- the cases of a clause, all of which are closed
    pub cases_close : (below : ℕ) (source : Source) (clause : List Literal) (added : List Step) → IsKnown inputs lemmas source → clause ≡ source_clause inputs lemmas source → AreShut inputs lemmas (Assumes trail roles leaves below) clause 0 (length clause) added → Closes inputs lemmas (Assumes trail roles leaves below) (step_of source ∷ added)
    cases_close below source clause added known e shut = record {
      names = All-cons NamesNone (step_of source) added (source_names_none source) shut.names;
      tree = λ assumed rest has.
          (let Q : List Literal → Type 0 = λ ls. Forest inputs lemmas assumed ls (added ++ rest) rest in
          cases (opened source known) (subst Q e (shut.forest assumed rest rest has (λ many in_.
          (let P : List Literal → Type 0 = λ ls. Forest inputs lemmas many ls rest rest in
          subst P (sym (drop-length clause)) none)))));
    }

    -- a clause of the problem that is denied
    pub clash_closes : (below i : ℕ) (clause : List Literal) → IsKnown inputs lemmas (OfInput i) → clause ≡ source_clause inputs lemmas (OfInput i) → ((q : ℕ) → q < length clause → StandsAssumed trail roles leaves below (negation_of (literal_at clause q))) → Closes inputs lemmas (Assumes trail roles leaves below) (Clash i ∷ [])
    clash_closes below i clause known e denied = record {
      names = names_one (Clash i) refl;
      tree = λ assumed rest has.
          (let D : List Literal → Type 0 = λ ls. (q : ℕ) → q < length ls → Contains assumed (negation_of (literal_at ls q)) in
          let each : D (source_clause inputs lemmas (OfInput i)) = subst D e (λ q lt. has (negation_of (literal_at clause q)) (denied q lt)) in
          clash (opened (OfInput i) known) (All-map (Contains assumed) negation_of (source_clause inputs lemmas (OfInput i)) (All-from_get_or (λ (m : Literal). Contains assumed (negation_of m)) (source_clause inputs lemmas (OfInput i)) no_literal each)));
    }

    pub cycle_closes : (below : ℕ) (cycle : List Literal) → IsNegativeCycle cycle → ((q : ℕ) → q < length cycle → StandsAssumed trail roles leaves below (literal_at cycle q)) → Closes inputs lemmas (Assumes trail roles leaves below) (Cycle cycle ∷ [])
    cycle_closes below cycle negative assumed_ = record {
      names = names_one (Cycle cycle) refl;
      tree = λ assumed rest has. leaf (record { negative = negative; given = All-from_get_or (Contains assumed) cycle no_literal (λ q lt. has (literal_at cycle q) (assumed_ q lt)) });
    }

    pub conflict_cycle_closes : (conflict : Conflict) (cycle given : List Literal) → IsConflict inputs lemmas (StandsUsed trail roles (length trail)) conflict → IsAssumedConflict trail roles leaves conflict → conflict ≡ OfCycle cycle → given ≡ cycle → Closes inputs lemmas (Assumes trail roles leaves (length trail)) (Cycle given ∷ [])
    conflict_cycle_closes conflict cycle given h assumed_ e g =
        let c : IsConflict inputs lemmas (StandsUsed trail roles (length trail)) (OfCycle cycle) = subst (IsConflict inputs lemmas (StandsUsed trail roles (length trail))) e h in
        let a : IsAssumedConflict trail roles leaves (OfCycle cycle) = subst (IsAssumedConflict trail roles leaves) e assumed_ in
        let P : List Literal → Type 0 = λ ls. Closes inputs lemmas (Assumes trail roles leaves (length trail)) (Cycle ls ∷ []) in
        subst P (sym g) (cycle_closes (length trail) cycle c.0 a)

  -- the clause of a conflict, and that of a reason
  pub denied_used : (trail : List Entry) (roles : List Role) (source : Source) (clause : List Literal) → IsConflict inputs lemmas (StandsUsed trail roles (length trail)) (OfClause source) → clause ≡ source_clause inputs lemmas source → (q : ℕ) → q < length clause → StandsUsed trail roles (length trail) (negation_of (literal_at clause q))
  denied_used trail roles source clause h e =
      let P : List Literal → Type 0 = λ ls. (q : ℕ) → q < length ls → StandsUsed trail roles (length trail) (negation_of (literal_at ls q)) in
      subst P (sym e) h.1

  pub others_used : (trail : List Entry) (roles : List Role) (k : ℕ) (l : Literal) (source : Source) (place : ℕ) (reason : Reason) (clause : List Literal) → Follows inputs lemmas (StandsUsed trail roles k) l reason → reason ≡ ByClause source place → clause ≡ source_clause inputs lemmas source → (q : ℕ) → q < length clause → q ≢ place → StandsUsed trail roles k (negation_of (literal_at clause q))
  others_used trail roles k l source place reason clause h e c =
      let f : IsByClause inputs lemmas (StandsUsed trail roles k) l source place = subst (Follows inputs lemmas (StandsUsed trail roles k) l) e h in
      let P : List Literal → Type 0 = λ ls. (q : ℕ) → q < length ls → q ≢ place → StandsUsed trail roles k (negation_of (literal_at ls q)) in
      subst P (sym c) f.others

  pub place_within : (trail : List Entry) (roles : List Role) (k : ℕ) (l : Literal) (source : Source) (place : ℕ) (reason : Reason) (clause : List Literal) → Follows inputs lemmas (StandsUsed trail roles k) l reason → reason ≡ ByClause source place → clause ≡ source_clause inputs lemmas source → place < length clause
  place_within trail roles k l source place reason clause h e c =
      let f : IsByClause inputs lemmas (StandsUsed trail roles k) l source place = subst (Follows inputs lemmas (StandsUsed trail roles k) l) e h in
      subst (λ (ls : List Literal). place < length ls) (sym c) f.within
