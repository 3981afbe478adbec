-- The steps of a conflict are a tree under the kept literals.
use Rattle.std.proofs.Common.{arith, ◌≡◌, ℕ, zero, suc, ◌<◌, ◌+◌, inl, inr, ◌⊎◌, List, [], ◌∷◌, ◌++◌, length, map, drop, All, Contains, Bool, true, false, append_assoc, append-nil, subst, sym, ap, ◌∙◌, refl}
use Rattle.std.specs.Prelude.{slice_index}
use Rattle.std.proofs.lemmas.Bool.{cases_eq, cases_lt}
use Rattle.std.proofs.Math.Seq.{drop-length}
use Rattle.std.proofs.lemmas.List.{drop_more}
use Rattle.std.proofs.lemmas.List.Elements.{All-nil, All-cons, All-append, All-from_get_or, Contains-append_left, Contains-push}
use Rattle.stn_core.specs.declared.literal.Literal.{Literal}
use Rattle.stn_core.specs.Literal.{negation_of, literal_at}
use Rattle.stn_core.specs.Answer.{IsCycleAmong}
use Rattle.refute_tree.specs.declared.step.Step.{Step}
use Rattle.refute_tree.specs.declared.step.Step.TheVariants.{Cycle, Either}
use Rattle.refute_tree.specs.Trees.{Tree, Forest, leaf, cases, none, more}
use Rattle.conflict_analysis.specs.declared.entry.Source.{Source}
use Rattle.conflict_analysis.specs.declared.entry.Reason.{Reason}
use Rattle.conflict_analysis.specs.declared.entry.Reason.TheVariants.{Given, Decision, Clause as ByClause, Pair as ByPair, Cycle as ByCycle}
use Rattle.conflict_analysis.specs.declared.entry.Entry.{Entry}
use Rattle.conflict_analysis.specs.declared.entry.Role.{Role}
use Rattle.conflict_analysis.specs.declared.entry.Role.TheVariants.{Unused, Kept, Resolved}
use Rattle.conflict_analysis.specs.code.Trails.{no_literal, source_clause, entry_at, on_trail, pair_cycle, role_at, IsUsed, IsByClause, IsByCycle, Follows, StandsUsed, IsClosed}
use Rattle.conflict_analysis.specs.code.Places.{ArePassed}
use Rattle.conflict_analysis.specs.code.Leaves.{at_leaves, StandsAssumed, IsAssuming, HasPassed, IsChosen}
use Rattle.conflict_analysis.specs.code.Spines.{step_of, NamesNone, NamesTrail, Assumes, AreMore, AreShut, IsOpening, IsClosing, Closes, IsOpen, IsOpeningAt, IsClosingAt, AreOpened, Refutes}
use Rattle.conflict_analysis.proofs.Passing.{kept_used}
use Rattle.conflict_analysis.proofs.Shut.{negation_twice, opened, source_names_none, assumes_more}

join3 : (a b c d : List Step) → (a ++ (b ++ c)) ++ d ≡ a ++ (b ++ (c ++ d))
join3 a b c d = append_assoc a (b ++ c) d ∙ ap (λ (s : List Step). a ++ s) (append_assoc b c d)

is_open_or_not : (roles : List Role) (leaves : List Bool) (k : ℕ) (r : Role) (b : Bool) → role_at roles k ≡ r → at_leaves leaves k ≡ b → IsOpen roles leaves k ⊎ (IsOpen roles leaves k → ⊥)
is_open_or_not roles leaves k Unused b e f = inr (λ o. let no : Unused ≡ Resolved = sym e ∙ o.0 in absurd cc)
is_open_or_not roles leaves k Kept b e f = inr (λ o. let no : Kept ≡ Resolved = sym e ∙ o.0 in absurd cc)
is_open_or_not roles leaves k Resolved true e f = inr (λ o. let no : true ≡ false = sym f ∙ o.1 in absurd cc)
is_open_or_not roles leaves k Resolved false e f = inl (e, f)

-- a step that names no literal names those of the trail
names_weak : (trail : List Entry) (steps : List Step) → All NamesNone steps → All (NamesTrail trail) steps
names_weak trail steps all k d lt = let e = all k d lt in subst (All (λ (l : Literal). (j : ℕ) × (j < length trail) × (on_trail trail j ≡ l))) (sym e) (All-nil (λ (l : Literal). (j : ℕ) × (j < length trail) × (on_trail trail j ≡ l)))

module _ (inputs lemmas : List (List Literal)) (trail : List Entry) (roles : List Role) (leaves : List Bool) (passed : List ℕ) where
  -- the assumptions have the kept literals, and the open ones that were passed from this index on
  pub record Gives (i : ℕ) (assumed : List Literal) : Type 0 where
    pub kept : (j : ℕ) → role_at roles j ≡ Kept → Contains assumed (on_trail trail j)
    pub opens : (j : ℕ) → HasPassed passed i j → IsOpen roles leaves j → Contains assumed (on_trail trail j)

  -- the steps are a tree, whatever follows, under what is assumed there
  pub record Goes (i : ℕ) (inner : List Step) : Type 0 where
    pub names : All (NamesTrail trail) inner
    pub tree : (assumed : List Literal) (rest : List Step) → Gives i assumed → Tree inputs lemmas assumed (inner ++ rest) rest

  -- the openings from this index on, and what they go round
  pub record AreWritten (i : ℕ) (steps : List Step) : Type 0 where
    pub before : List Step
    pub inner : List Step
    pub is : steps ≡ before ++ inner
    pub opened : AreOpened inputs lemmas trail roles leaves (drop i passed) before
    pub goes : Goes i inner

  module _ (p : ArePassed 0 (length trail) roles passed) where
    -- what is used at a place that doesn't stand at leaves
    given_at : (i : ℕ) (assumed : List Literal) (j : ℕ) (r : Role) → Gives i assumed → role_at roles j ≡ r → IsUsed r → at_leaves leaves j ≡ false → HasPassed passed i j → Contains assumed (on_trail trail j)
    given_at i assumed j Unused g e u f has = absurd u
    given_at i assumed j Kept g e u f has = g.kept j e
    given_at i assumed j Resolved g e u f has = g.opens j has (e, f)

    -- all below the place that was passed last
    gives_below : (i : ℕ) (assumed : List Literal) → i < length passed → Gives (i + 1) assumed → Assumes trail roles leaves (slice_index passed i) assumed
    gives_below i assumed inside g l s =
        let at = p.all s.0 (omega arith) s.2 in
        let is = at.2 in
        let lt = s.1 in
        let has : HasPassed passed (i + 1) s.0 = elim (cases_lt i at.0) [
          | inl less ↦ (at.0, omega (arith, less), at.1, at.2)
          | inr past ↦ elim (cases_eq at.0 i) [
            | inl same ↦ (let e = ap (λ (a : ℕ). slice_index passed a) same in absurd (omega (arith, is, lt, e)))
            | inr other ↦ (let h = p.falling at.0 i (omega (arith, past, other)) inside in absurd (omega (arith, is, lt, h)))
          ]
        ] in
        subst (Contains assumed) s.4 (given_at (i + 1) assumed s.0 (role_at roles s.0) g refl s.2 s.3 has)

    -- all that is used
    gives_all : (assumed : List Literal) → Gives 0 assumed → Assumes trail roles leaves (length trail) assumed
    gives_all assumed g l s =
        let at = p.all s.0 (omega arith) s.2 in
        subst (Contains assumed) s.4 (given_at 0 assumed s.0 (role_at roles s.0) g refl s.2 s.3 (at.0, omega arith, at.1, at.2))

    gives_past : (i : ℕ) (assumed : List Literal) → (IsOpen roles leaves (slice_index passed i) → ⊥) → Gives (i + 1) assumed → Gives i assumed
    gives_past i assumed not g = record {
      kept = g.kept;
      opens = λ j has o. elim (cases_eq has.0 i) [
        | inl same ↦ (let at : slice_index passed i ≡ j = ap (λ (a : ℕ). slice_index passed a) (sym same) ∙ has.3 in
            absurd (not (subst (λ (k : ℕ). IsOpen roles leaves k) (sym at) o)))
        | inr other ↦ (let from = has.1 in g.opens j (has.0, omega (arith, from, other), has.2, has.3) o)
      ];
    }

    gives_more : (i : ℕ) (assumed many : List Literal) → AreMore assumed many → Contains many (on_trail trail (slice_index passed i)) → Gives (i + 1) assumed → Gives i many
    gives_more i assumed many in_ here g = record {
      kept = λ j is. in_ (on_trail trail j) (g.kept j is);
      opens = λ j has o. elim (cases_eq has.0 i) [
        | inl same ↦ (let at : slice_index passed i ≡ j = ap (λ (a : ℕ). slice_index passed a) (sym same) ∙ has.3 in
            subst (λ (k : ℕ). Contains many (on_trail trail k)) at here)
        | inr other ↦ (let from = has.1 in in_ (on_trail trail j) (g.opens j (has.0, omega (arith, from, other), has.2, has.3) o))
      ];
    }

    pub conflict_goes : (inner : List Step) → Closes inputs lemmas (Assumes trail roles leaves (length trail)) inner → Goes 0 inner
    conflict_goes inner c = record {
      names = names_weak trail inner c.names;
      tree = λ assumed rest g. c.tree assumed rest (gives_all assumed g);
    }

    -- what follows closes each case in which the literal is assumed too
    abbrev pub Within : Literal → List Literal → List Step → Type 0
    Within l assumed inner = (many : List Literal) (later : List Step) → AreMore assumed many → Contains many l → Tree inputs lemmas many (inner ++ later) later

    cycle_link : (l : Literal) (cycle assumed : List Literal) (inner rest : List Step) → IsByCycle (Contains assumed) l cycle → Within l assumed inner → Tree inputs lemmas assumed ((Either l ∷ []) ++ ((inner ++ Cycle cycle ∷ []) ++ rest)) rest
    cycle_link l cycle assumed inner rest h go =
        let once = assumed ++ negation_of l ∷ [] in
        let twice = once ++ negation_of l ∷ [] in
        let among : IsCycleAmong twice cycle = record {
          negative = h.negative;
          given = All-from_get_or (Contains twice) cycle no_literal (λ q lt. elim (h.others q lt) [
            | inl e ↦ subst (Contains twice) (sym e) (Contains-push once (negation_of l))
            | inr c ↦ Contains-append_left once (negation_of l ∷ []) (literal_at cycle q) (Contains-append_left assumed (negation_of l ∷ []) (literal_at cycle q) c)
          ]);
        } in
        let Q : List Step → Type 0 = λ s. Forest inputs lemmas assumed (l ∷ negation_of l ∷ []) s rest in
        cases refl (subst Q (sym (append_assoc inner (Cycle cycle ∷ []) rest)) (more (go (assumed ++ l ∷ []) (Cycle cycle ∷ rest) (λ m c. Contains-append_left assumed (l ∷ []) m c) (Contains-push assumed l)) (more (leaf among) none)))

    clause_link : (below : ℕ) (l : Literal) (source : Source) (place : ℕ) (a b inner rest : List Step) (assumed : List Literal) → IsByClause inputs lemmas (StandsUsed trail roles below) l source place → AreShut inputs lemmas (Assumes trail roles leaves below) (source_clause inputs lemmas source) 0 place a → AreShut inputs lemmas (Assumes trail roles leaves below) (source_clause inputs lemmas source) (suc place) (length (source_clause inputs lemmas source)) b → Assumes trail roles leaves below assumed → Within l assumed inner → Tree inputs lemmas assumed (((step_of source ∷ []) ++ a) ++ ((inner ++ b) ++ rest)) rest
    clause_link below l source place a b inner rest assumed h before after has go =
        let clause = source_clause inputs lemmas source in
        let tail = inner ++ (b ++ rest) in
        let next : drop place clause ≡ l ∷ drop (suc place) clause = drop_more clause place no_literal h.within ∙ ap (λ (m : Literal). m ∷ drop (place + 1) clause) h.at ∙ ap (λ (n : ℕ). l ∷ drop n clause) (let e : place + 1 ≡ suc place = omega arith in e) in
        let end : (many : List Literal) → AreMore assumed many → Forest inputs lemmas (many ++ negation_of l ∷ []) (drop (suc place) clause) (b ++ rest) rest = λ many in_.
        after.forest (many ++ negation_of l ∷ []) rest rest (assumes_more inputs lemmas trail roles leaves below assumed (many ++ negation_of l ∷ []) (λ m c. Contains-append_left many (negation_of l ∷ []) m (in_ m c)) has) (λ most in_most.
        (let P : List Literal → Type 0 = λ ls. Forest inputs lemmas most ls rest rest in
        subst P (sym (drop-length clause)) none)) in
        let middle : (many : List Literal) → AreMore assumed many → Forest inputs lemmas many (drop place clause) tail rest = λ many in_.
        (let Q : List Literal → Type 0 = λ ls. Forest inputs lemmas many ls tail rest in
        subst Q (sym next) (more (go (many ++ l ∷ []) (b ++ rest) (λ m c. Contains-append_left many (l ∷ []) m (in_ m c)) (Contains-push many l)) (end many in_))) in
        let forest : Forest inputs lemmas assumed clause (a ++ tail) rest = before.forest assumed tail rest has middle in
        let R : List Step → Type 0 = λ s. Forest inputs lemmas assumed clause (a ++ s) rest in
        cases (opened inputs lemmas source h.known) (subst R (sym (append_assoc inner b rest)) forest)

    -- what a cycle needs is assumed
    cycle_given : (below : ℕ) (assumed : List Literal) (l : Literal) (cycle : List Literal) → Assumes trail roles leaves below assumed → IsByCycle (StandsAssumed trail roles leaves below) l cycle → IsByCycle (Contains assumed) l cycle
    cycle_given below assumed l cycle has h = record {
      negative = h.negative;
      others = λ q lt. elim (h.others q lt) [
        | inl e ↦ inl e
        | inr s ↦ inr (has (literal_at cycle q) s)
      ];
    }

    link : (below : ℕ) (l : Literal) (reason : Reason) (o c inner rest : List Step) (assumed : List Literal) → Follows inputs lemmas (StandsUsed trail roles below) l reason → IsAssuming trail roles leaves below l reason → IsOpening inputs lemmas (Assumes trail roles leaves below) l reason o → IsClosing inputs lemmas (Assumes trail roles leaves below) l reason c → Assumes trail roles leaves below assumed → Within l assumed inner → Tree inputs lemmas assumed (o ++ ((inner ++ c) ++ rest)) rest
    link below l Given o c inner rest assumed f a opens closes has go = absurd f
    link below l Decision o c inner rest assumed f a opens closes has go = absurd f
    link below l (ByClause source place) o c inner rest assumed f a opens closes has go =
        let P : List Step → Type 0 = λ s. Tree inputs lemmas assumed (s ++ ((inner ++ c) ++ rest)) rest in
        subst P (sym opens.1) (clause_link below l source place opens.0 c inner rest assumed f opens.2 closes has go)
    link below l (ByPair tighter) o c inner rest assumed f a opens closes has go =
        let P : List Step → Type 0 = λ s. Tree inputs lemmas assumed (s ++ ((inner ++ c) ++ rest)) rest in
        let Q : List Step → Type 0 = λ s. Tree inputs lemmas assumed ((Either l ∷ []) ++ ((inner ++ s) ++ rest)) rest in
        subst P (sym opens) (subst Q (sym closes) (cycle_link l (pair_cycle tighter l) assumed inner rest (cycle_given below assumed l (pair_cycle tighter l) has a) go))
    link below l (ByCycle cycle) o c inner rest assumed f a opens closes has go =
        let P : List Step → Type 0 = λ s. Tree inputs lemmas assumed (s ++ ((inner ++ c) ++ rest)) rest in
        let Q : List Step → Type 0 = λ s. Tree inputs lemmas assumed ((Either l ∷ []) ++ ((inner ++ s) ++ rest)) rest in
        subst P (sym opens) (subst Q (sym closes) (cycle_link l cycle assumed inner rest (cycle_given below assumed l cycle has a) go))

    -- which literals the steps around name
    names_trail_one : (k : ℕ) → k < length trail → All (NamesTrail trail) (Either (on_trail trail k) ∷ [])
    names_trail_one k lt = All-cons (NamesTrail trail) (Either (on_trail trail k)) [] (All-cons (λ (l : Literal). (j : ℕ) × (j < length trail) × (on_trail trail j ≡ l)) (on_trail trail k) [] (k, lt, refl) (All-nil (λ (l : Literal). (j : ℕ) × (j < length trail) × (on_trail trail j ≡ l)))) (All-nil (NamesTrail trail))

    opening_names : (k below : ℕ) (reason : Reason) (o : List Step) → k < length trail → IsOpening inputs lemmas (Assumes trail roles leaves below) (on_trail trail k) reason o → All (NamesTrail trail) o
    opening_names k below Given o lt h = subst (All (NamesTrail trail)) (sym h) (All-nil (NamesTrail trail))
    opening_names k below Decision o lt h = subst (All (NamesTrail trail)) (sym h) (All-nil (NamesTrail trail))
    opening_names k below (ByClause source place) o lt h =
        let shut = h.2 in
        subst (All (NamesTrail trail)) (sym h.1) (names_weak trail (step_of source ∷ h.0) (All-cons NamesNone (step_of source) h.0 (source_names_none inputs lemmas source) shut.names))
    opening_names k below (ByPair tighter) o lt h = subst (All (NamesTrail trail)) (sym h) (names_trail_one k lt)
    opening_names k below (ByCycle cycle) o lt h = subst (All (NamesTrail trail)) (sym h) (names_trail_one k lt)

    cycle_names : (cycle : List Literal) → All (NamesTrail trail) (Cycle cycle ∷ [])
    cycle_names cycle = names_weak trail (Cycle cycle ∷ []) (All-cons NamesNone (Cycle cycle) [] refl (All-nil NamesNone))

    closing_names : (k below : ℕ) (reason : Reason) (c : List Step) → IsClosing inputs lemmas (Assumes trail roles leaves below) (on_trail trail k) reason c → All (NamesTrail trail) c
    closing_names k below Given c h = subst (All (NamesTrail trail)) (sym h) (All-nil (NamesTrail trail))
    closing_names k below Decision c h = subst (All (NamesTrail trail)) (sym h) (All-nil (NamesTrail trail))
    closing_names k below (ByClause source place) c h = names_weak trail c h.names
    closing_names k below (ByPair tighter) c h = subst (All (NamesTrail trail)) (sym h) (cycle_names (pair_cycle tighter (on_trail trail k)))
    closing_names k below (ByCycle cycle) c h = subst (All (NamesTrail trail)) (sym h) (cycle_names cycle)

    module _ (closed : IsClosed inputs lemmas trail roles) (chosen : IsChosen inputs lemmas trail roles passed 0 leaves) where
      around : (i : ℕ) (o c inner : List Step) → i < length passed → IsOpen roles leaves (slice_index passed i) ⊎ (IsOpen roles leaves (slice_index passed i) → ⊥) → IsOpeningAt inputs lemmas trail roles leaves (slice_index passed i) o → IsClosingAt inputs lemmas trail roles leaves (slice_index passed i) c → Goes i inner → Goes (i + 1) (o ++ (inner ++ c))
      around i o c inner inside (inr not) opens closes go =
          let P : List Step → Type 0 = λ s. Goes (i + 1) (s ++ (inner ++ c)) in
          let Q : List Step → Type 0 = λ s. Goes (i + 1) (inner ++ s) in
          let R : List Step → Type 0 = Goes (i + 1) in
          subst P (sym (opens.none not)) (subst Q (sym (closes.none not)) (subst R (sym (append-nil inner)) (record {
            names = go.names;
            tree = λ assumed rest g. go.tree assumed rest (gives_past i assumed not g);
          })))
      around i o c inner inside (inl is) opens closes go =
          let k = slice_index passed i in
          let reason = (entry_at trail k).reason in
          let follows = closed k is.0 in
          let assuming = chosen.assuming k (i, omega arith, inside, refl) is.0 is.1 in
          record {
            names = All-append (NamesTrail trail) o (inner ++ c) (opening_names k k reason o (p.within i inside) (opens.some is)) (All-append (NamesTrail trail) inner c go.names (closing_names k k reason c (closes.some is)));
            tree = λ assumed rest g.
                (let P : List Step → Type 0 = λ s. Tree inputs lemmas assumed s rest in
                subst P (sym (append_assoc o (inner ++ c) rest)) (link k (on_trail trail k) reason o c inner rest assumed follows assuming (opens.some is) (closes.some is) (gives_below i assumed inside g) (λ many later in_ here. go.tree many later (gives_more i assumed many in_ here g))));
          }

      pub written_first : (steps new inner : List Step) → AreOpened inputs lemmas trail roles leaves (drop 0 passed) steps → new ≡ steps ++ inner → Closes inputs lemmas (Assumes trail roles leaves (length trail)) inner → AreWritten 0 new
      written_first steps new inner o e c = record { before = steps; inner = inner; is = e; opened = o; goes = conflict_goes inner c }

      pub written_next : (i : ℕ) (steps new c : List Step) → i < length passed → AreWritten i steps → new ≡ steps ++ c → IsClosingAt inputs lemmas trail roles leaves (slice_index passed i) c → AreWritten (i + 1) new
      written_next i steps new c inside w e closes =
          let next : drop i passed ≡ slice_index passed i ∷ drop (i + 1) passed = drop_more passed i 0 inside in
          let o : AreOpened inputs lemmas trail roles leaves (slice_index passed i ∷ drop (i + 1) passed) w.before = subst (λ (ks : List ℕ). AreOpened inputs lemmas trail roles leaves ks w.before) next w.opened in
          let grows = o.2 in
          record {
            before = o.0;
            inner = grows.0 ++ (w.inner ++ c);
            is = e ∙ ap (λ (s : List Step). s ++ c) w.is ∙ ap (λ (s : List Step). (s ++ w.inner) ++ c) grows.1 ∙ ap (λ (s : List Step). s ++ c) (append_assoc o.0 grows.0 w.inner) ∙ join3 o.0 grows.0 w.inner c;
            opened = o.1;
            goes = around i grows.0 c w.inner inside (is_open_or_not roles leaves (slice_index passed i) (role_at roles (slice_index passed i)) (at_leaves leaves (slice_index passed i)) refl refl) grows.2 closes w.goes;
          }

      contains_denial : (clause : List Literal) (l : Literal) → Contains clause (negation_of l) → Contains (map negation_of clause) l
      contains_denial [] l h = absurd (omega (arith, h.1))
      contains_denial (m ∷ clause) l (zero, lt, is) = (0, omega arith, ap negation_of is ∙ negation_twice l)
      contains_denial (m ∷ clause) l (suc k, lt, is) = (let h = contains_denial clause l (k, omega arith, is) in (suc h.0, omega (arith, h.1), h.2))

      pub written_all : (steps : List Step) → AreWritten (length passed) steps → Refutes inputs lemmas trail roles steps
      written_all steps w =
          let none_left : AreOpened inputs lemmas trail roles leaves [] w.before = subst (λ (ks : List ℕ). AreOpened inputs lemmas trail roles leaves ks w.before) (drop-length passed) w.opened in
          let same : steps ≡ w.inner = w.is ∙ ap (λ (s : List Step). s ++ w.inner) none_left in
          let P : List Step → Type 0 = Refutes inputs lemmas trail roles in
          subst P (sym same) (record {
            names = w.goes.names;
            tree = λ clause keeps.
                (let gives : Gives (length passed) (map negation_of clause) = record {
                  kept = λ j is. (let at = p.all j (omega arith) (kept_used roles j is) in
                      let within : j < length trail = subst (λ (k : ℕ). k < length trail) at.2 (p.within at.0 at.1) in
                      contains_denial clause (on_trail trail j) (keeps j within is));
                  opens = λ j has o. (let from = has.1 in let lt = has.2 in absurd (omega (arith, from, lt)));
                } in
                let T : List Step → Type 0 = λ s. Tree inputs lemmas (map negation_of clause) s [] in
                subst T (append-nil w.inner) (w.goes.tree (map negation_of clause) [] gives));
          })
