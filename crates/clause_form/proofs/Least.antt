-- The lists of Polarity hold the least sets of Sets.
use Rattle.std.proofs.Common.{refl, sym, subst, inl, inr, ◌∙◌, ◌≡◌, ◌<◌, ◌⊎◌, ℕ, zero, suc, List, [], ◌∷◌, ◌++◌, length, Bool, true, false, if◌then◌else◌, Contains, ◌≢◌}
use Rattle.std.specs.List.{AllByRecursion}
use Rattle.std.proofs.lemmas.Bool.{cases_lt}
use Rattle.std.proofs.lemmas.List.{get_or_past}
use Rattle.stn_core.specs.declared.literal.Literal.{Literal}
use Rattle.idl_node.specs.Nodes.{NodeValue, always, atom, denial, conjunction, disjunction}
use Rattle.idl_node.specs.Tables.{IsTableOf}
use Rattle.clause_form.specs.Polarity.{is_among, node_at, Polarity, spread_asserted, spread_denied, spread, polarity_below, polarity_of, body_at, is_compound, compounds, inner_of, inner_below, inner_nodes}
use Rattle.clause_form.specs.Sets.{IsAsserted, IsDenied, IsInner, root, of_and, of_denied, of_or, of_asserted, of_inner_or, of_inner_and}
use Rattle.clause_form.proofs.Among.{or_left, or_right, or_cases, among_append, at_among, each_among, contained, among_contained}
use Rattle.clause_form.proofs.Inner.{IsHeld, MembersHeld, needs, inner_closed}
use Rattle.clause_form.proofs.Spreading.{AssertedSpreads, DeniedSpreads, closed, root_asserted}

pub split : (k : ℕ) (xs ys : List ℕ) → is_among k (xs ++ ys) ≡ true → (is_among k xs ≡ true) ⊎ (is_among k ys ≡ true)
split k xs ys h = or_cases (is_among k xs) (is_among k ys) (sym (among_append k xs ys) ∙ h)

-- ---- what is in the lists is in the sets

module _ (nodes : List NodeValue) (roots : List ℕ) where
  record IsSound (p : Polarity) : Type 0 where
    pub asserted : (k : ℕ) → is_among k p.asserted ≡ true → IsAsserted nodes roots k
    pub denied : (k : ℕ) → is_among k p.denied ≡ true → IsDenied nodes roots k

  only : (k m : ℕ) (P : ℕ → Type 0) → P m → is_among k (m ∷ []) ≡ true → P k
  only k m P h e = at_among P k (m ∷ []) (h, tt) e

  sound_asserted : (a : Bool) (j : ℕ) (node : NodeValue) (p : Polarity) → node_at nodes j ≡ node → (a ≡ true → IsAsserted nodes roots j) → IsSound p → IsSound (spread_asserted a node p)
  sound_asserted false j node p e at h = h
  sound_asserted true j always p e at h = h
  sound_asserted true j (atom l) p e at h = h
  sound_asserted true j (denial m) p e at h = record {
    asserted = h.asserted;
    denied = λ k f. elim (split k (m ∷ []) p.denied f) [ inl g ↦ only k m (IsDenied nodes roots) (of_asserted j m (at refl) e) g | inr g ↦ h.denied k g ];
  }
  sound_asserted true j (conjunction ms) p e at h = record {
    asserted = λ k f. elim (split k ms p.asserted f) [ inl g ↦ of_and j k ms (at refl) e (contained ms k g) | inr g ↦ h.asserted k g ];
    denied = h.denied;
  }
  sound_asserted true j (disjunction ms) p e at h = h

  sound_denied : (d : Bool) (j : ℕ) (node : NodeValue) (p : Polarity) → node_at nodes j ≡ node → (d ≡ true → IsDenied nodes roots j) → IsSound p → IsSound (spread_denied d node p)
  sound_denied false j node p e at h = h
  sound_denied true j always p e at h = h
  sound_denied true j (atom l) p e at h = h
  sound_denied true j (denial m) p e at h = record {
    asserted = λ k f. elim (split k (m ∷ []) p.asserted f) [ inl g ↦ only k m (IsAsserted nodes roots) (of_denied j m (at refl) e) g | inr g ↦ h.asserted k g ];
    denied = h.denied;
  }
  sound_denied true j (conjunction ms) p e at h = h
  sound_denied true j (disjunction ms) p e at h = record {
    asserted = h.asserted;
    denied = λ k f. elim (split k ms p.denied f) [ inl g ↦ of_or j k ms (at refl) e (contained ms k g) | inr g ↦ h.denied k g ];
  }

  sound_below : (n : ℕ) (p : Polarity) → IsSound p → IsSound (polarity_below n nodes p)
  sound_below zero p h = h
  sound_below (suc n) p h =
      let node : NodeValue = node_at nodes n in
      let q : Polarity = spread_asserted (is_among n p.asserted) node p in
      let first : IsSound q = sound_asserted (is_among n p.asserted) n node p refl (h.asserted n) h in
      sound_below n (spread n node p) (sound_denied (is_among n p.denied) n node q refl (h.denied n) first)

  sound : IsSound (polarity_of nodes roots)
  unfolding polarity_of
  sound = sound_below (length nodes) (record { asserted = roots; denied = [] }) (record { asserted = λ k h. root k (contained roots k h); denied = λ k h. absurd cc })

  -- ---- what is in the sets is in the lists

  module _ (Good : Literal → Type 0) (table : IsTableOf Good nodes) where
    pub in_table : (k : ℕ) (node : NodeValue) → node_at nodes k ≡ node → node ≢ always → k < length nodes
    in_table k node e ne = elim (cases_lt k (length nodes)) [ inl h ↦ h | inr h ↦ absurd (ne (sym e ∙ get_or_past nodes k always h)) ]

    mutual
      listed_asserted : (k : ℕ) → IsAsserted nodes roots k → is_among k (polarity_of nodes roots).asserted ≡ true
      listed_asserted k (root _ h) = root_asserted nodes roots k (among_contained roots k h)
      listed_asserted k (of_and j _ ms h e m) =
          at_among (λ i. is_among i (polarity_of nodes roots).asserted ≡ true) k ms
          (subst (λ (node : NodeValue). AssertedSpreads node (polarity_of nodes roots)) e ((closed Good nodes table roots j (in_table j (conjunction ms) e (λ f. absurd cc))).asserted (listed_asserted j h)))
          (among_contained ms k m)
      listed_asserted k (of_denied j _ h e) =
          subst (λ (node : NodeValue). DeniedSpreads node (polarity_of nodes roots)) e ((closed Good nodes table roots j (in_table j (denial k) e (λ f. absurd cc))).denied (listed_denied j h))

      listed_denied : (k : ℕ) → IsDenied nodes roots k → is_among k (polarity_of nodes roots).denied ≡ true
      listed_denied k (of_or j _ ms h e m) =
          at_among (λ i. is_among i (polarity_of nodes roots).denied ≡ true) k ms
          (subst (λ (node : NodeValue). DeniedSpreads node (polarity_of nodes roots)) e ((closed Good nodes table roots j (in_table j (disjunction ms) e (λ f. absurd cc))).denied (listed_denied j h)))
          (among_contained ms k m)
      listed_denied k (of_asserted j _ h e) =
          subst (λ (node : NodeValue). AssertedSpreads node (polarity_of nodes roots)) e ((closed Good nodes table roots j (in_table j (denial k) e (λ f. absurd cc))).asserted (listed_asserted j h))

    pub asserted_least : (k : ℕ) → (is_among k (polarity_of nodes roots).asserted ≡ true → IsAsserted nodes roots k) × (IsAsserted nodes roots k → is_among k (polarity_of nodes roots).asserted ≡ true)
    asserted_least k = (λ h. sound.asserted k h, λ h. listed_asserted k h)

    pub denied_least : (k : ℕ) → (is_among k (polarity_of nodes roots).denied ≡ true → IsDenied nodes roots k) × (IsDenied nodes roots k → is_among k (polarity_of nodes roots).denied ≡ true)
    denied_least k = (λ h. sound.denied k h, λ h. listed_denied k h)

-- ---- inner nodes

module _ (nodes : List NodeValue) (roots : List ℕ) where
  GivesInner : ℕ → Type 0
  GivesInner m = is_compound (node_at nodes (body_at nodes m)) ≡ true → IsInner nodes roots (body_at nodes m)

  compounds_by : (P : ℕ → Type 0) (c : Bool) (b k : ℕ) (xs : List ℕ) → (c ≡ true → P b) → (is_among k xs ≡ true → P k) → is_among k (if c then b ∷ xs else xs) ≡ true → P k
  compounds_by P true b k xs f g h = elim (split k (b ∷ []) xs h) [ inl e ↦ at_among P k (b ∷ []) (f refl, tt) e | inr e ↦ g e ]
  compounds_by P false b k xs f g h = g h

  compounds_sound : (ms : List ℕ) → AllByRecursion GivesInner ms → (k : ℕ) → is_among k (compounds nodes ms) ≡ true → IsInner nodes roots k
  unfolding GivesInner
  compounds_sound [] h k e = absurd cc
  compounds_sound (m ∷ ms) h k e =
      compounds_by (IsInner nodes roots) (is_compound (node_at nodes (body_at nodes m))) (body_at nodes m) k (compounds nodes ms) h.0 (λ f. compounds_sound ms h.1 k f) e

  inner_of_sound : (a d i : Bool) (j : ℕ) (node : NodeValue) → node_at nodes j ≡ node → (a ≡ true → IsAsserted nodes roots j) → (d ≡ true → IsDenied nodes roots j) → (i ≡ true → IsInner nodes roots j)
      → (k : ℕ) → is_among k (inner_of a d i nodes node) ≡ true → IsInner nodes roots k
  unfolding GivesInner
  inner_of_sound a d true j (conjunction ms) e f g h k at = compounds_sound ms (each_among GivesInner ms (λ m l. λ c. of_inner_and j m ms (h refl) e (contained ms m l) c)) k at
  inner_of_sound a true false j (conjunction ms) e f g h k at = compounds_sound ms (each_among GivesInner ms (λ m l. λ c. of_and j m ms (g refl) e (contained ms m l) c)) k at
  inner_of_sound true false false j (conjunction ms) e f g h k at = absurd cc
  inner_of_sound false false false j (conjunction ms) e f g h k at = absurd cc
  inner_of_sound a d true j (disjunction ms) e f g h k at = compounds_sound ms (each_among GivesInner ms (λ m l. λ c. of_inner_or j m ms (h refl) e (contained ms m l) c)) k at
  inner_of_sound true true false j (disjunction ms) e f g h k at = compounds_sound ms (each_among GivesInner ms (λ m l. λ c. of_or j m ms (f refl) e (contained ms m l) c)) k at
  inner_of_sound true false false j (disjunction ms) e f g h k at = compounds_sound ms (each_among GivesInner ms (λ m l. λ c. of_or j m ms (f refl) e (contained ms m l) c)) k at
  inner_of_sound false true false j (disjunction ms) e f g h k at = absurd cc
  inner_of_sound false false false j (disjunction ms) e f g h k at = absurd cc
  inner_of_sound true true true j _ e f g h k at = absurd cc
  inner_of_sound true true false j _ e f g h k at = absurd cc
  inner_of_sound true false true j _ e f g h k at = absurd cc
  inner_of_sound true false false j _ e f g h k at = absurd cc
  inner_of_sound false true true j _ e f g h k at = absurd cc
  inner_of_sound false true false j _ e f g h k at = absurd cc
  inner_of_sound false false true j _ e f g h k at = absurd cc
  inner_of_sound false false false j _ e f g h k at = absurd cc

  inner_sound_below : (n : ℕ) (p : Polarity) (inner : List ℕ) → IsSound nodes roots p → ((k : ℕ) → is_among k inner ≡ true → IsInner nodes roots k)
      → (k : ℕ) → is_among k (inner_below n nodes p inner) ≡ true → IsInner nodes roots k
  inner_sound_below zero p inner s h k e = h k e
  inner_sound_below (suc n) p inner s h k e =
      let node : NodeValue = node_at nodes n in
      let more : List ℕ = inner_of (is_among n p.asserted) (is_among n p.denied) (is_among n inner) nodes node in
      inner_sound_below n p (more ++ inner) s
      (λ j at. elim (split j more inner at) [
        | inl a ↦ inner_of_sound (is_among n p.asserted) (is_among n p.denied) (is_among n inner) n node refl (s.asserted n) (s.denied n) (h n) j a
        | inr a ↦ h j a
      ]) k e

  inner_sound : (k : ℕ) → is_among k (inner_nodes nodes (polarity_of nodes roots)) ≡ true → IsInner nodes roots k
  unfolding inner_nodes
  inner_sound k e = inner_sound_below (length nodes) (polarity_of nodes roots) [] (sound nodes roots) (λ j h. absurd cc) k e

  module _ (Good : Literal → Type 0) (table : IsTableOf Good nodes) where
    AmongInner : ℕ → Type 0
    AmongInner k = is_among k (inner_nodes nodes (polarity_of nodes roots)) ≡ true

    held : (j m : ℕ) (ms : List ℕ) (node : NodeValue) → node_at nodes j ≡ node → node ≢ always
        → needs (is_among j (polarity_of nodes roots).asserted) (is_among j (polarity_of nodes roots).denied) (is_among j (inner_nodes nodes (polarity_of nodes roots))) node ≡ true
        → MembersHeld nodes (inner_nodes nodes (polarity_of nodes roots)) node
    held j m ms node e ne need =
        let p : Polarity = polarity_of nodes roots in
        subst (λ (n : NodeValue). MembersHeld nodes (inner_nodes nodes p) n) e
        (inner_closed nodes Good table p j (in_table nodes roots Good table j node e ne)
        (subst (λ (n : NodeValue). needs (is_among j p.asserted) (is_among j p.denied) (is_among j (inner_nodes nodes p)) n ≡ true) (sym e) need))

    body_listed : (m : ℕ) (ms : List ℕ) → AllByRecursion (IsHeld nodes (inner_nodes nodes (polarity_of nodes roots))) ms → Contains ms m → is_compound (node_at nodes (body_at nodes m)) ≡ true
        → is_among (body_at nodes m) (inner_nodes nodes (polarity_of nodes roots)) ≡ true
    body_listed m ms h at c = at_among (IsHeld nodes (inner_nodes nodes (polarity_of nodes roots))) m ms h (among_contained ms m at) c

    listed_inner : (k : ℕ) → IsInner nodes roots k → is_among k (inner_nodes nodes (polarity_of nodes roots)) ≡ true
    listed_inner k (of_or j m ms h e at c) =
        body_listed m ms (held j m ms (disjunction ms) e (λ f. absurd cc) (or_right (is_among j (inner_nodes nodes (polarity_of nodes roots))) (is_among j (polarity_of nodes roots).asserted) (listed_asserted nodes roots Good table j h))) at c
    listed_inner k (of_and j m ms h e at c) =
        body_listed m ms (held j m ms (conjunction ms) e (λ f. absurd cc) (or_right (is_among j (inner_nodes nodes (polarity_of nodes roots))) (is_among j (polarity_of nodes roots).denied) (listed_denied nodes roots Good table j h))) at c
    listed_inner k (of_inner_or j m ms h e at c) =
        body_listed m ms (held j m ms (disjunction ms) e (λ f. absurd cc) (or_left (is_among j (inner_nodes nodes (polarity_of nodes roots))) (is_among j (polarity_of nodes roots).asserted) (listed_inner j h))) at c
    listed_inner k (of_inner_and j m ms h e at c) =
        body_listed m ms (held j m ms (conjunction ms) e (λ f. absurd cc) (or_left (is_among j (inner_nodes nodes (polarity_of nodes roots))) (is_among j (polarity_of nodes roots).denied) (listed_inner j h))) at c

    pub inner_least : (k : ℕ) → (is_among k (inner_nodes nodes (polarity_of nodes roots)) ≡ true → IsInner nodes roots k) × (IsInner nodes roots k → is_among k (inner_nodes nodes (polarity_of nodes roots)) ≡ true)
    inner_least k = (λ h. inner_sound k h, λ h. listed_inner k h)
