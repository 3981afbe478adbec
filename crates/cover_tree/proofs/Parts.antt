-- Each list of point values satisfies exactly one leaf's cube.
use Rattle.std.proofs.Common.{arith, ◌≡◌, ◌≢◌, ℕ, ◌<◌, ◌+◌, ◌⊎◌, inl, inr, List, [], ◌∷◌, ◌++◌, length, set, Some, All, ℤ, refl, sym, ap, ◌∙◌, subst}
use Rattle.std.specs.Prelude.{slice_get}
use Rattle.std.proofs.lemmas.List.{length-append, length-set, get_or_append_left, get_or-append-add}
use Rattle.std.proofs.lemmas.List.Elements.{All-nil, All-push, All-pop}
use Rattle.std.proofs.lemmas.Option.{slice_get_within}
use Rattle.stn_core.specs.declared.literal.Literal.{Literal}
use Rattle.stn_core.specs.Literal.{Holds, negation_of}
use Rattle.cover_tree.specs.declared.node.Node.{Node}
use Rattle.cover_tree.specs.declared.node.Node.TheVariants.{Free, Split}
use Rattle.cover_tree.specs.Covers.{Cubes, IsCover, opening, changes, divides, IsLeaf, divided, with_node, whole, node_at, cube_at}
use Rattle.cover_tree.specs.Partition.{IsIn, IsInOne}
use Rattle.cover_tree.proofs.Sets.{by_eq, get_set_same, get_set_other, get_longer, get_behind, get_two}

pub as_long : (c : Cubes) → IsCover c → length c.paths ≡ length c.nodes
as_long c opening = refl
as_long c (changes d k old new h e lo ln) = as_long d h ∙ sym (length-set d.nodes k new)
as_long c (divides d k old l h e lo) =
    let before = as_long d h in
    let first : List Literal = cube_at d k ++ l ∷ [] in
    let second : List Literal = cube_at d k ++ negation_of l ∷ [] in
    let split : Node = Split l (length d.nodes) in
    omega (arith, length-append d.paths (first ∷ second ∷ []), length-append (set d.nodes k split) (Free ∷ Free ∷ []), length-set d.nodes k split)

-- all but the last, and the last
pub all_but_last : {A : Type 0} (P : A → Type 0) (xs : List A) (x : A) → All P (xs ++ x ∷ []) → All P xs × P x
all_but_last P xs x h = All-pop P (xs ++ x ∷ []) xs (Some x) refl h

module _ (values : List ℤ)
    (exact : (l : Literal) → Holds values l → Holds values (negation_of l) → ⊥)
    (either : (l : Literal) → Holds values l ⊎ Holds values (negation_of l)) where
  -- a leaf that changes
  module _ (c : Cubes) (k : ℕ) (old new : Node) (e : node_at c k ≡ Some old) (lo : IsLeaf old) (ln : IsLeaf new) where
    changed_to : (j : ℕ) → IsIn values c j → IsIn values (with_node c k new) j
    changed_to j h = elim (by_eq j k) [
      | inl s ↦ record { leaf = (new, ap (slice_get (set c.nodes k new)) s ∙ get_set_same c.nodes k old new e, ln); holds = h.holds }
      | inr ne ↦ record { leaf = (h.leaf.0, get_set_other c.nodes k j new ne ∙ h.leaf.1, h.leaf.2); holds = h.holds }
    ]

    changed_from : (j : ℕ) → IsIn values (with_node c k new) j → IsIn values c j
    changed_from j h = elim (by_eq j k) [
      | inl s ↦ record { leaf = (old, ap (slice_get c.nodes) s ∙ e, lo); holds = h.holds }
      | inr ne ↦ record { leaf = (h.leaf.0, sym (get_set_other c.nodes k j new ne) ∙ h.leaf.1, h.leaf.2); holds = h.holds }
    ]

    changed_in_one : IsInOne values c → IsInOne values (with_node c k new)
    changed_in_one one = record { number = one.number; is_in = changed_to one.number one.is_in; alone = λ j h. one.alone j (changed_from j h) }

  -- a leaf that is divided
  module _ (c : Cubes) (k : ℕ) (old : Node) (l : Literal) (long : length c.paths ≡ length c.nodes) (e : node_at c k ≡ Some old) (lo : IsLeaf old) where
    abbrev now : Cubes
    now = divided c k l

    abbrev split : Node
    split = Split l (length c.nodes)

    abbrev first : List Literal
    first = cube_at c k ++ l ∷ []

    abbrev second : List Literal
    second = cube_at c k ++ negation_of l ∷ []

    cube_kept : (j : ℕ) → j < length c.nodes → cube_at now j ≡ cube_at c j
    cube_kept j lt = get_or_append_left c.paths (first ∷ second ∷ []) [] j (omega arith)

    cube_first : cube_at now (length c.nodes) ≡ first
    cube_first = ap (λ (m : ℕ). cube_at now m) (omega arith) ∙ get_or-append-add c.paths (first ∷ second ∷ []) 0 []

    cube_second : cube_at now (length c.nodes + 1) ≡ second
    cube_second = ap (λ (m : ℕ). cube_at now m) (omega arith) ∙ get_or-append-add c.paths (first ∷ second ∷ []) 1 []

    node_first : node_at now (length c.nodes) ≡ Some Free
    node_first = ap (λ (m : ℕ). node_at now m) (omega (arith, length-set c.nodes k split)) ∙ get_behind (set c.nodes k split) (Free ∷ Free ∷ []) 0

    node_second : node_at now (length c.nodes + 1) ≡ Some Free
    node_second = ap (λ (m : ℕ). node_at now m) (omega (arith, length-set c.nodes k split)) ∙ get_behind (set c.nodes k split) (Free ∷ Free ∷ []) 1

    in_first : All (Holds values) (cube_at c k) → Holds values l → IsIn values now (length c.nodes)
    in_first all h = record { leaf = (Free, node_first, tt); holds = subst (All (Holds values)) (sym cube_first) (All-push (Holds values) (cube_at c k) l all h) }

    in_second : All (Holds values) (cube_at c k) → Holds values (negation_of l) → IsIn values now (length c.nodes + 1)
    in_second all h = record { leaf = (Free, node_second, tt); holds = subst (All (Holds values)) (sym cube_second) (All-push (Holds values) (cube_at c k) (negation_of l) all h) }

    stays : (j : ℕ) → j ≢ k → IsIn values c j → IsIn values now j
    stays j ne h = record {
      leaf = (h.leaf.0, get_longer (set c.nodes k split) (Free ∷ Free ∷ []) j h.leaf.0 (get_set_other c.nodes k j split ne ∙ h.leaf.1), h.leaf.2);
      holds = subst (All (Holds values)) (sym (cube_kept j (slice_get_within c.nodes j h.leaf.0 h.leaf.1))) h.holds;
    }

    -- where a leaf of now comes from
    abbrev Origin : ℕ → Type 0
    Origin j = ((j ≢ k) × IsIn values c j) ⊎ (((j ≡ length c.nodes) × All (Holds values) (cube_at c k) × Holds values l) ⊎ ((j ≡ length c.nodes + 1) × All (Holds values) (cube_at c k) × Holds values (negation_of l)))

    origin : (j : ℕ) → IsIn values now j → Origin j
    origin j h = elim (get_two (set c.nodes k split) Free Free j h.leaf.0 h.leaf.1) [
      | inl a ↦ elim (by_eq j k) [
        | inl s ↦
            (let here : slice_get (set c.nodes k split) j ≡ Some split = ap (slice_get (set c.nodes k split)) s ∙ get_set_same c.nodes k old split e in
            let is : h.leaf.0 ≡ split = cc in
            absurd (subst IsLeaf is h.leaf.2))
        | inr ne ↦
            (let there : node_at c j ≡ Some h.leaf.0 = sym (get_set_other c.nodes k j split ne) ∙ a in
            inl (ne, record { leaf = (h.leaf.0, there, h.leaf.2); holds = subst (All (Holds values)) (cube_kept j (slice_get_within c.nodes j h.leaf.0 there)) h.holds }))
      ]
      | inr b ↦ elim b [
        | inl d ↦
            (let at : j ≡ length c.nodes = omega (arith, d.0, length-set c.nodes k split) in
            let all = all_but_last (Holds values) (cube_at c k) l (subst (All (Holds values)) (ap (λ (m : ℕ). cube_at now m) at ∙ cube_first) h.holds) in
            inr (inl (at, all.0, all.1)))
        | inr d ↦
            (let at : j ≡ length c.nodes + 1 = omega (arith, d.0, length-set c.nodes k split) in
            let all = all_but_last (Holds values) (cube_at c k) (negation_of l) (subst (All (Holds values)) (ap (λ (m : ℕ). cube_at now m) at ∙ cube_second) h.holds) in
            inr (inr (at, all.0, all.1)))
      ]
    ]

    is_k : All (Holds values) (cube_at c k) → IsIn values c k
    is_k all = record { leaf = (old, e, lo); holds = all }

    divided_in_one : IsInOne values c → IsInOne values now
    divided_in_one one = elim (by_eq one.number k) [
      | inr ne ↦ record {
        number = one.number;
        is_in = stays one.number ne one.is_in;
        alone = λ j h. elim (origin j h) [
          | inl a ↦ one.alone j a.1
          | inr b ↦ elim b [
            | inl d ↦ absurd (ne (sym (one.alone k (is_k d.1))))
            | inr d ↦ absurd (ne (sym (one.alone k (is_k d.1))))
          ]
        ];
      }
      | inl s ↦
          (let all : All (Holds values) (cube_at c k) = subst (λ (m : ℕ). All (Holds values) (cube_at c m)) s one.is_in.holds in
          elim (either l) [
            | inl holds_l ↦ record {
              number = length c.nodes;
              is_in = in_first all holds_l;
              alone = λ j h. elim (origin j h) [
                | inl a ↦ absurd (a.0 (one.alone j a.1 ∙ s))
                | inr b ↦ elim b [ inl d ↦ d.0 | inr d ↦ absurd (exact l holds_l d.2) ]
              ];
            }
            | inr fails_l ↦ record {
              number = length c.nodes + 1;
              is_in = in_second all fails_l;
              alone = λ j h. elim (origin j h) [
                | inl a ↦ absurd (a.0 (one.alone j a.1 ∙ s))
                | inr b ↦ elim b [ inl d ↦ absurd (exact l d.2 fails_l) | inr d ↦ d.0 ]
              ];
            }
          ])
    ]

  whole_in_one : IsInOne values whole
  whole_in_one = record {
    number = 0;
    is_in = record { leaf = (Free, refl, tt); holds = All-nil (Holds values) };
    alone = λ j h. (let lt = slice_get_within whole.nodes j h.leaf.0 h.leaf.1 in omega arith);
  }

  pub in_one : (c : Cubes) → IsCover c → IsInOne values c
  in_one c opening = whole_in_one
  in_one c (changes d k old new h e lo ln) = changed_in_one d k old new e lo ln (in_one d h)
  in_one c (divides d k old l h e lo) = divided_in_one d k old l (as_long d h) e lo (in_one d h)
