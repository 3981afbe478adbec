-- An inner node and its branches.
use Rattle.std.proofs.Common.{arith, ◌≡◌, ℕ, zero, suc, ◌<◌, ◌+◌, ◌-◌, inl, inr, List, [], ◌∷◌, ◌++◌, length, get_or, set, Some, All, refl, sym, ap, ◌∙◌, subst}
use Rattle.std.specs.Prelude.{slice_get}
use Rattle.std.proofs.lemmas.List.{length-append, length-set, get_or_append_left, get_or-append-add, get_or-append_right}
use Rattle.std.proofs.lemmas.List.Elements.{All-nil, All-push}
use Rattle.std.proofs.lemmas.Option.{slice_get_within}
use Rattle.std.proofs.lemmas.Bool.{cases_lt}
use Rattle.stn_core.specs.declared.literal.Literal.{Literal}
use Rattle.stn_core.specs.Literal.{negation_of}
use Rattle.cover_tree.specs.declared.node.Node.{Node}
use Rattle.cover_tree.specs.declared.node.Node.TheVariants.{Free, Split}
use Rattle.cover_tree.specs.Covers.{Cubes, IsCover, opening, changes, divides, IsLeaf, divided, node_at, cube_at}
use Rattle.cover_tree.specs.code.Branches.{AreBranches}
use Rattle.cover_tree.proofs.Sets.{by_eq, get_set_same, get_set_other, get_two}
use Rattle.cover_tree.proofs.Parts.{as_long}

module _ (c : Cubes) (k : ℕ) (l : Literal) (long : length c.paths ≡ length c.nodes) where
  abbrev first : List Literal
  first = cube_at c k ++ l ∷ []

  abbrev second : List Literal
  second = cube_at c k ++ negation_of l ∷ []

  pub cube_kept : (j : ℕ) → j < length c.nodes → cube_at (divided c k l) j ≡ cube_at c j
  cube_kept j lt = get_or_append_left c.paths (first ∷ second ∷ []) [] j (omega arith)

  pub cube_first : cube_at (divided c k l) (length c.nodes) ≡ first
  cube_first = ap (λ (m : ℕ). cube_at (divided c k l) m) (omega arith) ∙ get_or-append-add c.paths (first ∷ second ∷ []) 0 []

  pub cube_second : cube_at (divided c k l) (length c.nodes + 1) ≡ second
  cube_second = ap (λ (m : ℕ). cube_at (divided c k l) m) (omega arith) ∙ get_or-append-add c.paths (first ∷ second ∷ []) 1 []

  pub length_divided : length (divided c k l).nodes ≡ length c.nodes + 2
  length_divided = omega (arith, length-append (set c.nodes k (Split l (length c.nodes))) (Free ∷ Free ∷ []), length-set c.nodes k (Split l (length c.nodes)))

  -- what holds of all literals of the cubes, and of the new ones, holds of those of the new cubes
  pub cubes_all : (P : Literal → Type 0) → ((j : ℕ) → All P (cube_at c j)) → P l → P (negation_of l) → (j : ℕ) → All P (cube_at (divided c k l) j)
  cubes_all P h one other j = elim (cases_lt j (length c.nodes)) [
    | inl lt ↦ subst (All P) (sym (cube_kept j lt)) (h j)
    | inr ge ↦ elim (by_eq j (length c.nodes)) [
      | inl e ↦ subst (All P) (sym (ap (λ (m : ℕ). cube_at (divided c k l) m) e ∙ cube_first)) (All-push P (cube_at c k) l (h k) one)
      | inr ne ↦ elim (by_eq j (length c.nodes + 1)) [
        | inl e ↦ subst (All P) (sym (ap (λ (m : ℕ). cube_at (divided c k l) m) e ∙ cube_second)) (All-push P (cube_at c k) (negation_of l) (h k) other)
        | inr far ↦
            (let n : j - length c.paths ≡ suc (suc (j - (length c.paths + 2))) = omega (arith, ne, far) in
            let at : cube_at (divided c k l) j ≡ get_or (first ∷ second ∷ []) (suc (suc (j - (length c.paths + 2)))) [] =
            get_or-append_right c.paths (first ∷ second ∷ []) (length c.paths) j [] refl (omega arith) ∙ ap (λ (m : ℕ). get_or (first ∷ second ∷ []) m []) n in
            subst (All P) (sym at) (All-nil P))
      ]
    ]
  ]

module _ (c : Cubes) (k : ℕ) (l : Literal) (long : length c.paths ≡ length c.nodes) where
  -- what holds of the old cubes, of the two new ones and of no literals, holds of all cubes
  pub cubes_every : (P : List Literal → Type 0) → ((j : ℕ) → P (cube_at c j)) → P (cube_at c k ++ l ∷ []) → P (cube_at c k ++ negation_of l ∷ []) → P [] → (j : ℕ) → P (cube_at (divided c k l) j)
  cubes_every P h one other empty j = elim (cases_lt j (length c.nodes)) [
    | inl lt ↦ subst P (sym (cube_kept c k l long j lt)) (h j)
    | inr ge ↦ elim (by_eq j (length c.nodes)) [
      | inl e ↦ subst P (sym (ap (λ (m : ℕ). cube_at (divided c k l) m) e ∙ cube_first c k l long)) one
      | inr ne ↦ elim (by_eq j (length c.nodes + 1)) [
        | inl e ↦ subst P (sym (ap (λ (m : ℕ). cube_at (divided c k l) m) e ∙ cube_second c k l long)) other
        | inr far ↦
            (let n : j - length c.paths ≡ suc (suc (j - (length c.paths + 2))) = omega (arith, ne, far) in
            let at : cube_at (divided c k l) j ≡ [] =
            get_or-append_right c.paths ((cube_at c k ++ l ∷ []) ∷ (cube_at c k ++ negation_of l ∷ []) ∷ []) (length c.paths) j [] refl (omega arith) ∙ ap (λ (m : ℕ). get_or ((cube_at c k ++ l ∷ []) ∷ (cube_at c k ++ negation_of l ∷ []) ∷ []) m []) n in
            subst P (sym at) empty)
      ]
    ]
  ]

pub branches : (c : Cubes) → IsCover c → (j : ℕ) (m : Literal) (n : ℕ) → node_at c j ≡ Some (Split m n) → AreBranches c j m n
branches c opening zero m n e = absurd cc
branches c opening (suc j) m n e = absurd cc
branches c (changes d k old new h is lo ln) j m n e = elim (by_eq j k) [
  | inl s ↦
      (let here : slice_get (set d.nodes k new) j ≡ Some new = ap (slice_get (set d.nodes k new)) s ∙ get_set_same d.nodes k old new is in
      let same : new ≡ Split m n = cc in
      absurd (subst IsLeaf same ln))
  | inr ne ↦
      (let b = branches d h j m n (sym (get_set_other d.nodes k j new ne) ∙ e) in
      record { below = b.below; there = omega (arith, b.there, length-set d.nodes k new); first = b.first; second = b.second })
]
branches c (divides d k old l h is lo) j m n e =
    let long = as_long d h in
    let split : Node = Split l (length d.nodes) in
    let count = length_divided d k l long in
    let lt_k = slice_get_within d.nodes k old is in
    elim (get_two (set d.nodes k split) Free Free j (Split m n) e) [
      | inl a ↦ elim (by_eq j k) [
        | inl s ↦
            (let here : slice_get (set d.nodes k split) j ≡ Some split = ap (slice_get (set d.nodes k split)) s ∙ get_set_same d.nodes k old split is in
            let same : split ≡ Split m n = cc in
            let sl : l ≡ m = cc in
            let sn : length d.nodes ≡ n = cc in
            new_branches d k l long lt_k j m n s sl sn)
        | inr ne ↦
            (let b = branches d h j m n (sym (get_set_other d.nodes k j split ne) ∙ a) in
            old_branches d k l long j m n b)
      ]
      | inr b ↦ elim b [ inl x ↦ (let y : Split m n ≡ Free = x.1 in absurd cc) | inr x ↦ (let y : Split m n ≡ Free = x.1 in absurd cc) ]
    ]
  where
    new_branches : (d : Cubes) (k : ℕ) (l : Literal) → length d.paths ≡ length d.nodes → k < length d.nodes → (j : ℕ) (m : Literal) (n : ℕ) → j ≡ k → l ≡ m → length d.nodes ≡ n → AreBranches (divided d k l) j m n
    new_branches d k l long lt j m n s sl sn =
        let count = length_divided d k l long in
        let up : cube_at (divided d k l) j ≡ cube_at d k = ap (λ (i : ℕ). cube_at (divided d k l) i) s ∙ cube_kept d k l long k lt in
        record {
          below = omega arith;
          there = omega arith;
          first = ap (λ (i : ℕ). cube_at (divided d k l) i) (sym sn) ∙ (cube_first d k l long ∙ (ap (λ (q : Literal). cube_at d k ++ q ∷ []) sl ∙ ap (λ (p : List Literal). p ++ m ∷ []) (sym up)));
          second = ap (λ (i : ℕ). cube_at (divided d k l) (i + 1)) (sym sn) ∙ (cube_second d k l long ∙ (ap (λ (q : Literal). cube_at d k ++ negation_of q ∷ []) sl ∙ ap (λ (p : List Literal). p ++ negation_of m ∷ []) (sym up)));
        }

    old_branches : (d : Cubes) (k : ℕ) (l : Literal) → length d.paths ≡ length d.nodes → (j : ℕ) (m : Literal) (n : ℕ) → AreBranches d j m n → AreBranches (divided d k l) j m n
    old_branches d k l long j m n b =
        let count = length_divided d k l long in
        let low = b.below in
        let high = b.there in
        record {
          below = b.below;
          there = omega arith;
          first = cube_kept d k l long n (omega arith) ∙ (b.first ∙ ap (λ (p : List Literal). p ++ m ∷ []) (sym (cube_kept d k l long j (omega arith))));
          second = cube_kept d k l long (n + 1) (omega arith) ∙ (b.second ∙ ap (λ (p : List Literal). p ++ negation_of m ∷ []) (sym (cube_kept d k l long j (omega arith))));
        }
