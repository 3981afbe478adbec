-- How the inner nodes spread from the last node down.
use Rattle.std.proofs.Common.{refl, sym, subst, arith, inl, inr, ◌∙◌, ◌≡◌, ◌<◌, ◌≤◌, ℕ, zero, suc, List, [], ◌∷◌, ◌++◌, length, Bool, true, false, ◌||◌, if◌then◌else◌, eq-or-lt_of_le}
use Rattle.std.specs.List.{AllByRecursion}
use Rattle.stn_core.specs.declared.literal.Literal.{Literal}
use Rattle.idl_node.specs.Nodes.{NodeValue, always, atom, denial, conjunction, disjunction}
use Rattle.idl_node.specs.Tables.{IsNodeOf, IsTableOf}
use Rattle.clause_form.specs.Polarity.{is_among, node_at, Polarity, body_of, body_at, is_compound, compounds, inner_of, inner_below, inner_nodes}
use Rattle.clause_form.proofs.Among.{each, among_right, among_first, among_later, among_smaller}
use Rattle.clause_form.proofs.Truths.{node_is}

-- where the node's literal has a fresh point, the body is inner
abbrev pub IsHeld : List NodeValue → List ℕ → ℕ → Type 0
IsHeld nodes inner m = is_compound (node_at nodes (body_at nodes m)) ≡ true → is_among (body_at nodes m) inner ≡ true

abbrev pub MembersHeld : List NodeValue → List ℕ → NodeValue → Type 0
MembersHeld nodes inner (conjunction ms) = AllByRecursion (IsHeld nodes inner) ms
MembersHeld nodes inner (disjunction ms) = AllByRecursion (IsHeld nodes inner) ms
MembersHeld nodes inner _ = Unit {0}

-- whether clauses are made of the members' literals
abbrev pub needs : Bool → Bool → Bool → NodeValue → Bool
needs asserted denied inner (conjunction ms) = inner || denied
needs asserted denied inner (disjunction ms) = inner || asserted
needs asserted denied inner _ = false

pub body_below : (Good : Literal → Type 0) (nodes : List NodeValue) → IsTableOf Good nodes → (j m : ℕ) → m < j → body_at nodes m < j
body_below Good nodes table j m h = body_by Good nodes j m (node_at nodes m) h (node_is Good nodes table m)
  where
    body_by : (Good : Literal → Type 0) (nodes : List NodeValue) (j m : ℕ) (node : NodeValue) → m < j → IsNodeOf Good nodes m node → body_of node m < j
    body_by Good nodes j m always h is = h
    body_by Good nodes j m (atom l) h is = h
    body_by Good nodes j m (denial b) h is = let lt : b < m = is.0 in omega arith
    body_by Good nodes j m (conjunction ms) h is = h
    body_by Good nodes j m (disjunction ms) h is = h

module _ (nodes : List NodeValue) where
  held_more : (xs ys : List ℕ) → ((k : ℕ) → is_among k xs ≡ true → is_among k ys ≡ true) → (m : ℕ) → IsHeld nodes xs m → IsHeld nodes ys m
  held_more xs ys more m h = λ c. more (body_at nodes m) (h c)

  members_held_more : (xs ys : List ℕ) → ((k : ℕ) → is_among k xs ≡ true → is_among k ys ≡ true) → (node : NodeValue) → MembersHeld nodes xs node → MembersHeld nodes ys node
  members_held_more xs ys more always h = tt
  members_held_more xs ys more (atom l) h = tt
  members_held_more xs ys more (denial m) h = tt
  members_held_more xs ys more (conjunction ms) h = each (IsHeld nodes xs) (IsHeld nodes ys) ms (λ m k. held_more xs ys more m k) h
  members_held_more xs ys more (disjunction ms) h = each (IsHeld nodes xs) (IsHeld nodes ys) ms (λ m k. held_more xs ys more m k) h

  compounds_by : (c : Bool) (b : ℕ) (ms rest : List ℕ) → c ≡ true → is_among b ((if c then b ∷ compounds nodes ms else compounds nodes ms) ++ rest) ≡ true
  compounds_by true b ms rest e = among_first b (compounds nodes ms ++ rest)
  compounds_by false b ms rest e = absurd cc

  compounds_more : (c : Bool) (b k : ℕ) (ms rest : List ℕ) → is_among k (compounds nodes ms ++ rest) ≡ true → is_among k ((if c then b ∷ compounds nodes ms else compounds nodes ms) ++ rest) ≡ true
  compounds_more true b k ms rest h = among_later k b (compounds nodes ms ++ rest) h
  compounds_more false b k ms rest h = h

  compounds_held : (ms rest : List ℕ) → AllByRecursion (IsHeld nodes (compounds nodes ms ++ rest)) ms
  compounds_held [] rest = tt
  compounds_held (m ∷ ms) rest =
      let c : Bool = is_compound (node_at nodes (body_at nodes m)) in
      let b : ℕ = body_at nodes m in (
        λ e. compounds_by c b ms rest e,
        each (IsHeld nodes (compounds nodes ms ++ rest)) (IsHeld nodes (compounds nodes (m ∷ ms) ++ rest)) ms
            (λ j h. held_more (compounds nodes ms ++ rest) (compounds nodes (m ∷ ms) ++ rest) (λ k a. compounds_more c b k ms rest a) j h) (compounds_held ms rest),
      )

  inner_holds : (a d i : Bool) (node : NodeValue) (rest : List ℕ) → needs a d i node ≡ true → MembersHeld nodes (inner_of a d i nodes node ++ rest) node
  inner_holds a d i always rest e = tt
  inner_holds a d i (atom l) rest e = tt
  inner_holds a d i (denial m) rest e = tt
  inner_holds a d true (conjunction ms) rest e = compounds_held ms rest
  inner_holds a true false (conjunction ms) rest e = compounds_held ms rest
  inner_holds a false false (conjunction ms) rest e = absurd cc
  inner_holds a d true (disjunction ms) rest e = compounds_held ms rest
  inner_holds true true false (disjunction ms) rest e = compounds_held ms rest
  inner_holds true false false (disjunction ms) rest e = compounds_held ms rest
  inner_holds false d false (disjunction ms) rest e = absurd cc

  grows_inner : (n : ℕ) (p : Polarity) (inner : List ℕ) (k : ℕ) → is_among k inner ≡ true → is_among k (inner_below n nodes p inner) ≡ true
  grows_inner zero p inner k h = h
  grows_inner (suc n) p inner k h =
      let more : List ℕ = inner_of (is_among n p.asserted) (is_among n p.denied) (is_among n inner) nodes (node_at nodes n) in
      grows_inner n p (more ++ inner) k (among_right k more inner h)

  module _ (Good : Literal → Type 0) (table : IsTableOf Good nodes) where
    compounds_below_by : (c : Bool) (b j : ℕ) (xs : List ℕ) → b < j → AllByRecursion (λ m. m < j) xs → AllByRecursion (λ m. m < j) (if c then b ∷ xs else xs)
    compounds_below_by true b j xs lt h = (lt, h)
    compounds_below_by false b j xs lt h = h

    compounds_below : (j : ℕ) (ms : List ℕ) → AllByRecursion (λ m. m < j) ms → AllByRecursion (λ m. m < j) (compounds nodes ms)
    compounds_below j [] h = tt
    compounds_below j (m ∷ ms) h =
        compounds_below_by (is_compound (node_at nodes (body_at nodes m))) (body_at nodes m) j (compounds nodes ms) (body_below Good nodes table j m h.0) (compounds_below j ms h.1)

    inner_of_below : (a d i : Bool) (j : ℕ) (node : NodeValue) → IsNodeOf Good nodes j node → AllByRecursion (λ m. m < j) (inner_of a d i nodes node)
    inner_of_below a d true j (conjunction ms) is = compounds_below j ms is
    inner_of_below a true false j (conjunction ms) is = compounds_below j ms is
    inner_of_below true false false j (conjunction ms) is = tt
    inner_of_below false false false j (conjunction ms) is = tt
    inner_of_below a d true j (disjunction ms) is = compounds_below j ms is
    inner_of_below true true false j (disjunction ms) is = compounds_below j ms is
    inner_of_below true false false j (disjunction ms) is = compounds_below j ms is
    inner_of_below false true false j (disjunction ms) is = tt
    inner_of_below false false false j (disjunction ms) is = tt
    inner_of_below true true true j _ is = tt
    inner_of_below true true false j _ is = tt
    inner_of_below true false true j _ is = tt
    inner_of_below true false false j _ is = tt
    inner_of_below false true true j _ is = tt
    inner_of_below false true false j _ is = tt
    inner_of_below false false true j _ is = tt
    inner_of_below false false false j _ is = tt

    late_inner : (n k : ℕ) (p : Polarity) (inner : List ℕ) → n ≤ suc k → is_among k (inner_below n nodes p inner) ≡ is_among k inner
    late_inner zero k p inner le = refl
    late_inner (suc n) k p inner le =
        let more : List ℕ = inner_of (is_among n p.asserted) (is_among n p.denied) (is_among n inner) nodes (node_at nodes n) in
        late_inner n k p (more ++ inner) (omega arith)
        ∙ among_smaller n k more inner (inner_of_below (is_among n p.asserted) (is_among n p.denied) (is_among n inner) n (node_at nodes n) (node_is Good nodes table n)) (omega arith)

    inner_here : (n : ℕ) (p : Polarity) (inner : List ℕ) → needs (is_among n p.asserted) (is_among n p.denied) (is_among n (inner_below (suc n) nodes p inner)) (node_at nodes n) ≡ true
        → MembersHeld nodes (inner_below (suc n) nodes p inner) (node_at nodes n)
    inner_here n p inner e =
        let node : NodeValue = node_at nodes n in
        let more : List ℕ = inner_of (is_among n p.asserted) (is_among n p.denied) (is_among n inner) nodes node in
        let same : is_among n (inner_below (suc n) nodes p inner) ≡ is_among n inner = late_inner (suc n) n p inner (omega arith) in
        members_held_more (more ++ inner) (inner_below n nodes p (more ++ inner)) (λ k h. grows_inner n p (more ++ inner) k h) node
        (inner_holds (is_among n p.asserted) (is_among n p.denied) (is_among n inner) node inner (subst (λ (b : Bool). needs (is_among n p.asserted) (is_among n p.denied) b node ≡ true) same e))

    inner_closed_below : (n k : ℕ) (p : Polarity) (inner : List ℕ) → k < n → needs (is_among k p.asserted) (is_among k p.denied) (is_among k (inner_below n nodes p inner)) (node_at nodes k) ≡ true
        → MembersHeld nodes (inner_below n nodes p inner) (node_at nodes k)
    inner_closed_below zero k p inner h e = absurd (omega arith)
    inner_closed_below (suc n) k p inner h e =
        let le : k ≤ n = omega arith in
        elim (eq-or-lt_of_le le) [
          | inl f ↦ (let P : ℕ → Type 0 = λ j. needs (is_among j p.asserted) (is_among j p.denied) (is_among j (inner_below (suc n) nodes p inner)) (node_at nodes j) ≡ true → MembersHeld nodes (inner_below (suc n) nodes p inner) (node_at nodes j) in
              subst P (sym f) (inner_here n p inner) e)
          | inr lt ↦ inner_closed_below n k p (inner_of (is_among n p.asserted) (is_among n p.denied) (is_among n inner) nodes (node_at nodes n) ++ inner) lt e
        ]

    -- the members' bodies of node k are inner, where clauses are made of their literals
    pub inner_closed : (p : Polarity) (k : ℕ) → k < length nodes → needs (is_among k p.asserted) (is_among k p.denied) (is_among k (inner_nodes nodes p)) (node_at nodes k) ≡ true
        → MembersHeld nodes (inner_nodes nodes p) (node_at nodes k)
    unfolding inner_nodes
    inner_closed p k h e = inner_closed_below (length nodes) k p [] h e
