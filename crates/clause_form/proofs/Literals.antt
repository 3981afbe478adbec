-- A member's literal holds exactly where the member is true.
use Rattle.std.proofs.Common.{refl, sym, ap, arith, ◌∙◌, ◌≡◌, ◌<◌, ℕ, List, true, not, ℤ, pos, ◌-ℤ◌, ◌≤ℤ◌, int_le}
use Rattle.std.specs.List.{AllByRecursion}
use Rattle.std.proofs.lemmas.Int.{ints}
use Rattle.stn_core.specs.declared.literal.Literal.{Literal}
use Rattle.stn_core.specs.Literal.{value_at, Holds}
use Rattle.idl_node.specs.Nodes.{NodeValue, always, atom, denial, conjunction, disjunction}
use Rattle.idl_node.specs.Tables.{IsDeniable, IsNodeOf, IsTableOf}
use Rattle.idl_node.specs.Truth.{literal_truth, node_truth, truth}
use Rattle.idl_node.proofs.Makers.{negated_truth}
use Rattle.clause_form.specs.Polarity.{is_among, node_at, body_of, body_at, is_compound}
use Rattle.clause_form.specs.ClauseForm.{stands, fails, fresh_point, body_literal, node_literal, literal_of}
use Rattle.clause_form.proofs.Among.{each_both}
use Rattle.clause_form.proofs.Inner.{IsHeld, MembersHeld, body_below}
use Rattle.clause_form.proofs.Truths.{node_is, truth-node}

-- ---- literals

int_le_yes : (a b : ℤ) → int_le a b ≡ true → a ≤ℤ b
int_le_yes a b h = grind (arith, ints)

int_le_from : (a b : ℤ) → a ≤ℤ b → int_le a b ≡ true
int_le_from a b h = grind (arith, ints)

pub holds_from_truth : (values : List ℤ) (l : Literal) → literal_truth values l ≡ true → Holds values l
holds_from_truth values l h = int_le_yes _ _ h

pub truth_from_holds : (values : List ℤ) (l : Literal) → Holds values l → literal_truth values l ≡ true
truth_from_holds values l h = int_le_from _ _ h

no_difference : (x : ℤ) → int_le (x -ℤ x) (pos 0) ≡ true
no_difference x = grind (arith, ints)

-- the zero point is at most itself
pub zero_stands : (values : List ℤ) → literal_truth values (stands 0) ≡ true
zero_stands values = no_difference (value_at values 0)

pub fails_truth : (values : List ℤ) (p : ℕ) → literal_truth values (fails p) ≡ not (literal_truth values (stands p))
fails_truth values p = negated_truth values (stands p)

-- ---- literals of nodes

-- an inner node's fresh point says whether it is true
abbrev pub IsRight : ℕ → List NodeValue → List ℕ → List ℤ → ℕ → Type 0
IsRight points nodes inner values k = literal_truth values (stands (fresh_point points inner k)) ≡ truth nodes values k

abbrev pub IsLiteralRight : ℕ → List NodeValue → List ℕ → List ℤ → ℕ → Type 0
IsLiteralRight points nodes inner values m = literal_truth values (literal_of points nodes inner m) ≡ truth nodes values m

abbrev pub MembersRight : ℕ → List NodeValue → List ℕ → List ℤ → NodeValue → Type 0
MembersRight points nodes inner values (conjunction ms) = AllByRecursion (IsLiteralRight points nodes inner values) ms
MembersRight points nodes inner values (disjunction ms) = AllByRecursion (IsLiteralRight points nodes inner values) ms
MembersRight points nodes inner values _ = Unit {0}

module _ (Good : Literal → Type 0) (nodes : List NodeValue) (table : IsTableOf Good nodes) (points : ℕ) (inner : List ℕ) (values : List ℤ) where
  body_right : (b : ℕ) (node : NodeValue) → IsDeniable node → (is_compound node ≡ true → IsRight points nodes inner values b) → truth nodes values b ≡ node_truth values (truth nodes values) node
      → literal_truth values (body_literal points inner b node) ≡ truth nodes values b
  body_right b always d right e = zero_stands values ∙ sym e
  body_right b (atom l) d right e = absurd d
  body_right b (denial m) d right e = absurd d
  body_right b (conjunction ms) d right e = right refl
  body_right b (disjunction ms) d right e = right refl

  node_literal_right : (m : ℕ) (node : NodeValue) → node_at nodes m ≡ node → IsNodeOf Good nodes m node → (is_compound (node_at nodes (body_of node m)) ≡ true → IsRight points nodes inner values (body_of node m))
      → truth nodes values m ≡ node_truth values (truth nodes values) node → literal_truth values (node_literal points nodes inner m node) ≡ truth nodes values m
  node_literal_right m always at is right e = zero_stands values ∙ sym e
  node_literal_right m (atom l) at is right e = sym e
  node_literal_right m (denial b) at is right e =
      negated_truth values (body_literal points inner b (node_at nodes b))
      ∙ ap not (body_right b (node_at nodes b) is.1 right (truth-node Good nodes table values b)) ∙ sym e
  node_literal_right m (conjunction ms) at is right e = right (ap is_compound at)
  node_literal_right m (disjunction ms) at is right e = right (ap is_compound at)

  pub literal_right : (m : ℕ) → (is_compound (node_at nodes (body_at nodes m)) ≡ true → IsRight points nodes inner values (body_at nodes m)) → IsLiteralRight points nodes inner values m
  literal_right m right = node_literal_right m (node_at nodes m) refl (node_is Good nodes table m) right (truth-node Good nodes table values m)

  -- smaller inner nodes are right
  abbrev pub AreRightBelow : ℕ → Type 0
  AreRightBelow k = (j : ℕ) → j < k → is_compound (node_at nodes j) ≡ true → is_among j inner ≡ true → IsRight points nodes inner values j

  member_right : (k : ℕ) → AreRightBelow k → (m : ℕ) → m < k → IsHeld nodes inner m → IsLiteralRight points nodes inner values m
  member_right k below m h held = literal_right m (λ c. below (body_at nodes m) (body_below Good nodes table k m h) c (held c))

  pub members_right : (k : ℕ) (node : NodeValue) → IsNodeOf Good nodes k node → MembersHeld nodes inner node → AreRightBelow k → MembersRight points nodes inner values node
  members_right k always is held below = tt
  members_right k (atom l) is held below = tt
  members_right k (denial m) is held below = tt
  members_right k (conjunction ms) is held below = each_both (λ m. m < k) (IsHeld nodes inner) (IsLiteralRight points nodes inner values) ms (λ m h f. member_right k below m h f) is held
  members_right k (disjunction ms) is held below = each_both (λ m. m < k) (IsHeld nodes inner) (IsLiteralRight points nodes inner values) ms (λ m h f. member_right k below m h f) is held
