-- The states that a script's declarations and assertions lead to.
use Rattle.std.proofs.Common.{◌≡◌, ◌∙◌, refl, sym, ap, subst, arith, ℕ, ◌+◌, ◌*◌, ◌<◌, ◌≤◌, Bool, true, false, true≢false, ◌||◌, nat_lt, List, [], ◌∷◌, ◌++◌, length, length-append, map, append_assoc, append-nil, Some, None, Ok, Err}
use Rattle.std.specs.Prelude.{codes, if◌then◌else◌}
use Rattle.std.specs.List.{list_any, AllByRecursion}
use Rattle.std.specs.Str.{bytes_eq}
use Rattle.std.proofs.lemmas.Bool.Decides.{nat_tests}
use Rattle.smt_sexpr.specs.Tree.{Sexpr, more, none}
use Rattle.idl_node.specs.declared.sort.Sort.TheVariants as sort
use Rattle.idl_node.specs.Nodes.{NodeValue}
use Rattle.idl_scope.specs.Limits.{names_limit}
use Rattle.idl_scope.specs.Scopes.{Declaration, Scope, found_declared, declared_at, unknown, is_found, is_known, formula}
use Rattle.idl_term.specs.Contexts.{Definition, binding_of, scope_of, with_declaration, with_assertion}
use Rattle.idl_term.specs.Lowered.{lowered}
use Rattle.idl_apply.specs.Operators.{is_reserved}
use Rattle.smt_script.specs.Commands.{command_of, naming_command, changing_command, asking_command, assertion_by}
use Rattle.smt_script.specs.declared.state.Effect.TheVariants.{Tell}
use Rattle.smt_script.specs.declared.state.Mode.TheVariants as mode
use Rattle.smt_script.specs.declared.state.Notice.TheVariants.{Success}
use Rattle.smt_script.specs.declared.error.Refusal.TheVariants.{AlreadyDeclared, TooManyNames}
use Rattle.smt_script.specs.States.{State, start_state, after, after_by, after_assertion, asserted_by, changed, is_taken}
use Rattle.job_shop.specs.Scripts.{declares, asserts, all_declare, all_assert, logic}
use Rattle.script_law.specs.Ints.{int, ints_of}
use Rattle.script_law.specs.Told.{step_of}
use Rattle.script_law.proofs.Going.{tells_one, Goes, goes_append}
use Rattle.script_law.proofs.Lowering.{IsPoint, IsFormula, binary}
use Rattle.script_law.proofs.Near.{AreNear}

-- ---- names

-- none of the names is this
abbrev pub Absent : List ℕ → List (List ℕ) → Type 0
Absent x xs = AllByRecursion (λ (y : List ℕ). bytes_eq x y ≡ false) xs

-- neither reserved nor a truth value
pub record IsUsual (x : List ℕ) : Type 0 where
  pub not_true : bytes_eq x (codes "true") ≡ false
  pub not_false : bytes_eq x (codes "false") ≡ false
  pub free : is_reserved x ≡ false

ints_push : (xs : List (List ℕ)) (x : List ℕ) → ints_of xs ++ int x ∷ [] ≡ ints_of (xs ++ x ∷ [])
ints_push [] x = refl
ints_push (y ∷ xs) x = ap (λ (ds : List Declaration). int y ∷ ds) (ints_push xs x)

pub ints_length : (xs : List (List ℕ)) → length (ints_of xs) ≡ length xs
ints_length [] = refl
ints_length (x ∷ xs) = omega (arith, ints_length xs)

module _ (x : List ℕ) where
  not_found : (xs : List (List ℕ)) (place : ℕ) → Absent x xs → found_declared x place (ints_of xs) ≡ unknown
  not_found [] place h = refl
  not_found (y ∷ xs) place h = rw h.0 (not_found xs (place + 1) h.1)

  pub record IsThere (xs : List (List ℕ)) (place : ℕ) : Type 0 where
    pub at : ℕ
    pub is : found_declared x place (ints_of xs) ≡ declared_at at sort.Int

  there_by : (y : List ℕ) (xs : List (List ℕ)) (place : ℕ) (b : Bool) → bytes_eq x y ≡ b → (b || list_any (bytes_eq x) xs) ≡ true
      → (list_any (bytes_eq x) xs ≡ true → IsThere xs (place + 1)) → IsThere (y ∷ xs) place
  there_by y xs place true e h on = record { at = place; is = rw e refl }
  there_by y xs place false e h on = let later = on h in record { at = later.at; is = rw e later.is }

  pub is_there : (xs : List (List ℕ)) (place : ℕ) → list_any (bytes_eq x) xs ≡ true → IsThere xs place
  is_there [] place h = absurd (true≢false (sym h))
  is_there (y ∷ xs) place h = there_by y xs place (bytes_eq x y) refl h (λ k. is_there xs (place + 1) k)

abbrev pub scope_with : List (List ℕ) → Scope
scope_with xs = record { declared = ints_of xs; bound = [] }

pub point_in : (xs : List (List ℕ)) (x : List ℕ) → IsUsual x → (there : IsThere x xs 0) → IsPoint (scope_with xs) x there.at
point_in xs x usual there = record { not_true = usual.not_true; not_false = usual.not_false; free = usual.free; there = there.is }

-- ---- states

-- these names are declared, all Int, nothing is defined, these are the assertions, and their table has at most so many nodes, with bounds near 0
pub record IsReady (xs : List (List ℕ)) (ts : List Sexpr) (most : ℕ) (s : State) : Type 0 where
  pub declared : s.context.declared ≡ ints_of xs
  pub defined : s.context.defined ≡ []
  pub assertions : s.context.assertions ≡ ts
  pub few : length s.context.nodes ≤ most
  pub near : AreNear s.context.nodes
  pub alone : s.assumed ≡ None

module _ (xs : List (List ℕ)) (ts : List Sexpr) (most : ℕ) (s : State) (h : IsReady xs ts most s) where
  pub scope_is : scope_of s.context ≡ scope_with xs
  scope_is =
      ap (λ (ds : List Declaration). record { declared = ds; bound = map binding_of s.context.defined }) h.declared
      ∙ ap (λ (ds : List Definition). record { declared = ints_of xs; bound = map binding_of ds }) h.defined

  not_taken : (x : List ℕ) → IsUsual x → Absent x xs → is_taken s.context x ≡ false
  not_taken x usual new =
      let known : is_known (scope_of s.context) x ≡ false =
      ap (λ (scope : Scope). is_known scope x) scope_is ∙ ap is_found (not_found x xs 0 new) in
      ap (λ (b : Bool). b || is_known (scope_of s.context) x) usual.free ∙ known

  declares_as : (x : List ℕ) → nat_lt (length s.context.declared) names_limit ≡ true → is_taken s.context x ≡ false
      → after s (declares x) ≡ Ok (step_of (record s { context = with_declaration s.context x sort.Int; mode = mode.Nothing; assumed = None }) (Tell Success))
  unfolding after command_of naming_command changing_command asking_command
  declares_as x fits free =
      ap (λ (b : Bool). if b then Err AlreadyDeclared else (if nat_lt (length s.context.declared) names_limit then changed s (with_declaration s.context x sort.Int) else Err TooManyNames)) free
      ∙ ap (λ (b : Bool). if b then changed s (with_declaration s.context x sort.Int) else Err TooManyNames) fits

  declares_name : (x : List ℕ) → IsUsual x → Absent x xs → length xs < names_limit → Goes s (declares x ∷ []) (IsReady (xs ++ x ∷ []) ts most)
  declares_name x usual new room =
      let count : length s.context.declared ≡ length xs = ap length h.declared ∙ ints_length xs in
      let fits : nat_lt (length s.context.declared) names_limit ≡ true = grind (arith, nat_tests, room, count) in
      let t : State = record s { context = with_declaration s.context x sort.Int; mode = mode.Nothing; assumed = None } in
      record {
        t = t;
        tells = tells_one (declares x) s t Success (declares_as x fits (not_taken x usual new));
        holds = record {
          declared = ap (λ (ds : List Declaration). ds ++ int x ∷ []) h.declared ∙ ints_push xs x;
          defined = h.defined;
          assertions = h.assertions;
          few = h.few;
          near = h.near;
          alone = refl;
        };
      }

  asserts_as : (op : List ℕ) (x y : Sexpr) → bytes_eq op (codes "!") ≡ false → after s (asserts (binary op x y)) ≡ after_assertion s (binary op x y)
  unfolding after command_of naming_command changing_command asking_command
  asserts_as op x y plain =
      ap (λ (b : Bool). after_by s (assertion_by (binary op x y) (if b then Some (more x (more y none)) else None))) plain

  asserts_term : (t : Sexpr) (nodes_more : ℕ) → after s (asserts t) ≡ after_assertion s t → IsFormula (scope_with xs) s.context.nodes t nodes_more
      → Goes s (asserts t ∷ []) (IsReady xs (ts ++ t ∷ []) (most + nodes_more))
  asserts_term x nodes_more stays f =
      let made : lowered (scope_of s.context) s.context.nodes x ≡ Ok (record { nodes = f.after; is = formula f.root }) =
      ap (λ (scope : Scope). lowered scope s.context.nodes x) scope_is ∙ f.is in
      let t : State = record s { context = with_assertion s.context x f.after f.root; labels = s.labels ++ None ∷ []; mode = mode.Nothing; assumed = None } in
      record {
        t = t;
        tells = tells_one (asserts x) s t Success (stays ∙ ap (asserted_by s x) made);
        holds = record {
          declared = h.declared;
          defined = h.defined;
          assertions = ap (λ (l : List Sexpr). l ++ x ∷ []) h.assertions;
          few = omega (arith, f.few, h.few);
          near = f.near h.near;
          alone = refl;
        };
      }

-- ---- many names

-- one after the other they are new
abbrev pub AreNew : List (List ℕ) → List (List ℕ) → Type 0
AreNew before [] = Unit {0}
AreNew before (x ∷ xs) = (IsUsual x × Absent x before) × AreNew (before ++ x ∷ []) xs

pub new_append : (before xs ys : List (List ℕ)) → AreNew before xs → AreNew (before ++ xs) ys → AreNew before (xs ++ ys)
new_append before [] ys h k = subst (λ (l : List (List ℕ)). AreNew l ys) (append-nil before) k
new_append before (x ∷ xs) ys h k =
    (h.0, new_append (before ++ x ∷ []) xs ys h.1 (subst (λ (l : List (List ℕ)). AreNew l ys) (sym (append_assoc before (x ∷ []) xs)) k))

pub declares_all : (xs before : List (List ℕ)) (s : State) → AreNew before xs → length before + length xs ≤ names_limit → IsReady before [] 0 s → Goes s (all_declare xs) (IsReady (before ++ xs) [] 0)
declares_all [] before s new room ready = record { t = s; tells = refl; holds = subst (λ (l : List (List ℕ)). IsReady l [] 0 s) (sym (append-nil before)) ready }
declares_all (x ∷ xs) before s new room ready =
    let long : length (before ++ x ∷ []) ≡ length before + 1 = length-append before (x ∷ []) in
    goes_append s (declares x ∷ []) (all_declare xs) (IsReady (before ++ x ∷ []) [] 0) (IsReady (before ++ (x ∷ xs)) [] 0)
    (declares_name before [] 0 s ready x new.0.0 new.0.1 (omega (arith, room)))
    (λ t r. (let g = declares_all xs (before ++ x ∷ []) t new.1 (omega (arith, room, long)) r in
    record { t = g.t; tells = g.tells; holds = subst (λ (l : List (List ℕ)). IsReady l [] 0 g.t) (append_assoc before (x ∷ []) xs) g.holds }))

-- ---- many terms

-- where these names are declared the term is asserted, with at most three nodes more
pub record IsAccepted (xs : List (List ℕ)) (t : Sexpr) : Type 0 where
  pub plain : (s : State) → after s (asserts t) ≡ after_assertion s t
  pub made : (nodes : List NodeValue) → length nodes < 1000000 → IsFormula (scope_with xs) nodes t 3

pub asserts_all : (xs : List (List ℕ)) (ts before : List Sexpr) (most : ℕ) (s : State) → AllByRecursion (IsAccepted xs) ts → most + 3 * length ts < 1000000 → IsReady xs before most s
    → Goes s (all_assert ts) (IsReady xs (before ++ ts) (most + 3 * length ts))
asserts_all xs [] before most s are room ready =
    record {
      t = s;
      tells = refl;
      holds = record {
        declared = ready.declared;
        defined = ready.defined;
        assertions = ready.assertions ∙ sym (append-nil before);
        few = omega (arith, ready.few);
        near = ready.near;
        alone = ready.alone;
      };
    }
asserts_all xs (x ∷ ts) before most s are room ready =
    goes_append s (asserts x ∷ []) (all_assert ts) (IsReady xs (before ++ x ∷ []) (most + 3)) (IsReady xs (before ++ (x ∷ ts)) (most + 3 * length (x ∷ ts)))
    (asserts_term xs before most s ready x 3 (are.0.plain s) (are.0.made s.context.nodes (omega (arith, ready.few, room))))
    (λ t r. (let g = asserts_all xs ts (before ++ x ∷ []) (most + 3) t are.1 (omega (arith, room)) r in
    record {
      t = g.t;
      tells = g.tells;
      holds = record {
        declared = g.holds.declared;
        defined = g.holds.defined;
        assertions = g.holds.assertions ∙ append_assoc before (x ∷ []) ts;
        few = omega (arith, g.holds.few);
        near = g.holds.near;
        alone = g.holds.alone;
      };
    }))

-- ---- the whole

after_logic : (s : State) → after s logic ≡ Ok (step_of s (Tell Success))
unfolding after command_of naming_command changing_command asking_command
after_logic s = refl

start_ready : IsReady [] [] 0 start_state
start_ready = record { declared = refl; defined = refl; assertions = refl; few = omega arith; near = tt; alone = refl }

pub script_goes : (xs : List (List ℕ)) (ts : List Sexpr) → AreNew [] xs → length xs ≤ names_limit → AllByRecursion (IsAccepted xs) ts → 3 * length ts < 1000000
    → Goes start_state (logic ∷ (all_declare xs ++ all_assert ts)) (IsReady xs ts 1000000)
script_goes xs ts new many accepted few =
    let g = goes_append start_state (all_declare xs) (all_assert ts) (IsReady xs [] 0) (IsReady xs ts (0 + 3 * length ts)) (declares_all xs [] start_state new (omega (arith, many)) start_ready)
    (λ t r. asserts_all xs ts [] 0 t accepted (omega (arith, few)) r) in
    record {
      t = g.t;
      tells = (start_state, Success, after_logic start_state, g.tells);
      holds = record {
        declared = g.holds.declared;
        defined = g.holds.defined;
        assertions = g.holds.assertions;
        few = omega (arith, g.holds.few, few);
        near = g.holds.near;
        alone = g.holds.alone;
      };
    }
