-- Where a name is found among those that the code keeps.
use Rattle.std.proofs.Common.{arith, refl, ap, ◌∙◌, ◌≡◌, ◌+◌, ◌<◌, ℕ, zero, suc, List, [], ◌∷◌, length, get_or, Bool, true, false, ◌||◌, not, Some, Bor}
use Rattle.std.specs.Prelude.{if◌then◌else◌, slice_get}
use Rattle.std.specs.List.{position}
use Rattle.std.specs.Str.{bytes_eq}
use Rattle.std.proofs.lemmas.List.Quantifiers.{position-Some}
use Rattle.idl_node.specs.declared.sort.Sort.{Sort}
use Rattle.idl_scope.specs.code.Kept.{declarations_of, definitions_of, Adds, Declares}
use Rattle.idl_scope.specs.Scopes.{LoweredTerm, Declaration, Scope, Found, declared_at, stands_for, unknown, found_declared, found_bound, found, is_known, is_found, shown_term}
use Rattle.idl_scope.specs.declared.lowered.Lowered.{Lowered}
use Rattle.idl_scope.proofs.NamesKept.{texts, is_among}

-- ---- declared names

absent_step : (b any : Bool) (i : ℕ) (s : Sort) (rest : Found) → (any ≡ false → rest ≡ unknown) → (b || any) ≡ false → (if b then declared_at i s else rest) ≡ unknown
absent_step true any i s rest h e = absurd cc
absent_step false any i s rest h e = h e

pub declared-absent : (name : List ℕ) (i : ℕ) (keys : List (Bor (List ℕ))) (sorts : List Sort) → is_among name keys ≡ false → found_declared name i (declarations_of (texts keys) sorts) ≡ unknown
declared-absent name i [] sorts e = refl
declared-absent name i (x ∷ keys) [] e = refl
declared-absent name i (x ∷ keys) (s ∷ sorts) e = absent_step (bytes_eq name x.now) (is_among name keys) i s (found_declared name (i + 1) (declarations_of (texts keys) sorts)) (declared-absent name (i + 1) keys sorts) e

same_some : {A : Type 0} (a b : A) → Some a ≡ Some b → a ≡ b
same_some a b e = grind arith

module _ (name : List ℕ) (d : Bor (List ℕ)) where
  first_declared : (i k : ℕ) (keys : List (Bor (List ℕ))) (sorts : List Sort) (s : Sort) → length keys ≡ length sorts → k < length keys → bytes_eq name (get_or keys k d).now ≡ true
      → ((j : ℕ) → j < k → bytes_eq name (get_or keys j d).now ≡ false) → slice_get sorts k ≡ Some s → found_declared name i (declarations_of (texts keys) sorts) ≡ declared_at (i + k) s
  first_declared i k [] sorts s l w h b g = absurd (omega arith)
  first_declared i k (x ∷ keys) [] s l w h b g = absurd (omega arith)
  first_declared i zero (x ∷ keys) (s' ∷ sorts) s l w h b g =
      let same : s' ≡ s = same_some s' s g in
      let place : i ≡ i + 0 = omega arith in
      rw h (ap (λ (t : Sort). declared_at i t) same ∙ ap (λ p. declared_at p s) place)
  first_declared i (suc k) (x ∷ keys) (s' ∷ sorts) s l w h b g =
      let other : bytes_eq name x.now ≡ false = b 0 (omega arith) in
      let place : (i + 1) + k ≡ i + suc k = omega arith in
      rw other (first_declared (i + 1) k keys sorts s (omega arith) (omega arith) h (λ j m. b (suc j) (omega arith)) g ∙ ap (λ p. declared_at p s) place)

  -- the first of a name's places counts
  pub declared-first : (k : ℕ) (keys : List (Bor (List ℕ))) (sorts : List Sort) (s : Sort) → length keys ≡ length sorts → position (λ (x : Bor (List ℕ)). bytes_eq name x.now) keys ≡ Some k → slice_get sorts k ≡ Some s
      → found_declared name 0 (declarations_of (texts keys) sorts) ≡ declared_at k s
  declared-first k keys sorts s l e g =
      let at = position-Some (λ (x : Bor (List ℕ)). bytes_eq name x.now) keys k d e in
      let place : 0 + k ≡ k = omega arith in
      first_declared 0 k keys sorts s l at.0 at.1 at.2 g ∙ ap (λ p. declared_at p s) place

  -- ---- defined names

  first_defined : (declared : List Declaration) (k : ℕ) (keys : List (Bor (List ℕ))) (terms : List Lowered) (t : Lowered) → length keys ≡ length terms → k < length keys → bytes_eq name (get_or keys k d).now ≡ true
      → ((j : ℕ) → j < k → bytes_eq name (get_or keys j d).now ≡ false) → slice_get terms k ≡ Some t → found_bound name (definitions_of (texts keys) terms) declared ≡ stands_for (shown_term t)
  first_defined declared k [] terms t l w h b g = absurd (omega arith)
  first_defined declared k (x ∷ keys) [] t l w h b g = absurd (omega arith)
  first_defined declared zero (x ∷ keys) (t' ∷ terms) t l w h b g =
      let same : t' ≡ t = same_some t' t g in
      rw h (ap (λ (u : Lowered). stands_for (shown_term u)) same)
  first_defined declared (suc k) (x ∷ keys) (t' ∷ terms) t l w h b g =
      let other : bytes_eq name x.now ≡ false = b 0 (omega arith) in
      rw other (first_defined declared k keys terms t (omega arith) (omega arith) h (λ j m. b (suc j) (omega arith)) g)

  pub defined-first : (declared : List Declaration) (k : ℕ) (keys : List (Bor (List ℕ))) (terms : List Lowered) (t : Lowered) → length keys ≡ length terms → position (λ (x : Bor (List ℕ)). bytes_eq name x.now) keys ≡ Some k → slice_get terms k ≡ Some t
      → found_bound name (definitions_of (texts keys) terms) declared ≡ stands_for (shown_term t)
  defined-first declared k keys terms t l e g =
      let at = position-Some (λ (x : Bor (List ℕ)). bytes_eq name x.now) keys k d e in
      first_defined declared k keys terms t l at.0 at.1 at.2 g

skip_step : (b any : Bool) (t : LoweredTerm) (rest other : Found) → (any ≡ false → rest ≡ other) → (b || any) ≡ false → (if b then stands_for t else rest) ≡ other
skip_step true any t rest other h e = absurd cc
skip_step false any t rest other h e = h e

-- a name that isn't defined is looked up among the declared ones
pub defined-absent : (name : List ℕ) (keys : List (Bor (List ℕ))) (terms : List Lowered) (declared : List Declaration) → is_among name keys ≡ false
    → found_bound name (definitions_of (texts keys) terms) declared ≡ found_declared name 0 declared
defined-absent name [] terms declared e = refl
defined-absent name (x ∷ keys) [] declared e = refl
defined-absent name (x ∷ keys) (t ∷ terms) declared e =
    skip_step (bytes_eq name x.now) (is_among name keys) (shown_term t) (found_bound name (definitions_of (texts keys) terms) declared) (found_declared name 0 declared) (defined-absent name keys terms declared) e

-- ---- names that aren't known

not_found : (f : Found) → is_found f ≡ false → f ≡ unknown
not_found (declared_at place s) e = absurd cc
not_found (stands_for t) e = absurd cc
not_found unknown e = refl

undefined_step : (b any : Bool) (t : LoweredTerm) (rest : Found) → (rest ≡ unknown → any ≡ false) → (if b then stands_for t else rest) ≡ unknown → (b || any) ≡ false
undefined_step true any t rest h e = absurd cc
undefined_step false any t rest h e = h e

undefined : (name : List ℕ) (keys : List (Bor (List ℕ))) (terms : List Lowered) (declared : List Declaration) → length keys ≡ length terms → found_bound name (definitions_of (texts keys) terms) declared ≡ unknown → is_among name keys ≡ false
undefined name [] terms declared l e = refl
undefined name (x ∷ keys) [] declared l e = absurd (omega arith)
undefined name (x ∷ keys) (t ∷ terms) declared l e =
    undefined_step (bytes_eq name x.now) (is_among name keys) (shown_term t) (found_bound name (definitions_of (texts keys) terms) declared) (undefined name keys terms declared (omega arith)) e

pub unknown-undefined : (name : List ℕ) (keys : List (Bor (List ℕ))) (terms : List Lowered) (declared : List Declaration) → length keys ≡ length terms
    → is_known (record { declared = declared; bound = definitions_of (texts keys) terms }) name ≡ false → is_among name keys ≡ false
unknown-undefined name keys terms declared l e = undefined name keys terms declared l (not_found (found_bound name (definitions_of (texts keys) terms) declared) e)

-- ---- names that are known

found_step : (b any : Bool) (f rest : Found) → is_found f ≡ true → (any ≡ true → is_found rest ≡ true) → (b || any) ≡ true → is_found (if b then f else rest) ≡ true
found_step true any f rest here h e = here
found_step false any f rest here h e = h e

among-declared_from : (name : List ℕ) (i : ℕ) (keys : List (Bor (List ℕ))) (sorts : List Sort) → length keys ≡ length sorts → is_among name keys ≡ true → is_found (found_declared name i (declarations_of (texts keys) sorts)) ≡ true
among-declared_from name i [] sorts l e = absurd cc
among-declared_from name i (x ∷ keys) [] l e = absurd (omega arith)
among-declared_from name i (x ∷ keys) (s ∷ sorts) l e =
    found_step (bytes_eq name x.now) (is_among name keys) (declared_at i s) (found_declared name (i + 1) (declarations_of (texts keys) sorts)) refl (among-declared_from name (i + 1) keys sorts (omega arith)) e

pub among-declared : (name : List ℕ) (keys : List (Bor (List ℕ))) (sorts : List Sort) → length keys ≡ length sorts → is_among name keys ≡ true → is_found (found_declared name 0 (declarations_of (texts keys) sorts)) ≡ true
among-declared name = among-declared_from name 0

pub among-defined : (name : List ℕ) (keys : List (Bor (List ℕ))) (terms : List Lowered) (declared : List Declaration) → length keys ≡ length terms → is_among name keys ≡ true
    → is_found (found_bound name (definitions_of (texts keys) terms) declared) ≡ true
among-defined name [] terms declared l e = absurd cc
among-defined name (x ∷ keys) [] declared l e = absurd (omega arith)
among-defined name (x ∷ keys) (t ∷ terms) declared l e =
    found_step (bytes_eq name x.now) (is_among name keys) (stands_for (shown_term t)) (found_bound name (definitions_of (texts keys) terms) declared) refl (among-defined name keys terms declared (omega arith)) e

-- a name that isn't defined is declared in the scope where it is among the declared names
pub declares-by : (old : Scope) (names : List Declaration) (name : List ℕ) (s : Sort) (new : Bool) → found old name ≡ found_declared name 0 old.declared → Adds old.declared name s new names → Declares old name s new (record { declared = names; bound = old.bound })
declares-by old names name s true same h = (rw same h.0, ap (λ (ds : List Declaration). record { declared = ds; bound = old.bound }) h.1)
declares-by old names name s false same h = (rw same h.0, ap (λ (ds : List Declaration). record { declared = ds; bound = old.bound }) h.1)

pub not_false : (b new : Bool) → new ≡ not b → new ≡ false → b ≡ true
not_false true new e f = refl
not_false false new e f = absurd cc

pub not_true : (b new : Bool) → new ≡ not b → new ≡ true → b ≡ false
not_true false new e f = refl
not_true true new e f = absurd cc
