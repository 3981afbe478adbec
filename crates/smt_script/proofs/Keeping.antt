-- What is kept stands for the state behind a command.
use Rattle.std.proofs.Common.{refl, sym, ap, subst, arith, ◌∙◌, ◌≡◌, ◌<◌, ◌≤◌, ◌+◌, ◌-◌, ◌++◌, ℕ, List, [], ◌∷◌, length, take, replicate, get_or, map, Some, None, slice_get, Bool, Option}
use Rattle.std.proofs.lemmas.List.{take_all}
use Rattle.std.proofs.lemmas.Option.{slice_get-get_or}
use Rattle.idl_node.specs.Nodes.{NodeValue}
use Rattle.idl_node.specs.declared.sort.Sort.{Sort}
use Rattle.smt_sexpr.specs.Tree.{Sexpr}
use Rattle.idl_apply.specs.Applied.{Made}
use Rattle.idl_term.specs.Contexts.{Context, Definition, binding_of, scope_of, with_declaration, with_definition, with_assertion}
use Rattle.idl_term.specs.Limits.{names_limit}
use Rattle.idl_term.specs.Scopes.{LoweredTerm, formula, Scope, Binding}
use Rattle.smt_sexpr.specs.Shapes.{items_of}
use Rattle.smt_script.specs.code.Kept.{Kept, AreLevels, StandsFor, IsKept, AscendWithout, AssumedStands, sexpr_of, amount_of, cut_to}
use Rattle.smt_script.specs.States.{State, Assumed, popped}
use Rattle.smt_script.specs.declared.state.Active.{Active}
use Rattle.smt_script.specs.declared.state.Level.{Level}
use Rattle.smt_script.specs.declared.state.Mode.{Mode}
use Rattle.smt_script.specs.declared.state.Mode.TheVariants as mode
use Rattle.smt_script.proofs.Levels.{IsFront, take_length, take_own, take_added, amount_grown, ascend_grown, ascend_pushed, ascend_popped, level_within, level_at, level_now, levels_grown, levels_pushed, levels_cut, levels_taken, ascend_front}

-- ---- what is kept behind a command

abbrev pub declared_in : Kept → List ℕ → Sort → Kept
declared_in kept name sort = record kept { scope = record { declared = kept.scope.declared ++ record { name = name; sort = sort } ∷ []; bound = kept.scope.bound }; mode = mode.Nothing; assumed = None }

abbrev pub defined_in : Kept → List NodeValue → List ℕ → LoweredTerm → Kept
defined_in kept nodes name stands = record kept { scope = record { declared = kept.scope.declared; bound = kept.scope.bound ++ record { name = name; stands = stands } ∷ [] }; nodes = nodes; mode = mode.Nothing; assumed = None }

abbrev pub asserted_in : Kept → List NodeValue → ℕ → Kept
asserted_in kept nodes root = record kept { nodes = nodes; roots = kept.roots ++ root ∷ []; labels = kept.labels ++ None ∷ []; mode = mode.Nothing; assumed = None }

abbrev pub named_in : Kept → List NodeValue → ℕ → List ℕ → Kept
named_in kept nodes root name = record kept { scope = record { declared = kept.scope.declared; bound = kept.scope.bound ++ record { name = name; stands = formula root } ∷ [] }; nodes = nodes; roots = kept.roots ++ root ∷ []; labels = kept.labels ++ Some name ∷ []; mode = mode.Nothing; assumed = None }

abbrev pub pushed_in : Kept → ℕ → Kept
pushed_in kept n = record kept { levels = kept.levels ++ replicate n (amount_of kept); mode = mode.Nothing; assumed = None }

-- ---- it is a longer one

pub front_declared : (kept : Kept) (name : List ℕ) (sort : Sort) → IsFront kept (declared_in kept name sort)
front_declared kept name sort = record { names = take_added kept.scope.declared (record { name = name; sort = sort } ∷ []); defined = take_own kept.scope.bound; nodes = take_own kept.nodes; roots = take_own kept.roots }

pub front_defined : (kept : Kept) (nodes : List NodeValue) (name : List ℕ) (stands : LoweredTerm) → take (length kept.nodes) nodes ≡ kept.nodes → IsFront kept (defined_in kept nodes name stands)
front_defined kept nodes name stands front = record { names = take_own kept.scope.declared; defined = take_added kept.scope.bound (record { name = name; stands = stands } ∷ []); nodes = front; roots = take_own kept.roots }

pub front_asserted : (kept : Kept) (nodes : List NodeValue) (root : ℕ) → take (length kept.nodes) nodes ≡ kept.nodes → IsFront kept (asserted_in kept nodes root)
front_asserted kept nodes root front = record { names = take_own kept.scope.declared; defined = take_own kept.scope.bound; nodes = front; roots = take_added kept.roots (root ∷ []) }

pub front_named : (kept : Kept) (nodes : List NodeValue) (root : ℕ) (name : List ℕ) → take (length kept.nodes) nodes ≡ kept.nodes → IsFront kept (named_in kept nodes root name)
front_named kept nodes root name front = record { names = take_own kept.scope.declared; defined = take_added kept.scope.bound (record { name = name; stands = formula root } ∷ []); nodes = front; roots = take_added kept.roots (root ∷ []) }

front_mode : (kept : Kept) (m : Mode) (assumed : Option Active) (print : Bool) (levels : List Level) → IsFront kept (record kept { levels = levels; mode = m; assumed = assumed; print_success = print })
front_mode kept m assumed print levels = record { names = take_own kept.scope.declared; defined = take_own kept.scope.bound; nodes = take_own kept.nodes; roots = take_own kept.roots }

-- ---- what holds of all that is kept

kept_grown : (kept new : Kept) → IsKept kept → IsFront kept new → new.levels ≡ kept.levels → length new.scope.declared ≤ names_limit → length new.labels ≡ length new.roots → new.assumed ≡ None → IsKept new
kept_grown kept new h front same few labelled gone = record { few = few; labelled = labelled; without = subst (AscendWithout new) (sym gone) tt; ascend = rw same (ascend_grown kept.levels (amount_of kept) (amount_of new) h.ascend (amount_grown kept new front)) }

length_added : {A : Type 0} (xs : List A) (x : A) → length (xs ++ x ∷ []) ≡ length xs + 1
length_added [] x = refl
length_added (y ∷ ys) x = let r = length_added ys x in omega arith

labelled_more : (kept : Kept) (root : ℕ) (label : Option (List ℕ)) → length kept.labels ≡ length kept.roots → length (kept.labels ++ label ∷ []) ≡ length (kept.roots ++ root ∷ [])
labelled_more kept root label same = length_added kept.labels label ∙ ap (λ (n : ℕ). n + 1) same ∙ sym (length_added kept.roots root)

pub kept_declared : (kept : Kept) (name : List ℕ) (sort : Sort) → IsKept kept → length kept.scope.declared < names_limit → IsKept (declared_in kept name sort)
kept_declared kept name sort h few =
    let more = length_added kept.scope.declared (record { name = name; sort = sort }) in
    kept_grown kept (declared_in kept name sort) h (front_declared kept name sort) refl (omega arith) h.labelled refl

pub kept_defined : (kept : Kept) (nodes : List NodeValue) (name : List ℕ) (stands : LoweredTerm) → IsKept kept → take (length kept.nodes) nodes ≡ kept.nodes → IsKept (defined_in kept nodes name stands)
kept_defined kept nodes name stands h front = kept_grown kept (defined_in kept nodes name stands) h (front_defined kept nodes name stands front) refl h.few h.labelled refl

pub kept_asserted : (kept : Kept) (nodes : List NodeValue) (root : ℕ) → IsKept kept → take (length kept.nodes) nodes ≡ kept.nodes → IsKept (asserted_in kept nodes root)
kept_asserted kept nodes root h front = kept_grown kept (asserted_in kept nodes root) h (front_asserted kept nodes root front) refl h.few (labelled_more kept root None h.labelled) refl

pub kept_named : (kept : Kept) (nodes : List NodeValue) (root : ℕ) (name : List ℕ) → IsKept kept → take (length kept.nodes) nodes ≡ kept.nodes → IsKept (named_in kept nodes root name)
kept_named kept nodes root name h front = kept_grown kept (named_in kept nodes root name) h (front_named kept nodes root name front) refl h.few (labelled_more kept root (Some name) h.labelled) refl

pub kept_pushed : (kept : Kept) (n : ℕ) → IsKept kept → IsKept (pushed_in kept n)
kept_pushed kept n h = record { few = h.few; labelled = h.labelled; without = tt; ascend = ascend_pushed kept.levels n (amount_of kept) h.ascend }

pub kept_cut : (kept : Kept) (i : ℕ) (level : Level) → IsKept kept → slice_get kept.levels i ≡ Some level → IsKept (cut_to kept i level)
kept_cut kept i level h at =
    let within = level_within kept.levels i level (amount_of kept) at h.ascend in
    let below = ascend_popped kept.levels i level (amount_of kept) at h.ascend in
    let n = take_length level.names kept.scope.declared within.names in
    let d = take_length level.defined kept.scope.bound within.defined in
    let t = take_length level.nodes kept.nodes within.nodes in
    let r = take_length level.roots kept.roots within.roots in
    let few = h.few in
    let names = within.names in
    let labels = take_length level.roots kept.labels (let labelled = h.labelled in let asserted = within.roots in omega arith) in
    record {
      few = rw n (omega arith);
      labelled = labels ∙ sym r;
      without = tt;
      ascend = ascend_grown (take i kept.levels) level (amount_of (cut_to kept i level)) below (record { names = omega (arith, n); defined = omega (arith, d); nodes = omega (arith, t); roots = omega (arith, r) });
    }

pub level_got : (levels : List Level) (i : ℕ) (level : Level) → i < length levels → level ≡ get_or levels i level → slice_get levels i ≡ Some level
level_got levels i level lt e = slice_get-get_or levels i level lt ∙ ap (λ (l : Level). Some l) (sym e)

-- a longer list of levels, of which those on top are what there is
pub level_is : (scope : Scope) (nodes : List NodeValue) (roots : List ℕ) (n d t r : ℕ) → n ≡ length scope.declared → d ≡ length scope.bound → t ≡ length nodes → r ≡ length roots
    → ◌≡◌ {A = Level} (record { names = n; defined = d; nodes = t; roots = r }) (record { names = length scope.declared; defined = length scope.bound; nodes = length nodes; roots = length roots })
level_is scope nodes roots n d t r names defined table asserted = rw (names, defined, table, asserted) refl

pub pushed_is : (levels : List Level) (count n depth : ℕ) (level now : Level) → count ≡ length levels → depth ≡ length levels + n → level ≡ now → take depth levels ++ replicate (depth - count) level ≡ levels ++ replicate n now
pushed_is levels count n depth level now same_count is same =
    let all : take depth levels ≡ levels = take_all depth levels (omega (arith, is)) in
    let more : depth - count ≡ n = omega (arith, is, same_count) in
    rw (all, more, same) refl

-- ---- it stands for the state

stands_grown : (kept new : Kept) (s t : State) → StandsFor kept s → IsFront kept new → new.levels ≡ kept.levels → t.below ≡ s.below → new.scope ≡ scope_of t.context → new.nodes ≡ t.context.nodes → new.roots ≡ t.context.roots → new.labels ≡ t.labels → AssumedStands new new.assumed t.assumed → new.mode ≡ t.mode → new.print_success ≡ t.print_success → StandsFor new t
stands_grown kept new s t h front same_levels same_below scope nodes roots labels assumed m print = record {
  scope = scope;
  nodes = nodes;
  roots = roots;
  labels = labels;
  assumed = assumed;
  levels = subst (λ (levels : List Level). AreLevels new levels t.below) (sym same_levels) (subst (λ (below : List Context). AreLevels new kept.levels below) (sym same_below) (levels_grown kept new kept.levels s.below front h.levels));
  ascend = rw same_levels h.ascend;
  mode = m;
  print_success = print;
}

-- what was assumed stands where the table and the roots do
pub assumed_same : (a b : Kept) → a.literals ≡ b.literals → a.scope ≡ b.scope → a.nodes ≡ b.nodes → a.roots ≡ b.roots → (active : Option Active) (assumed : Option Assumed) → AssumedStands a active assumed → AssumedStands b active assumed
assumed_same a b literals scope nodes roots None None h = tt
assumed_same a b literals scope nodes roots None (Some t) h = absurd h
assumed_same a b literals scope nodes roots (Some n) None h = absurd h
assumed_same a b literals scope nodes roots (Some n) (Some t) h = record {
  literals = ap (λ (ls : List (List ℕ × Bool)). items_of (map sexpr_of ls)) (sym literals) ∙ h.literals;
  scope = sym scope ∙ h.scope;
  nodes = h.nodes ∙ ap (take n.nodes) nodes;
  roots = h.roots ∙ ap (take n.roots) roots;
}

pub stands_forgotten : (kept : Kept) (s : State) → StandsFor kept s → StandsFor (record kept { mode = mode.Nothing; assumed = None }) (record s { mode = mode.Nothing; assumed = None })
stands_forgotten kept s h =
    stands_grown kept (record kept { mode = mode.Nothing; assumed = None }) s (record s { mode = mode.Nothing; assumed = None }) h (front_mode kept mode.Nothing None kept.print_success kept.levels) refl refl h.scope h.nodes h.roots h.labels tt refl h.print_success

pub stands_mode : (kept : Kept) (s : State) (m : Mode) → StandsFor kept s → StandsFor (record kept { mode = m }) (record s { mode = m })
stands_mode kept s m h =
    stands_grown kept (record kept { mode = m }) s (record s { mode = m }) h (front_mode kept m kept.assumed kept.print_success kept.levels) refl refl h.scope h.nodes h.roots h.labels
    (assumed_same kept (record kept { mode = m }) refl refl refl refl kept.assumed s.assumed h.assumed) refl h.print_success

pub stands_printing : (kept : Kept) (s : State) (on : Bool) → StandsFor kept s → StandsFor (record kept { print_success = on }) (record s { print_success = on })
stands_printing kept s on h = stands_grown kept (record kept { print_success = on }) s (record s { print_success = on }) h (front_mode kept kept.mode kept.assumed on kept.levels) refl refl h.scope h.nodes h.roots h.labels
    (assumed_same kept (record kept { print_success = on }) refl refl refl refl kept.assumed s.assumed h.assumed) h.mode refl

map_added : (ds : List Definition) (d : Definition) → map binding_of (ds ++ d ∷ []) ≡ map binding_of ds ++ binding_of d ∷ []
map_added [] d = refl
map_added (e ∷ ds) d = ap (λ (bs : List Binding). binding_of e ∷ bs) (map_added ds d)

bound_added : (scope : Scope) (c : Context) (d : Definition) → scope ≡ scope_of c → ◌≡◌ {A = Scope} (record { declared = scope.declared; bound = scope.bound ++ binding_of d ∷ [] }) (record { declared = c.declared; bound = map binding_of (c.defined ++ d ∷ []) })
bound_added scope c d e =
    ap (λ (sc : Scope). record { declared = sc.declared; bound = sc.bound ++ binding_of d ∷ [] }) e
    ∙ ap (λ (bs : List Binding). record { declared = c.declared; bound = bs }) (sym (map_added c.defined d))

module _ (kept : Kept) (s : State) (h : StandsFor kept s) where
  pub stands_declared : (name : List ℕ) (sort : Sort) → StandsFor (declared_in kept name sort) (record s { context = with_declaration s.context name sort; mode = mode.Nothing; assumed = None })
  stands_declared name sort =
      stands_grown kept (declared_in kept name sort) s (record s { context = with_declaration s.context name sort; mode = mode.Nothing; assumed = None }) h (front_declared kept name sort) refl refl
      (ap (λ (sc : Scope). record { declared = sc.declared ++ record { name = name; sort = sort } ∷ []; bound = sc.bound }) h.scope) h.nodes h.roots h.labels tt refl h.print_success

  pub stands_defined : (name : List ℕ) (t : Sexpr) (made : Made) → take (length kept.nodes) made.nodes ≡ kept.nodes → StandsFor (defined_in kept made.nodes name made.is) (record s { context = with_definition s.context name t made; mode = mode.Nothing; assumed = None })
  stands_defined name t made front =
      stands_grown kept (defined_in kept made.nodes name made.is) s (record s { context = with_definition s.context name t made; mode = mode.Nothing; assumed = None }) h (front_defined kept made.nodes name made.is front) refl refl
      (bound_added kept.scope s.context (record { name = name; term = t; stands = made.is }) h.scope) refl h.roots h.labels tt refl h.print_success

  pub stands_asserted : (t : Sexpr) (nodes : List NodeValue) (root : ℕ) → take (length kept.nodes) nodes ≡ kept.nodes → StandsFor (asserted_in kept nodes root) (record s { context = with_assertion s.context t nodes root; labels = s.labels ++ None ∷ []; mode = mode.Nothing; assumed = None })
  stands_asserted t nodes root front =
      stands_grown kept (asserted_in kept nodes root) s (record s { context = with_assertion s.context t nodes root; labels = s.labels ++ None ∷ []; mode = mode.Nothing; assumed = None }) h (front_asserted kept nodes root front) refl refl
      h.scope refl (ap (λ (ks : List ℕ). ks ++ root ∷ []) h.roots) (ap (λ (ls : List (Option (List ℕ))). ls ++ None ∷ []) h.labels) tt refl h.print_success

  pub stands_named : (t : Sexpr) (nodes : List NodeValue) (root : ℕ) (name : List ℕ) → take (length kept.nodes) nodes ≡ kept.nodes
      → StandsFor (named_in kept nodes root name) (record s { context = with_definition (with_assertion s.context t nodes root) name t (record { nodes = nodes; is = formula root }); labels = s.labels ++ Some name ∷ []; mode = mode.Nothing; assumed = None })
  stands_named t nodes root name front =
      stands_grown kept (named_in kept nodes root name) s (record s { context = with_definition (with_assertion s.context t nodes root) name t (record { nodes = nodes; is = formula root }); labels = s.labels ++ Some name ∷ []; mode = mode.Nothing; assumed = None }) h (front_named kept nodes root name front) refl refl
      (bound_added kept.scope s.context (record { name = name; term = t; stands = formula root }) h.scope) refl (ap (λ (ks : List ℕ). ks ++ root ∷ []) h.roots) (ap (λ (ls : List (Option (List ℕ))). ls ++ Some name ∷ []) h.labels) tt refl h.print_success

  pub stands_pushed : (n : ℕ) → IsKept kept → StandsFor (pushed_in kept n) (record s { below = s.below ++ replicate n s.context; mode = mode.Nothing; assumed = None })
  stands_pushed n sound =
      let levels = kept.levels ++ replicate n (amount_of kept) in
      let below = s.below ++ replicate n s.context in
      record {
        scope = h.scope;
        nodes = h.nodes;
        roots = h.roots;
        labels = h.labels;
        assumed = tt;
        levels = levels_grown kept (pushed_in kept n) levels below (front_mode kept mode.Nothing None kept.print_success levels) (levels_pushed kept kept.levels s.below n (amount_of kept) s.context h.levels (level_now kept s.context h.scope h.nodes h.roots));
        ascend = ascend_front levels (amount_of kept) (ascend_pushed kept.levels n (amount_of kept) sound.ascend);
        mode = refl;
        print_success = h.print_success;
      }

  pub stands_popped : (n i : ℕ) (level : Level) → IsKept kept → i ≡ length s.below - n → slice_get kept.levels i ≡ Some level → StandsFor (cut_to kept i level) (popped s n)
  stands_popped n i level sound is at =
      let c = level_at kept kept.levels s.below i level h.levels at in
      let within = level_within kept.levels i level (amount_of kept) at sound.ascend in
      let below = ascend_popped kept.levels i level (amount_of kept) at sound.ascend in
      let count : length (get_or s.below i s.context).roots ≡ level.roots =
      ap (λ (context : Context). length context.roots) (c.at s.context) ∙ ap (λ (roots : List ℕ). length roots) c.is.roots ∙ take_length level.roots kept.roots c.is.asserted in
      rw (← is) (record {
        scope = rw (c.at s.context) (sym c.is.scope);
        nodes = rw (c.at s.context) (sym c.is.nodes);
        roots = rw (c.at s.context) (sym c.is.roots);
        assumed = tt;
        labels = ap (take level.roots) h.labels ∙ ap (λ (m : ℕ). take m s.labels) (sym count);
        levels = levels_cut kept i level (take i kept.levels) (take i s.below) within below (levels_taken kept i kept.levels s.below h.levels);
        ascend = ascend_front (take i kept.levels) level below;
        mode = refl;
        print_success = h.print_success;
      })

get_or_end : {A : Type 0} (xs : List A) (d : A) → get_or xs (length xs) d ≡ d
get_or_end [] d = refl
get_or_end (x ∷ xs) d = get_or_end xs d

pub popped_none : (s : State) (n : ℕ) → n ≡ 0 → length s.labels ≡ length s.context.roots → popped s n ≡ record s { mode = mode.Nothing; assumed = None }
popped_none s n none labelled =
    let is : length s.below - n ≡ length s.below = omega (arith, none) in
    rw (is, get_or_end s.below s.context, take_own s.below, ← labelled, take_own s.labels) refl
