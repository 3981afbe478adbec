-- What the ids of some items say of the items.
use Rattle.std.proofs.Common.{refl, sym, ap, arith, ◌∙◌, ◌≡◌, ◌<◌, ◌≤◌, ◌^◌, ℕ, List, [], ◌∷◌, length, Option, Some, None, Ok, false, ◌==◌, Bor}
use Rattle.std.specs.Prelude.{IfSome, IsNone}
use Rattle.smt_sexpr.specs.Tree.{Sexpr, Items, list, none, more, symbol_of}
use Rattle.smt_sexpr.specs.Table.{Table, MeansEach}
use Rattle.smt_sexpr.proofs.Shapes.{begun}
use Rattle.smt_script.specs.Commands.{declaring, defining, with_name, function_command, definition_command, annotation_in, annotated, annotation_command, assertion_by, assertion_command, asserting, values_of, values_command, asking_values}
use Rattle.smt_script.specs.Attributes.{Named, named_in}
use Rattle.smt_script.specs.code.Shapes.{AnnotationIs, CountIs}

-- ---- numbers of levels

pub count_is : (count : Option ℕ) (m : ℕ) → IfSome count (λ n. (n ≡ m) × (m < 2 ^ 64)) → (IsNone count → 2 ^ 64 ≤ m) → CountIs count m
count_is (Some n) m some nothing = sym some.0
count_is None m some nothing = nothing refl

-- ---- signatures

pub function_is : (n p sort : Sexpr) (parameters : Items) (name : List ℕ) → p ≡ list parameters → symbol_of n ≡ Some name → function_command (more n (more p (more sort none))) ≡ Ok (declaring name parameters sort)
function_is n p sort parameters name is e =
    ap (λ (q : Sexpr). function_command (more n (more q (more sort none)))) is ∙ ap (λ (text : Option (List ℕ)). with_name text (λ m. declaring m parameters sort)) e

pub definition_is : (n p sort x : Sexpr) (parameters : Items) (name : List ℕ) → p ≡ list parameters → symbol_of n ≡ Some name → definition_command (more n (more p (more sort (more x none)))) ≡ Ok (defining name parameters sort x)
definition_is n p sort x parameters name is e =
    ap (λ (q : Sexpr). definition_command (more n (more q (more sort (more x none))))) is ∙ ap (λ (text : Option (List ℕ)). with_name text (λ m. defining m parameters sort x)) e

-- ---- annotations

pub some_of : (ids : List ℕ) → false ≡ (length ids == 0) → 1 ≤ length ids
some_of [] e = absurd cc
some_of (id ∷ ids) e = omega arith

annotated_by : (xs : Items) (x : Sexpr) (attributes : Items) (first : Sexpr) (others : Items) (named : Option Named) → xs ≡ more x attributes → attributes ≡ more first others → named_in attributes ≡ named → annotation_command xs ≡ annotated x named
annotated_by xs x attributes first others named is begins e =
    ap annotation_command (is ∙ ap (more x) begins) ∙ ap (annotated x) (ap named_in (sym begins) ∙ e)

pub annotated_is : (t : Table) (ids : List ℕ) (xs : Items) (x : Sexpr) (attributes : Items) (named : Option Named) → xs ≡ more x attributes → MeansEach t ids attributes → false ≡ (length ids == 0) → named_in attributes ≡ named → annotation_command xs ≡ annotated x named
annotated_is t ids xs x attributes named is means some e =
    let p = begun t ids attributes means (some_of ids some) in
    annotated_by xs x attributes p.first p.others named is p.is e

-- an asserted term that has no annotation, or one
plain_by : (t : Table) (x : Sexpr) (annotation : Option Items) → AnnotationIs t annotation None → assertion_by x annotation ≡ Ok (asserting x)
plain_by t x None h = refl
plain_by t x (Some items) h = absurd h

pub plain_is : (t : Table) (x : Sexpr) → AnnotationIs t (annotation_in x) None → assertion_command (more x none) ≡ Ok (asserting x)
plain_is t x h = plain_by t x (annotation_in x) h

pub record IsAnnotated (t : Table) (x : Sexpr) (ids : List ℕ) : Type 0 where
  pub items : Items
  pub means : MeansEach t ids items
  pub is : assertion_command (more x none) ≡ annotation_command items

annotation_from : (t : Table) (x : Sexpr) (ids : Bor (List ℕ)) (annotation : Option Items) → annotation_in x ≡ annotation → AnnotationIs t annotation (Some ids) → IsAnnotated t x ids.now
annotation_from t x ids None e h = absurd h
annotation_from t x ids (Some items) e h = record { items = items; means = h; is = ap (assertion_by x) e }

pub annotation_of : (t : Table) (x : Sexpr) (ids : Bor (List ℕ)) → AnnotationIs t (annotation_in x) (Some ids) → IsAnnotated t x ids.now
annotation_of t x ids h = annotation_from t x ids (annotation_in x) refl h

-- ---- the terms of a `get-value`

values_by : (xs items : Items) (first x : Sexpr) (others : Items) → xs ≡ more first none → first ≡ list items → items ≡ more x others → values_command xs ≡ Ok (asking_values items)
values_by xs items first x others is listed begins =
    ap values_command (is ∙ ap (λ (y : Sexpr). more y none) listed) ∙ ap values_of begins ∙ ap (λ (terms : Items). Ok (asking_values terms)) (sym begins)

pub values_is : (t : Table) (ids : List ℕ) (xs items : Items) (first : Sexpr) → xs ≡ more first none → first ≡ list items → MeansEach t ids items → 1 ≤ length ids → values_command xs ≡ Ok (asking_values items)
values_is t ids xs items first is listed means some =
    let p = begun t ids items means some in
    values_by xs items first p.first p.others is listed p.is
