-- What the items of an entry of a least value stand for, and those of one of a term that has none.
use Rattle.std.proofs.Common.{◌≡◌, ◌≢◌, ◌∙◌, refl, ap, ℕ, ℤ, List, Option, Some, None}
use Rattle.smt_sexpr.specs.Tree.{Sexpr, Items, none, more}
use Rattle.stn_core.specs.declared.named.NamedValue.{NamedValue}
use Rattle.kept_lemmas.specs.declared.item.Item.{Item}
use Rattle.cert_text.specs.declared.entry.Version.{Version}
use Rattle.cert_text.specs.declared.entry.FileEntry.TheVariants.{Best, Unbounded}
use Rattle.cert_read.specs.Parts.{each_of, item_of, whole_of, values_of, schedule_of, points_of, best_with, best_from, unbounded_with, unbounded_from}
use Rattle.cert_read.specs.code.Lines.{HasNoFirst}

-- ---- a least value

without_values : (o : Option ℤ) (q : Option (List Item)) → best_with o None q ≡ None
without_values None q = refl
without_values (Some m) q = refl

without_items : (o : Option ℤ) (p : Option (List NamedValue)) → best_with o p None ≡ None
without_items None p = refl
without_items (Some m) None = refl
without_items (Some m) (Some values) = refl

module _ (version : Version) where
  pub best_is : (first second : Sexpr) (xs : Items) (m : ℤ) (values : List NamedValue) (items : List Item) → whole_of first ≡ Some m → values_of second ≡ Some values → each_of (item_of version) xs ≡ Some items → best_from version (more first (more second xs)) ≡ Some (Best m values items)
  best_is first second xs m values items a b c =
      ap (λ (o : Option ℤ). best_with o (values_of second) (each_of (item_of version) xs)) a
      ∙ ap (λ (o : Option (List NamedValue)). best_with (Some m) o (each_of (item_of version) xs)) b
      ∙ ap (best_with (Some m) (Some values)) c

  pub best_no_value : (xs : Items) → HasNoFirst whole_of xs → best_from version xs ≡ None
  best_no_value none h = refl
  best_no_value (more first none) h = refl
  best_no_value (more first (more second xs)) h = ap (λ (o : Option ℤ). best_with o (values_of second) (each_of (item_of version) xs)) h

  pub best_no_values : (first : Sexpr) (xs : Items) → HasNoFirst values_of xs → best_from version (more first xs) ≡ None
  best_no_values first none h = refl
  best_no_values first (more second xs) h =
      ap (λ (o : Option (List NamedValue)). best_with (whole_of first) o (each_of (item_of version) xs)) h ∙ without_values (whole_of first) (each_of (item_of version) xs)

  pub best_no_items : (first second : Sexpr) (xs : Items) → each_of (item_of version) xs ≡ None → best_from version (more first (more second xs)) ≡ None
  best_no_items first second xs h = ap (best_with (whole_of first) (values_of second)) h ∙ without_items (whole_of first) (values_of second)

-- ---- none

without_points : (o : Option (List ℤ)) → unbounded_with o None ≡ None
without_points None = refl
without_points (Some values) = refl

pub unbounded_is : (first second : Sexpr) (values : List ℤ) (points : List ℕ) → schedule_of first ≡ Some values → points_of second ≡ Some points → unbounded_from (more first (more second none)) ≡ Some (Unbounded values points)
unbounded_is first second values points a b =
    ap (λ (o : Option (List ℤ)). unbounded_with o (points_of second)) a ∙ ap (unbounded_with (Some values)) b

pub unbounded_no_values : (xs : Items) → HasNoFirst schedule_of xs → unbounded_from xs ≡ None
unbounded_no_values none h = refl
unbounded_no_values (more first none) h = refl
unbounded_no_values (more first (more second none)) h = ap (λ (o : Option (List ℤ)). unbounded_with o (points_of second)) h
unbounded_no_values (more first (more second (more x xs))) h = refl

pub unbounded_no_points : (first : Sexpr) (xs : Items) → HasNoFirst points_of xs → unbounded_from (more first xs) ≡ None
unbounded_no_points first none h = refl
unbounded_no_points first (more second none) h = ap (unbounded_with (schedule_of first)) h ∙ without_points (schedule_of first)
unbounded_no_points first (more second (more x xs)) h = refl

pub unbounded_more : (first second : Sexpr) (xs : Items) → xs ≢ none → unbounded_from (more first (more second xs)) ≡ None
unbounded_more first second none h = absurd (h refl)
unbounded_more first second (more x xs) h = refl
