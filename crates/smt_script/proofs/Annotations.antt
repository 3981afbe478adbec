-- The attributes of a term, item by item.
use Rattle.std.proofs.Common.{refl, sym, ap, ◌∙◌, ◌≡◌, ◌≢◌, ◌<◌, ◌+◌, ℕ, List, [], length, drop, get_or, Bool, true, false, Option, Some, None, Ok, Err}
use Rattle.std.specs.Prelude.{codes, if◌then◌else◌}
use Rattle.std.specs.Str.{bytes_eq}
use Rattle.smt_lex.specs.declared.token.TokenKind.TheVariants.{Keyword}
use Rattle.smt_sexpr.specs.Tree.{Sexpr, Items, leaf, list, none, more, symbol_of, keyword_of}
use Rattle.smt_sexpr.specs.Table.{Table, Means, MeansEach}
use Rattle.smt_script.specs.Attributes.{Attribute, with_attribute, attributes_of, Named, unnamed, named, symbol_in, only_name, name_by, named_in}
use Rattle.smt_script.specs.code.Shapes.{named_as, may_come, named_after, shown_name, left_after, AttributeIs, AttributesAre}
use Rattle.smt_script.specs.declared.attribute.Attributes.{Attributes}
use Rattle.smt_script.specs.declared.attribute.Awaited.{Awaited}
use Rattle.smt_script.specs.declared.attribute.Awaited.TheVariants as awaited
use Rattle.smt_script.specs.declared.error.Refusal.{Refusal}
use Rattle.smt_script.specs.declared.error.Refusal.TheVariants.{IllFormedCommand}
use Rattle.smt_sexpr.proofs.Shapes.{next_of, none_of}

-- ---- the first attribute, and what is behind it

abbrev value_in : Option (List ℕ) → Sexpr → Option Sexpr
value_in None v = Some v
value_in (Some next) v = None

abbrev behind_value : Option (List ℕ) → Sexpr → Items → Items
behind_value None v rest = rest
behind_value (Some next) v rest = more v rest

attributes_step : (k v : Sexpr) (rest : Items) (test : Option (List ℕ)) → keyword_of v ≡ test
    → attributes_of (more k (more v rest)) ≡ with_attribute (keyword_of k) (value_in test v) (attributes_of (behind_value test v rest))
attributes_step k v rest None e = rw (e, attributes_of) refl
attributes_step k v rest (Some next) e = rw (e, attributes_of) refl

only_nothing : (found : Option (List ℕ)) → only_name found None ≡ None
only_nothing None = refl
only_nothing (Some name) = refl

no_name : (found : Option Named) → only_name None found ≡ None
no_name None = refl
no_name (Some unnamed) = refl
no_name (Some (named name)) = refl

-- there is one name at most
two_names : (name : List ℕ) (found : Option (List ℕ)) (rest : Option Named) → only_name (Some name) (only_name found rest) ≡ None
two_names name None rest = ap (only_name (Some name)) (no_name rest)
two_names name (Some other) None = refl
two_names name (Some other) (Some unnamed) = refl
two_names name (Some other) (Some (named third)) = refl

either_nothing : (test : Bool) (first : Option Named) → first ≡ None → (if test then first else None) ≡ None
either_nothing true first e = e
either_nothing false first e = refl

name_step : (text : List ℕ) (value : Option Sexpr) (rest : Option (List Attribute))
    → name_by (with_attribute (Some text) value rest) ≡ (if bytes_eq text (codes ":named") then only_name (symbol_in value) (name_by rest) else name_by rest)
name_step text value (Some rest) = refl
name_step text value None = sym (either_nothing (bytes_eq text (codes ":named")) _ (only_nothing (symbol_in value)))

-- ---- a name that was given before

abbrev joined : Option (List ℕ) → Option Named → Option Named
joined None found = found
joined (Some name) found = only_name (Some name) found

joined_nothing : (given : Option (List ℕ)) → joined given None ≡ None
joined_nothing None = refl
joined_nothing (Some name) = refl

joined_unnamed : (given : Option (List ℕ)) → Some (named_as given) ≡ joined given (Some unnamed)
joined_unnamed None = refl
joined_unnamed (Some name) = refl

keyword_no_symbol : (v : Sexpr) (text : List ℕ) → keyword_of v ≡ Some text → symbol_of v ≡ None
keyword_no_symbol (leaf Keyword text) name e = refl
keyword_no_symbol (leaf kind text) name e = absurd cc
keyword_no_symbol (list xs) name e = absurd cc

abbrev begun_as : Option (List ℕ) → Bool → Items → Option Named
begun_as given test xs = elim (may_come given (if test then awaited.Name else awaited.Value)) [ None ↦ None | Some w ↦ named_after w given xs ]

abbrev begun : Option (List ℕ) → List ℕ → Items → Option Named
begun given text xs = begun_as given (bytes_eq text (codes ":named")) xs

begun_other : (given : Option (List ℕ)) (text : List ℕ) (xs : Items) → bytes_eq text (codes ":named") ≡ false → begun given text xs ≡ named_after awaited.Value given xs
begun_other None text xs e = ap (λ (test : Bool). begun_as None test xs) e
begun_other (Some name) text xs e = ap (λ (test : Bool). begun_as (Some name) test xs) e

begun_again : (name text : List ℕ) (xs : Items) → bytes_eq text (codes ":named") ≡ true → begun (Some name) text xs ≡ None
begun_again name text xs e = ap (λ (test : Bool). begun_as (Some name) test xs) e

begun_name : (text : List ℕ) (xs : Items) → bytes_eq text (codes ":named") ≡ true → begun None text xs ≡ named_after awaited.Name None xs
begun_name text xs e = ap (λ (test : Bool). begun_as None test xs) e

-- ---- the items from a keyword on

-- an item where a keyword is awaited, and where a value may come
abbrev keyword_read : Option (List ℕ) → Option (List ℕ) → Items → Option Named
keyword_read given found xs = elim found [ None ↦ None | Some text ↦ begun given text xs ]

abbrev value_read : Option (List ℕ) → Option (List ℕ) → Items → Option Named
value_read given found xs = elim found [ None ↦ named_after awaited.Keyword given xs | Some text ↦ begun given text xs ]

abbrev name_read : Option (List ℕ) → Items → Option Named
name_read found xs = elim found [ None ↦ None | Some name ↦ named_after awaited.Keyword (Some name) xs ]

keyword_is : (given : Option (List ℕ)) (k : Sexpr) (xs : Items) (found : Option (List ℕ)) → keyword_of k ≡ found → named_after awaited.Keyword given (more k xs) ≡ keyword_read given found xs
keyword_is given k xs found e = ap (λ (f : Option (List ℕ)). keyword_read given f xs) e

value_is : (given : Option (List ℕ)) (v : Sexpr) (xs : Items) (found : Option (List ℕ)) → keyword_of v ≡ found → named_after awaited.Value given (more v xs) ≡ value_read given found xs
value_is given v xs found e = ap (λ (f : Option (List ℕ)). value_read given f xs) e

name_is : (v : Sexpr) (xs : Items) (found : Option (List ℕ)) → symbol_of v ≡ found → named_after awaited.Name None (more v xs) ≡ name_read found xs
name_is v xs found e = ap (λ (f : Option (List ℕ)). name_read f xs) e

attributes_one : (k : Sexpr) (found : Option (List ℕ)) → keyword_of k ≡ found → named_in (more k none) ≡ name_by (with_attribute found None (Some []))
attributes_one k found e = ap (λ (f : Option (List ℕ)). name_by (with_attribute f None (Some []))) e

abbrev IsSame : Option (List ℕ) → Items → Type 0
IsSame given xs = named_after awaited.Keyword given xs ≡ joined given (named_in xs)

-- the last item
same_one_named : (given : Option (List ℕ)) (text : List ℕ) (test : Bool) → bytes_eq text (codes ":named") ≡ test
    → begun given text none ≡ joined given (if test then only_name None (Some unnamed) else Some unnamed)
same_one_named None text true e = begun_name text none e
same_one_named (Some name) text true e = begun_again name text none e
same_one_named given text false e = begun_other given text none e ∙ joined_unnamed given

same_one_by : (given : Option (List ℕ)) (k : Sexpr) (found : Option (List ℕ)) → keyword_of k ≡ found → IsSame given (more k none)
same_one_by given k None e = keyword_is given k none None e ∙ sym (joined_nothing given) ∙ ap (joined given) (sym (attributes_one k None e))
same_one_by given k (Some text) e =
    keyword_is given k none (Some text) e
    ∙ same_one_named given text (bytes_eq text (codes ":named")) refl
    ∙ ap (joined given) (sym (attributes_one k (Some text) e))

module _ (given : Option (List ℕ)) (v : Sexpr) (rest : Items) (text : List ℕ) where
  -- behind `:named`
  named_symbol : (found : Option (List ℕ)) → symbol_of v ≡ found → ((name : List ℕ) → IsSame (Some name) rest)
      → named_after awaited.Name None (more v rest) ≡ only_name (symbol_of v) (named_in rest)
  named_symbol None e same = name_is v rest None e ∙ sym (no_name (named_in rest)) ∙ ap (λ (f : Option (List ℕ)). only_name f (named_in rest)) (sym e)
  named_symbol (Some name) e same = name_is v rest (Some name) e ∙ same name ∙ ap (λ (f : Option (List ℕ)). only_name f (named_in rest)) (sym e)

  named_value : (next : Option (List ℕ)) → keyword_of v ≡ next → ((name : List ℕ) → IsSame (Some name) rest)
      → named_after awaited.Name None (more v rest) ≡ only_name (symbol_in (value_in next v)) (named_in (behind_value next v rest))
  named_value None e same = named_symbol (symbol_of v) refl same
  named_value (Some other) e same = name_is v rest None (keyword_no_symbol v other e) ∙ sym (no_name (named_in (more v rest)))

  -- behind another keyword
  other_value : (next : Option (List ℕ)) → keyword_of v ≡ next → IsSame given rest → IsSame given (more v rest)
      → named_after awaited.Value given (more v rest) ≡ joined given (named_in (behind_value next v rest))
  other_value None e same more_same = value_is given v rest None e ∙ same
  other_value (Some other) e same more_same = value_is given v rest (Some other) e ∙ sym (keyword_is given v rest (Some other) e) ∙ more_same

abbrev Found : Option (List ℕ) → List ℕ → Sexpr → Items → Option (List ℕ) → Bool → Option Named
Found given text v rest next test =
    joined given (if test then only_name (symbol_in (value_in next v)) (named_in (behind_value next v rest)) else named_in (behind_value next v rest))

same_two_named : (given : Option (List ℕ)) (v : Sexpr) (rest : Items) (text : List ℕ) (test : Bool) → bytes_eq text (codes ":named") ≡ test
    → ((other : Option (List ℕ)) → IsSame other rest) → IsSame given (more v rest)
    → begun given text (more v rest) ≡ Found given text v rest (keyword_of v) test
same_two_named None v rest text true e same more_same = begun_name text (more v rest) e ∙ named_value None v rest text (keyword_of v) refl (λ name. same (Some name))
same_two_named (Some name) v rest text true e same more_same =
    begun_again name text (more v rest) e ∙ sym (two_names name (symbol_in (value_in (keyword_of v) v)) (named_in (behind_value (keyword_of v) v rest)))
same_two_named given v rest text false e same more_same =
    begun_other given text (more v rest) e ∙ other_value given v rest text (keyword_of v) refl (same given) more_same

same_two_by : (given : Option (List ℕ)) (k v : Sexpr) (rest : Items) (found : Option (List ℕ)) → keyword_of k ≡ found
    → ((other : Option (List ℕ)) → IsSame other rest) → IsSame given (more v rest) → IsSame given (more k (more v rest))
same_two_by given k v rest None e same more_same =
    keyword_is given k (more v rest) None e ∙ sym (joined_nothing given)
    ∙ ap (λ (found : Option (List ℕ)). joined given (name_by (with_attribute found (value_in (keyword_of v) v) (attributes_of (behind_value (keyword_of v) v rest))))) (sym e)
    ∙ ap (λ (found : Option (List Attribute)). joined given (name_by found)) (sym (attributes_step k v rest (keyword_of v) refl))
same_two_by given k v rest (Some text) e same more_same =
    keyword_is given k (more v rest) (Some text) e ∙ same_two_named given v rest text (bytes_eq text (codes ":named")) refl same more_same
    ∙ ap (joined given) (sym (name_step text (value_in (keyword_of v) v) (attributes_of (behind_value (keyword_of v) v rest))))
    ∙ ap (λ (found : Option (List ℕ)). joined given (name_by (with_attribute found (value_in (keyword_of v) v) (attributes_of (behind_value (keyword_of v) v rest))))) (sym e)
    ∙ ap (λ (found : Option (List Attribute)). joined given (name_by found)) (sym (attributes_step k v rest (keyword_of v) refl))

same : (xs : Items) (given : Option (List ℕ)) → IsSame given xs
same none given = joined_unnamed given
same (more k none) given = same_one_by given k (keyword_of k) refl
same (more k (more v rest)) given = same_two_by given k v rest (keyword_of k) refl (same rest) (same (more v rest) given)

-- what is left of the attributes leads to what they all lead to
pub record IsLeft (t : Table) (ids : List ℕ) (i : ℕ) (a : Attributes) (all : Option Named) : Type 0 where
  pub rest : Items
  pub means : MeansEach t (drop i ids) rest
  pub same : left_after a rest ≡ all

at_end : (w : Awaited) (name : Option (List ℕ)) → w ≢ awaited.Name → named_after w name none ≡ Some (named_as name)
at_end awaited.Name name other = absurd (other refl)
at_end awaited.Value name other = refl
at_end awaited.Keyword name other = refl

module _ (t : Table) (ids : List ℕ) (i : ℕ) (a : Attributes) (all : Option Named) (h : IsLeft t ids i a all) where
  pub left_more : (b : Attributes) → i < length ids → ((x : Sexpr) → Means t (get_or ids i 0) x → AttributeIs a x (Ok b)) → IsLeft t ids (i + 1) b all
  left_more b lt turn =
      let n = next_of t ids i h.rest lt h.means in
      let step : left_after a (more n.first n.others) ≡ left_after b n.others = turn n.first n.first_means n.others in
      record { rest = n.others; means = n.means; same = sym step ∙ ap (left_after a) (sym n.is) ∙ h.same }

  pub left_refused : (why : Refusal) → i < length ids → ((x : Sexpr) → Means t (get_or ids i 0) x → AttributeIs a x (Err why)) → AttributesAre all (Err why)
  left_refused why lt turn =
      let n = next_of t ids i h.rest lt h.means in
      let r = turn n.first n.first_means in
      (r.0, sym h.same ∙ ap (left_after a) n.is ∙ r.1 n.others)

  pub left_none : drop i ids ≡ [] → left_after a none ≡ all
  left_none e = ap (left_after a) (sym (none_of t ids i h.rest e h.means)) ∙ h.same

  pub name_left : drop i ids ≡ [] → a.awaited ≡ awaited.Name → AttributesAre all (Err IllFormedCommand)
  name_left e wants = (refl, sym (left_none e) ∙ ap (λ (w : Awaited). named_after w (shown_name a.name) none) wants)

  pub no_name_left : drop i ids ≡ [] → a.awaited ≢ awaited.Name → AttributesAre all (Ok a.name)
  no_name_left e other = sym (left_none e) ∙ at_end a.awaited (shown_name a.name) other

-- before the first item all is left
pub left_first : (t : Table) (ids : List ℕ) (a : Attributes) (xs : Items) → a.awaited ≡ awaited.Keyword → a.name ≡ None → MeansEach t ids xs → IsLeft t ids 0 a (named_in xs)
left_first t ids a xs e f means = record { rest = xs; means = means; same = (rw (e, f) refl) ∙ same xs None }
