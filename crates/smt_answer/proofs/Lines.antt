-- The lines of a model, one after the other.
use Rattle.std.proofs.Common.{sym, ap, ◌∙◌, ◌≡◌, ◌<◌, ◌+◌, ℕ, List, [], ◌++◌, ◌∷◌, length, drop, get_or, Some, pos}
use Rattle.std.specs.Prelude.{slice_get}
use Rattle.std.proofs.lemmas.List.{append_assoc, drop_more, get_or-map}
use Rattle.std.proofs.lemmas.Option.{get_or_from_slice_get}
use Rattle.stn_core.specs.declared.named.NamedValue.{NamedValue}
use Rattle.stn_core.specs.declared.named.NamedValue.TheVariants as named
use Rattle.idl_node.specs.declared.sort.Sort.{Sort}
use Rattle.idl_node.specs.declared.sort.Sort.TheVariants as sort
use Rattle.idl_scope.specs.code.Kept.{names_of}
use Rattle.idl_scope.specs.Scopes.{Declaration, sorts_of}
use Rattle.smt_answer.specs.Texts.{definition_line, definition_lines}

abbrev pub no_name : Declaration
no_name = record { name = []; sort = sort.Int }

abbrev pub no_value : NamedValue
no_value = named.Int (pos 0)

declaration_is : (d : Declaration) (name : List ℕ) (s : Sort) → d.name ≡ name → d.sort ≡ s → d ≡ record { name = name; sort = s }
declaration_is d name s e f =
    let of_both : List ℕ → Sort → Declaration = λ n k. record { name = n; sort = k } in
    ap (λ (n : List ℕ). of_both n d.sort) e ∙ ap (of_both name) f

module _ (names : List Declaration) (values : List NamedValue) (i : ℕ) (in_names : i < length names) (in_values : i < length values) where
  pub lines_more : (name : List ℕ) (s : Sort) (v : NamedValue) → slice_get (names_of names) i ≡ Some name → s ≡ get_or (sorts_of names) i sort.Int → v ≡ get_or values i no_value
      → definition_lines (drop i names) (drop i values) ≡ definition_line (record { name = name; sort = s }) v ++ definition_lines (drop (i + 1) names) (drop (i + 1) values)
  lines_more name s v is_name is_sort is_value =
      let named : (get_or names i no_name).name ≡ name = sym (get_or-map (λ (d : Declaration). d.name) names i no_name [] in_names) ∙ get_or_from_slice_get (names_of names) i name [] is_name in
      let sorted : (get_or names i no_name).sort ≡ s = sym (get_or-map (λ (d : Declaration). d.sort) names i no_name sort.Int in_names) ∙ sym is_sort in
      let first : get_or names i no_name ≡ record { name = name; sort = s } = declaration_is (get_or names i no_name) name s named sorted in
      ap (λ (ds : List Declaration). definition_lines ds (drop i values)) (drop_more names i no_name in_names ∙ ap (λ (d : Declaration). d ∷ drop (i + 1) names) first)
      ∙ ap (λ (vs : List NamedValue). definition_lines (record { name = name; sort = s } ∷ drop (i + 1) names) vs) (drop_more values i no_value in_values ∙ ap (λ (w : NamedValue). w ∷ drop (i + 1) values) (sym is_value))

-- one line more is written
pub line_written : (out now line rest all start : List ℕ) → now ≡ out ++ line → out ++ all ≡ start → all ≡ line ++ rest → now ++ rest ≡ start
line_written out now line rest all start e h is =
    ap (λ (t : List ℕ). t ++ rest) e ∙ append_assoc out line rest ∙ ap (λ (t : List ℕ). out ++ t) (sym is) ∙ h
