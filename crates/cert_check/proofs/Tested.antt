-- All of a list pass a test, looked at one after the other.
use Rattle.std.proofs.Common.{◌≡◌, ℕ, ◌<◌, ◌+◌, List, Some, Bool, true, false, length, drop, sym, ap, ◌∙◌}
use Rattle.std.specs.Prelude.{slice_get, ◌&&◌}
use Rattle.std.specs.List.{list_all}
use Rattle.std.proofs.lemmas.List.{drop_more}
use Rattle.std.proofs.lemmas.Option.{get_or_from_slice_get}
use Rattle.stn_core.specs.declared.literal.Literal.{Literal}

module _ (test : Literal → Bool) (ls : List Literal) (k : ℕ) (x : Literal) (lt : k < length ls) (at : slice_get ls k ≡ Some x) where
  all_here : list_all test (drop k ls) ≡ test x && list_all test (drop (k + 1) ls)
  all_here = ap (list_all test) (drop_more ls k x lt) ∙ ap (λ (y : Literal). test y && list_all test (drop (k + 1) ls)) (get_or_from_slice_get ls k x x at)

  pub all_more : (b : Bool) → b ≡ test x → b ≡ true → list_all test (drop k ls) ≡ list_all test ls → list_all test (drop (k + 1) ls) ≡ list_all test ls
  all_more b is t h = sym (all_here ∙ ap (λ (y : Bool). y && list_all test (drop (k + 1) ls)) (sym is ∙ t)) ∙ h

  pub all_not : (b : Bool) → b ≡ test x → b ≡ false → list_all test (drop k ls) ≡ list_all test ls → false ≡ list_all test ls
  all_not b is f h = sym (all_here ∙ ap (λ (y : Bool). y && list_all test (drop (k + 1) ls)) (sym is ∙ f)) ∙ h
