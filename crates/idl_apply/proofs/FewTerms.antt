-- Sums of terms without conditions, and the only pair of two terms.
use Rattle.std.proofs.Common.{refl, ap, sym, subst, arith, ◌∙◌, ◌≡◌, ◌*◌, ◌&&◌, ℕ, List, [], ◌∷◌, ◌++◌, map, Bool, true, false, Some, append_assoc, Bor}
use Rattle.std.specs.Prelude.{Result, Ok, Err, if◌then◌else◌}
use Rattle.std.proofs.lemmas.List.{append-nil}
use Rattle.idl_linear.specs.Linear.{LinearValue, is_limited}
use Rattle.idl_node.specs.Making.{conjoined}
use Rattle.idl_node.specs.Nodes.{NodeValue, Placed}
use Rattle.idl_cases.specs.Guarded.{CaseValue, plain, plain_linear, unguarded}
use Rattle.idl_apply.specs.Applied.{a_number, as_number, linear_sum, sum_case, summed}
use Rattle.idl_apply.specs.code.Applying.{Sums, SumsTerms}
use Rattle.idl_apply.specs.Choices.{choices_from, count_from, only_choice, where_few}
use Rattle.idl_apply.specs.Comparing.{all_compared, cases_compared, follows, or_too_large}
use Rattle.idl_apply.specs.declared.comparing.Relation.{Relation}
use Rattle.idl_apply.specs.declared.comparing.Relation.TheVariants.{AtMost, Less, AtLeast, Greater, Equal, Distinct}
use Rattle.idl_apply.specs.declared.error.TermError.{TermError}
use Rattle.idl_apply.specs.declared.error.TermError.TheVariants.{OutOfMemory, Refused}
use Rattle.idl_apply.specs.declared.error.TermRefusal.{TermRefusal}
use Rattle.idl_apply.specs.declared.error.TermRefusal.TheVariants.{BoundTooLarge}
use Rattle.idl_apply.specs.declared.operator.Sign.{Sign}
use Rattle.idl_apply.proofs.Arguments.{seen}

-- ---- terms without conditions

once : (k : ℕ) → k * 1 ≡ k
once k = omega arith

plain_count : (k : ℕ) (ls : List LinearValue) → count_from k (map plain ls) ≡ k
plain_count k [] = refl
plain_count k (l ∷ ls) = ap (λ (n : ℕ). count_from n (map plain ls)) (once k) ∙ plain_count k ls

plain_choices : (so_far ls : List LinearValue) → choices_from (only_choice so_far) (map plain ls) ≡ only_choice (so_far ++ ls)
plain_choices so_far [] = ap only_choice (sym (append-nil so_far))
plain_choices so_far (l ∷ ls) = plain_choices (so_far ++ l ∷ []) ls ∙ ap only_choice (append_assoc so_far (l ∷ []) ls)

module _ (s : Sign) (ls : List LinearValue) where
  plain_summed : (nodes : List NodeValue) → summed s nodes (map plain ls) ≡ as_number nodes (plain (linear_sum s ls))
  plain_summed nodes =
      ap (λ (n : ℕ). where_few n (as_number nodes (map (sum_case s) (choices_from (only_choice []) (map plain ls))))) (plain_count 1 ls)
      ∙ ap (λ cs. as_number nodes (map (sum_case s) cs)) (plain_choices [] ls)

  limited_is : (b : Bool) (nodes : List NodeValue) → is_limited (linear_sum s ls) ≡ b → as_number nodes (plain (linear_sum s ls)) ≡ (if b then Ok (a_number nodes (plain (linear_sum s ls))) else Err BoundTooLarge)
  limited_is true nodes e = ap (λ (x : Bool). if (x && true) then Ok (a_number nodes (plain (linear_sum s ls))) else Err BoundTooLarge) e
  limited_is false nodes e = ap (λ (x : Bool). if (x && true) then Ok (a_number nodes (plain (linear_sum s ls))) else Err BoundTooLarge) e

  -- the sum, and a refusal, as those of the terms
  pub plain_made : (l : LinearValue) (cases : List CaseValue) → cases ≡ plain l → Sums (linear_sum s ls) (Ok l) → SumsTerms s (map plain ls) (Ok cases)
  plain_made l cases e h nodes =
      plain_summed nodes ∙ limited_is true nodes h.1 ∙ ap (λ (x : LinearValue). Ok (a_number nodes (plain x))) (sym h.0) ∙ ap (λ (cs : List CaseValue). Ok (a_number nodes cs)) (sym e)

  pub plain_refused : (error : TermError) → Sums (linear_sum s ls) (Err error) → SumsTerms s (map plain ls) (Err error)
  plain_refused OutOfMemory h = tt
  plain_refused (Refused why) h = λ nodes. plain_summed nodes ∙ limited_is false nodes h.1 ∙ ap (λ (w : TermRefusal). Err w) (sym h.0)

pub plain_seen : (bs : List (Bor LinearValue)) → map plain (seen bs) ≡ map (λ (b : Bor LinearValue). plain b.now) bs
plain_seen [] = refl
plain_seen (b ∷ bs) = ap (λ (ts : List (List CaseValue)). plain b.now ∷ ts) (plain_seen bs)

-- ---- what has no conditions

abbrev plain_of : List ℕ → LinearValue → List CaseValue
plain_of guards l = record { guards = guards; linear = l } ∷ []

unguarded_is : (guards : List ℕ) (l m : LinearValue) → unguarded guards l ≡ Some m → plain_of guards l ≡ plain m
unguarded_is [] l m e =
    let same : l ≡ m = cc in
    ap plain same
unguarded_is (g ∷ guards) l m e = absurd cc

plain_is : (cases : List CaseValue) (l : LinearValue) → plain_linear cases ≡ Some l → cases ≡ plain l
plain_is [] l e = absurd cc
plain_is (case ∷ []) l e = unguarded_is case.guards case.linear l e
plain_is (case ∷ other ∷ cases) l e = absurd cc

-- the sum of two of them
pub two_plain : (s : Sign) (first second : List CaseValue) (a b : LinearValue) (result : Result (List CaseValue) TermError) → plain_linear first ≡ Some a → plain_linear second ≡ Some b
    → SumsTerms s (plain a ∷ plain b ∷ []) result → SumsTerms s (first ∷ second ∷ []) result
two_plain s first second a b result e f h =
    subst (λ (cases : List CaseValue). SumsTerms s (cases ∷ second ∷ []) result) (sym (plain_is first a e))
    (subst (λ (cases : List CaseValue). SumsTerms s (plain a ∷ cases ∷ []) result) (sym (plain_is second b f)) h)

-- ---- two terms
