-- What is wrong with the value and the values of a best entry, and what they show where nothing is.
use Rattle.std.proofs.Common.{refl, sym, ap, subst, arith, ◌∙◌, ◌≡◌, ◌≤◌, ℕ, List, Bool, true, false, Option, Some, None, Ok, Err, ℤ, pos, negsuc, nat_eq, FitsSigned, to_z, of_z}
use Rattle.std.specs.Int.{w128}
use Rattle.std.specs.Prelude.{◌↔◌, IsTrue, nat_le, unsigned_abs, if◌then◌else◌}
use Rattle.std.specs.Ordering.{int_eq}
use Rattle.std.proofs.lemmas.Bool.Decides.{nat_tests, Decides-int_eq, same_from_decides}
use Rattle.std.proofs.lemmas.Bool.{eqb-true}
use Rattle.std.proofs.lemmas.Int.{ints}
use Rattle.std.proofs.Math.Facts.{to_z-of_z}
use Rattle.smt_sexpr.specs.Tree.{Sexpr}
use Rattle.stn_core.specs.declared.named.NamedValue.{NamedValue}
use Rattle.best_values.specs.Widths.{objective_limit, IsWithinLimit}
use Rattle.idl_node.specs.Truth.{point_values}
use Rattle.idl_term.specs.Contexts.{Context, IsScheduleFor, environment}
use Rattle.idl_term.specs.Values.{Value, whole, truth, nothing, value}
use Rattle.smt_script.specs.Commands.{minimized}
use Rattle.smt_script.specs.declared.objective.Objective.{Objective}
use Rattle.smt_script.specs.Objectives.{objective_value, IsObjectiveOf}
use Rattle.dtp_entry.specs.Bests.{HasValue}
use Rattle.dtp_entry.specs.Entries.{difference_at}
use Rattle.dtp_check.specs.declared.judgement.EntryFlaw.{EntryFlaw}
use Rattle.dtp_check.specs.declared.judgement.EntryFlaw.TheVariants.{NotAttained, OutOfRange}
use Rattle.dtp_check.specs.MinimizeFlaws.{is_whole, is_attained, attained_flaw, range_flaw}
use Rattle.dtp_check.specs.Judged.{first_of_two, values_flaw, least_flaw}
use Rattle.dtp_check.specs.code.Asked.{IsLeastFound}

-- ---- sums

same_number : (n : ℕ) → nat_eq n n ≡ true
same_number n = grind (arith, nat_tests)

-- two `Value`s are compared by their bits
pub sum_is : (v s m : ℤ) → FitsSigned w128 s → FitsSigned w128 m → s ≡ v → (IsTrue (nat_eq (of_z w128 s) (of_z w128 m)) ↔ (v ≡ m))
sum_is v s m fs fm e = (
  λ t. sym e ∙ (sym (to_z-of_z fs) ∙ ap (to_z w128) (eqb-true (of_z w128 s) (of_z w128 m) t) ∙ to_z-of_z fm),
  λ h. ap (λ (z : ℤ). nat_eq (of_z w128 z) (of_z w128 m)) (e ∙ h) ∙ same_number (of_z w128 m),
)

pub no_sum : (v w m : ℤ) → FitsSigned w128 m → w ≡ v → (FitsSigned w128 w → ⊥) → (IsTrue false ↔ (v ≡ m))
no_sum v w m fm e none = (λ t. absurd cc, λ h. absurd (none (subst (λ (z : ℤ). FitsSigned w128 z) (sym (e ∙ h)) fm)))

-- ---- the range

range_by : (d : ℤ) (b : Bool) → nat_le (unsigned_abs d) objective_limit ≡ b → range_flaw d ≡ (if b then None else Some OutOfRange)
range_by d b e = ap (λ (t : Bool). if t then None else Some OutOfRange) e

within_by : (d : ℤ) → unsigned_abs d ≤ objective_limit → IsWithinLimit d
within_by (pos n) le = record { low = omega (arith, ints); high = omega (arith, ints) }
within_by (negsuc n) le = record { low = omega (arith, ints); high = omega (arith, ints) }

by_within : (d : ℤ) → IsWithinLimit d → unsigned_abs d ≤ objective_limit
by_within (pos n) h = let high = h.high in omega (arith, ints)
by_within (negsuc n) h = let low = h.low in omega (arith, ints)

pub in_range : (d : ℤ) → unsigned_abs d ≤ objective_limit → range_flaw d ≡ None
in_range d le = let e : nat_le (unsigned_abs d) objective_limit ≡ true = grind (arith, nat_tests) in range_by d true e

pub out_of_range : (d : ℤ) → (unsigned_abs d ≤ objective_limit → ⊥) → range_flaw d ≡ Some OutOfRange
out_of_range d none = let e : nat_le (unsigned_abs d) objective_limit ≡ false = grind (arith, nat_tests) in range_by d false e

-- a value within it is the same read back from its bits
fits_within : (d : ℤ) → IsWithinLimit d → FitsSigned w128 d
fits_within (pos n) h = let high = h.high in omega (arith, ints)
fits_within (negsuc n) h = let low = h.low in omega (arith, ints)

pub read_back : (d : ℤ) → IsWithinLimit d → to_z w128 (of_z w128 d) ≡ d
read_back d h = to_z-of_z (fits_within d h)

range_is_by : (d : ℤ) (b : Bool) → nat_le (unsigned_abs d) objective_limit ≡ b → (if b then None else Some OutOfRange) ≡ None → IsWithinLimit d
range_is_by d true e f = let le : unsigned_abs d ≤ objective_limit = grind (arith, nat_tests) in within_by d le
range_is_by d false e f = absurd cc

pub range_is : (d : ℤ) → range_flaw d ≡ None → IsWithinLimit d
range_is d e = range_is_by d (nat_le (unsigned_abs d) objective_limit) refl e

pub within_range : (d : ℤ) → IsWithinLimit d → range_flaw d ≡ None
within_range d h = in_range d (by_within d h)

-- ---- the value

whole_of : (m : ℤ) (v : Value) → is_whole m v ≡ true → v ≡ whole m
whole_of m (whole n) e = ap whole ((Decides-int_eq n m).0 e)
whole_of m (truth b) e = absurd cc
whole_of m nothing e = absurd cc

of_whole : (m : ℤ) (v : Value) → v ≡ whole m → is_whole m v ≡ true
of_whole m v e = ap (is_whole m) e ∙ (Decides-int_eq m m).1 refl

module _ (c : Context) (schedule : List NamedValue) where
  has_value : (t : Option Sexpr) (m : ℤ) → is_attained (environment c schedule) t m ≡ true → HasValue c schedule t m
  has_value (Some t) m e = whole_of m (value (environment c schedule) t) e
  has_value None m e = absurd cc

  value_had : (t : Option Sexpr) (m : ℤ) → HasValue c schedule t m → is_attained (environment c schedule) t m ≡ true
  value_had (Some t) m h = of_whole m (value (environment c schedule) t) h
  value_had None m h = absurd h

  attained_by : (t : Option Sexpr) (m : ℤ) (b : Bool) → is_attained (environment c schedule) t m ≡ b → (if b then None else Some NotAttained) ≡ None → HasValue c schedule t m
  attained_by t m true e f = has_value t m e
  attained_by t m false e f = absurd cc

  pub attained_is : (t : Option Sexpr) (m : ℤ) → attained_flaw (environment c schedule) t m ≡ None → HasValue c schedule t m
  attained_is t m e = attained_by t m (is_attained (environment c schedule) t m) refl e

  pub is_attained_so : (t : Option Sexpr) (m : ℤ) → HasValue c schedule t m → attained_flaw (environment c schedule) t m ≡ None
  is_attained_so t m h = ap (λ (b : Bool). if b then None else Some NotAttained) (value_had t m h)

  -- the code compares the objective's value
  pub attained_test : (x t : Sexpr) (o : Objective) (m : ℤ) (b : Bool) → minimized x ≡ Some t → IsObjectiveOf c t o → IsScheduleFor c schedule → (IsTrue b ↔ (objective_value (point_values schedule) o ≡ m))
      → attained_flaw (environment c schedule) (minimized x) m ≡ (if b then None else Some NotAttained)
  attained_test x t o m b is asked fits test =
      let v : ℤ = objective_value (point_values schedule) o in
      let same : int_eq v m ≡ b = same_from_decides (int_eq v m) b (Decides-int_eq v m) test in
      let found : is_attained (environment c schedule) (minimized x) m ≡ b =
      ap (λ (w : Option Sexpr). is_attained (environment c schedule) w m) is ∙ ap (is_whole m) (asked.worth schedule fits) ∙ same in
      ap (λ (t : Bool). if t then None else Some NotAttained) found

-- ---- all of it

pub neither : (a b : Option EntryFlaw) → first_of_two a b ≡ None → (a ≡ None) × (b ≡ None)
neither None b e = (refl, e)
neither (Some f) b e = absurd cc

pub none_of_two : (a b : Option EntryFlaw) → a ≡ None → b ≡ None → first_of_two a b ≡ None
none_of_two a b e f = ap (λ (o : Option EntryFlaw). first_of_two o b) e ∙ f

module _ (x : Sexpr) (o : Objective) (c : Context) (m : ℤ) (values : List NamedValue) where
  abbrev attained : Option EntryFlaw
  attained = attained_flaw (environment c values) (minimized x) m

  abbrev ranged : Option EntryFlaw
  ranged = range_flaw (difference_at o m)

  pub values_wrong : (flaw : EntryFlaw) → values_flaw c values ≡ Some flaw → IsLeastFound x o c m values (Err flaw)
  values_wrong flaw e = ap (λ (f : Option EntryFlaw). first_of_two f (first_of_two attained ranged)) e

  pub value_wrong : (flaw : EntryFlaw) → values_flaw c values ≡ None → attained ≡ Some flaw → IsLeastFound x o c m values (Err flaw)
  value_wrong flaw e f =
      ap (λ (g : Option EntryFlaw). first_of_two g (first_of_two attained ranged)) e ∙ ap (λ (g : Option EntryFlaw). first_of_two g ranged) f

  least_by : values_flaw c values ≡ None → attained ≡ None → least_flaw x o c m values ≡ ranged
  least_by e f =
      ap (λ (g : Option EntryFlaw). first_of_two g (first_of_two attained ranged)) e ∙ ap (λ (g : Option EntryFlaw). first_of_two g ranged) f

  pub range_wrong : values_flaw c values ≡ None → attained ≡ None → ranged ≡ Some OutOfRange → IsLeastFound x o c m values (Err OutOfRange)
  range_wrong e f g = least_by e f ∙ g

  pub least_found : (d : ℤ) → values_flaw c values ≡ None → attained ≡ None → ranged ≡ None → d ≡ difference_at o m → IsWithinLimit d → IsLeastFound x o c m values (Ok d)
  least_found d e f g is within = (least_by e f ∙ g, is, within)

  -- what values and a value without a flaw show
  pub record IsLeastRight : Type 0 where
    pub values_none : values_flaw c values ≡ None
    pub attains : HasValue c values (minimized x) m
    pub in_limit : IsWithinLimit (difference_at o m)

  pub least_right : least_flaw x o c m values ≡ None → IsLeastRight
  least_right e =
      let first = neither (values_flaw c values) (first_of_two attained ranged) e in
      let second = neither attained ranged first.1 in
      record {
        values_none = first.0;
        attains = attained_is c values (minimized x) m second.0;
        in_limit = range_is (difference_at o m) second.1;
      }

  pub right_least : IsLeastRight → least_flaw x o c m values ≡ None
  right_least h = least_by h.values_none (is_attained_so c values (minimized x) m h.attains) ∙ within_range (difference_at o m) h.in_limit
