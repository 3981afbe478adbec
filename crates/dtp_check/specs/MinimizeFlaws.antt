-- What is wrong with the parts of an entry of a minimize, beside a schedule and a refutation: its value, its values of the
-- time points, and its set of points. The order of the reasons is this project's own.
use Rattle.std.specs.Prelude.{ℕ, ◌+◌, List, [], ◌∷◌, length, ◌==◌, Bool, false, not, ◌&&◌, nat_lt, nat_le, if◌then◌else◌, Option, Some, None, option_map, ℤ, ◌-ℤ◌, int_le, unsigned_abs}
use Rattle.std.specs.List.{list_all, list_any}
use Rattle.std.specs.Ordering.{int_eq}
use Rattle.smt_sexpr.specs.Tree.{Sexpr}
use Rattle.stn_core.specs.declared.literal.Literal.{Literal}
use Rattle.stn_core.specs.Literal.{value_at}
use Rattle.best_values.specs.Widths.{objective_limit}
use Rattle.clause_form.specs.Polarity.{is_among}
use Rattle.idl_term.specs.Values.{Value, whole, Named, value}
use Rattle.smt_script.specs.declared.objective.Objective.{Objective}
use Rattle.dtp_check.specs.declared.judgement.EntryFlaw.{EntryFlaw}
use Rattle.dtp_check.specs.declared.judgement.EntryFlaw.TheVariants.{WrongCount, NotAttained, OutOfRange, NoSuchPoint, NotOfObjective, NotKept}

-- ---- a value

abbrev pub is_whole : ℤ → Value → Bool
is_whole m (whole n) = int_eq n m
is_whole m _ = false

-- the term has the value m where the names stand for these values
abbrev pub is_attained : List Named → Option Sexpr → ℤ → Bool
is_attained env (Some t) m = is_whole m (value env t)
is_attained env None m = false

abbrev pub attained_flaw : List Named → Option Sexpr → ℤ → Option EntryFlaw
attained_flaw env t m = if is_attained env t m then None else Some NotAttained

-- a difference of two points is no further from 0 than the limit of objectives
abbrev pub range_flaw : ℤ → Option EntryFlaw
range_flaw d = if nat_le (unsigned_abs d) objective_limit then None else Some OutOfRange

-- ---- values of the time points, and a set of points

-- the literal holds on the values, and hasn't its second point in the set and its first outside
abbrev pub is_kept : List ℤ → List ℕ → Literal → Bool
is_kept values set l =
    int_le (value_at values l.x -ℤ value_at values l.y) l.c && not (is_among l.y set && not (is_among l.x set))

-- the first clause without such a literal; the clauses are numbered from k on
abbrev pub first_not_kept : ℕ → List ℤ → List ℕ → List (List Literal) → Option ℕ
first_not_kept k values set [] = None
first_not_kept k values set (clause ∷ clauses) =
    if list_any (is_kept values set) clause then first_not_kept (k + 1) values set clauses else Some k

-- the objective's first point is in the set, and its second isn't
abbrev pub is_of_objective : Objective → List ℕ → Bool
is_of_objective o set = is_among o.x set && not (is_among o.y set)

-- The values and the set don't show that a problem of so many points and these clauses has no best value of the objective.
-- Clauses are counted from 0.
abbrev pub unbounded_flaw : Objective → ℕ → List (List Literal) → List ℤ → List ℕ → Option EntryFlaw
unbounded_flaw o points clauses values set =
    if length values == points
    then (if list_all (λ p. nat_lt p points) set
    then (if is_of_objective o set then option_map NotKept (first_not_kept 0 values set clauses) else Some NotOfObjective)
    else Some NoSuchPoint)
    else Some WrongCount
