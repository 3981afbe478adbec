-- What the s-expressions of a certificate stand for, part by part, in each version. The format is this project's own:
--
--     entry    (sat v ..), (unsat item ..), (best m (v ..) item ..), (unbounded (w ..) (p ..))
--     item     (lemma (literal ..) step ..)   a lemma: its clause and its tree in preorder
--              (keep e j)                     version 2 alone: the item j, from 0, of the earlier entry e, from 1
--     step     (cycle literal ..), (input i), (lemma j), (either x y c)
--              (clash i)                      version 2 alone
--     literal  (x y c)                        x - y <= c
--     v        a number, true or false
--     m, w     a number
--     p        a numeral, above the one before it
--
-- A number is a numeral, or (- n) with n at least 1. The indices e, i and j and the points x, y and p are numerals. No number
-- and no numeral goes beyond the limit, which is another one for the values v, m and w. What has none of these forms stands
-- for nothing.
use Rattle.std.specs.Prelude.{ℕ, zero, suc, min, nat_lt, nat_le, Bool, ◌&&◌, map, ℤ, pos, negsuc, true, false, if◌then◌else◌, List, [], ◌∷◌, codes, Option, Some, None, option_map, option_and_then}
use Rattle.std.specs.Option.{option_or}
use Rattle.std.specs.Str.{bytes_eq}
use Rattle.smt_lex.specs.Numbers.{value_of}
use Rattle.smt_sexpr.specs.Shapes.{is_symbol, headed_of}
use Rattle.smt_sexpr.specs.Tree.{Sexpr, Items, leaf, list, none, more, symbol_of, numeral_of}
use Rattle.stn_core.specs.declared.literal.Literal.{Literal}
use Rattle.stn_core.specs.declared.named.NamedValue.{NamedValue}
use Rattle.stn_core.specs.declared.named.NamedValue.TheVariants.{Int, Truth}
use Rattle.refute_tree.specs.declared.step.Step.{Step}
use Rattle.refute_tree.specs.declared.step.Step.TheVariants.{Cycle, Input, Lemma as Earlier, Clash, Either}
use Rattle.refute_tree.specs.declared.lemma.Lemma.{Lemma}
use Rattle.kept_lemmas.specs.declared.item.Kept.{Kept}
use Rattle.kept_lemmas.specs.declared.item.Item.{Item}
use Rattle.kept_lemmas.specs.declared.item.Item.TheVariants.{Own, Keep}
use Rattle.cert_text.specs.declared.entry.Version.{Version}
use Rattle.cert_text.specs.declared.entry.Version.TheVariants.{One, Two}
use Rattle.cert_text.specs.declared.entry.FileEntry.{FileEntry}
use Rattle.cert_text.specs.declared.entry.FileEntry.TheVariants.{Sat, Unsat, Best, Unbounded}
pub use Rattle.cert_text.specs.Limits.{limit}
use Rattle.stn_core.specs.Limits.{named_value_limit}

-- ---- numbers

abbrev pub limited : ℕ → ℕ → Option ℕ
limited most n = if nat_le n most then Some n else None

-- the value of a numeral, where it is at most so much
abbrev pub numeral_within : ℕ → Sexpr → Option ℕ
numeral_within most x = option_and_then (limited most) (option_map value_of (numeral_of x))

-- the value of a numeral within the limit
abbrev pub index_of : Sexpr → Option ℕ
index_of x = numeral_within limit x

-- A time point. No problem has the greatest one, 2^32 - 1, so it can stand for all that are greater.
abbrev pub point_of : Sexpr → Option ℕ
point_of x = option_map (λ n. min n 4294967295) (index_of x)

abbrev pub negative : ℕ → Option ℤ
negative zero = None
negative (suc n) = Some (negsuc n)

abbrev pub negative_within : ℕ → Sexpr → Option ℤ
negative_within most (list (more head (more digits none))) = if is_symbol (codes "-") head then option_and_then negative (numeral_within most digits) else None
negative_within most _ = None

-- a number that is at most so much, and its negative too
abbrev pub number_within : ℕ → Sexpr → Option ℤ
number_within most x = option_or (option_map pos (numeral_within most x)) (negative_within most x)

-- a literal's bound
abbrev pub number_of : Sexpr → Option ℤ
number_of x = number_within limit x

-- the value of a name of sort Int, of a term, and of a time point
abbrev pub whole_of : Sexpr → Option ℤ
whole_of x = number_within named_value_limit x

-- ---- lists

abbrev pub put : {A : Type 0} → Option A → Option (List A) → Option (List A)
put (Some x) (Some xs) = Some (x ∷ xs)
put _ _ = None

-- what the items stand for, where each stands for something
abbrev pub each_of : {A : Type 0} → (Sexpr → Option A) → Items → Option (List A)
each_of f none = Some []
each_of f (more x xs) = put (f x) (each_of f xs)

-- ---- the parts of an entry

abbrev pub literal_with : Option ℕ → Option ℕ → Option ℤ → Option Literal
literal_with (Some x) (Some y) (Some c) = Some (record { x = x; y = y; c = c })
literal_with _ _ _ = None

-- x, y and c
abbrev pub bound_of : Items → Option Literal
bound_of (more x (more y (more c none))) = literal_with (point_of x) (point_of y) (number_of c)
bound_of _ = None

abbrev pub literal_of : Sexpr → Option Literal
literal_of (leaf _ _) = None
literal_of (list xs) = bound_of xs

abbrev pub clause_of : Sexpr → Option (List Literal)
clause_of (leaf _ _) = None
clause_of (list xs) = each_of literal_of xs

-- an index alone
abbrev pub single_of : Items → Option ℕ
single_of (more x none) = index_of x
single_of _ = None

-- what only version 2 has
abbrev pub only_in_two : {A : Type 0} → Version → Option A → Option A
only_in_two One o = None
only_in_two Two o = o

abbrev pub step_named : Version → List ℕ → Items → Option Step
step_named version name xs =
    if bytes_eq name (codes "cycle") then option_map Cycle (each_of literal_of xs)
    else (if bytes_eq name (codes "input") then option_map Input (single_of xs)
    else (if bytes_eq name (codes "lemma") then option_map Earlier (single_of xs)
    else (if bytes_eq name (codes "clash") then option_map Clash (only_in_two version (single_of xs))
    else (if bytes_eq name (codes "either") then option_map Either (bound_of xs)
    else None))))

abbrev pub step_of : Version → Sexpr → Option Step
step_of version x = option_and_then (λ (p : List ℕ × Items). step_named version p.0 p.1) (headed_of x)

abbrev pub lemma_with : Option (List Literal) → Option (List Step) → Option Lemma
lemma_with (Some clause) (Some steps) = Some (record { clause = clause; steps = steps })
lemma_with _ _ = None

-- a clause, and the steps behind it
abbrev pub lemma_from : Version → Items → Option Lemma
lemma_from version none = None
lemma_from version (more clause steps) = lemma_with (clause_of clause) (each_of (step_of version) steps)

abbrev pub kept_with : Option ℕ → Option ℕ → Option Kept
kept_with (Some entry) (Some item) = Some (record { entry = entry; item = item })
kept_with _ _ = None

-- e and j
abbrev pub kept_from : Items → Option Kept
kept_from (more entry (more item none)) = kept_with (index_of entry) (index_of item)
kept_from _ = None

abbrev pub item_named : Version → List ℕ → Items → Option Item
item_named version name xs =
    if bytes_eq name (codes "lemma") then option_map Own (lemma_from version xs)
    else (if bytes_eq name (codes "keep") then option_map Keep (only_in_two version (kept_from xs))
    else None)

abbrev pub item_of : Version → Sexpr → Option Item
item_of version x = option_and_then (λ (p : List ℕ × Items). item_named version p.0 p.1) (headed_of x)

abbrev pub truth_named : List ℕ → Option NamedValue
truth_named name =
    if bytes_eq name (codes "true") then Some (Truth true)
    else (if bytes_eq name (codes "false") then Some (Truth false)
    else None)

abbrev pub named_value_of : Sexpr → Option NamedValue
named_value_of x = option_or (option_map Int (whole_of x)) (option_and_then truth_named (symbol_of x))

-- the values of the names, in a list
abbrev pub values_of : Sexpr → Option (List NamedValue)
values_of (leaf _ _) = None
values_of (list xs) = each_of named_value_of xs

-- the values of the time points, in a list
abbrev pub schedule_of : Sexpr → Option (List ℤ)
schedule_of (leaf _ _) = None
schedule_of (list xs) = each_of whole_of xs

-- whether each number is above the one before it, and the first above this one
abbrev pub ascends_from : ℕ → List ℕ → Bool
ascends_from n [] = true
ascends_from n (m ∷ ms) = nat_lt n m && ascends_from m ms

abbrev pub ascends : List ℕ → Bool
ascends [] = true
ascends (n ∷ ns) = ascends_from n ns

-- numbers that ascend as they are written, as time points
abbrev pub ascending : List ℕ → Option (List ℕ)
ascending ns = if ascends ns then Some (map (λ n. min n 4294967295) ns) else None

abbrev pub points_of : Sexpr → Option (List ℕ)
points_of (leaf _ _) = None
points_of (list xs) = option_and_then ascending (each_of index_of xs)

abbrev pub best_with : Option ℤ → Option (List NamedValue) → Option (List Item) → Option FileEntry
best_with (Some m) (Some values) (Some items) = Some (Best m values items)
best_with _ _ _ = None

-- m, the values of the names, and the items
abbrev pub best_from : Version → Items → Option FileEntry
best_from version (more m (more values items)) = best_with (whole_of m) (values_of values) (each_of (item_of version) items)
best_from version _ = None

abbrev pub unbounded_with : Option (List ℤ) → Option (List ℕ) → Option FileEntry
unbounded_with (Some values) (Some points) = Some (Unbounded values points)
unbounded_with _ _ = None

-- the values of the time points, and the points
abbrev pub unbounded_from : Items → Option FileEntry
unbounded_from (more values (more points none)) = unbounded_with (schedule_of values) (points_of points)
unbounded_from _ = None

abbrev pub entry_named : Version → List ℕ → Items → Option FileEntry
entry_named version name xs =
    if bytes_eq name (codes "sat") then option_map Sat (each_of named_value_of xs)
    else (if bytes_eq name (codes "unsat") then option_map Unsat (each_of (item_of version) xs)
    else (if bytes_eq name (codes "best") then best_from version xs
    else (if bytes_eq name (codes "unbounded") then unbounded_from xs
    else None)))

abbrev pub entry_of : Version → Sexpr → Option FileEntry
entry_of version x = option_and_then (λ (p : List ℕ × Items). entry_named version p.0 p.1) (headed_of x)
