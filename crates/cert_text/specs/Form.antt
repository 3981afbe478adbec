-- The s-expressions of a certificate, which answers the questions of a script one by one, each with values, with a
-- refutation, or with both. The format is this project's own, and has two versions:
--
--     (dtp-certificate 1)                     the header of version 1
--     (dtp-certificate 2)                     of version 2
--     (sat v ..)                              an entry: the values of the active declared names, in order
--     (unsat item ..)                         or a refutation
--     (best m (v ..) item ..)                 or a term's least value, the values of the names, and a refutation of less
--     (unbounded (w ..) (p ..))               or one value for each time point, and the points that can be lowered
--     (end)                                   behind the last entry
--
--     item     (lemma (literal ..) step ..)   a lemma: its clause and its tree in preorder
--              (keep e j)                     version 2 alone: the item j, from 0, of the earlier entry e, from 1
--     step     (cycle literal ..), (input i), (lemma j), (either x y c)
--              (clash i)                      version 2 alone
--     literal  (x y c)                        x - y <= c
--     v        a number, true or false
--     m, w     a number
--     p        a numeral
--
-- A number is a numeral, or (- n) where it is below 0. Each line holds one s-expression.
use Rattle.std.specs.Prelude.{ℕ, suc, ◌+◌, ◌==◌, ℤ, pos, negsuc, true, false, if◌then◌else◌, List, [], ◌∷◌, ◌++◌, map, codes, Option, Some, None}
use Rattle.std.specs.Int.Digits.{digits_of}
use Rattle.smt_lex.specs.declared.token.TokenKind.TheVariants.{Numeral}
use Rattle.smt_sexpr.specs.Shapes.{symbol, list_of, form}
use Rattle.smt_sexpr.specs.Tree.{Sexpr, leaf}
use Rattle.smt_sexpr.specs.Printing.{text_of}
use Rattle.stn_core.specs.declared.literal.Literal.{Literal}
use Rattle.stn_core.specs.declared.named.NamedValue.{NamedValue}
use Rattle.stn_core.specs.declared.named.NamedValue.TheVariants.{Int, Truth}
use Rattle.refute_tree.specs.declared.step.Step.{Step}
use Rattle.refute_tree.specs.declared.step.Step.TheVariants.{Cycle, Input, Lemma as Earlier, Clash, Either}
use Rattle.refute_tree.specs.declared.lemma.Lemma.{Lemma}
use Rattle.kept_lemmas.specs.declared.item.Kept.{Kept}
use Rattle.kept_lemmas.specs.declared.item.Item.{Item}
use Rattle.kept_lemmas.specs.declared.item.Item.TheVariants.{Own, Keep}
use Rattle.cert_text.specs.declared.entry.Version.{Version}
use Rattle.cert_text.specs.declared.entry.Version.TheVariants.{One, Two}
use Rattle.cert_text.specs.declared.entry.Entry.{Entry}
use Rattle.cert_text.specs.declared.entry.Entry.TheVariants.{Sat, Unsat, Best, Unbounded}
use Rattle.cert_text.specs.declared.entry.FileEntry.{FileEntry}
use Rattle.cert_text.specs.declared.entry.FileEntry.TheVariants as file

-- ---- numerals

-- the decimal digits of a number, with no leading zero; 48 is the digit 0
unfoldable pub numeral_text : ℕ → List ℕ
numeral_text n = if n == 0 then 48 ∷ [] else map (λ d. 48 + d) (digits_of 10 n)

abbrev pub numeral : ℕ → Sexpr
numeral n = leaf Numeral (numeral_text n)

-- ---- the parts of an entry

abbrev pub number_of_value : ℤ → Sexpr
number_of_value (pos n) = numeral n
number_of_value (negsuc n) = form (codes "-") (numeral (suc n) ∷ [])

-- x, y and c
abbrev pub bound_sexprs : Literal → List Sexpr
bound_sexprs l = numeral l.x ∷ numeral l.y ∷ number_of_value l.c ∷ []

abbrev pub literal_sexpr : Literal → Sexpr
literal_sexpr l = list_of (bound_sexprs l)

abbrev pub clause_sexpr : List Literal → Sexpr
clause_sexpr literals = list_of (map literal_sexpr literals)

abbrev pub step_sexpr : Step → Sexpr
step_sexpr (Cycle literals) = form (codes "cycle") (map literal_sexpr literals)
step_sexpr (Input i) = form (codes "input") (numeral i ∷ [])
step_sexpr (Earlier j) = form (codes "lemma") (numeral j ∷ [])
step_sexpr (Clash i) = form (codes "clash") (numeral i ∷ [])
step_sexpr (Either l) = form (codes "either") (bound_sexprs l)

abbrev pub lemma_sexpr : Lemma → Sexpr
lemma_sexpr lemma = form (codes "lemma") (clause_sexpr lemma.clause ∷ map step_sexpr lemma.steps)

abbrev pub kept_sexpr : Kept → Sexpr
kept_sexpr kept = form (codes "keep") (numeral kept.entry ∷ numeral kept.item ∷ [])

abbrev pub item_sexpr : Item → Sexpr
item_sexpr (Own lemma) = lemma_sexpr lemma
item_sexpr (Keep kept) = kept_sexpr kept

abbrev pub value_sexpr : NamedValue → Sexpr
value_sexpr (Int n) = number_of_value n
value_sexpr (Truth true) = symbol (codes "true")
value_sexpr (Truth false) = symbol (codes "false")

-- the values of the names, in a list
abbrev pub values_sexpr : List NamedValue → Sexpr
values_sexpr values = list_of (map value_sexpr values)

-- the values of the time points, in a list
abbrev pub schedule_sexpr : List ℤ → Sexpr
schedule_sexpr values = list_of (map number_of_value values)

abbrev pub points_sexpr : List ℕ → Sexpr
points_sexpr points = list_of (map numeral points)

-- ---- the lines

abbrev pub version_number : Version → ℕ
version_number One = 1
version_number Two = 2

abbrev pub header_sexpr : Version → Sexpr
header_sexpr version = form (codes "dtp-certificate") (numeral (version_number version) ∷ [])

abbrev pub entry_sexpr : Entry → Sexpr
entry_sexpr (Sat values) = form (codes "sat") (map value_sexpr values)
entry_sexpr (Unsat lemmas) = form (codes "unsat") (map lemma_sexpr lemmas)
entry_sexpr (Best m values lemmas) = form (codes "best") (number_of_value m ∷ values_sexpr values ∷ map lemma_sexpr lemmas)
entry_sexpr (Unbounded values points) = form (codes "unbounded") (schedule_sexpr values ∷ points_sexpr points ∷ [])

abbrev pub file_entry_sexpr : FileEntry → Sexpr
file_entry_sexpr (file.Sat values) = form (codes "sat") (map value_sexpr values)
file_entry_sexpr (file.Unsat items) = form (codes "unsat") (map item_sexpr items)
file_entry_sexpr (file.Best m values items) = form (codes "best") (number_of_value m ∷ values_sexpr values ∷ map item_sexpr items)
file_entry_sexpr (file.Unbounded values points) = form (codes "unbounded") (schedule_sexpr values ∷ points_sexpr points ∷ [])

-- what decides a question, as an entry that keeps no lemmas
abbrev pub file_entry_of : Entry → FileEntry
file_entry_of (Sat values) = file.Sat values
file_entry_of (Unsat lemmas) = file.Unsat (map Own lemmas)
file_entry_of (Best m values lemmas) = file.Best m values (map Own lemmas)
file_entry_of (Unbounded values points) = file.Unbounded values points

-- ---- what an entry has, whatever its kind

-- why there is no solution, or no lesser value
abbrev pub lemmas_in : Entry → Option (List Lemma)
lemmas_in (Sat values) = None
lemmas_in (Unsat lemmas) = Some lemmas
lemmas_in (Best m values lemmas) = Some lemmas
lemmas_in (Unbounded values points) = None

-- the same of an entry that may keep some
abbrev pub items_in : FileEntry → Option (List Item)
items_in (file.Sat values) = None
items_in (file.Unsat items) = Some items
items_in (file.Best m values items) = Some items
items_in (file.Unbounded values points) = None

-- each of its lemmas changed
abbrev pub with_each : (Lemma → Lemma) → Entry → Entry
with_each f (Sat values) = Sat values
with_each f (Unsat lemmas) = Unsat (map f lemmas)
with_each f (Best m values lemmas) = Best m values (map f lemmas)
with_each f (Unbounded values points) = Unbounded values points

-- with these items in the place of its lemmas
abbrev pub shown_by : Entry → List Item → FileEntry
shown_by (Sat values) items = file.Sat values
shown_by (Unsat lemmas) items = file.Unsat items
shown_by (Best m values lemmas) items = file.Best m values items
shown_by (Unbounded values points) items = file.Unbounded values points

-- with these lemmas in the place of its items
abbrev pub with_lemmas : FileEntry → List Lemma → Entry
with_lemmas (file.Sat values) lemmas = Sat values
with_lemmas (file.Unsat items) lemmas = Unsat lemmas
with_lemmas (file.Best m values items) lemmas = Best m values lemmas
with_lemmas (file.Unbounded values points) lemmas = Unbounded values points

-- its values of the names, where it has some, or those that its values of the time points give
abbrev pub values_by : (List ℤ → Option (List NamedValue)) → Entry → Option (List NamedValue)
values_by give (Sat values) = Some values
values_by give (Unsat lemmas) = None
values_by give (Best m values lemmas) = Some values
values_by give (Unbounded values points) = give values

-- the least value, with the values of the names that have it
abbrev pub least_in : Entry → Option (ℤ × List NamedValue)
least_in (Sat values) = None
least_in (Unsat lemmas) = None
least_in (Best m values lemmas) = Some (m, values)
least_in (Unbounded values points) = None

-- ---- the end

abbrev pub end_sexpr : Sexpr
end_sexpr = form (codes "end") []

-- the s-expression and a line feed
abbrev pub line_of : Sexpr → List ℕ
line_of x = text_of x ++ 10 ∷ []
