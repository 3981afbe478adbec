-- The text of the whole script, by its parts.
use Rattle.std.proofs.Common.{◌≡◌, ◌∙◌, refl, sym, ap, ℕ, zero, suc, ◌+◌, ◌-◌, Option, Some, None, List, [], ◌∷◌, ◌++◌, length, append_assoc, append-nil}
use Rattle.std.specs.Prelude.{codes}
use Rattle.smt_lex.specs.Bytes.{is_symbol_byte}
use Rattle.smt_sexpr.specs.Tree.{Sexpr}
use Rattle.job_shop.specs.Shops.{Shop}
use Rattle.job_shop.specs.Scripts.{each, line_of, lines_of, asserts, all_assert, declares, all_declare, bound, begins, goes_on, goes_on_one, ends, bounds_of, apart, apart_by, apart_on, apart_from_later, orders_of, terms_of, name, one_name, names_in, names_of, logic, minimize, exit, commands_before, script, operation_on}
use Rattle.job_shop.specs.code.Lines.{name_line, name_lines, begins_line, goes_on_line, ends_line, bound_lines, apart_lines, later_lines, machine_lines}

pub lines_append : (xs ys : List Sexpr) → lines_of (xs ++ ys) ≡ lines_of xs ++ lines_of ys
lines_append [] ys = refl
lines_append (x ∷ xs) ys = ap (λ (t : List ℕ). line_of x ++ t) (lines_append xs ys) ∙ sym (append_assoc (line_of x) (lines_of xs) (lines_of ys))

assert_append : (xs ys : List Sexpr) → all_assert (xs ++ ys) ≡ all_assert xs ++ all_assert ys
assert_append [] ys = refl
assert_append (x ∷ xs) ys = ap (λ (l : List Sexpr). asserts x ∷ l) (assert_append xs ys)

declare_append : (xs ys : List (List ℕ)) → all_declare (xs ++ ys) ≡ all_declare xs ++ all_declare ys
declare_append [] ys = refl
declare_append (x ∷ xs) ys = ap (λ (l : List Sexpr). declares x ∷ l) (declare_append xs ys)

pub asserted_append : (xs ys : List Sexpr) → lines_of (all_assert (xs ++ ys)) ≡ lines_of (all_assert xs) ++ lines_of (all_assert ys)
asserted_append xs ys = ap lines_of (assert_append xs ys) ∙ lines_append (all_assert xs) (all_assert ys)

pub declared_append : (xs ys : List (List ℕ)) → lines_of (all_declare (xs ++ ys)) ≡ lines_of (all_declare xs) ++ lines_of (all_declare ys)
declared_append xs ys = ap lines_of (declare_append xs ys) ∙ lines_append (all_declare xs) (all_declare ys)

pub asserted_each : (n : ℕ) (items : ℕ → List Sexpr) (text : ℕ → List ℕ) → ((i : ℕ) → lines_of (all_assert (items i)) ≡ text i) → lines_of (all_assert (each n items)) ≡ each n text
asserted_each zero items text same = refl
asserted_each (suc n) items text same =
    asserted_append (each n items) (items n)
    ∙ ap (λ (t : List ℕ). t ++ lines_of (all_assert (items n))) (asserted_each n items text same) ∙ ap (λ (t : List ℕ). each n text ++ t) (same n)

declared_each : (n : ℕ) (items : ℕ → List (List ℕ)) (text : ℕ → List ℕ) → ((i : ℕ) → lines_of (all_declare (items i)) ≡ text i) → lines_of (all_declare (each n items)) ≡ each n text
declared_each zero items text same = refl
declared_each (suc n) items text same =
    declared_append (each n items) (items n)
    ∙ ap (λ (t : List ℕ). t ++ lines_of (all_declare (items n))) (declared_each n items text same) ∙ ap (λ (t : List ℕ). each n text ++ t) (same n)

-- ---- a job's bounds, and a pair

goes_on_text : (s : Shop) (j k : ℕ) → lines_of (all_assert (goes_on_one s j k)) ≡ goes_on_line s j k
unfolding goes_on_line
goes_on_text s j k = append-nil (line_of (asserts (goes_on s j k)))

pub bound_lines_are : (s : Shop) (j : ℕ) → bound_lines s j ≡ begins_line j ++ (each (s.machines - 1) (goes_on_line s j) ++ ends_line s j)
unfolding bound_lines begins_line ends_line
bound_lines_are s j =
    ap (λ (t : List ℕ). line_of (asserts (begins j)) ++ t)
    (asserted_append (each (s.machines - 1) (goes_on_one s j)) (ends s j ∷ [])
    ∙ ap (λ (t : List ℕ). t ++ lines_of (all_assert (ends s j ∷ []))) (asserted_each (s.machines - 1) (goes_on_one s j) (goes_on_line s j) (goes_on_text s j))
    ∙ ap (λ (t : List ℕ). each (s.machines - 1) (goes_on_line s j) ++ t) (append-nil (line_of (asserts (ends s j)))))

pub both_on : (s : Shop) (machine a later i j : ℕ) → operation_on s.machines s machine a ≡ Some i → operation_on s.machines s machine (a + 1 + later) ≡ Some j
    → apart_lines s machine a later ≡ line_of (asserts (apart s a i (a + 1 + later) j))
unfolding apart_lines apart_on
both_on s machine a later i j e f =
    ap (λ (o : Option ℕ). lines_of (all_assert (apart_by s a (a + 1 + later) o (operation_on s.machines s machine (a + 1 + later))))) e
    ∙ ap (λ (o : Option ℕ). lines_of (all_assert (apart_by s a (a + 1 + later) (Some i) o))) f
    ∙ append-nil (line_of (asserts (apart s a i (a + 1 + later) j)))

pub first_off : (s : Shop) (machine a later : ℕ) → operation_on s.machines s machine a ≡ None → apart_lines s machine a later ≡ []
unfolding apart_lines apart_on
first_off s machine a later e =
    ap (λ (o : Option ℕ). lines_of (all_assert (apart_by s a (a + 1 + later) o (operation_on s.machines s machine (a + 1 + later))))) e

second_by : (s : Shop) (a b : ℕ) (o : Option ℕ) → lines_of (all_assert (apart_by s a b o None)) ≡ []
second_by s a b (Some i) = refl
second_by s a b None = refl

pub second_off : (s : Shop) (machine a later : ℕ) → operation_on s.machines s machine (a + 1 + later) ≡ None → apart_lines s machine a later ≡ []
unfolding apart_lines apart_on
second_off s machine a later e =
    ap (λ (o : Option ℕ). lines_of (all_assert (apart_by s a (a + 1 + later) (operation_on s.machines s machine a) o))) e
    ∙ second_by s a (a + 1 + later) (operation_on s.machines s machine a)

pub first_none : (s : Shop) (machine a later : ℕ) (out : List ℕ) → operation_on s.machines s machine a ≡ None → out ≡ out ++ apart_lines s machine a later
first_none s machine a later out e = sym (append-nil out) ∙ ap (λ (t : List ℕ). out ++ t) (sym (first_off s machine a later e))

pub second_none : (s : Shop) (machine a later : ℕ) (out : List ℕ) → operation_on s.machines s machine (a + 1 + later) ≡ None → out ≡ out ++ apart_lines s machine a later
second_none s machine a later out e = sym (append-nil out) ∙ ap (λ (t : List ℕ). out ++ t) (sym (second_off s machine a later e))

-- ---- the whole

name_text_of : (j k : ℕ) → lines_of (all_declare (one_name j k)) ≡ name_line j k
unfolding name_line
name_text_of j k = append-nil (line_of (declares (name j k)))

names_text : (s : Shop) → lines_of (all_declare (names_of s)) ≡ each (length s.jobs) (name_lines s)
unfolding name_lines
names_text s = declared_each (length s.jobs) (names_in s) (name_lines s) (λ j. declared_each s.machines (one_name j) (name_line j) (name_text_of j))

bounds_text : (s : Shop) → lines_of (all_assert (each (length s.jobs) (bounds_of s))) ≡ each (length s.jobs) (bound_lines s)
unfolding bound_lines
bounds_text s = asserted_each (length s.jobs) (bounds_of s) (bound_lines s) (λ j. refl)

orders_text : (s : Shop) → lines_of (all_assert (each s.machines (orders_of s))) ≡ each s.machines (machine_lines s)
unfolding machine_lines later_lines apart_lines
orders_text s =
    asserted_each s.machines (orders_of s) (machine_lines s)
    (λ machine. asserted_each (length s.jobs) (apart_from_later s machine) (later_lines s machine)
    (λ a. asserted_each (length s.jobs - 1 - a) (apart_on s machine a) (apart_lines s machine a) (λ later. refl)))

head_text : line_of logic ++ line_of (declares (codes "m")) ≡ codes "(set-logic QF_IDL)\n(declare-const m Int)\n"
unfolding is_symbol_byte
head_text = refl

last_text : lines_of (minimize ∷ exit ∷ []) ≡ codes "(minimize m)\n(exit)\n"
unfolding bound is_symbol_byte
last_text = refl

pub script_is : (s : Shop) → script s ≡ codes "(set-logic QF_IDL)\n(declare-const m Int)\n" ++ (each (length s.jobs) (name_lines s) ++ (each (length s.jobs) (bound_lines s) ++ (each s.machines (machine_lines s) ++ codes "(minimize m)\n(exit)\n")))
unfolding script
script_is s =
    let N = lines_of (all_declare (names_of s)) in
    let T = lines_of (all_assert (terms_of s)) in
    let whole : lines_of (commands_before s) ≡ codes "(set-logic QF_IDL)\n(declare-const m Int)\n" ++ (lines_of (all_declare (names_of s)) ++ lines_of (all_assert (terms_of s))) =
    ap (λ (t : List ℕ). line_of logic ++ (line_of (declares (codes "m")) ++ t)) (lines_append (all_declare (names_of s)) (all_assert (terms_of s)))
    ∙ sym (append_assoc (line_of logic) (line_of (declares (codes "m"))) (N ++ T))
    ∙ ap (λ (t : List ℕ). t ++ (N ++ T)) head_text in
    lines_append (commands_before s) (minimize ∷ exit ∷ [])
    ∙ ap (λ (t : List ℕ). t ++ lines_of (minimize ∷ exit ∷ [])) whole
    ∙ ap (λ (t : List ℕ). (codes "(set-logic QF_IDL)\n(declare-const m Int)\n" ++ (N ++ T)) ++ t) last_text
    ∙ ap (λ (t : List ℕ). codes "(set-logic QF_IDL)\n(declare-const m Int)\n" ++ t)
    (append_assoc N T (codes "(minimize m)\n(exit)\n")
    ∙ ap (λ (t : List ℕ). t ++ (T ++ codes "(minimize m)\n(exit)\n")) (names_text s)
    ∙ ap (λ (t : List ℕ). each (length s.jobs) (name_lines s) ++ (t ++ codes "(minimize m)\n(exit)\n"))
    (asserted_append (each (length s.jobs) (bounds_of s)) (each s.machines (orders_of s))
    ∙ ap (λ (t : List ℕ). t ++ lines_of (all_assert (each s.machines (orders_of s)))) (bounds_text s)
    ∙ ap (λ (t : List ℕ). each (length s.jobs) (bound_lines s) ++ t) (orders_text s))
    ∙ ap (λ (t : List ℕ). each (length s.jobs) (name_lines s) ++ t)
    (append_assoc (each (length s.jobs) (bound_lines s)) (each s.machines (machine_lines s)) (codes "(minimize m)\n(exit)\n")))
