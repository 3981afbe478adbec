-- The script of a plan as a list of commands. Its names and most of its terms are those of a job shop's script.
use Rattle.std.proofs.Common.{◌≡◌, ◌∙◌, refl, sym, ap, arith, ℕ, zero, suc, ◌+◌, ◌-◌, ◌%◌, ◌^◌, ◌<◌, ◌≤◌, ◌==◌, false, List, [], ◌∷◌, ◌++◌, decimal, append_assoc, append-nil, mod-lt}
use Rattle.std.specs.Prelude.{codes}
use Rattle.std.proofs.lemmas.Bool.{ne_eqb}
use Rattle.smt_lex.specs.Bytes.{is_symbol_byte}
use Rattle.smt_sexpr.specs.Tree.{Sexpr}
use Rattle.smt_sexpr.specs.Printing.{text_of}
use Rattle.smt_sexpr.specs.Shapes.{form}
use Rattle.dtp_gen.specs.Plans.{Plan, duration, first_machine, operation_on, job_draw}
use Rattle.dtp_gen.specs.Scripts.{name, texts, declaration, job_declarations, declarations, begins, difference, follows, end, ends, follow_each_other, job_bounds, bounds, before, apart, apart_on, apart_from_later, machine_orders, orders, script}
use Rattle.job_shop.specs.Scripts.{each, line_of, lines_of, numeral, less, point, name as start_name, one_name, difference as minus_points, begins as begins_at_0, declares, asserts, all_declare, all_assert, logic, exit}
use Rattle.job_shop.specs.code.Lines.{name_line, begins_line}
use Rattle.job_shop.proofs.Names.{name_is}
use Rattle.job_shop.proofs.Printing.{assertion_line, at_least, at_most, either, point_text, less_more, difference_text, name_line_is, begins_line_is}
use Rattle.job_shop.proofs.Wholes.{lines_append, asserted_append, declared_append}
use Rattle.script_law.proofs.Starts.{starts_of}

abbrev pub names : Plan → List (List ℕ)
names p = each p.jobs (starts_of p.machines)

abbrev pub goes_on : Plan → ℕ → ℕ → List Sexpr
goes_on p job k = form (codes ">=") (minus_points job (k + 1) job k ∷ numeral (duration p job k) ∷ []) ∷ []

abbrev pub end_of : Plan → ℕ → Sexpr
end_of p job = form (codes "+") (point job (p.machines - 1) ∷ numeral (duration p job (p.machines - 1)) ∷ [])

abbrev pub finishes : Plan → ℕ → Sexpr
finishes p job = form (codes "<=") (end_of p job ∷ numeral p.deadline ∷ [])

abbrev pub bounds_job : Plan → ℕ → List Sexpr
bounds_job p job = begins_at_0 job ∷ (each (p.machines - 1) (goes_on p job) ++ finishes p job ∷ [])

abbrev pub comes_before : Plan → ℕ → ℕ → ℕ → ℕ → Sexpr
comes_before p a i b j = form (codes "<=") (minus_points a i b j ∷ less (duration p a i) ∷ [])

abbrev pub keeps_apart : Plan → ℕ → ℕ → ℕ → ℕ → Sexpr
keeps_apart p a i b j = form (codes "or") (comes_before p a i b j ∷ comes_before p b j a i ∷ [])

abbrev pub pair_on : Plan → ℕ → ℕ → ℕ → List Sexpr
pair_on p machine a later =
    keeps_apart p a (operation_on p machine a) (a + 1 + later) (operation_on p machine (a + 1 + later)) ∷ []

abbrev pub pairs_of : Plan → ℕ → ℕ → List Sexpr
pairs_of p machine a = each (p.jobs - 1 - a) (pair_on p machine a)

abbrev pub pairs_on : Plan → ℕ → List Sexpr
pairs_on p machine = each p.jobs (pairs_of p machine)

-- all assertions
abbrev pub terms : Plan → List Sexpr
terms p = each p.jobs (bounds_job p) ++ each p.machines (pairs_on p)

abbrev pub check : Sexpr
check = form (codes "check-sat") []

-- the commands that are told of
abbrev pub told : Plan → List Sexpr
told p = logic ∷ (all_declare (names p) ++ all_assert (terms p))

-- ---- durations

pub short_duration : (p : Plan) (job k : ℕ) → duration p job k ≤ 99
short_duration p job k =
    let some : 0 < 99 = omega arith in
    let rest : job_draw p job (k + 1) % 99 < 99 = mod-lt (job_draw p job (k + 1)) some in
    omega (arith, rest)

some_duration : (p : Plan) (job k : ℕ) → (duration p job k == 0) ≡ false
some_duration p job k = ne_eqb (duration p job k) 0 (λ e. absurd (omega (arith, e)))

-- ---- the text of a term

-- operations are within these limits
abbrev Small : ℕ → Type 0
Small n = n < 2 ^ 64

same_name : (job k : ℕ) → start_name job k ≡ name job k
unfolding name
same_name job k = name_is job k

written : (job k : ℕ) → Small job → Small k → text_of (point job k) ≡ name job k
written job k s l = point_text job k s l ∙ same_name job k

declares_text : (job k : ℕ) → Small job → Small k → line_of (declares (start_name job k)) ≡ declaration job k
unfolding declaration name_line
declares_text job k s l = name_line_is job k ∙ ap (λ (t : List ℕ). codes "(declare-const " ++ (t ++ codes " Int)\n")) (written job k s l)

minus_text : (a i b j : ℕ) → Small a → Small i → Small b → Small j → text_of (minus_points a i b j) ≡ difference a i b j
unfolding difference
minus_text a i b j sa si sb sj =
    difference_text a i b j
    ∙ ap (λ (t : List ℕ). codes "(- " ++ (t ++ (codes " " ++ (text_of (point b j) ++ codes ")")))) (written a i sa si)
    ∙ ap (λ (t : List ℕ). codes "(- " ++ (name a i ++ (codes " " ++ (t ++ codes ")")))) (written b j sb sj)

starts_text : (job : ℕ) → Small job → line_of (asserts (begins_at_0 job)) ≡ begins job
unfolding begins begins_line
starts_text job s = begins_line_is job ∙ ap (λ (t : List ℕ). codes "(assert (>= " ++ (t ++ codes " 0))\n")) (written job 0 s (omega arith))

one_line : (x : Sexpr) (text : List ℕ) → line_of (asserts x) ≡ text → lines_of (all_assert (x ∷ [])) ≡ text
one_line x text e = append-nil (line_of (asserts x)) ∙ e

goes_on_text : (p : Plan) (job k : ℕ) → Small job → Small k → Small (k + 1) → lines_of (all_assert (goes_on p job k)) ≡ follows p job k
unfolding follows
goes_on_text p job k s l m =
    one_line (form (codes ">=") (minus_points job (k + 1) job k ∷ numeral (duration p job k) ∷ [])) _
    (assertion_line (codes ">=") (minus_points job (k + 1) job k) (numeral (duration p job k)) at_least
    ∙ ap (λ (t : List ℕ). codes "(assert (>= " ++ (t ++ (codes " " ++ (decimal (duration p job k) ++ codes "))\n")))) (minus_text job (k + 1) job k s m s l))

sum_text : (x : Sexpr) (n : ℕ) → text_of (form (codes "+") (x ∷ numeral n ∷ [])) ≡ codes "(+ " ++ (text_of x ++ (codes " " ++ (decimal n ++ codes ")")))
unfolding is_symbol_byte
sum_text x n = refl

end_text : (p : Plan) (job : ℕ) → Small job → Small (p.machines - 1) → text_of (end_of p job) ≡ end p job (p.machines - 1)
unfolding end
end_text p job s l =
    sum_text (point job (p.machines - 1)) (duration p job (p.machines - 1))
    ∙ ap (λ (t : List ℕ). codes "(+ " ++ (t ++ (codes " " ++ (decimal (duration p job (p.machines - 1)) ++ codes ")")))) (written job (p.machines - 1) s l)

finishes_text : (p : Plan) (job : ℕ) → Small job → Small (p.machines - 1) → line_of (asserts (finishes p job)) ≡ ends p job
unfolding ends
finishes_text p job s l =
    assertion_line (codes "<=") (end_of p job) (numeral p.deadline) at_most
    ∙ ap (λ (t : List ℕ). codes "(assert (<= " ++ (t ++ (codes " " ++ (decimal p.deadline ++ codes "))\n")))) (end_text p job s l)

order_text : (x y : Sexpr) → text_of (form (codes "<=") (x ∷ y ∷ [])) ≡ codes "(<= " ++ (text_of x ++ (codes " " ++ (text_of y ++ codes ")")))
unfolding is_symbol_byte
order_text x y = refl

before_text : (p : Plan) (a i b j : ℕ) → Small a → Small i → Small b → Small j → text_of (comes_before p a i b j) ≡ before p a i b j
unfolding before
before_text p a i b j sa si sb sj =
    order_text (minus_points a i b j) (less (duration p a i))
    ∙ ap (λ (t : List ℕ). codes "(<= " ++ (t ++ (codes " " ++ (text_of (less (duration p a i)) ++ codes ")")))) (minus_text a i b j sa si sb sj)
    ∙ ap (λ (t : List ℕ). codes "(<= " ++ (difference a i b j ++ (codes " " ++ (t ++ codes ")")))) (less_more (duration p a i) (some_duration p a i))
    ∙ ap (λ (t : List ℕ). codes "(<= " ++ (difference a i b j ++ (codes " (- " ++ t))) (append_assoc (decimal (duration p a i)) (codes ")") (codes ")"))

apart_text : (p : Plan) (a i b j : ℕ) → Small a → Small i → Small b → Small j → line_of (asserts (keeps_apart p a i b j)) ≡ apart p a i b j
unfolding apart
apart_text p a i b j sa si sb sj =
    assertion_line (codes "or") (comes_before p a i b j) (comes_before p b j a i) either
    ∙ ap (λ (t : List ℕ). codes "(assert (or " ++ (t ++ (codes " " ++ (text_of (comes_before p b j a i) ++ codes "))\n")))) (before_text p a i b j sa si sb sj)
    ∙ ap (λ (t : List ℕ). codes "(assert (or " ++ (before p a i b j ++ (codes " " ++ (t ++ codes "))\n")))) (before_text p b j a i sb sj sa si)

-- ---- many

asserted_texts : (n : ℕ) (items : ℕ → List Sexpr) (text : ℕ → List ℕ) → ((i : ℕ) → i < n → lines_of (all_assert (items i)) ≡ text i) → lines_of (all_assert (each n items)) ≡ texts n text
asserted_texts zero items text same = refl
asserted_texts (suc n) items text same =
    asserted_append (each n items) (items n)
    ∙ ap (λ (t : List ℕ). t ++ lines_of (all_assert (items n))) (asserted_texts n items text (λ i l. same i (omega arith))) ∙ ap (λ (t : List ℕ). texts n text ++ t) (same n (omega arith))

declared_texts : (n : ℕ) (items : ℕ → List (List ℕ)) (text : ℕ → List ℕ) → ((i : ℕ) → i < n → lines_of (all_declare (items i)) ≡ text i) → lines_of (all_declare (each n items)) ≡ texts n text
declared_texts zero items text same = refl
declared_texts (suc n) items text same =
    declared_append (each n items) (items n)
    ∙ ap (λ (t : List ℕ). t ++ lines_of (all_declare (items n))) (declared_texts n items text (λ i l. same i (omega arith))) ∙ ap (λ (t : List ℕ). texts n text ++ t) (same n (omega arith))

logic_text : line_of logic ≡ codes "(set-logic QF_IDL)\n"
unfolding is_symbol_byte
logic_text = refl

last_text : lines_of (check ∷ exit ∷ []) ≡ codes "(check-sat)\n(exit)\n"
unfolding is_symbol_byte
last_text = refl

module _ (p : Plan) (jobs : p.jobs ≤ 40) (some : 1 ≤ p.machines) (machines : p.machines ≤ 40) where
  names_text : lines_of (all_declare (names p)) ≡ declarations p
  unfolding declarations job_declarations
  names_text =
      declared_texts p.jobs (starts_of p.machines) (job_declarations p)
      (λ job h. declared_texts p.machines (one_name job) (declaration job) (λ k l. append-nil (line_of (declares (start_name job k))) ∙ declares_text job k (omega arith) (omega arith)))

  job_text : (job : ℕ) → job < p.jobs → lines_of (all_assert (bounds_job p job)) ≡ job_bounds p job
  unfolding job_bounds follow_each_other
  job_text job h =
      ap (λ (t : List ℕ). t ++ lines_of (all_assert (each (p.machines - 1) (goes_on p job) ++ finishes p job ∷ []))) (starts_text job (omega arith))
      ∙ ap (λ (t : List ℕ). begins job ++ t)
      (asserted_append (each (p.machines - 1) (goes_on p job)) (finishes p job ∷ [])
      ∙ ap (λ (t : List ℕ). t ++ lines_of (all_assert (finishes p job ∷ [])))
      (asserted_texts (p.machines - 1) (goes_on p job) (follows p job) (λ k l. goes_on_text p job k (omega arith) (omega arith) (omega arith)))
      ∙ ap (λ (t : List ℕ). texts (p.machines - 1) (follows p job) ++ t)
      (one_line (finishes p job) (ends p job) (finishes_text p job (omega arith) (omega arith))))

  bounds_text : lines_of (all_assert (each p.jobs (bounds_job p))) ≡ bounds p
  unfolding bounds
  bounds_text = asserted_texts p.jobs (bounds_job p) (job_bounds p) job_text

  pub on_machine : (machine job : ℕ) → operation_on p machine job < p.machines
  on_machine machine job = mod-lt (machine + (p.machines - first_machine p job)) some

  pair_text : (machine a later : ℕ) → a < p.jobs → later < p.jobs - 1 - a → lines_of (all_assert (pair_on p machine a later)) ≡ apart_on p machine a later
  unfolding apart_on
  pair_text machine a later h l =
      one_line (keeps_apart p a (operation_on p machine a) (a + 1 + later) (operation_on p machine (a + 1 + later))) _
      (apart_text p a (operation_on p machine a) (a + 1 + later) (operation_on p machine (a + 1 + later)) (omega arith)
      (omega (arith, on_machine machine a)) (omega arith) (omega (arith, on_machine machine (a + 1 + later))))

  orders_text : lines_of (all_assert (each p.machines (pairs_on p))) ≡ orders p
  unfolding orders machine_orders apart_from_later
  orders_text =
      asserted_texts p.machines (pairs_on p) (machine_orders p)
      (λ machine h. asserted_texts p.jobs (pairs_of p machine) (apart_from_later p machine)
      (λ a l. asserted_texts (p.jobs - 1 - a) (pair_on p machine a) (apart_on p machine a) (λ later m. pair_text machine a later l m)))

  told_text : lines_of (told p) ≡ codes "(set-logic QF_IDL)\n" ++ (declarations p ++ (bounds p ++ orders p))
  told_text =
      ap (λ (t : List ℕ). t ++ lines_of (all_declare (names p) ++ all_assert (terms p))) logic_text
      ∙ ap (λ (t : List ℕ). codes "(set-logic QF_IDL)\n" ++ t)
      (lines_append (all_declare (names p)) (all_assert (terms p))
      ∙ ap (λ (t : List ℕ). t ++ lines_of (all_assert (terms p))) names_text
      ∙ ap (λ (t : List ℕ). declarations p ++ t)
      (asserted_append (each p.jobs (bounds_job p)) (each p.machines (pairs_on p))
      ∙ ap (λ (t : List ℕ). t ++ lines_of (all_assert (each p.machines (pairs_on p)))) bounds_text ∙ ap (λ (t : List ℕ). bounds p ++ t) orders_text))

  pub script_text : script p ≡ lines_of (told p ++ (check ∷ exit ∷ []))
  unfolding script
  script_text =
      sym (lines_append (told p) (check ∷ exit ∷ [])
      ∙ ap (λ (t : List ℕ). lines_of (told p) ++ t) last_text
      ∙ ap (λ (t : List ℕ). t ++ codes "(check-sat)\n(exit)\n") told_text
      ∙ append_assoc (codes "(set-logic QF_IDL)\n") (declarations p ++ (bounds p ++ orders p)) (codes "(check-sat)\n(exit)\n")
      ∙ ap (λ (t : List ℕ). codes "(set-logic QF_IDL)\n" ++ t)
      (append_assoc (declarations p) (bounds p ++ orders p) (codes "(check-sat)\n(exit)\n")
      ∙ ap (λ (t : List ℕ). declarations p ++ t) (append_assoc (bounds p) (orders p) (codes "(check-sat)\n(exit)\n"))))
