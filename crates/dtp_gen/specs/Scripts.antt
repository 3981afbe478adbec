-- The script of a plan, in SMT-LIB's words: an Int name for the start of each operation.
use Rattle.std.specs.Prelude.{ℕ, zero, suc, ◌+◌, ◌-◌, List, [], ◌++◌, codes, decimal}
use Rattle.dtp_gen.specs.Plans.{Plan, duration, operation_on}

-- the texts of the first so many numbers, one behind the other
abbrev pub texts : ℕ → (ℕ → List ℕ) → List ℕ
texts zero text = []
texts (suc count) text = texts count text ++ text count

unfoldable pub name : ℕ → ℕ → List ℕ
name job k = codes "s_" ++ (decimal job ++ (codes "_" ++ decimal k))

unfoldable pub declaration : ℕ → ℕ → List ℕ
declaration job k = codes "(declare-const " ++ (name job k ++ codes " Int)\n")

unfoldable pub job_declarations : Plan → ℕ → List ℕ
job_declarations p job = texts p.machines (declaration job)

unfoldable pub declarations : Plan → List ℕ
declarations p = texts p.jobs (job_declarations p)

unfoldable pub begins : ℕ → List ℕ
begins job = codes "(assert (>= " ++ (name job 0 ++ codes " 0))\n")

-- how much later one operation starts than another
unfoldable pub difference : ℕ → ℕ → ℕ → ℕ → List ℕ
difference a i b j = codes "(- " ++ (name a i ++ (codes " " ++ (name b j ++ codes ")")))

-- operation k + 1 starts when operation k has ended, at the earliest
unfoldable pub follows : Plan → ℕ → ℕ → List ℕ
follows p job k =
    codes "(assert (>= " ++ (difference job (k + 1) job k ++ (codes " " ++ (decimal (duration p job k) ++ codes "))\n")))

-- when the operation ends
unfoldable pub end : Plan → ℕ → ℕ → List ℕ
end p job k = codes "(+ " ++ (name job k ++ (codes " " ++ (decimal (duration p job k) ++ codes ")")))

-- the last operation ends by the deadline
unfoldable pub ends : Plan → ℕ → List ℕ
ends p job =
    codes "(assert (<= " ++ (end p job (p.machines - 1) ++ (codes " " ++ (decimal p.deadline ++ codes "))\n")))

unfoldable pub follow_each_other : Plan → ℕ → List ℕ
follow_each_other p job = texts (p.machines - 1) (follows p job)

unfoldable pub job_bounds : Plan → ℕ → List ℕ
job_bounds p job = begins job ++ (follow_each_other p job ++ ends p job)

unfoldable pub bounds : Plan → List ℕ
bounds p = texts p.jobs (job_bounds p)

-- the first operation has ended when the second starts
unfoldable pub before : Plan → ℕ → ℕ → ℕ → ℕ → List ℕ
before p a i b j =
    codes "(<= " ++ (difference a i b j ++ (codes " (- " ++ (decimal (duration p a i) ++ codes "))")))

-- of two operations one comes before the other
unfoldable pub apart : Plan → ℕ → ℕ → ℕ → ℕ → List ℕ
apart p a i b j =
    codes "(assert (or " ++ (before p a i b j ++ (codes " " ++ (before p b j a i ++ codes "))\n")))

-- those of two jobs on a machine, of which the second job is so much later than the one behind the first
unfoldable pub apart_on : Plan → ℕ → ℕ → ℕ → List ℕ
apart_on p machine a later =
    apart p a (operation_on p machine a) (a + 1 + later) (operation_on p machine (a + 1 + later))

-- those of the job and of each later one
unfoldable pub apart_from_later : Plan → ℕ → ℕ → List ℕ
apart_from_later p machine a = texts (p.jobs - 1 - a) (apart_on p machine a)

unfoldable pub machine_orders : Plan → ℕ → List ℕ
machine_orders p machine = texts p.jobs (apart_from_later p machine)

unfoldable pub orders : Plan → List ℕ
orders p = texts p.machines (machine_orders p)

unfoldable pub script : Plan → List ℕ
script p =
    codes "(set-logic QF_IDL)\n" ++ (declarations p ++ (bounds p ++ (orders p ++ codes "(check-sat)\n(exit)\n")))
