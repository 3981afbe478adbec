-- The lines about a job shop. Their words are this project's own.
use Rattle.std.specs.Prelude.{ℕ, List, ◌++◌, codes, decimal}
use Rattle.dtp_gen.specs.Plans.{Plan}
use Rattle.smt_script.specs.declared.state.Satisfiability.{Satisfiability}
use Rattle.smt_script.specs.declared.state.Satisfiability.TheVariants.{Sat, Unsat}
use Rattle.script_counts.specs.declared.counting.ScriptCounts.{ScriptCounts}

unfoldable pub plan_line : Plan → List ℕ
plan_line p =
    codes "jobs " ++ (decimal p.jobs ++ (codes " machines " ++ (decimal p.machines
    ++ (codes " start " ++ (decimal p.start ++ (codes " deadline " ++ (decimal p.deadline ++ codes "\n")))))))

unfoldable pub names_line : ℕ → List ℕ
names_line n = codes "names " ++ (decimal n ++ codes "\n")

unfoldable pub clauses_line : ℕ → List ℕ
clauses_line n = codes "clauses " ++ (decimal n ++ codes "\n")

unfoldable pub verdict_line : Satisfiability → List ℕ
verdict_line Sat = codes "verdict sat\n"
verdict_line Unsat = codes "verdict unsat\n"

unfoldable pub accepted_line : List ℕ
accepted_line = codes "check accepted\n"

abbrev pub bench_text : Plan → ScriptCounts → Satisfiability → List ℕ
bench_text p counts verdict =
    plan_line p ++ (names_line counts.names ++ (clauses_line counts.clauses ++ (verdict_line verdict ++ accepted_line)))
