-- How a plan is written: its makespan, and a line for each job with the starts of its operations. The form is this project's own.
use Rattle.std.specs.Prelude.{ℕ, ℤ, List, ◌++◌, length, codes, decimal}
use Rattle.std.specs.Fmt.{signed_decimal}
use Rattle.job_shop.specs.Shops.{Shop}
use Rattle.job_shop.specs.Plans.{start_in}
use Rattle.job_shop.specs.Scripts.{each}

unfoldable pub start_text : Shop → List ℤ → ℕ → ℕ → List ℕ
start_text s starts j k = codes " " ++ signed_decimal (start_in s starts j k)

unfoldable pub job_text : Shop → List ℤ → ℕ → List ℕ
job_text s starts j =
    codes "job " ++ (decimal j ++ (codes ":" ++ (each s.machines (start_text s starts j) ++ codes "\n")))

unfoldable pub plan_text : Shop → ℤ → List ℤ → List ℕ
plan_text s m starts =
    codes "makespan " ++ (signed_decimal m ++ (codes "\n" ++ each (length s.jobs) (job_text s starts)))
