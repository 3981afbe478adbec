-- The job shops of the worked examples.
use Rattle.std.specs.Prelude.{ℕ, [], ◌∷◌}
use Rattle.job_shop.specs.declared.shop.Operation.{Operation}
use Rattle.job_shop.specs.Shops.{Shop}

abbrev pub operation : ℕ → ℕ → Operation
operation machine duration = record { machine = machine; duration = duration }

-- two jobs on two machines, which they need in different orders
abbrev pub two_by_two : Shop
two_by_two = record {
  machines = 2;
  jobs = (operation 0 3 ∷ operation 1 2 ∷ []) ∷ (operation 1 2 ∷ operation 0 4 ∷ []) ∷ [];
}

abbrev pub one_by_one : ℕ → Shop
one_by_one duration = record { machines = 1; jobs = (operation 0 duration ∷ []) ∷ [] }
