-- The operation of a job that runs on a machine.
use Rattle.std.proofs.Common.{arith, ◌≡◌, ◌∙◌, ℕ, ◌+◌, ◌-◌, ◌%◌, ◌<◌, ◌≤◌, ap, mod-lt, mod-eq_of_lt}
use Rattle.std.proofs.Math.Nat.{add-mod-mod, add-mod_right}
use Rattle.dtp_gen.specs.Plans.{Plan, first_machine, machine_of, operation_on, MachineLaw}

shifted : (count first machine : ℕ) → first < count → machine < count → (first + (machine + (count - first)) % count) % count ≡ machine
shifted count first machine f m =
    let whole : first + (machine + (count - first)) ≡ machine + count = omega (arith, f) in
    add-mod-mod first (machine + (count - first)) count ∙ ap (λ n. n % count) whole ∙ add-mod_right machine count
    ∙ mod-eq_of_lt m

pub machine_runs : MachineLaw
machine_runs p job machine m =
    let some : 0 < p.machines = omega (arith, m) in
    (mod-lt _ some, shifted p.machines (first_machine p job) machine (mod-lt _ some) m)
