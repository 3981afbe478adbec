use Rattle.std.proofs.Common.{ℕ, ◌<◌}
use Rattle.idl_linear.proofs.Comparing.{number-within, points-difference}
use Rattle.idl_linear.proofs.laws.comparison_law.Goals as goal

pub returns-clause-number : goal.returns-clause-number
returns-clause-number c = number-within

pub returns-clause-points : goal.returns-clause-points
returns-clause-points c = λ limit a b d some h k e. points-difference (λ (p : ℕ). p < limit) a b d some h k e
