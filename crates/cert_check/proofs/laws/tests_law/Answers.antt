use Rattle.cert_check.proofs.Decided.{is_assumed_decides, is_on_points_decides, is_negative_cycle_decides}
use Rattle.cert_check.proofs.laws.tests_law.Goals as goal

pub returns : goal.returns
returns c = record { assumed = is_assumed_decides; on_points = is_on_points_decides; cycle = is_negative_cycle_decides }
