use Rattle.smt_script.proofs.Modes.{mode_is_kept, model_needs_sat, values_need_sat, proof_needs_unsat, core_needs_unsat, assumptions_need_unsat, questions_of_active, asked_is_told}
use Rattle.smt_script.proofs.laws.mode_law.Goals as goal

pub returns : goal.returns
returns c = record { kept = mode_is_kept; model = model_needs_sat; values = values_need_sat; proof = proof_needs_unsat; core = core_needs_unsat; assumptions = assumptions_need_unsat; asking = questions_of_active; asked = asked_is_told }
