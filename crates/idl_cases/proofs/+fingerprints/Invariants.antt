use Rattle.std.proofs.Common.{◌≤◌, ◌+◌, ◌*◌, length}
use Rattle.idl_cases.specs.code.GuardBounds.{AreGuardsBelow}
use Rattle.idl_cases.proofs.+fingerprints.Given as goal

abbrev pub decreases-cases::Cases::fingerprint : goal.decreases-cases::Cases::fingerprint
decreases-cases::Cases::fingerprint l = 3 * length l.self.now + 2

abbrev pub decreases-choices::Choices::fingerprint : goal.decreases-choices::Choices::fingerprint
decreases-choices::Choices::fingerprint l = 3 * length l.self.now + 1

abbrev pub decreases-choices::Choices::mix : goal.decreases-choices::Choices::mix
decreases-choices::Choices::mix l = 3 * length l.self.now

abbrev pub invariant-choices::Choices::fingerprint-loop-step : goal.invariant-choices::Choices::fingerprint-loop-step
invariant-choices::Choices::fingerprint-loop-step l = record {
  below : AreGuardsBelow l.count l.choices → AreGuardsBelow l.count l.self;
  few : length l.choices ≤ length l.self;
}

abbrev pub decreases-choices::Choices::fingerprint-loop-step : goal.decreases-choices::Choices::fingerprint-loop-step
decreases-choices::Choices::fingerprint-loop-step l = length l.choices
