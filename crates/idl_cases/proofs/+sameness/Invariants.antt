use Rattle.std.proofs.Common.{◌≡◌, ◌≤◌, ◌+◌, ◌*◌, length, max}
use Rattle.idl_cases.proofs.+sameness.Given as goal

abbrev pub decreases-cases::Cases::is_same : goal.decreases-cases::Cases::is_same
decreases-cases::Cases::is_same l = 4 * length l.self.now + 3

abbrev pub decreases-choices::Choices::is_same : goal.decreases-choices::Choices::is_same
decreases-choices::Choices::is_same l = 4 * length l.self.now + 2

abbrev pub decreases-choices::Choices::compare : goal.decreases-choices::Choices::compare
decreases-choices::Choices::compare l = 4 * length l.self.now + 1

abbrev pub decreases-same::compare_branches : goal.decreases-same::compare_branches
decreases-same::compare_branches l = 4 * (length l.yes.now + length l.no.now)

abbrev pub decreases-same::compare_summands : goal.decreases-same::compare_summands
decreases-same::compare_summands l = 4 * (1 + max (length l.first.now) (length l.second.now))

abbrev pub invariant-choices::Choices::is_same-loop-is_same : goal.invariant-choices::Choices::is_same-loop-is_same
invariant-choices::Choices::is_same-loop-is_same l = record {
  same : l.choices ≡ l.beside → l.self ≡ l.other;
  few : length l.choices ≤ length l.self;
}

abbrev pub decreases-choices::Choices::is_same-loop-is_same : goal.decreases-choices::Choices::is_same-loop-is_same
decreases-choices::Choices::is_same-loop-is_same l = length l.choices
