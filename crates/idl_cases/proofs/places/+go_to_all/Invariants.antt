use Rattle.std.proofs.Common.{length}
use Rattle.idl_cases.proofs.places.+go_to_all.Given as goal

abbrev pub decreases-go_to_all : goal.decreases-go_to_all
decreases-go_to_all l = length l.choices.now
