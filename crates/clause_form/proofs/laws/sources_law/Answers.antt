use Rattle.idl_node.specs.Sorts.{IsAtomFor}
use Rattle.clause_form.proofs.Sourced.{sources_follow, sources_parallel, asserted_root, denied_root}
use Rattle.clause_form.proofs.Within.{sources_within}
use Rattle.clause_form.proofs.laws.sources_law.Goals as goal

pub returns-clause-follow : goal.returns-clause-follow
returns-clause-follow c sorts nodes roots schedule table of_sorts = sources_follow sorts nodes table roots schedule of_sorts

pub returns-clause-parallel : goal.returns-clause-parallel
returns-clause-parallel c points nodes roots = sources_parallel points nodes roots

pub returns-clause-roots : goal.returns-clause-roots
returns-clause-roots c sorts nodes roots k table = (λ h. asserted_root (IsAtomFor sorts) nodes table roots k h, λ h. denied_root (IsAtomFor sorts) nodes table roots k h)

pub returns-clause-within : goal.returns-clause-within
returns-clause-within c nodes roots i r e = sources_within nodes roots i r e
