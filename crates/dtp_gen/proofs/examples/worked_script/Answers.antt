use Rattle.std.proofs.Common.{refl}
use Rattle.std.specs.Fmt.{digits}
use Rattle.dtp_gen.specs.Scripts.{name, declaration, job_declarations, declarations, begins, difference, follows, end, ends, follow_each_other, job_bounds, bounds, before, apart, apart_on, apart_from_later, machine_orders, orders, script}
use Rattle.dtp_gen.proofs.examples.worked_script.Goals as goal

pub returns-clause-script : goal.returns-clause-script
unfolding digits name declaration job_declarations declarations begins difference follows end ends follow_each_other job_bounds bounds before apart apart_on apart_from_later machine_orders orders script
returns-clause-script c = refl
