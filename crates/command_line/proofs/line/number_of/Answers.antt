use Rattle.std.proofs.Common.{rules}
use Rattle.clap.specs.Words.{found_of}
use Rattle.command_line.proofs.Numbers.{number_read, number_out, number_not_read}
use Rattle.command_line.proofs.line.number_of.Goals as goal

pub returns-in-Some-clause-number : goal.returns-in-Some-clause-number
returns-in-Some-clause-number c = number_read (found_of c.args.options.now) c.args.name.now c.args.least c.args.most c.args.default c.in-Some.number (search rules) c.in-Some.ensures.none c.in-Some.ensures.value (search rules) (search rules)

pub returns-in_default-clause-number : goal.returns-in_default-clause-number
returns-in_default-clause-number c = number_out (found_of c.args.options.now) c.args.name.now c.args.least c.args.most c.args.default c.in-Some.number c.in-Some.ensures.none c.in-Some.ensures.value (λ h. search rules)

pub returns-in_default-2-clause-number : goal.returns-in_default-2-clause-number
returns-in_default-2-clause-number c = number_out (found_of c.args.options.now) c.args.name.now c.args.least c.args.most c.args.default c.in-Some.number c.in-Some.ensures.none c.in-Some.ensures.value (λ h. search rules)

pub returns-in_default-3-clause-number : goal.returns-in_default-3-clause-number
returns-in_default-3-clause-number c = number_not_read (found_of c.args.options.now) c.args.name.now c.args.least c.args.most c.args.default (search rules) c.in_default.ensures.value
