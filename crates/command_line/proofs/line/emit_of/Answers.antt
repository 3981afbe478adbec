use Rattle.std.proofs.Common.{◌∙◌, Some, None}
use Rattle.clap.specs.Words.{found_of}
use Rattle.command_line.proofs.Emits.{emit_read}
use Rattle.command_line.proofs.line.emit_of.Goals as goal

pub returns-in-Some : goal.returns-in-Some
returns-in-Some c = record { emit = c.emit_named.ensures ∙ emit_read (found_of c.args.options.now) (Some c.in-Some.word) c.in-Some.ensures }

pub returns-in-None : goal.returns-in-None
returns-in-None c = record { emit = emit_read (found_of c.args.options.now) None c.in-None.ensures }
