use Rattle.std.proofs.Common.{◌≡◌, ◌≤◌, ◌-◌, length, None}
use Rattle.dtp_check.proofs.Walking.{IsWalked}
use Rattle.dtp_check.proofs.script_part.read_part.Given as goal

abbrev pub invariant-script : goal.invariant-script
invariant-script l = record {
  walked : IsWalked l.lexer.bytes l.lexer.place l.commands;
  lexed : l.lexer.bytes ≡ l.fn.lexer.bytes;
  tabled : l.sexprs.bytes ≡ l.lexer.bytes;
  fresh : l.lexer.failed ≡ None;
  within : l.lexer.place ≤ length l.lexer.bytes;
  few : l.commands ≤ l.lexer.place;
}

abbrev pub decreases-script : goal.decreases-script
decreases-script l = length l.lexer.bytes - l.lexer.place
