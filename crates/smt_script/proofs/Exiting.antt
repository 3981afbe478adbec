-- The request of `(exit)` is that of the command.
use Rattle.std.proofs.Common.{sym, ap, ◌≡◌, Result, Ok, Err}
use Rattle.smt_sexpr.specs.Table.{Table}
use Rattle.smt_script.specs.Commands.{Command, is_exiting}
use Rattle.smt_script.specs.code.Shapes.{RequestIs, asks_exit}
use Rattle.smt_script.specs.declared.command.Request.{Request}
use Rattle.smt_script.specs.declared.command.Request.TheVariants.{SetLogic, SetOption, SetInfo, Declare, Define, Assert, AssertNamed, Push, Pop, CheckSat, CheckSatAssuming, Minimize, Model, Values, Proof, Core, Assumptions, Information, Echo, ResetAssertions, Reset, Exit, Unsupported}
use Rattle.smt_script.specs.declared.error.Refusal.{Refusal}

pub exit_said : (t : Table) (found : Result Request Refusal) (meant : Result Command Refusal) → RequestIs t found meant → asks_exit found ≡ is_exiting meant
exit_said t (Ok (SetLogic id)) meant h = sym (ap is_exiting h.2)
exit_said t (Ok (SetOption keyword value)) meant h = sym (ap is_exiting h.2)
exit_said t (Ok SetInfo) meant h = sym (ap is_exiting h)
exit_said t (Ok (Declare signature)) meant h = sym (ap is_exiting h.3)
exit_said t (Ok (Define signature id)) meant h = sym (ap is_exiting h.5)
exit_said t (Ok (Assert id)) meant h = sym (ap is_exiting h.2)
exit_said t (Ok (AssertNamed id name)) meant h = sym (ap is_exiting h.2)
exit_said t (Ok (Push count)) meant h = sym (ap is_exiting h.2)
exit_said t (Ok (Pop count)) meant h = sym (ap is_exiting h.2)
exit_said t (Ok CheckSat) meant h = sym (ap is_exiting h)
exit_said t (Ok (CheckSatAssuming id)) meant h = sym (ap is_exiting h.3)
exit_said t (Ok (Minimize id)) meant h = sym (ap is_exiting h.2)
exit_said t (Ok Model) meant h = sym (ap is_exiting h)
exit_said t (Ok (Values id)) meant h = sym (ap is_exiting h.2)
exit_said t (Ok Proof) meant h = sym (ap is_exiting h)
exit_said t (Ok Core) meant h = sym (ap is_exiting h)
exit_said t (Ok Assumptions) meant h = sym (ap is_exiting h)
exit_said t (Ok (Information keyword)) meant h = sym (ap is_exiting h)
exit_said t (Ok (Echo text)) meant h = sym (ap is_exiting h)
exit_said t (Ok ResetAssertions) meant h = sym (ap is_exiting h)
exit_said t (Ok Reset) meant h = sym (ap is_exiting h)
exit_said t (Ok Exit) meant h = sym (ap is_exiting h)
exit_said t (Ok Unsupported) meant h = sym (ap is_exiting h)
exit_said t (Err why) meant h = sym (ap is_exiting h)
