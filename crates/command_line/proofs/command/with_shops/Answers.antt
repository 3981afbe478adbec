use Rattle.std.proofs.Common.{◌∙◌, ap, ap₂}
use Rattle.clap.specs.Words.{App, app_of, with_subcommand}
use Rattle.command_line.proofs.command.with_shops.Goals as goal

pub returns-clause-app : goal.returns-clause-app
returns-clause-app c =
    let top : App → _ = λ a. a.top in
    let first = c.in_ok-command.ensures.shape c.in_ok-benching.ensures.local ∙ ap (with_subcommand (app_of c.args.command)) (ap top c.in_ok-benching.ensures.app) in
    c.in_ok-command-2.ensures.shape c.in_ok-jobshop.ensures.local ∙ ap₂ with_subcommand first (ap top c.in_ok-jobshop.ensures.app)
