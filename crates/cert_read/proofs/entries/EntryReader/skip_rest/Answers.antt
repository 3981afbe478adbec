use Rattle.std.proofs.Common.{[], ◌∷◌, ◌++◌, rules}
use Rattle.cert_read.proofs.ReadOn.{read_none, read_more, all_left, refused_on}
use Rattle.cert_read.proofs.entries.EntryReader.skip_rest.Goals as goal

pub loop-init : goal.loop-init
loop-init c = ([], read_none c.args.self.now)

pub loop-preserved : goal.loop-preserved
loop-preserved c =
    let so_far = c.loop.invariant in
    let more = c.in_ok-skip.ensures.entry c.if-branch.true in
    (so_far.0 ++ more.0 ∷ [], read_more c.args.self.now c.loop.self so_far.0 so_far.1 c.skip.new.self (more.0 ∷ []) more.1)

pub returns-clause-ok : goal.returns-clause-ok
returns-clause-ok c =
    let so_far = c.loop.invariant in
    (so_far.0 ++ [], all_left c.args.self.now c.loop.self so_far.0 so_far.1 [] (c.in_ok-skip.ensures.end c.if-branch.false))

pub returns-in_err-skip-clause-refused : goal.returns-in_err-skip-clause-refused
returns-in_err-skip-clause-refused c =
    let so_far = c.loop.invariant in
    search (rules, refused_on c.args.self.now c.loop.self so_far.0 so_far.1 _ c.in_err-skip.ensures.refused)
