use Rattle.cert_read.proofs.QuickTexts.{strips}
use Rattle.cert_read.proofs.quick.behind.Goals as goal

pub returns : goal.returns
returns c = strips c.args.bytes.now c.args.text.now c.in_ok-rest.rest.now c.in_ok-rest.ensures.cases.0 c.in_ok-rest.ensures.cases.1
