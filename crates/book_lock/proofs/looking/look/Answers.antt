use Rattle.std.proofs.Common.{sym, subst, ◌∙◌, Option}
use Rattle.book_lock.specs.declared.cube.Cube.{Cube}
use Rattle.book_lock.specs.declared.cube.Dealt.{Dealt}
use Rattle.std.specs.Prelude.{IfSome}
use Rattle.book_core.specs.Runs.{state_of}
use Rattle.book_lock.specs.Seats.{IsCubeNear}
use Rattle.book_lock.specs.code.Looks.{Looked}
use Rattle.book_lock.proofs.Taking.{looked_from, near_taken}
use Rattle.book_lock.proofs.looking.look.Goals as goal

pub returns-in-Ok-clause-ok : goal.returns-in-Ok-clause-ok
returns-in-Ok-clause-ok c = subst (λ (r : Dealt × Option Cube). Looked c.args.book.now c.args.seat r.0 r.1 c.look_up.new.book) (sym c.dealt_as.ensures) (looked_from c.args.book.now c.look_up.new.book c.args.seat c.in-Ok.answer c.in-Ok.ensures.ok)

pub returns-in-Ok-clause-lemmas : goal.returns-in-Ok-clause-lemmas
returns-in-Ok-clause-lemmas c = c.in-Ok.ensures.all ∙ sym (looked_from c.args.book.now c.look_up.new.book c.args.seat c.in-Ok.answer c.in-Ok.ensures.ok).lemmas

pub returns-in-Ok-clause-near : goal.returns-in-Ok-clause-near
returns-in-Ok-clause-near c = subst (λ (r : Dealt × Option Cube). IfSome c.args.near (IsCubeNear (state_of c.args.book.now).cover r.1)) (sym c.dealt_as.ensures) (near_taken (state_of c.args.book.now).cover c.args.near c.in-Ok.answer c.in-Ok.ensures.near)
