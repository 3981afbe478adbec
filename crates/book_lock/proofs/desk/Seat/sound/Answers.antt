use Rattle.std.proofs.Common.{[], All, subst}
use Rattle.std.specs.Prelude.{IfSome, AllPairs}
use Rattle.refute_tree.specs.Batches.{AreRefuted, LemmaIsOver}
use Rattle.book_core.specs.Books.{IsDecidable}
use Rattle.book_core.specs.Facts.{IsApart}
use Rattle.book_lock.specs.Begun.{Opens, Runs}
use Rattle.book_lock.specs.declared.cube.Cube.{Cube}
use Rattle.book_lock.specs.Seats.{Sight}
use Rattle.book_lock.proofs.Sounds.{sound_refuted, sound_over, sound_decided, sound_apart}
use Rattle.book_lock.proofs.desk.Seat.sound.Goals as goal

pub returns-clause-opens : goal.returns-clause-opens
returns-clause-opens c = subst (λ (s : Sight). Opens s.view.begun) c.self.view_is c.self.invariant.6.opens

pub returns-clause-run : goal.returns-clause-run
returns-clause-run c = subst (λ (s : Sight). Runs s.view.begun s.view.front) c.self.view_is c.self.invariant.6.run

pub returns-clause-refuted : goal.returns-clause-refuted
returns-clause-refuted c =
    let i = c.self.invariant.6 in
    subst (λ (s : Sight). AreRefuted s.view.begun.problem.points s.view.begun.problem.clauses [] s.lemmas) c.self.view_is
    (sound_refuted c.sound_law.ensures c.self.inside.token.me.0 _ c.self.inside.cube i.opens i.run i.seen)

pub returns-clause-over : goal.returns-clause-over
returns-clause-over c =
    let i = c.self.invariant.6 in
    subst (λ (s : Sight). All (LemmaIsOver s.view.begun.problem.points) s.lemmas) c.self.view_is
    (sound_over c.sound_law.ensures c.self.inside.token.me.0 _ c.self.inside.cube i.opens i.run i.seen)

pub returns-clause-decided : goal.returns-clause-decided
returns-clause-decided c =
    let i = c.self.invariant.6 in
    subst (λ (s : Sight). IfSome s.cube (λ (cube : Cube). All (IsDecidable s.view.begun.problem) cube.literals)) c.self.view_is
    (sound_decided c.sound_law.ensures c.self.inside.token.me.0 [] c.self.inside.cube i.opens i.run i.holds)

pub returns-clause-apart : goal.returns-clause-apart
returns-clause-apart c =
    let i = c.self.invariant.6 in
    subst (λ (s : Sight). IfSome s.cube (λ (cube : Cube). AllPairs IsApart cube.literals)) c.self.view_is
    (sound_apart c.sound_law.ensures c.self.inside.token.me.0 [] c.self.inside.cube i.opens i.run i.holds)
