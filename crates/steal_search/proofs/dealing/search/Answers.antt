use Rattle.std.proofs.Common.{◌≡◌, Some}
use Rattle.book_core.specs.Shared.{lemmas_of}
use Rattle.steal_search.proofs.Going.{lemmas_over, decided_over, shown_cube}
use Rattle.steal_search.proofs.dealing.search.Goals as goal

pub search-requires-clause-lemmas : goal.search-requires-clause-lemmas
search-requires-clause-lemmas c = lemmas_over c.args.problem.now c.args.seat.now (lemmas_of c.lemmas.result.now) c.requires.searching.problem_is c.lemmas.ensures c.sound.ensures.over

pub search-requires-clause-cube : goal.search-requires-clause-cube
search-requires-clause-cube c =
    let holds : c.args.seat.now.cube ≡ Some c.unwrap-cube.result.now = shown_cube (λ r. r.now) c.cube.result c.unwrap-cube.result c.args.seat.now.cube c.cube.ensures c.unwrap-cube.ensures in
    decided_over c.args.problem.now c.args.seat.now c.unwrap-cube.result.now c.as_slice.result.now c.requires.searching.problem_is holds c.as_slice.ensures c.sound.ensures.decided
