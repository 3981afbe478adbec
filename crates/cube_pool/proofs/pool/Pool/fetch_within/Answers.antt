use Rattle.std.proofs.Common.{arith, subst}
use Rattle.cube_pool.specs.Hands.{Doings, HasFetched}
use Rattle.cube_pool.proofs.pool.Pool.fetch_within.Goals as goal

pub returns-in-Some : goal.returns-in-Some
returns-in-Some g c =
    let place = c.loop-place.place in
    (place, omega (arith, c.loop-place-test.true, c.requires.high), subst (λ (d : Doings). HasFetched d place c.in-Some.id c.fetch_at.new.hand) c.loop-place.invariant c.in-Some.ensures)
