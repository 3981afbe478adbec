use Rattle.std.proofs.Common.{arith, ◌≢◌, ◌<◌, ◌-◌, subst}
use Rattle.std.proofs.lemmas.Bool.Decides.{nat_tests}
use Rattle.cover_tree.specs.code.Members.{NumberSet, IsMember, NoMember}
use Rattle.cover_tree.proofs.Orders.{none_in, member_in}
use Rattle.cover_tree.proofs.members.Members.any.Goals as goal

pub returns-then-self-eq0-clause-none : goal.returns-then-self-eq0-clause-none
returns-then-self-eq0-clause-none c =
    subst (λ (s : NumberSet). NoMember s.flags) c.self.view_is (none_in c.self.inside.count c.self.inside.place.items (grind (arith, nat_tests)))

pub returns-clause-some : goal.returns-clause-some
returns-clause-some c =
    let some : c.self.inside.count ≢ 0 = grind (arith, nat_tests) in
    let small : c.self.inside.count - 1 < c.self.inside.count = omega (arith, some) in
    subst (λ (s : NumberSet). IsMember s.flags c.index.result.now) c.self.view_is (member_in _ _ _ _ _ c.self.invariant small c.index.ensures)
