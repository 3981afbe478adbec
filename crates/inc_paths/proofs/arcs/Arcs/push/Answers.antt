use Rattle.std.proofs.Common.{rules, arith, ap, ◌∙◌, ◌≡◌, ◌<◌, ◌+◌, ◌++◌, ◌∷◌, [], ℕ, length}
use Rattle.std.proofs.lemmas.List.{get_or_read}
use Rattle.inc_paths.specs.code.Graphs.{Graph, number_at}
use Rattle.inc_paths.proofs.Linking.{linked_more}
use Rattle.inc_paths.proofs.arcs.Arcs.push.Goals as goal

pub invariant_of-self-in-Ok : goal.invariant_of-self-in-Ok
invariant_of-self-in-Ok c =
    let shown : c.self.inside.literals.items ≡ c.args.self.now.literals = ap (λ (g : Graph). g.literals) c.self.view_is in
    let points : length c.self.inside.heads.items ≡ c.args.self.now.points = ap (λ (g : Graph). g.points) c.self.view_is in
    let length_is : c.len.result ≡ length c.self.inside.literals.items + 1 = search rules in
    let y_in : c.args.literal.y < length c.self.inside.heads.items = omega (arith, c.requires) in
    let literals : c.push-2.new.self.items ≡ c.self.inside.literals.items ++ c.args.literal ∷ [] = search rules in
    let read = get_or_read c.self.inside.heads.items c.args.literal.y c.index-newest.result.now y_in c.index-newest.ensures 0 in
    let nexts : c.push.new.self.items ≡ c.self.inside.nexts.items ++ number_at c.self.inside.heads.items c.args.literal.y ∷ [] = c.in_ok-push.ensures.items ∙ ap (λ (n : ℕ). c.self.inside.nexts.items ++ n ∷ []) read in
    rw (length_is, literals, nexts) (linked_more c.self.inside.literals.items c.self.inside.heads.items c.self.inside.nexts.items c.args.literal c.self.invariant y_in)
