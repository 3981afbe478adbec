use Rattle.std.proofs.Common.{rules, ◌≡◌, true, false, ℕ, ◌+◌, ◌-◌, sym, subst, List, [], ◌∷◌, ◌++◌, take}
use Rattle.cert_text.specs.declared.entry.FileEntry.TheVariants.{Unsat}
use Rattle.kept_lemmas.specs.declared.item.Item.{Item}
use Rattle.kept_lemmas.specs.Entries.{AreRight, Placed}
use Rattle.lemma_shelf.specs.Lowering.{StatesLast, AreOfShelf}
use Rattle.dtp_check.specs.declared.earlier.Earlier.{Earlier}
use Rattle.dtp_check.specs.code.Earlier.{HoldsTrees, Suffices, LastRefutes}
use Rattle.dtp_check.proofs.Standing.{own_stand, kept_stand, shelf_held, not_own}
use Rattle.dtp_check.proofs.earlier.Earlier.lowered.Goals as goal

pub unreachable-requires : goal.unreachable-requires
unreachable-requires c =
    let none : true ≡ false = subst (λ (earlier : Earlier). HoldsTrees true earlier) c.in-Shelved.is (c.in_ok-check.ensures.trees true c.requires.trees) in
    absurd (cc)

pub returns-in_ok-own_lemmas-in-Unkept-clause-refutes : goal.returns-in_ok-own_lemmas-in-Unkept-clause-refutes
returns-in_ok-own_lemmas-in-Unkept-clause-refutes c =
    let points = c.args.problem.now.points in
    let clauses = c.args.problem.now.clauses in
    let items = c.args.items.now in
    let none = subst (λ (earlier : Earlier). LastRefutes earlier points clauses items) c.in-Unkept.is c.in_ok-check.ensures.refutes in
    let right = (c.flaw_law.ensures.items [] points clauses items).0 (none []) in
    (c.own_law.ensures [] points clauses c.in_ok-own_lemmas-in-Unkept.field-0).0
    (subst (λ (shown : List Item). AreRight [] points clauses shown) (sym c.in_ok-own_lemmas-in-Unkept.ensures) right)

pub returns-in_ok-own_lemmas-in-WithTrees-clause-refutes : goal.returns-in_ok-own_lemmas-in-WithTrees-clause-refutes
returns-in_ok-own_lemmas-in-WithTrees-clause-refutes c =
    let points = c.args.problem.now.points in
    let clauses = c.args.problem.now.clauses in
    let items = c.args.items.now in
    let found = c.in_ok-check.ensures.right in
    let right = (c.flaw_law.ensures.items found.0 points clauses items).0 found.1 in
    (c.own_law.ensures found.0 points clauses c.in_ok-own_lemmas-in-WithTrees.field-0).0
    (subst (λ (shown : List Item). AreRight found.0 points clauses shown) (sym c.in_ok-own_lemmas-in-WithTrees.ensures) right)

pub returns-in_ok-own_lemmas-in-Unkept-clause-stand : goal.returns-in_ok-own_lemmas-in-Unkept-clause-stand
returns-in_ok-own_lemmas-in-Unkept-clause-stand c = λ before held.
    let entry : Placed = record { points = c.args.problem.now.points; clauses = c.args.problem.now.clauses; items = c.args.items.now } in
    let suffices = subst (λ (earlier : Earlier). Suffices earlier (Unsat c.args.items.now ∷ [])) c.in-Unkept.is (c.in_ok-check.ensures.suffices (Unsat c.args.items.now ∷ []) c.requires.suffices) in
    own_stand before entry c.in_ok-own_lemmas-in-Unkept.field-0 suffices.0 c.in_ok-own_lemmas-in-Unkept.ensures

pub returns-in_ok-own_lemmas-in-WithTrees-clause-stand : goal.returns-in_ok-own_lemmas-in-WithTrees-clause-stand
returns-in_ok-own_lemmas-in-WithTrees-clause-stand c = λ before held.
    let entry : Placed = record { points = c.args.problem.now.points; clauses = c.args.problem.now.clauses; items = c.args.items.now } in
    own_stand before entry c.in_ok-own_lemmas-in-WithTrees.field-0 (c.are_own.ensures.0 (search rules)) c.in_ok-own_lemmas-in-WithTrees.ensures

pub returns-in_ok-lower-in-WithTrees-clause-stand : goal.returns-in_ok-lower-in-WithTrees-clause-stand
returns-in_ok-lower-in-WithTrees-clause-stand c = λ before held.
    let entry : Placed = record { points = c.args.problem.now.points; clauses = c.args.problem.now.clauses; items = c.args.items.now } in
    let shelf = shelf_held c.check.new.self c.in-WithTrees.shelf (before ++ entry ∷ []) c.in-WithTrees.is (c.in_ok-check.ensures.held before held) in
    kept_stand before entry c.in_ok-lower-in-WithTrees.field-0 c.in-WithTrees.shelf shelf (not_own c.args.items.now c.are_own.result c.are_own.ensures (search rules))
    (subst (λ (n : ℕ). StatesLast c.in-WithTrees.shelf (n - 1) entry.clauses c.in_ok-lower-in-WithTrees.field-0) c.len.ensures c.in_ok-lower-in-WithTrees.ensures.states)
    (subst (λ (n : ℕ). AreOfShelf (take (n - 1 + 1) c.in-WithTrees.shelf) entry.clauses c.in_ok-lower-in-WithTrees.field-0) c.len.ensures c.in_ok-lower-in-WithTrees.ensures.there)
    c.in_ok-lower-in-WithTrees.ensures.cited
