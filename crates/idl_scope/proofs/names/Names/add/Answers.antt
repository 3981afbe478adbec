use Rattle.std.proofs.Common.{arith, ◌∙◌, ◌≡◌, ap, sym, not, Bor, ℕ, List, [], ◌∷◌, ◌++◌, true, false}
use Rattle.std.specs.Str.{bytes_eq}
use Rattle.indexmap.specs.IndexSet.{insert_key}
use Rattle.idl_node.specs.declared.sort.Sort.{Sort}
use Rattle.idl_scope.specs.Scopes.{Declaration, found_declared, is_found}
use Rattle.idl_scope.proofs.NamesKept.{is_among, key_added, key_kept, declarations-push}
use Rattle.idl_scope.proofs.NamesFound.{among-declared, declared-absent, not_false, not_true}
use Rattle.idl_scope.proofs.names.Names.add.Goals as goal

-- the keys with one more name
abbrev with_name : List (Bor (List ℕ)) → Bor (List ℕ) → List (Bor (List ℕ))
with_name keys name = insert_key (λ (a b : Bor (List ℕ)). bytes_eq a.now b.now) keys name

pub returns-then-not-new-clause-ok : goal.returns-then-not-new-clause-ok
returns-then-not-new-clause-ok c =
    let was : c.in_ok-new.new ≡ false = grind arith in
    let added : c.in_ok-new.new ≡ not (is_among c.args.name.now c.self.inside.set.keys) = c.in_ok-new.ensures.added ∙ ap (λ (k : Bor (List ℕ)). not (is_among k.now c.self.inside.set.keys)) c.new.ensures in
    let among : is_among c.args.name.now c.self.inside.set.keys ≡ true = not_false _ c.in_ok-new.new added was in
    let keys : c.insert.new.self.keys ≡ c.self.inside.set.keys = c.in_ok-new.ensures.keys ∙ ap (with_name c.self.inside.set.keys) c.new.ensures ∙ key_kept c.self.inside.set.keys c.args.name among in (
      ap (λ (ds : List Declaration). is_found (found_declared c.args.name.now 0 ds)) (sym c.self.view_is) ∙ among-declared c.args.name.now c.self.inside.set.keys c.self.inside.sorts.items c.self.invariant among,
      rw keys (rw c.reserve.ensures.items c.self.view_is),
    )

pub returns-clause-ok : goal.returns-clause-ok
returns-clause-ok c =
    let is_new : c.in_ok-new.new ≡ true = grind arith in
    let added : c.in_ok-new.new ≡ not (is_among c.args.name.now c.self.inside.set.keys) = c.in_ok-new.ensures.added ∙ ap (λ (k : Bor (List ℕ)). not (is_among k.now c.self.inside.set.keys)) c.new.ensures in
    let absent : is_among c.args.name.now c.self.inside.set.keys ≡ false = not_true _ c.in_ok-new.new added is_new in
    let keys : c.insert.new.self.keys ≡ c.self.inside.set.keys ++ c.args.name ∷ [] = c.in_ok-new.ensures.keys ∙ ap (with_name c.self.inside.set.keys) c.new.ensures ∙ key_added c.self.inside.set.keys c.args.name absent in
    let sorts : c.push_reserved.new.self.items ≡ c.self.inside.sorts.items ++ c.args.sort ∷ [] = c.push_reserved.ensures.items ∙ ap (λ (ss : List Sort). ss ++ c.args.sort ∷ []) c.reserve.ensures.items in (
      ap (λ (ds : List Declaration). is_found (found_declared c.args.name.now 0 ds)) (sym c.self.view_is) ∙ ap is_found (declared-absent c.args.name.now 0 c.self.inside.set.keys c.self.inside.sorts.items absent),
      rw keys (rw sorts (declarations-push c.self.inside.set.keys c.self.inside.sorts.items c.args.name c.args.sort c.self.invariant ∙ ap (λ (ds : List Declaration). ds ++ record { name = c.args.name.now; sort = c.args.sort } ∷ []) c.self.view_is)),
    )
