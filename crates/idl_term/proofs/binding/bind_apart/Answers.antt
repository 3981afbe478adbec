use Rattle.std.proofs.Common.{arith, refl, ◌≡◌, ℕ, ap, sym, ◌∙◌, List, ◌++◌, [], ◌∷◌, false, true, Bor}
use Rattle.std.proofs.lemmas.List.{map-append}
use Rattle.idl_scope.proofs.NamesKept.{texts, is_among, key_added}
use Rattle.idl_term.proofs.BindingNames.{so_far_more, not_shaped, not_different, among_texts, not_true, not_false}
use Rattle.idl_term.proofs.TreesOfIds.{tree_at}
use Rattle.idl_term.proofs.binding.bind_apart.Goals as goal

pub loop-binding-init : goal.loop-binding-init
loop-binding-init c = rw c.requires.empty (record { binds = refl; names = refl; differ = refl })

pub variable_of-requires : goal.variable_of-requires
variable_of-requires c = tree_at c.args.sexprs.now c.args.bindings.now c.loop-binding.binding-index c.requires.trees (omega (arith, c.loop-binding-test.true))

pub returns-in_default : goal.returns-in_default
returns-in_default c = sym (not_shaped c.args.sexprs.now c.args.bindings.now c.loop-binding.binding-index (omega (arith, c.loop-binding-test.true)) c.in_default.ensures)

pub returns-then-not-added : goal.returns-then-not-added
returns-then-not-added c =
    let there : is_among c.in-Some.name.now c.loop-binding.variables.keys ≡ true = not_false _ _ c.in_ok-_place.ensures.added c.if-not-added.true in
    sym (not_different c.args.sexprs.now c.args.bindings.now c.loop-binding.binding-index (texts c.loop-binding.variables.keys) c.in-Some.name.now (omega (arith, c.loop-binding-test.true)) c.loop-binding.invariant c.in-Some.ensures (among_texts c.in-Some.name.now c.loop-binding.variables.keys ∙ there))

pub loop-binding-preserved : goal.loop-binding-preserved
loop-binding-preserved c =
    let keys = c.loop-binding.variables.keys in
    let absent : is_among c.in-Some.name.now keys ≡ false = not_true _ _ c.in_ok-_place.ensures.added c.if-not-added.false in
    let added : texts c.insert_full.new.self.keys ≡ texts keys ++ c.in-Some.name.now ∷ [] = ap texts (c.in_ok-_place.ensures.keys ∙ key_added keys c.in-Some.name absent) ∙ map-append (λ (k : Bor (List ℕ)). k.now) keys (c.in-Some.name ∷ []) in
    so_far_more c.args.sexprs.now c.args.bindings.now c.loop-binding.binding-index (texts keys) (texts c.insert_full.new.self.keys) c.in-Some.name.now (omega (arith, c.loop-binding-test.true)) c.loop-binding.invariant c.in-Some.ensures (among_texts c.in-Some.name.now keys ∙ absent) added
