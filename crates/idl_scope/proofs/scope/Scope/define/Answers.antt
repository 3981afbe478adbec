use Rattle.std.proofs.Common.{arith, ◌∙◌, ◌≡◌, ap, List, [], ◌∷◌, ◌++◌, false}
use Rattle.std.proofs.lemmas.List.{length-append}
use Rattle.idl_scope.specs.declared.lowered.Lowered.{Lowered}
use Rattle.idl_scope.specs.code.Kept.{definitions_of}
use Rattle.idl_scope.specs.Scopes.{Scope, Binding, is_known, shown_term}
use Rattle.idl_scope.proofs.NamesKept.{is_among, key_added, definitions-push, texts}
use Rattle.idl_scope.proofs.NamesFound.{unknown-undefined}
use Rattle.idl_scope.proofs.scope.Scope.define.Goals as goal

pub invariant_of-self-2 : goal.invariant_of-self-2
invariant_of-self-2 c =
    let absent : is_among c.args.name.now c.self.inside.defined.keys ≡ false =
    unknown-undefined c.args.name.now c.self.inside.defined.keys c.self.inside.terms.items c.self.inside.names c.self.invariant (ap (λ (s : Scope). is_known s c.args.name.now) c.self.view_is ∙ c.requires) in
    let keys : c.insert.new.self.keys ≡ c.self.inside.defined.keys ++ c.args.name ∷ [] = c.in_ok-insert.ensures.keys ∙ key_added c.self.inside.defined.keys c.args.name absent in
    let terms : c.push_reserved.new.self.items ≡ c.self.inside.terms.items ++ c.args.term ∷ [] = c.push_reserved.ensures.items ∙ ap (λ (ts : List Lowered). ts ++ c.args.term ∷ []) c.reserve.ensures.items in
    rw keys (rw terms (omega (arith, length-append c.self.inside.defined.keys (c.args.name ∷ []), length-append c.self.inside.terms.items (c.args.term ∷ []), c.self.invariant)))

pub returns-clause-ok : goal.returns-clause-ok
returns-clause-ok c =
    let absent : is_among c.args.name.now c.self.inside.defined.keys ≡ false =
    unknown-undefined c.args.name.now c.self.inside.defined.keys c.self.inside.terms.items c.self.inside.names c.self.invariant (ap (λ (s : Scope). is_known s c.args.name.now) c.self.view_is ∙ c.requires) in
    let keys : c.insert.new.self.keys ≡ c.self.inside.defined.keys ++ c.args.name ∷ [] = c.in_ok-insert.ensures.keys ∙ key_added c.self.inside.defined.keys c.args.name absent in
    let terms : c.push_reserved.new.self.items ≡ c.self.inside.terms.items ++ c.args.term ∷ [] = c.push_reserved.ensures.items ∙ ap (λ (ts : List Lowered). ts ++ c.args.term ∷ []) c.reserve.ensures.items in
    let bound : definitions_of (texts c.insert.new.self.keys) c.push_reserved.new.self.items ≡ definitions_of (texts c.self.inside.defined.keys) c.self.inside.terms.items ++ record { name = c.args.name.now; stands = shown_term c.args.term } ∷ [] =
    rw keys (rw terms (definitions-push c.self.inside.defined.keys c.self.inside.terms.items c.args.name c.args.term c.self.invariant)) in
    ap (λ (bs : List Binding). record { declared = c.self.inside.names; bound = bs }) bound
    ∙ ap (λ (s : Scope). record { declared = s.declared; bound = s.bound ++ record { name = c.args.name.now; stands = shown_term c.args.term } ∷ [] }) c.self.view_is
