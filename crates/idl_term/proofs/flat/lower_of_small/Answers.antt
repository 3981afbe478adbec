use Rattle.std.proofs.Common.{subst, ◌∙◌, List, Option}
use Rattle.std.specs.Prelude.{Result, Ok, Err}
use Rattle.idl_node.specs.Nodes.{NodeValue}
use Rattle.idl_scope.specs.Scopes.{shown_term}
use Rattle.idl_scope.specs.code.LocalNames.{scope_in}
use Rattle.idl_scope.specs.declared.lowered.Lowered.{Lowered}
use Rattle.idl_apply.specs.Applied.{Made}
use Rattle.idl_term.specs.Lowered.{lowered}
use Rattle.idl_term.specs.code.Flat.{MayLower}
use Rattle.idl_term.specs.code.Trees.{tree_of}
use Rattle.idl_apply.specs.declared.error.TermRefusal.{TermRefusal}
use Rattle.idl_term.proofs.FlatTerms.{list_of_two, two_made, refused_first, refused_second, may_refuse, as_lowers}
use Rattle.idl_term.proofs.flat.lower_of_small.Goals as goal

pub returns-in_err-a-clause-makes : goal.returns-in_err-a-clause-makes
returns-in_err-a-clause-makes c =
    let t = c.args.sexprs.now in
    let scope = scope_in c.args.locals.now in
    let old = c.args.nodes.now in
    let o = c.in-Some.operator in
    let x = tree_of t c.args.first in
    let y = tree_of t c.args.second in
    let second : List NodeValue → Result Made TermRefusal = λ ns. lowered scope ns y in
    let whole = list_of_two scope old o (tree_of t c.args.head) x y c.in-Some.ensures.0 c.in-Some.ensures.1 in
    let now = c.lower_small.new.nodes in
    let e = c.in_err-a.field-0.0 in
    may_refuse old now now _ _ c.from_residual.result e c.from_residual.ensures whole (refused_first o now now (lowered scope old x) second e (as_lowers old now now (lowered scope old x) e c.in_err-a.ensures.makes))

pub returns-in_err-b-clause-makes : goal.returns-in_err-b-clause-makes
returns-in_err-b-clause-makes c =
    let t = c.args.sexprs.now in
    let scope = scope_in c.args.locals.now in
    let old = c.args.nodes.now in
    let o = c.in-Some.operator in
    let x = tree_of t c.args.first in
    let y = tree_of t c.args.second in
    let second : List NodeValue → Result Made TermRefusal = λ ns. lowered scope ns y in
    let whole = list_of_two scope old o (tree_of t c.args.head) x y c.in-Some.ensures.0 c.in-Some.ensures.1 in
    let mid = c.lower_small.new.nodes in
    let v = shown_term c.in-Some-2.a in
    let made_first = subst (λ (f : Option Lowered). MayLower old mid (lowered scope old x) (Ok f)) c.in-Some-2.is c.in_ok-a.ensures.makes in
    let now = c.lower_small-2.new.nodes in
    let e = c.in_err-b.field-0.0 in
    may_refuse old now now _ _ c.from_residual-in_err-b.result e c.from_residual-in_err-b.ensures whole (refused_second o now now mid (lowered scope old x) second v e made_first (as_lowers mid now now (lowered scope mid y) e c.in_err-b.ensures.makes))

pub returns-in_err-made-clause-makes : goal.returns-in_err-made-clause-makes
returns-in_err-made-clause-makes c =
    let t = c.args.sexprs.now in
    let scope = scope_in c.args.locals.now in
    let old = c.args.nodes.now in
    let o = c.in-Some.operator in
    let x = tree_of t c.args.first in
    let y = tree_of t c.args.second in
    let second : List NodeValue → Result Made TermRefusal = λ ns. lowered scope ns y in
    let whole = list_of_two scope old o (tree_of t c.args.head) x y c.in-Some.ensures.0 c.in-Some.ensures.1 in
    let mid = c.lower_small.new.nodes in
    let v = shown_term c.in-Some-2.a in
    let made_first = subst (λ (f : Option Lowered). MayLower old mid (lowered scope old x) (Ok f)) c.in-Some-2.is c.in_ok-a.ensures.makes in
    let behind = c.lower_small-2.new.nodes in
    let made_second = subst (λ (f : Option Lowered). MayLower mid behind (lowered scope mid y) (Ok f)) c.in-Some-3.is c.in_ok-b.ensures.makes in
    let now = c.apply_to_two.new.nodes in
    let e = c.in_err-made.field-0.0 in
    may_refuse old now now _ _ c.from_residual-in_err-made.result e c.from_residual-in_err-made.ensures whole
    (two_made o now mid behind (lowered scope old x) second v (shown_term c.in-Some-3.b) (Err e) made_first made_second c.in_err-made.ensures.makes)

pub returns-clause-makes : goal.returns-clause-makes
returns-clause-makes c =
    let t = c.args.sexprs.now in
    let scope = scope_in c.args.locals.now in
    let old = c.args.nodes.now in
    let o = c.in-Some.operator in
    let x = tree_of t c.args.first in
    let y = tree_of t c.args.second in
    let second : List NodeValue → Result Made TermRefusal = λ ns. lowered scope ns y in
    let whole = list_of_two scope old o (tree_of t c.args.head) x y c.in-Some.ensures.0 c.in-Some.ensures.1 in
    let mid = c.lower_small.new.nodes in
    let v = shown_term c.in-Some-2.a in
    let made_first = subst (λ (f : Option Lowered). MayLower old mid (lowered scope old x) (Ok f)) c.in-Some-2.is c.in_ok-a.ensures.makes in
    let behind = c.lower_small-2.new.nodes in
    let made_second = subst (λ (f : Option Lowered). MayLower mid behind (lowered scope mid y) (Ok f)) c.in-Some-3.is c.in_ok-b.ensures.makes in
    whole ∙ two_made o c.apply_to_two.new.nodes mid behind (lowered scope old x) second v (shown_term c.in-Some-3.b) (Ok c.in_ok-made.made) made_first made_second c.in_ok-made.ensures.makes
