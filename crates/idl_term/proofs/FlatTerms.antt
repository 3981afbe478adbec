-- Terms of few parts.
use Rattle.std.proofs.Common.{◌≡◌, ℕ, List, [], ◌∷◌, true, refl, sym, ap, subst, ◌∙◌, Option}
use Rattle.std.specs.Prelude.{Result, Ok, Err, IsErr, IsErrAnd}
use Rattle.smt_lex.specs.declared.token.TokenKind.{TokenKind}
use Rattle.smt_sexpr.specs.Tree.{Sexpr, leaf, more, none}
use Rattle.idl_node.specs.Nodes.{NodeValue}
use Rattle.idl_scope.specs.Scopes.{LoweredTerm, Scope}
use Rattle.idl_scope.specs.declared.lowered.Lowered.{Lowered}
use Rattle.idl_apply.specs.Applied.{Made, applied}
use Rattle.idl_apply.specs.Comparing.{follows}
use Rattle.idl_term.specs.Lowered.{MadeEach, operator, head_of, lowered, lowered_each, lowered_leaf, lowered_list, put_first}
use Rattle.idl_apply.specs.Operators.{takes_count}
use Rattle.idl_term.specs.code.Flat.{MayLower, made_of_one, made_of_two}
use Rattle.idl_apply.specs.code.Shapes.{Lowers}
use Rattle.idl_term.specs.code.Walks.{application_made}
use Rattle.idl_apply.specs.declared.error.TermError.{TermError}
use Rattle.idl_apply.specs.declared.error.TermError.TheVariants.{Refused, OutOfMemory}
use Rattle.idl_apply.specs.declared.error.TermRefusal.{TermRefusal}
use Rattle.idl_apply.specs.declared.operator.Operator.{Operator}
use Rattle.idl_term.proofs.FirstRefusals.{follows_err, follows_ok}
use Rattle.idl_term.proofs.ListSteps.{headed, by_head, lowered_of_leaf}
use Rattle.idl_term.proofs.MachineSteps.{error_is}

-- ---- lists of an operator and one or two terms

abbrev no_more : List NodeValue → Result MadeEach TermRefusal
no_more nodes = Ok (record { nodes = nodes; are = [] })

abbrev applied_each : Operator → Result MadeEach TermRefusal → Result Made TermRefusal
applied_each o each = follows each (λ made. applied o made.nodes made.are)

one_each : (o : Operator) (first : Result Made TermRefusal) → applied_each o (follows first (λ m. follows (no_more m.nodes) (put_first m))) ≡ made_of_one o first
one_each o (Ok m) = refl
one_each o (Err why) = refl

second_each : (o : Operator) (m : Made) (second : Result Made TermRefusal) → applied_each o (follows (follows second (λ n. follows (no_more n.nodes) (put_first n))) (put_first m)) ≡ follows second (λ n. applied o n.nodes (m.is ∷ n.is ∷ []))
second_each o m (Ok n) = refl
second_each o m (Err why) = refl

two_each : (o : Operator) (first : Result Made TermRefusal) (second : List NodeValue → Result Made TermRefusal)
    → applied_each o (follows first (λ m. follows (follows (second m.nodes) (λ n. follows (no_more n.nodes) (put_first n))) (put_first m))) ≡ made_of_two o first second
two_each o (Ok m) second = second_each o m (second m.nodes)
two_each o (Err why) second = refl

counted_one : (scope : Scope) (nodes : List NodeValue) (o : Operator) (x : Sexpr) → takes_count o 1 ≡ true → application_made o scope nodes (more x none) ≡ made_of_one o (lowered scope nodes x)
unfolding lowered_each
counted_one scope nodes o x count = rw count (one_each o (lowered scope nodes x))

counted_two : (scope : Scope) (nodes : List NodeValue) (o : Operator) (x y : Sexpr) → takes_count o 2 ≡ true → application_made o scope nodes (more x (more y none)) ≡ made_of_two o (lowered scope nodes x) (λ ns. lowered scope ns y)
unfolding lowered_each
counted_two scope nodes o x y count = rw count (two_each o (lowered scope nodes x) (λ ns. lowered scope ns y))

pub list_of_one : (scope : Scope) (nodes : List NodeValue) (o : Operator) (h x : Sexpr) → head_of scope h ≡ operator o → takes_count o 1 ≡ true → lowered_list scope nodes (more h (more x none)) ≡ made_of_one o (lowered scope nodes x)
list_of_one scope nodes o h x head count = by_head scope nodes h (more x none) ∙ ap (headed scope nodes (more x none)) head ∙ counted_one scope nodes o x count

pub list_of_two : (scope : Scope) (nodes : List NodeValue) (o : Operator) (h x y : Sexpr) → head_of scope h ≡ operator o → takes_count o 2 ≡ true
    → lowered_list scope nodes (more h (more x (more y none))) ≡ made_of_two o (lowered scope nodes x) (λ ns. lowered scope ns y)
list_of_two scope nodes o h x y head count = by_head scope nodes h (more x (more y none)) ∙ ap (headed scope nodes (more x (more y none))) head ∙ counted_two scope nodes o x y count

pub leaf_of_one : (scope : Scope) (nodes : List NodeValue) (o : Operator) (h x : Sexpr) (kind : TokenKind) (text : List ℕ) → head_of scope h ≡ operator o → takes_count o 1 ≡ true → x ≡ leaf kind text
    → lowered_list scope nodes (more h (more x none)) ≡ made_of_one o (lowered_leaf scope nodes kind text)
leaf_of_one scope nodes o h x kind text head count e = list_of_one scope nodes o h x head count ∙ ap (made_of_one o) (lowered_of_leaf scope nodes x kind text e)

pub leaves_of_two : (scope : Scope) (nodes : List NodeValue) (o : Operator) (h x y : Sexpr) (first_kind second_kind : TokenKind) (first_text second_text : List ℕ) → head_of scope h ≡ operator o → takes_count o 2 ≡ true → x ≡ leaf first_kind first_text → y ≡ leaf second_kind second_text
    → lowered_list scope nodes (more h (more x (more y none))) ≡ made_of_two o (lowered_leaf scope nodes first_kind first_text) (λ ns. lowered_leaf scope ns second_kind second_text)
unfolding lowered
leaves_of_two scope nodes o h x y first_kind second_kind first_text second_text head count e f =
    list_of_two scope nodes o h x y head count
    ∙ ap (λ (z : Sexpr). made_of_two o (lowered scope nodes z) (λ ns. lowered scope ns y)) e
    ∙ ap (λ (z : Sexpr). made_of_two o (lowered scope nodes (leaf first_kind first_text)) (λ ns. lowered scope ns z)) f

-- ---- what is made in the end, and the first refusal

pub one_made : (o : Operator) (now mid : List NodeValue) (first : Result Made TermRefusal) (v : LoweredTerm) (r : Result Lowered TermError) → first ≡ Ok (record { nodes = mid; is = v }) → Lowers now (applied o mid (v ∷ [])) r → Lowers now (made_of_one o first) r
one_made o now mid first v r e h = subst (λ (m : Result Made TermRefusal). Lowers now m r) (sym (follows_ok first (λ a. applied o a.nodes (a.is ∷ [])) (record { nodes = mid; is = v }) e)) h

pub two_made : (o : Operator) (now mid behind : List NodeValue) (first : Result Made TermRefusal) (second : List NodeValue → Result Made TermRefusal) (v w : LoweredTerm) (r : Result Lowered TermError)
    → first ≡ Ok (record { nodes = mid; is = v }) → second mid ≡ Ok (record { nodes = behind; is = w }) → Lowers now (applied o behind (v ∷ w ∷ [])) r → Lowers now (made_of_two o first second) r
two_made o now mid behind first second v w r e f h =
    subst (λ (m : Result Made TermRefusal). Lowers now m r)
    (sym (follows_ok first (λ a. follows (second a.nodes) (λ b. applied o b.nodes (a.is ∷ b.is ∷ []))) (record { nodes = mid; is = v }) e
    ∙ follows_ok (second mid) (λ b. applied o b.nodes (v ∷ b.is ∷ [])) (record { nodes = behind; is = w }) f)) h

pub refused_one : (o : Operator) (now later : List NodeValue) (first : Result Made TermRefusal) (e : TermError) → Lowers now first (Err e) → Lowers later (made_of_one o first) (Err e)
refused_one o now later first (Refused why) h = follows_err first (λ a. applied o a.nodes (a.is ∷ [])) why h
refused_one o now later first OutOfMemory h = tt

pub refused_first : (o : Operator) (now later : List NodeValue) (first : Result Made TermRefusal) (second : List NodeValue → Result Made TermRefusal) (e : TermError) → Lowers now first (Err e) → Lowers later (made_of_two o first second) (Err e)
refused_first o now later first second (Refused why) h = follows_err first (λ a. follows (second a.nodes) (λ b. applied o b.nodes (a.is ∷ b.is ∷ []))) why h
refused_first o now later first second OutOfMemory h = tt

pub refused_second : (o : Operator) (now later mid : List NodeValue) (first : Result Made TermRefusal) (second : List NodeValue → Result Made TermRefusal) (v : LoweredTerm) (e : TermError)
    → first ≡ Ok (record { nodes = mid; is = v }) → Lowers now (second mid) (Err e) → Lowers later (made_of_two o first second) (Err e)
refused_second o now later mid first second v (Refused why) is h =
    follows_ok first (λ a. follows (second a.nodes) (λ b. applied o b.nodes (a.is ∷ b.is ∷ []))) (record { nodes = mid; is = v }) is ∙ follows_err (second mid) (λ b. applied o b.nodes (v ∷ b.is ∷ [])) why h
refused_second o now later mid first second v OutOfMemory is h = tt

-- ---- a call that may make a term

pub may_same : (before now : List NodeValue) (made target : Result Made TermRefusal) (r : Result (Option Lowered) TermError) → made ≡ target → MayLower before now target r → MayLower before now made r
may_same before now made target r e h = subst (λ (m : Result Made TermRefusal). MayLower before now m r) (sym e) h

may_refused : (before now later : List NodeValue) (made target : Result Made TermRefusal) (e : TermError) → made ≡ target → Lowers later target (Err e) → MayLower before now made (Err e)
may_refused before now later made target (Refused why) same h = same ∙ h
may_refused before now later made target OutOfMemory same h = tt

pub may_refuse : (before now later : List NodeValue) (made target : Result Made TermRefusal) (r : Result (Option Lowered) TermError) (e : TermError) → IsErr r × IsErrAnd r (λ x. x ≡ e) → made ≡ target → Lowers later target (Err e) → MayLower before now made r
may_refuse before now later made target r e is same h = subst (MayLower before now made) (sym (error_is r e is)) (may_refused before now later made target e same h)

pub as_lowers : (before now later : List NodeValue) (made : Result Made TermRefusal) (e : TermError) → MayLower before now made (Err e) → Lowers later made (Err e)
as_lowers before now later made (Refused why) h = h
as_lowers before now later made OutOfMemory h = tt

pub lowers_refuse : (before now later : List NodeValue) (made : Result Made TermRefusal) (r : Result Lowered TermError) (e : TermError) → IsErr r × IsErrAnd r (λ x. x ≡ e) → MayLower before now made (Err e) → Lowers later made r
lowers_refuse before now later made r e is h = subst (Lowers later made) (sym (error_is r e is)) (as_lowers before now later made e h)
