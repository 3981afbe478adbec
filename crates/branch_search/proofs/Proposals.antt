-- Literals that are pushed on the trail, each with its reason, over plain lists.
use Rattle.std.proofs.Common.{arith, ◌≡◌, ℕ, zero, suc, ◌<◌, ◌≤◌, ◌+◌, inl, inr, ◌⊎◌, List, [], ◌∷◌, ◌++◌, length, take, get_or, Contains, Option, None, subst, sym, ap, ◌∙◌, refl}
use Rattle.std.proofs.lemmas.Int.{ints}
use Rattle.std.proofs.lemmas.List.{length_push, take_more}
use Rattle.stn_core.specs.declared.literal.Literal.{Literal}
use Rattle.stn_core.specs.Literal.{negation_of, IsOver, literal_at}
use Rattle.stn_core.specs.Cycle.{IsNegativeCycle}
use Rattle.refute_tree.specs.declared.lemma.Lemma.{Lemma}
use Rattle.conflict_analysis.specs.declared.entry.Source.{Source}
use Rattle.conflict_analysis.specs.declared.entry.Reason.TheVariants.{Given, Decision, Clause as ByClause, Pair as ByPair}
use Rattle.conflict_analysis.specs.declared.entry.Entry.{Entry}
use Rattle.conflict_analysis.specs.declared.entry.Level.{Level}
use Rattle.conflict_analysis.specs.declared.entry.Conflict.{Conflict}
use Rattle.conflict_analysis.specs.declared.entry.Conflict.TheVariants.{Clause as OfClause, Cycle as OfCycle}
use Rattle.conflict_analysis.specs.code.Trails.{no_literal, on_trail, pair_cycle, IsConflict, Stands}
use Rattle.branch_search.specs.code.Search.{all_lemmas, IsSearch, IsStuckSearch, IsWeaker, IsNetAfter}
use Rattle.branch_search.specs.Slices.{Question}
use Rattle.branch_search.proofs.States.{state_pushed, state_begun, entry_last}

-- a literal of a clause
pub unit_pushed : (q : Question) (own : List Lemma) (es now : List Entry) (levels : List Level) (literals : List Literal) (l : Literal) (number : ℕ) (source : Source) (place : ℕ) → IsSearch q own es levels literals → IsOver q.problem.points l → now ≡ es ++ record { literal = l; number = number; reason = ByClause source place } ∷ [] → IsSearch q own now levels literals
unit_pushed q own es now levels literals l number source place s over grown =
    state_pushed q own es now levels literals (record { literal = l; number = number; reason = ByClause source place }) grown s over tt (λ chosen. absurd cc)

pub clause_stuck : (q : Question) (own lent : List Lemma) (es seen : List Entry) (levels : List Level) (literals : List Literal) (source : Source) → IsSearch q own es levels literals → lent ≡ own → seen ≡ es → IsConflict q.problem.clauses (all_lemmas q.handed lent) (Stands seen (length seen)) (OfClause source) → IsStuckSearch q own es levels literals (OfClause source)
clause_stuck q own lent es seen levels literals source s a b h =
    let P : List Lemma → Type 0 = λ ls. IsConflict q.problem.clauses (all_lemmas q.handed ls) (Stands es (length es)) (OfClause source) in
    let Q : List Entry → Type 0 = λ fs. IsConflict q.problem.clauses (all_lemmas q.handed lent) (Stands fs (length fs)) (OfClause source) in
    record { state = s; clash = subst P a (subst Q b h) }

-- a tighter bound, and the negation of a weaker one
pair_negative : (tighter weaker : Literal) → IsWeaker tighter weaker → IsNegativeCycle (pair_cycle tighter weaker)
pair_negative tighter weaker w =
    let low = w.c in
    record { some = omega arith; closed = (tighter.x, (refl, (sym w.y, sym w.x))); negative = omega (arith, ints) }

pub pair_pushed : (q : Question) (own : List Lemma) (es now : List Entry) (levels : List Level) (literals : List Literal) (tighter weaker : Literal) (number : ℕ) → IsSearch q own es levels literals → Stands es (length es) tighter → IsOver q.problem.points weaker → IsWeaker tighter weaker → now ≡ es ++ record { literal = weaker; number = number; reason = ByPair tighter } ∷ [] → IsSearch q own now levels literals
pair_pushed q own es now levels literals tighter weaker number s there over w grown =
    let Good : Literal → Type 0 = Stands es (length es) in
    let each : (p : ℕ) → p < 2 → (literal_at (pair_cycle tighter weaker) p ≡ negation_of weaker) ⊎ Good (literal_at (pair_cycle tighter weaker) p) = by in
    state_pushed q own es now levels literals (record { literal = weaker; number = number; reason = ByPair tighter }) grown s over (record { negative = pair_negative tighter weaker w; others = each }) (λ chosen. absurd cc)
  where
    by : (p : ℕ) → p < 2 → (literal_at (pair_cycle tighter weaker) p ≡ negation_of weaker) ⊎ Stands es (length es) (literal_at (pair_cycle tighter weaker) p)
    by zero lt = inr there
    by (suc zero) lt = inl refl
    by (suc (suc p)) lt = absurd (omega arith)

pub pair_stuck : (q : Question) (own : List Lemma) (es : List Entry) (levels : List Level) (literals cycle : List Literal) (tighter weaker : Literal) → IsSearch q own es levels literals → Stands es (length es) tighter → Stands es (length es) (negation_of weaker) → IsWeaker tighter weaker → cycle ≡ pair_cycle tighter weaker → IsStuckSearch q own es levels literals (OfCycle cycle)
pair_stuck q own es levels literals cycle tighter weaker s there denied w is =
    subst (λ (ls : List Literal). IsStuckSearch q own es levels literals (OfCycle ls)) (sym is) (record { state = s; clash = (pair_negative tighter weaker w, by) })
  where
    by : (p : ℕ) → p < 2 → Stands es (length es) (literal_at (pair_cycle tighter weaker) p)
    by zero lt = there
    by (suc zero) lt = denied
    by (suc (suc p)) lt = absurd (omega arith)

pub stands_at : (es seen : List Entry) (k : ℕ) (l : Literal) → seen ≡ es → k < length es → l ≡ on_trail seen k → Stands es (length es) l
stands_at es seen k l same lt is = (k, lt, sym (is ∙ ap (λ (fs : List Entry). on_trail fs k) same))

-- one of the cube's
pub given_pushed : (q : Question) (own : List Lemma) (es now : List Entry) (levels : List Level) (literals : List Literal) (l : Literal) (number : ℕ) → IsSearch q own es levels literals → Contains q.cube l → IsOver q.problem.points l → now ≡ es ++ record { literal = l; number = number; reason = Given } ∷ [] → IsSearch q own now levels literals
given_pushed q own es now levels literals l number s there over grown =
    state_pushed q own es now levels literals (record { literal = l; number = number; reason = Given }) grown s over there (λ chosen. absurd cc)

pub decision_pushed : (q : Question) (own these : List Lemma) (es there now : List Entry) (levels more last : List Level) (literals : List Literal) (l : Literal) (number : ℕ) → IsSearch q own es levels literals → these ≡ own → there ≡ es → more ≡ levels ++ record { start = length es; in_net = length literals } ∷ [] → last ≡ more → IsOver q.problem.points l → now ≡ there ++ record { literal = l; number = number; reason = Decision } ∷ [] → (length last ≤ length levels + 1) × IsSearch q these now last literals
decision_pushed q own these es there now levels more last literals l number s a same is again over grown =
    let begun = state_begun q own es levels more literals s is in
    let grew : now ≡ es ++ record { literal = l; number = number; reason = Decision } ∷ [] = subst (λ (fs : List Entry). now ≡ fs ++ record { literal = l; number = number; reason = Decision } ∷ []) same grown in
    let search : IsSearch q own now more literals = state_pushed q own es now more literals (record { literal = l; number = number; reason = Decision }) grew begun.0 over tt (λ chosen. (begun.1, begun.2)) in
    let count = length_push levels (record { start = length es; in_net = length literals }) in
    let longer : length last ≡ length (levels ++ record { start = length es; in_net = length literals } ∷ []) = ap (length {A = Level}) (again ∙ is) in
    (omega arith, subst (λ (ls : List Lemma). IsSearch q ls now last literals) (sym a) (subst (λ (vs : List Level). IsSearch q own now vs literals) (sym again) search))

-- the cube's next literal in the net
pub net_taken : (es now : List Entry) (cube old new : List Literal) (place i number : ℕ) (l : Literal) (found : Option Conflict) → IsNetAfter old (on_trail now place) new found → found ≡ None → now ≡ es ++ record { literal = l; number = number; reason = Given } ∷ [] → place ≡ length es → l ≡ get_or cube i no_literal → i < length cube → old ≡ take i cube → new ≡ take (i + 1) cube
net_taken es now cube old new place i number l found after none grown at is within before =
    let e : Entry = record { literal = l; number = number; reason = Given } in
    let there : IsNetAfter old (on_trail now place) new None = subst (IsNetAfter old (on_trail now place) new) none after in
    let last : on_trail now place ≡ l = ap (λ (fs : List Entry). on_trail fs place) grown ∙ ap (λ (f : Entry). f.literal) (entry_last es e place at) in
    there ∙ ap (λ (m : Literal). old ++ m ∷ []) (last ∙ is) ∙ ap (λ (ls : List Literal). ls ++ get_or cube i no_literal ∷ []) before ∙ sym (take_more cube i no_literal within)

-- the same search, seen by other names
pub same_parts : (q : Question) (own these : List Lemma) (es : List Entry) (levels more : List Level) (literals : List Literal) → these ≡ own → more ≡ levels → IsSearch q own es levels literals → IsSearch q these es more literals
same_parts q own these es levels more literals a b s = subst (λ (ls : List Lemma). IsSearch q ls es more literals) (sym a) (subst (λ (vs : List Level). IsSearch q own es vs literals) (sym b) s)
