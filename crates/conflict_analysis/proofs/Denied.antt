-- Which literals of a clause are denied, over plain lists.
use Rattle.std.proofs.Common.{arith, ◌≡◌, ◌≢◌, ℕ, ◌<◌, ◌+◌, inl, inr, List, length, subst, sym, ap, ◌∙◌}
use Rattle.std.proofs.lemmas.Bool.{cases_eq}
use Rattle.stn_core.specs.declared.literal.Literal.{Literal}
use Rattle.stn_core.specs.Literal.{negation_of, literal_at}
use Rattle.conflict_analysis.specs.declared.entry.Source.{Source}
use Rattle.conflict_analysis.specs.declared.entry.Entry.{Entry}
use Rattle.conflict_analysis.specs.code.Trails.{source_clause, IsKnown, IsByClause, Stands}
use Rattle.conflict_analysis.specs.code.Denials.{AreDenied}

-- a clause all of whose literals are denied
pub denied_all : (es : List Entry) (clause named : List Literal) → AreDenied es clause (length clause) → clause ≡ named → (p : ℕ) → p < length named → Stands es (length es) (negation_of (literal_at named p))
denied_all es clause named denied same =
    let P : List Literal → Type 0 = λ ls. (p : ℕ) → p < length ls → Stands es (length es) (negation_of (literal_at ls p)) in
    let all : P clause = λ p lt. denied p lt (λ is. absurd (omega arith)) in
    subst P same all

-- a clause's literals, one after the other
pub denied_next : (es : List Entry) (clause : List Literal) (place p : ℕ) → Stands es (length es) (negation_of (literal_at clause p)) → ((i : ℕ) → i < p → i ≢ place → Stands es (length es) (negation_of (literal_at clause i))) → (i : ℕ) → i < p + 1 → i ≢ place → Stands es (length es) (negation_of (literal_at clause i))
denied_next es clause place p here before i lt ne = elim (cases_eq i p) [
  | inl same ↦ subst (λ (k : ℕ). Stands es (length es) (negation_of (literal_at clause k))) (sym same) here
  | inr other ↦ before i (omega arith) ne
]

pub denied_past : (es : List Entry) (clause : List Literal) (place p : ℕ) → p ≡ place → ((i : ℕ) → i < p → i ≢ place → Stands es (length es) (negation_of (literal_at clause i))) → (i : ℕ) → i < p + 1 → i ≢ place → Stands es (length es) (negation_of (literal_at clause i))
denied_past es clause place p e before i lt ne = elim (cases_eq i p) [
  | inl same ↦ absurd (ne (same ∙ e))
  | inr other ↦ before i (omega arith) ne
]

pub unit_follows : (inputs lemmas : List (List Literal)) (es : List Entry) (source : Source) (place : ℕ) (clause : List Literal) → IsKnown inputs lemmas source → clause ≡ source_clause inputs lemmas source → place < length clause → AreDenied es clause place → IsByClause inputs lemmas (Stands es (length es)) (literal_at clause place) source place
unit_follows inputs lemmas es source place clause known same within denied =
    let P : List Literal → Type 0 = λ ls. place < length ls in
    let R : List Literal → Type 0 = λ ls. (p : ℕ) → p < length ls → p ≢ place → Stands es (length es) (negation_of (literal_at ls p)) in
    record { known = known; within = subst P same within; at = ap (λ (ls : List Literal). literal_at ls place) (sym same); others = subst R same denied }
