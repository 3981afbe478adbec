-- What a network with a literal's negation says of the literal.
use Rattle.std.proofs.Common.{arith, refl, subst, inl, inr, ◌≡◌, ℕ, List, [], ◌∷◌, ◌++◌, length, All, Contains, get_or}
use Rattle.std.proofs.lemmas.List.{get_or_append_left, get_or_push, length_push}
use Rattle.std.proofs.lemmas.List.Elements.{All-push}
use Rattle.stn_core.specs.declared.literal.Literal.{Literal}
use Rattle.stn_core.specs.Answer.{IsCycleAmong}
use Rattle.stn_core.specs.Literal.{Holds, negation_of}
use Rattle.stn_core.specs.Net.{IsConsistent}
use Rattle.stn_core.specs.Schedule.{IsSchedule}
use Rattle.stn_core.proofs.Consequences.{either, not_both, no_values}
use Rattle.prune_rules.specs.declared.fate.Fate.{Fate}
use Rattle.prune_rules.specs.declared.fate.Fate.TheVariants.{Live, Dead}
use Rattle.prune_rules.specs.Fates.{IsFate, Implies}

all_given : (P : Literal → Type 0) (literals cycle : List Literal) → All P literals → All (Contains literals) cycle → All P cycle
all_given P literals cycle all given = λ k d h.
    let at = given k d h in
    subst P at.2 (all at.0 (get_or cycle k d) at.1)

-- a cycle with the negation shows that the literal is implied
pub implied : (points : ℕ) (literals : List Literal) (l : Literal) (cycle : List Literal) → IsCycleAmong (literals ++ negation_of l ∷ []) cycle → Implies points literals l
implied points literals l cycle c = λ values s. elim (either values l) [
  | inl holds ↦ holds
  | inr fails ↦
      let all : All (Holds values) (literals ++ negation_of l ∷ []) = All-push (Holds values) literals (negation_of l) s.holds fails in
      absurd (no_values values cycle c.negative (all_given (Holds values) (literals ++ negation_of l ∷ []) cycle all c.given))
]

-- a schedule on which the negation holds shows that it is not
pub not_implied : (points : ℕ) (literals : List Literal) (l : Literal) → IsConsistent points (literals ++ negation_of l ∷ []) → Implies points literals l → ⊥
not_implied points literals l c h =
    let values = c.0 in
    let longer = length_push literals (negation_of l) in
    let front : All (Holds values) literals = λ k d lt. subst (Holds values) (get_or_append_left literals (negation_of l ∷ []) d k lt) (c.1.holds k d (omega arith)) in
    let last : Holds values (negation_of l) = subst (Holds values) (get_or_push literals (negation_of l) l (length literals) refl) (c.1.holds (length literals) l (omega arith)) in
    let schedule : IsSchedule points literals values = record { count = c.1.count; at_most_0 = c.1.at_most_0; holds = front } in
    not_both values l (h values schedule) last

pub dead_cycle : (points : ℕ) (literals : List Literal) (l : Literal) (fate : Fate) (cycle : List Literal) → IsFate points literals l fate → fate ≡ Dead cycle → IsCycleAmong (literals ++ l ∷ []) cycle
dead_cycle points literals l fate cycle h e = subst (IsFate points literals l) e h

pub live_consistent : (points : ℕ) (literals : List Literal) (l : Literal) (fate : Fate) → IsFate points literals l fate → ((cycle : List Literal) → fate ≡ Dead cycle → ⊥) → IsConsistent points (literals ++ l ∷ [])
live_consistent points literals l Live h not = h
live_consistent points literals l (Dead cycle) h not = absurd (not cycle refl)
