-- How a net's schedules grow, over plain variables.
use Rattle.std.proofs.Common.{arith, refl, subst, inl, inr, ◌≡◌, ℕ, ◌-◌, List, [], ◌∷◌, ◌++◌, length, take, get_or, ℤ}
use Rattle.std.proofs.lemmas.Bool.{cases_lt}
use Rattle.std.proofs.lemmas.List.{get_or_append_left, get_or_push, length_push, take-append-le, take_all, take_at}
use Rattle.std.proofs.lemmas.List.Elements.{All-push}
use Rattle.stn_core.specs.declared.literal.Literal.{Literal}
use Rattle.stn_core.specs.declared.schedule.Greatest.{Greatest}
use Rattle.stn_core.specs.declared.schedule.Greatest.TheVariants.{Greatest as AsGreatest, Negative}
use Rattle.stn_core.specs.Answer.{IsAnswer, IsBest, IsCycleAmong}
use Rattle.stn_core.specs.Literal.{IsOver}
use Rattle.stn_core.specs.RoundsNet.{KeepsSchedules}

pub keeps_more : (points : ℕ) (ls : List Literal) (schedules : List (List ℤ)) (l : Literal) (schedule : List ℤ) → KeepsSchedules points ls schedules → IsOver points l → IsBest points (ls ++ l ∷ []) schedule → KeepsSchedules points (ls ++ l ∷ []) (schedules ++ schedule ∷ [])
keeps_more points ls schedules l schedule k over found =
    let count = k.count in
    let longer = length_push ls l in
    let longer' = length_push schedules schedule in
    record {
      some = k.some;
      few = k.few;
      over = All-push (IsOver points) ls l k.over over;
      count = omega arith;
      each = λ i h. elim (cases_lt i (length schedules)) [
        | inl lt ↦
            let front : take i (ls ++ l ∷ []) ≡ take i ls = take-append-le i ls (l ∷ []) (omega arith) in
            let same : get_or (schedules ++ schedule ∷ []) i [] ≡ get_or schedules i [] = get_or_append_left schedules (schedule ∷ []) [] i lt in
            rw (front, same) (k.each i lt)
        | inr ge ↦
            let whole : take i (ls ++ l ∷ []) ≡ ls ++ l ∷ [] = take_all i (ls ++ l ∷ []) (omega arith) in
            let last : get_or (schedules ++ schedule ∷ []) i [] ≡ schedule = get_or_push schedules schedule [] i (omega arith) in
            rw (whole, last) found
      ];
    }

-- to push and to pop is to change nothing
pub popped : (ls pushed : List Literal) (l : Literal) (n : ℕ) → pushed ≡ ls ++ l ∷ [] → n ≡ length pushed → take (n - 1) pushed ≡ ls
popped ls pushed l n e m =
    let longer = length_push ls l in
    let at : n - 1 ≡ length ls = omega (arith, subst (λ (xs : List Literal). n ≡ length xs) e m) in
    rw (e, at) (take_at ls (l ∷ []) (length ls) refl)

-- what an answer says, by its variant, of an equal list
pub schedule_answered : (points : ℕ) (ls ls' : List Literal) (answer : Greatest) (schedule : List ℤ) → IsAnswer points ls answer → ls ≡ ls' → answer ≡ AsGreatest schedule → IsBest points ls' schedule
schedule_answered points ls ls' answer schedule h e f =
    (subst (λ (xs : List Literal). IsAnswer points xs (AsGreatest schedule)) e (subst (λ (a : Greatest). IsAnswer points ls a) f h))

pub cycle_answered : (points : ℕ) (ls ls' : List Literal) (answer : Greatest) (cycle : List Literal) → IsAnswer points ls answer → ls ≡ ls' → answer ≡ Negative cycle → IsCycleAmong ls' cycle
cycle_answered points ls ls' answer cycle h e f =
    subst (λ (xs : List Literal). IsAnswer points xs (Negative cycle)) e (subst (λ (a : Greatest). IsAnswer points ls a) f h)
