-- What stays in front of a text to which pieces are appended.
use Rattle.std.proofs.Common.{arith, sym, ap, ◌∙◌, ◌≡◌, ◌≤◌, ℕ, List, ◌++◌, length, take}
use Rattle.std.proofs.lemmas.List.{take_at, take-take, length-take}

pub front_kept : (old mid new : List ℕ) (m n : ℕ) → n ≡ length old → m ≡ length mid → take n mid ≡ old → take m new ≡ mid → take n new ≡ old
front_kept old mid new m n p q before after =
    let le : n ≤ m = omega (arith, ap length before, length-take n mid) in
    sym (take-take n m new le) ∙ ap (take n) after ∙ before

-- the same where the piece between is known
pub front_behind : (old piece mid new : List ℕ) (m n : ℕ) → n ≡ length old → m ≡ length mid → mid ≡ old ++ piece → take m new ≡ mid → take n new ≡ old
front_behind old piece mid new m n p q e after = front_kept old mid new m n p q (ap (take n) e ∙ take_at old piece n (sym p)) after
