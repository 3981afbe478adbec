-- A text that is appended piece by piece.
use Rattle.std.proofs.Common.{ap, ◌∙◌, ◌≡◌, ℕ, List, ◌++◌}
use Rattle.std.proofs.lemmas.List.{append_assoc}

pub five : (old a b c d e o p q r s : List ℕ) → o ≡ old ++ a → p ≡ o ++ b → q ≡ p ++ c → r ≡ q ++ d → s ≡ r ++ e → s ≡ old ++ (a ++ (b ++ (c ++ (d ++ e))))
five old a b c d e o p q r s f g h i j =
    j ∙ ap (λ (t : List ℕ). t ++ e) (i ∙ ap (λ (t : List ℕ). t ++ d) (h ∙ ap (λ (t : List ℕ). t ++ c) (g ∙ ap (λ (t : List ℕ). t ++ b) f)))
    ∙ append_assoc (((old ++ a) ++ b) ++ c) d e
    ∙ append_assoc ((old ++ a) ++ b) c (d ++ e)
    ∙ append_assoc (old ++ a) b (c ++ (d ++ e))
    ∙ append_assoc old a (b ++ (c ++ (d ++ e)))

pub three : (old a b c o p q : List ℕ) → o ≡ old ++ a → p ≡ o ++ b → q ≡ p ++ c → q ≡ old ++ (a ++ (b ++ c))
three old a b c o p q f g h =
    h ∙ ap (λ (t : List ℕ). t ++ c) (g ∙ ap (λ (t : List ℕ). t ++ b) f)
    ∙ append_assoc (old ++ a) b c
    ∙ append_assoc old a (b ++ c)
