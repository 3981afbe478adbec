-- A name is no word of another length.
use Rattle.std.proofs.Common.{refl, sym, ap, arith, ◌∙◌, ◌≡◌, ℕ, List, [], ◌∷◌, ◌++◌, length, Bool, true, false, cond, ◌||◌}
use Rattle.std.specs.Prelude.{◌==◌}
use Rattle.std.specs.List.{AllByRecursion, list_any}
use Rattle.std.specs.Str.{bytes_eq}
use Rattle.std.proofs.lemmas.Bool.Decides.{nat_tests}
use Rattle.std.proofs.lemmas.Slice.Eq.{bytes_eq-Decides}
use Rattle.idl_apply.specs.Operators.{theory_symbols, reserved_words, is_reserved}
use Rattle.idl_term.specs.code.Reserved.{of_length, words_of_length}

-- equal texts are as long as one another
equal_lengths : (name word : List ℕ) → bytes_eq name word ≡ true → (length word == length name) ≡ true
equal_lengths name word e =
    let same : name ≡ word = (bytes_eq-Decides name word).0 e in
    let lengths : length word ≡ length name = sym (ap length same) in
    grind (arith, nat_tests)

step : (name word : List ℕ) (words : List (List ℕ)) (b c : Bool) → bytes_eq name word ≡ b → (length word == length name) ≡ c
    → list_any (bytes_eq name) words ≡ list_any (bytes_eq name) (of_length (length name) words)
    → (b || list_any (bytes_eq name) words) ≡ list_any (bytes_eq name) (cond c (word ∷ of_length (length name) words) (of_length (length name) words))
step name word words true true e f rest = rw e refl
step name word words true false e f rest = absurd (apart (length word == length name) (equal_lengths name word e) f)
  where
    apart : (t : Bool) → t ≡ true → t ≡ false → ⊥
    apart t g h = cc
step name word words false true e f rest = rw e rest
step name word words false false e f rest = rest

by_length : (name : List ℕ) (words : List (List ℕ)) → list_any (bytes_eq name) words ≡ list_any (bytes_eq name) (of_length (length name) words)
by_length name [] = refl
by_length name (word ∷ words) = step name word words (bytes_eq name word) (length word == length name) refl refl (by_length name words)

one_more : (b c d e : Bool) → c ≡ (d || e) → (b || c) ≡ ((b || d) || e)
one_more true c d e h = refl
one_more false c d e h = h

any_of_two : (test : List ℕ → Bool) (words others : List (List ℕ)) → list_any test (words ++ others) ≡ (list_any test words || list_any test others)
any_of_two test [] others = refl
any_of_two test (word ∷ words) others =
    one_more (test word) (list_any test (words ++ others)) (list_any test words) (list_any test others) (any_of_two test words others)

pub reserved_by_length : (name : List ℕ) → is_reserved name ≡ list_any (bytes_eq name) (words_of_length (length name))
reserved_by_length name =
    sym (any_of_two (bytes_eq name) theory_symbols reserved_words) ∙ by_length name (theory_symbols ++ reserved_words)

pub reserved_of_length : (name : List ℕ) (n : ℕ) (b : Bool) → length name ≡ n → b ≡ list_any (bytes_eq name) (words_of_length n) → b ≡ is_reserved name
reserved_of_length name n b e f =
    f ∙ ap (λ (k : ℕ). list_any (bytes_eq name) (words_of_length k)) (sym e) ∙ sym (reserved_by_length name)

-- ---- lengths that no word has

no_length : (n : ℕ) (words : List (List ℕ)) → AllByRecursion (λ word. (length word == n) ≡ false) words → of_length n words ≡ []
no_length n [] h = refl
no_length n (word ∷ words) h = rw h.0 (no_length n words h.1)

all_words : (n : ℕ) (h1 : (1 == n) ≡ false) (h2 : (2 == n) ≡ false) (h3 : (3 == n) ≡ false) (h4 : (4 == n) ≡ false) (h5 : (5 == n) ≡ false) (h6 : (6 == n) ≡ false) (h8 : (8 == n) ≡ false)
    → AllByRecursion (λ (word : List ℕ). (length word == n) ≡ false) (theory_symbols ++ reserved_words)
unfolding theory_symbols reserved_words
all_words n h1 h2 h3 h4 h5 h6 h8 =
    (h4, (h5, (h3, (h2, (h3, (h2, (h3, (h1, (h8, (h3, (h1, (h1, (h1, (h3, (h3, (h3, (h2, (h1, (h2, (h1, (h3, (h6, (h6, (h5, (h2, (h3, (h1, (h1, tt))))))))))))))))))))))))))))

pub reserved_of_no_length : (name : List ℕ) (h1 : (1 == length name) ≡ false) (h2 : (2 == length name) ≡ false) (h3 : (3 == length name) ≡ false) (h4 : (4 == length name) ≡ false)
    (h5 : (5 == length name) ≡ false) (h6 : (6 == length name) ≡ false) (h8 : (8 == length name) ≡ false) → false ≡ is_reserved name
reserved_of_no_length name h1 h2 h3 h4 h5 h6 h8 =
    let none : words_of_length (length name) ≡ [] = no_length (length name) (theory_symbols ++ reserved_words) (all_words (length name) h1 h2 h3 h4 h5 h6 h8) in
    reserved_of_length name (length name) false refl (ap (list_any (bytes_eq name)) (sym none))
