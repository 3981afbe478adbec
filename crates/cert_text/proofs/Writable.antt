-- Each leaf of a certificate is a token, so what is written is read again.
use Rattle.std.proofs.Common.{◌≡◌, ℕ, suc, ◌+◌, ◌<◌, true, false, get_or, ℤ, pos, negsuc, List, [], ◌∷◌, ◌++◌, length, map, refl, sym, ap, subst, arith, eq-zero-or-pos, inl, inr}
use Rattle.std.proofs.lemmas.Bool.{ne_eqb}
use Rattle.std.proofs.lemmas.Bool.Decides.{nat_tests}
use Rattle.std.proofs.lemmas.Int.Digits.{all_below_base_digits_of, first_digits_of}
use Rattle.std.proofs.lemmas.List.{append_assoc}
use Rattle.std.specs.Char.{is_ascii_digit}
use Rattle.std.specs.Int.Digits.{AllBelowBase, digits_of}
use Rattle.std.specs.List.{list_all}
use Rattle.smt_lex.specs.Bytes.{is_quoted_byte}
use Rattle.smt_lex.specs.Grammar.{is_numeral}
use Rattle.smt_sexpr.specs.Tree.{Sexpr}
use Rattle.smt_sexpr.specs.Reading.{Spells}
use Rattle.smt_sexpr.specs.Printing.{text_of, IsWritable, AreWritable, EndsSexpr}
use Rattle.stn_core.specs.declared.literal.Literal.{Literal}
use Rattle.stn_core.specs.declared.named.NamedValue.{NamedValue}
use Rattle.stn_core.specs.declared.named.NamedValue.TheVariants.{Int, Truth}
use Rattle.refute_tree.specs.declared.step.Step.{Step}
use Rattle.refute_tree.specs.declared.step.Step.TheVariants.{Cycle, Input, Lemma as Earlier, Clash, Either}
use Rattle.refute_tree.specs.declared.lemma.Lemma.{Lemma}
use Rattle.kept_lemmas.specs.declared.item.Item.{Item}
use Rattle.kept_lemmas.specs.declared.item.Item.TheVariants.{Own, Keep}
use Rattle.smt_sexpr.specs.Laws.{SexprReadsBack}
use Rattle.cert_text.specs.Laws.{HeaderIsWritable, LineReadsBack, HeaderReadsBack}
use Rattle.cert_text.specs.Form.{numeral_text, numeral, number_of_value, literal_sexpr, step_sexpr, lemma_sexpr, item_sexpr, value_sexpr, header_sexpr, version_number, end_sexpr, line_of}
use Rattle.smt_sexpr.specs.Shapes.{items_of}

-- ---- numerals

digit : (d : ℕ) → d < 10 → is_ascii_digit (48 + d) ≡ true
digit d h = grind (arith, nat_tests)

digits : (ds : List ℕ) → AllBelowBase 10 ds → list_all is_ascii_digit (map (λ d. 48 + d) ds) ≡ true
digits [] h = refl
digits (d ∷ ds) h = rw (digit d h.0) (digits ds h.1)

first_not_zero : (ds : List ℕ) → AllBelowBase 10 ds → 0 < get_or ds 0 0 → is_numeral (map (λ d. 48 + d) ds) ≡ true
first_not_zero [] h some = absurd (omega arith)
first_not_zero (d ∷ []) h some = digit d h.0
first_not_zero (d ∷ e ∷ ds) h some = rw (ne_eqb (48 + d) 48 (λ z. absurd (omega arith)), digit d h.0) (digits (e ∷ ds) h.1)

pub numeral_writable : (n : ℕ) → IsWritable (numeral n)
unfolding numeral_text
numeral_writable n =
    elim (eq-zero-or-pos n) [
      | inl none ↦ rw none refl
      | inr some ↦ rw (ne_eqb n 0 (λ z. absurd (omega arith))) (first_not_zero (digits_of 10 n) (all_below_base_digits_of 10 n (omega arith)) (first_digits_of 10 n (omega arith) some))
    ]

-- ---- the parts of an entry

pub each_writable : {A : Type 0} (f : A → Sexpr) → ((x : A) → IsWritable (f x)) → (xs : List A) → AreWritable (items_of (map f xs))
each_writable f h [] = tt
each_writable f h (x ∷ xs) = (h x, each_writable f h xs)

pub number_writable : (n : ℤ) → IsWritable (number_of_value n)
unfolding is_quoted_byte
number_writable (pos n) = numeral_writable n
number_writable (negsuc n) = (refl, (numeral_writable (suc n), tt))

literal_writable : (l : Literal) → IsWritable (literal_sexpr l)
literal_writable l = (numeral_writable l.x, (numeral_writable l.y, (number_writable l.c, tt)))

step_writable : (step : Step) → IsWritable (step_sexpr step)
unfolding is_quoted_byte
step_writable (Cycle literals) = (refl, each_writable literal_sexpr literal_writable literals)
step_writable (Input i) = (refl, (numeral_writable i, tt))
step_writable (Earlier j) = (refl, (numeral_writable j, tt))
step_writable (Clash i) = (refl, (numeral_writable i, tt))
step_writable (Either l) = (refl, literal_writable l)

lemma_writable : (lemma : Lemma) → IsWritable (lemma_sexpr lemma)
unfolding is_quoted_byte
lemma_writable lemma = (refl, (each_writable literal_sexpr literal_writable lemma.clause, each_writable step_sexpr step_writable lemma.steps))

pub item_writable : (item : Item) → IsWritable (item_sexpr item)
unfolding is_quoted_byte
item_writable (Own lemma) = lemma_writable lemma
item_writable (Keep kept) = (refl, (numeral_writable kept.entry, (numeral_writable kept.item, tt)))

pub value_writable : (value : NamedValue) → IsWritable (value_sexpr value)
unfolding is_quoted_byte
value_writable (Int n) = number_writable n
value_writable (Truth true) = refl
value_writable (Truth false) = refl

pub header_writable : HeaderIsWritable
unfolding is_quoted_byte
header_writable version = (refl, (numeral_writable (version_number version), tt))

pub end_writable : IsWritable end_sexpr
unfolding is_quoted_byte
end_writable = (refl, tt)

-- ---- read again

pub line_back : SexprReadsBack → (x : Sexpr) → ((rest : List ℕ) → EndsSexpr x rest) → IsWritable x → LineReadsBack x
line_back back x ends w before after =
    let same : before ++ (text_of x ++ 10 ∷ after) ≡ before ++ (line_of x ++ after) = ap (λ bytes. before ++ bytes) (sym (append_assoc (text_of x) (10 ∷ []) after)) in
    subst (λ bytes. Spells bytes (length before) x (length before + length (text_of x))) same (back x before (10 ∷ after) w (ends (10 ∷ after)))

pub header_back : SexprReadsBack → HeaderReadsBack
header_back back version = line_back back (header_sexpr version) (λ rest. tt) (header_writable version)
