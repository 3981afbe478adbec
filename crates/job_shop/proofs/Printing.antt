-- The text of a script's commands.
use Rattle.std.proofs.Common.{◌≡◌, ◌∙◌, refl, sym, ap, subst, arith, ℕ, ◌+◌, ◌-◌, ◌<◌, ◌^◌, ◌==◌, true, false, List, [], ◌∷◌, ◌++◌, append_assoc, decimal}
use Rattle.std.specs.Prelude.{codes}
use Rattle.std.proofs.lemmas.Fmt.{decimal_by_steps}
use Rattle.smt_lex.specs.Bytes.{is_symbol_byte}
use Rattle.smt_lex.specs.declared.token.TokenKind.TheVariants.{Symbol}
use Rattle.smt_sexpr.specs.Tree.{Sexpr, Items, leaf, list, none, more}
use Rattle.smt_sexpr.specs.Printing.{written, text_of, text_behind}
use Rattle.smt_sexpr.specs.Shapes.{form}
use Rattle.job_shop.specs.Shops.{Shop, duration}
use Rattle.job_shop.specs.Scripts.{line_of, asserts, declares, name, numeral, less, point, bound, difference, before, begins, goes_on, ends, apart}
use Rattle.job_shop.specs.code.Lines.{name_line, begins_line, goes_on_line, ends_line}
use Rattle.job_shop.proofs.Names.{name_text}
use Rattle.job_shop.proofs.Texts.{three}

-- what was appended, in another form
pub shown : (old new x y : List ℕ) → new ≡ old ++ x → x ≡ y → new ≡ old ++ y
shown old new x y h e = h ∙ ap (λ (t : List ℕ). old ++ t) e

pub digit_text : (n : ℕ) → n < 10 → decimal n ≡ (48 + n) ∷ []
digit_text n small =
    decimal_by_steps (λ k ds. k < 10 → ds ≡ (48 + k) ∷ []) (λ k l s. refl) (λ k ds l h s. absurd (omega arith)) n (omega arith) small

-- ---- the text of an s-expression with more behind it

abbrev mutual
  onto : Sexpr → List ℕ → List ℕ
  onto (leaf kind text) rest = written kind text ++ rest
  onto (list none) rest = 40 ∷ 41 ∷ rest
  onto (list (more x xs)) rest = 40 ∷ onto x (onto_behind xs rest)

  onto_behind : Items → List ℕ → List ℕ
  onto_behind none rest = 41 ∷ rest
  onto_behind (more x xs) rest = 32 ∷ onto x (onto_behind xs rest)

mutual
  onto_is : (x : Sexpr) (rest : List ℕ) → text_of x ++ rest ≡ onto x rest
  onto_is (leaf kind text) rest = refl
  onto_is (list none) rest = refl
  onto_is (list (more x xs)) rest =
      ap (λ (t : List ℕ). 40 ∷ t) (append_assoc (text_of x) (text_behind xs) rest ∙ ap (λ (t : List ℕ). text_of x ++ t) (behind_is xs rest) ∙ onto_is x (onto_behind xs rest))

  behind_is : (xs : Items) (rest : List ℕ) → text_behind xs ++ rest ≡ onto_behind xs rest
  behind_is none rest = refl
  behind_is (more x xs) rest =
      ap (λ (t : List ℕ). 32 ∷ t) (append_assoc (text_of x) (text_behind xs) rest ∙ ap (λ (t : List ℕ). text_of x ++ t) (behind_is xs rest) ∙ onto_is x (onto_behind xs rest))

-- a symbol that is written as it is
abbrev pub IsPlain : List ℕ → Type 0
IsPlain x = written Symbol x ≡ x

pub assertion_line : (op : List ℕ) (x y : Sexpr) → IsPlain op → line_of (asserts (form op (x ∷ y ∷ []))) ≡ codes "(assert (" ++ (op ++ (32 ∷ (text_of x ++ (32 ∷ (text_of y ++ codes "))\n")))))
unfolding is_symbol_byte
assertion_line op x y e =
    onto_is (asserts (form op (x ∷ y ∷ []))) (10 ∷ [])
    ∙ ap (λ (t : List ℕ). codes "(assert (" ++ (t ++ (32 ∷ onto x (32 ∷ onto y (codes "))\n"))))) e
    ∙ ap (λ (t : List ℕ). codes "(assert (" ++ (op ++ (32 ∷ t))) (sym (onto_is x (32 ∷ onto y (codes "))\n"))))
    ∙ ap (λ (t : List ℕ). codes "(assert (" ++ (op ++ (32 ∷ (text_of x ++ (32 ∷ t))))) (sym (onto_is y (codes "))\n")))

pub at_least : IsPlain (codes ">=")
unfolding is_symbol_byte
at_least = refl

pub at_most : IsPlain (codes "<=")
unfolding is_symbol_byte
at_most = refl

pub either : IsPlain (codes "or")
unfolding is_symbol_byte
either = refl

-- ---- terms

pub point_text : (j k : ℕ) → j < 2 ^ 64 → k < 2 ^ 64 → text_of (point j k) ≡ name j k
unfolding point
point_text j k small low = name_text j k small low

pub less_zero : (n : ℕ) → (n == 0) ≡ true → text_of (less n) ≡ codes "0"
unfolding less
less_zero n e = rw e (digit_text 0 (omega arith))

pub less_more : (n : ℕ) → (n == 0) ≡ false → text_of (less n) ≡ codes "(- " ++ (decimal n ++ codes ")")
unfolding less is_symbol_byte
less_more n e = rw e refl

pub less_at_zero : (old new : List ℕ) (n : ℕ) → (n == 0) ≡ true → new ≡ old ++ codes "0" → new ≡ old ++ text_of (less n)
less_at_zero old new n e h = shown old new (codes "0") (text_of (less n)) h (sym (less_zero n e))

pub less_above : (old a b new : List ℕ) (n : ℕ) → (n == 0) ≡ false → a ≡ old ++ codes "(- " → b ≡ a ++ decimal n → new ≡ b ++ codes ")" → new ≡ old ++ text_of (less n)
less_above old a b new n e h k l =
    shown old new (codes "(- " ++ (decimal n ++ codes ")")) (text_of (less n)) (three old a b new (codes "(- ") (decimal n) (codes ")") h k l) (sym (less_more n e))

pub difference_text : (a i b j : ℕ) → text_of (difference a i b j) ≡ codes "(- " ++ (text_of (point a i) ++ (codes " " ++ (text_of (point b j) ++ codes ")")))
unfolding difference is_symbol_byte
difference_text a i b j = refl

pub before_text : (s : Shop) (a i b j : ℕ) → text_of (before s a i b j) ≡ codes "(<= " ++ (text_of (difference a i b j) ++ (codes " " ++ (text_of (less (duration s a i)) ++ codes ")")))
unfolding before is_symbol_byte
before_text s a i b j = refl

-- ---- lines

pub name_line_is : (j k : ℕ) → name_line j k ≡ codes "(declare-const " ++ (text_of (point j k) ++ codes " Int)\n")
unfolding name_line point is_symbol_byte
name_line_is j k = onto_is (declares (name j k)) (10 ∷ [])

pub begins_line_is : (j : ℕ) → begins_line j ≡ codes "(assert (>= " ++ (text_of (point j 0) ++ codes " 0))\n")
unfolding begins_line begins
begins_line_is j =
    assertion_line (codes ">=") (point j 0) (numeral 0) at_least
    ∙ ap (λ (t : List ℕ). codes "(assert (>= " ++ (text_of (point j 0) ++ (32 ∷ (t ++ codes "))\n")))) (digit_text 0 (omega arith))

pub goes_on_line_is : (s : Shop) (j k : ℕ) → goes_on_line s j k ≡ codes "(assert (>= " ++ (text_of (difference j (k + 1) j k) ++ (codes " " ++ (decimal (duration s j k) ++ codes "))\n")))
unfolding goes_on_line goes_on
goes_on_line_is s j k = assertion_line (codes ">=") (difference j (k + 1) j k) (numeral (duration s j k)) at_least

ending_text : (j k : ℕ) → text_of (form (codes "-") (point j k ∷ bound ∷ [])) ≡ codes "(- " ++ (text_of (point j k) ++ codes " m)")
unfolding bound is_symbol_byte
ending_text j k = refl

pub ends_line_is : (s : Shop) (j : ℕ) → ends_line s j ≡ codes "(assert (<= (- " ++ (text_of (point j (s.machines - 1)) ++ (codes " m) " ++ (text_of (less (duration s j (s.machines - 1))) ++ codes "))\n")))
unfolding ends_line ends
ends_line_is s j =
    assertion_line (codes "<=") (form (codes "-") (point j (s.machines - 1) ∷ bound ∷ [])) (less (duration s j (s.machines - 1))) at_most
    ∙ ap (λ (t : List ℕ). codes "(assert (<= " ++ (t ++ (32 ∷ (text_of (less (duration s j (s.machines - 1))) ++ codes "))\n")))) (ending_text j (s.machines - 1))
    ∙ ap (λ (t : List ℕ). codes "(assert (<= (- " ++ t) (append_assoc (text_of (point j (s.machines - 1))) (codes " m)") (32 ∷ (text_of (less (duration s j (s.machines - 1))) ++ codes "))\n")))

pub ends_line_at : (s : Shop) (j last : ℕ) → last ≡ s.machines - 1 → codes "(assert (<= (- " ++ (text_of (point j last) ++ (codes " m) " ++ (text_of (less (duration s j last)) ++ codes "))\n"))) ≡ ends_line s j
ends_line_at s j last e =
    subst (λ (k : ℕ). codes "(assert (<= (- " ++ (text_of (point j k) ++ (codes " m) " ++ (text_of (less (duration s j k)) ++ codes "))\n"))) ≡ ends_line s j) (sym e) (sym (ends_line_is s j))

pub apart_line_is : (s : Shop) (a i b j : ℕ) → line_of (asserts (apart s a i b j)) ≡ codes "(assert (or " ++ (text_of (before s a i b j) ++ (codes " " ++ (text_of (before s b j a i) ++ codes "))\n")))
unfolding apart
apart_line_is s a i b j = assertion_line (codes "or") (before s a i b j) (before s b j a i) either
