-- What is written is read again.
use Rattle.std.proofs.Common.{◌≡◌, ◌≢◌, ◌⊎◌, ℕ, ◌+◌, ◌-◌, List, [], ◌∷◌, ◌++◌, length, drop, refl, sym, ap, subst, ◌∙◌, arith, inl, inr}
use Rattle.std.specs.Prelude.{slice_range}
use Rattle.std.proofs.lemmas.List.{append_assoc, length-append, drop_at, take_at}
use Rattle.smt_lex.specs.declared.token.TokenKind.{TokenKind}
use Rattle.smt_lex.specs.declared.token.TokenKind.TheVariants.{Left, Right}
use Rattle.smt_lex.specs.declared.token.Token.{Token}
use Rattle.smt_lex.specs.Grammar.{IsToken, EndsToken}
use Rattle.smt_lex.specs.Laws.{ReadsBack}
use Rattle.smt_sexpr.specs.Laws.{SexprReadsBack}
use Rattle.smt_sexpr.specs.Tree.{Sexpr, Items, leaf, list, none, more, leaf_text, IsLeaf}
use Rattle.smt_sexpr.specs.Reading.{ReadsToken, Spells, SpellsEach}
use Rattle.smt_sexpr.specs.Printing.{written, text_of, text_behind, IsWritable, AreWritable, EndsSexpr}
use Rattle.smt_sexpr.proofs.LeafTexts.{leaf_apart, written_token, written_text, token_shows}

abbrev token : TokenKind → ℕ → ℕ → Token
token kind start end = record { kind = kind; start = start; end = end }

-- what was written is at its place
text_is : (bytes before gap text after : List ℕ) (place end : ℕ) → bytes ≡ before ++ (gap ++ (text ++ after)) → place ≡ length before → end ≡ place + length gap + length text → slice_range bytes (place + length gap) end ≡ text
text_is bytes before gap text after place end e p n =
    let count : end - (place + length gap) ≡ length text = omega arith in
    let grouped : bytes ≡ (before ++ gap) ++ (text ++ after) = e ∙ sym (append_assoc before gap (text ++ after)) in
    let rest : drop (place + length gap) bytes ≡ text ++ after = ap (drop (place + length gap)) grouped ∙ drop_at (before ++ gap) (text ++ after) (place + length gap) (omega (arith, length-append before gap)) in
    rw (count, rest) (take_at text after (length text) refl)

ends_token : (kind : TokenKind) (c : ℕ) (rest : List ℕ) → (c ≡ 32) ⊎ (c ≡ 41) → EndsToken kind (c ∷ rest)
ends_token Left c rest h = tt
ends_token Right c rest h = tt
ends_token other c rest h = (c, rest, refl, h)

-- a space or a parenthesis ends each s-expression
ends_behind : (x : Sexpr) (xs : Items) (after : List ℕ) → EndsSexpr x (text_behind xs ++ after)
ends_behind (list ys) xs after = tt
ends_behind (leaf kind text) none after = ends_token kind 41 after (inr refl)
ends_behind (leaf kind text) (more y ys) after = ends_token kind 32 ((text_of y ++ text_behind ys) ++ after) (inl refl)

-- ---- the same bytes, grouped otherwise

behind_byte : (before gap : List ℕ) (b : ℕ) (rest : List ℕ) → before ++ (gap ++ (b ∷ rest)) ≡ (before ++ (gap ++ b ∷ [])) ++ rest
behind_byte before gap b rest = sym (append_assoc before (gap ++ b ∷ []) rest ∙ ap (λ (xs : List ℕ). before ++ xs) (append_assoc gap (b ∷ []) rest))

length_byte : (before gap : List ℕ) (b : ℕ) → length (before ++ (gap ++ b ∷ [])) ≡ length before + length gap + 1
length_byte before gap b = omega (arith, length-append before (gap ++ b ∷ []), length-append gap (b ∷ []))

module _ (back : ReadsBack) where
  back_at : (kind : TokenKind) (bytes before gap text after : List ℕ) (place start end : ℕ) → bytes ≡ before ++ (gap ++ (text ++ after)) → place ≡ length before → start ≡ place + length gap → end ≡ start + length text
      → (gap ≡ []) ⊎ (gap ≡ 32 ∷ []) → IsToken kind text → EndsToken kind after → ReadsToken bytes place (token kind start end) end
  back_at kind bytes before gap text after place start end e p s n g t h = rw (n, s, p, e) (back kind before gap text after g t h)

  mutual
    unfolding Spells

    spells_back : (x : Sexpr) (bytes before gap after : List ℕ) (place end : ℕ) → bytes ≡ before ++ (gap ++ (text_of x ++ after)) → place ≡ length before → end ≡ place + length gap + length (text_of x)
        → (gap ≡ []) ⊎ (gap ≡ 32 ∷ []) → IsWritable x → EndsSexpr x after → Spells bytes place x end
    spells_back (leaf kind text) bytes before gap after place end e p n g w h =
        let raw = written kind text in
        let apart = leaf_apart kind text w in (
          token kind (place + length gap) end,
          back_at kind bytes before gap raw after place (place + length gap) end e p refl n g (written_token kind text w) h,
          refl,
          apart.0,
          apart.1,
          ap (leaf_text kind) (text_is bytes before gap raw after place end e p n) ∙ written_text kind text w,
        )
    spells_back (list none) bytes before gap after place end e p n g w h =
        let start = place + length gap in (
          token Left start (start + 1),
          start + 1,
          start + 1,
          token Right (start + 1) end,
          back_at Left bytes before gap (40 ∷ []) (41 ∷ after) place start (start + 1) e p refl refl g refl tt,
          refl,
          refl,
          back_at Right bytes (before ++ (gap ++ 40 ∷ [])) [] (41 ∷ []) after (start + 1) (start + 1) end (e ∙ behind_byte before gap 40 (41 ∷ after)) (omega (arith, length_byte before gap 40)) (omega arith) (omega arith) (inl refl) refl tt,
          refl,
        )
    spells_back (list (more x xs)) bytes before gap after place end e p n g w h =
        let start = place + length gap in
        let opened = before ++ (gap ++ 40 ∷ []) in
        let inside : bytes ≡ opened ++ (text_of x ++ (text_behind xs ++ after)) = e ∙ behind_byte before gap 40 ((text_of x ++ text_behind xs) ++ after) ∙ ap (λ (ys : List ℕ). opened ++ ys) (append_assoc (text_of x) (text_behind xs) after) in
        let mid = start + 1 + length (text_of x) in
        let first = spells_back x bytes opened [] (text_behind xs ++ after) (start + 1) mid inside (omega (arith, length_byte before gap 40)) (omega arith) (inl refl) w.0 (ends_behind x xs after) in
        let rest = each_back xs bytes (opened ++ text_of x) after mid end (inside ∙ sym (append_assoc opened (text_of x) (text_behind xs ++ after))) (omega (arith, length_byte before gap 40, length-append opened (text_of x))) (omega (arith, length-append (text_of x) (text_behind xs))) w.1 in (
          token Left start (start + 1),
          start + 1,
          rest.0,
          rest.1,
          back_at Left bytes before gap (40 ∷ []) ((text_of x ++ text_behind xs) ++ after) place start (start + 1) e p refl refl g refl tt,
          refl,
          (mid, first, rest.2),
          rest.3,
          rest.4,
        )

    each_back : (xs : Items) (bytes before after : List ℕ) (place end : ℕ) → bytes ≡ before ++ (text_behind xs ++ after) → place ≡ length before → end ≡ place + length (text_behind xs) → AreWritable xs
        → (last : ℕ) × (closing : Token) × SpellsEach bytes place xs last × ReadsToken bytes last closing end × (closing.kind ≡ Right)
    each_back none bytes before after place end e p n w =
        (place, token Right place end, refl, back_at Right bytes before [] (41 ∷ []) after place place end e p (omega arith) n (inl refl) refl tt, refl)
    each_back (more x xs) bytes before after place end e p n w =
        let grouped : bytes ≡ before ++ (32 ∷ (text_of x ++ (text_behind xs ++ after))) = e ∙ ap (λ (ys : List ℕ). before ++ (32 ∷ ys)) (append_assoc (text_of x) (text_behind xs) after) in
        let mid = place + 1 + length (text_of x) in
        let first = spells_back x bytes before (32 ∷ []) (text_behind xs ++ after) place mid grouped p (omega arith) (inr refl) w.0 (ends_behind x xs after) in
        let rest = each_back xs bytes (before ++ (32 ∷ text_of x)) after mid end (grouped ∙ sym (append_assoc before (32 ∷ text_of x) (text_behind xs ++ after))) (omega (arith, length-append before (32 ∷ text_of x))) (omega (arith, length-append (text_of x) (text_behind xs))) w.1 in
        (rest.0, rest.1, (mid, first, rest.2), rest.3, rest.4)

pub list_back : ReadsBack → SexprReadsBack
list_back back x before after w h = spells_back back x (before ++ (text_of x ++ after)) before [] after (length before) (length before + length (text_of x)) refl refl (omega arith) (inl refl) w h

-- ---- what is read can be written

leaf_writable : (bytes : List ℕ) (kind : TokenKind) (text : List ℕ) (place after : ℕ) (t : Token) → ReadsToken bytes place t after → t.kind ≡ kind → kind ≢ Left → kind ≢ Right → leaf_text kind (slice_range bytes t.start t.end) ≡ text → IsLeaf kind text
leaf_writable bytes kind text place after t p tk l r e =
    let shows = token_shows bytes place t after p (λ h. l (sym tk ∙ h)) (λ h. r (sym tk ∙ h)) in
    let same : leaf_text t.kind (slice_range bytes t.start t.end) ≡ text = ap (λ (k : TokenKind). leaf_text k (slice_range bytes t.start t.end)) tk ∙ e in
    subst (λ (k : TokenKind). IsLeaf k text) tk (subst (IsLeaf t.kind) same shows.fits)

mutual
  unfolding Spells

  pub spells_writable : (bytes : List ℕ) (x : Sexpr) (place after : ℕ) → Spells bytes place x after → IsWritable x
  spells_writable bytes (leaf kind text) place after (t, p, tk, l, r, e) = leaf_writable bytes kind text place after t p tk l r e
  spells_writable bytes (list xs) place after (opening, mid, last, closing, p, l, each, c, k) = each_writable bytes xs mid last each

  each_writable : (bytes : List ℕ) (xs : Items) (place after : ℕ) → SpellsEach bytes place xs after → AreWritable xs
  each_writable bytes none place after h = tt
  each_writable bytes (more x xs) place after (mid, first, rest) = (spells_writable bytes x place mid first, each_writable bytes xs mid after rest)
