-- At each place there is one outcome at most.
use Rattle.std.proofs.Common.{◌≡◌, ◌≢◌, ◌⊎◌, ℕ, List, Option, Some, None, Result, Ok, Err, refl, sym, ap, subst, ◌∙◌, inl, inr}
use Rattle.smt_lex.specs.declared.token.TokenKind.{TokenKind}
use Rattle.smt_lex.specs.declared.token.TokenKind.TheVariants.{Left, Right}
use Rattle.smt_lex.specs.declared.token.Token.{Token}
use Rattle.smt_lex.specs.declared.token.LexError.{LexError}
use Rattle.smt_lex.specs.Grammar.{Reads}
use Rattle.smt_lex.specs.Laws.{OneReading}
use Rattle.smt_sexpr.specs.Laws.{OneOutcome}
use Rattle.smt_sexpr.specs.Tree.{Sexpr, Items, leaf, list, none, more}
use Rattle.smt_sexpr.specs.declared.error.SexprRefusal.{SexprRefusal}
use Rattle.smt_sexpr.specs.declared.error.SexprRefusal.TheVariants.{Lex, UnclosedList, StrayClose}
use Rattle.smt_sexpr.specs.Reading.{ReadsToken, Spells, SpellsEach, IsInside, reached, behind, deeper, IsOpen, Refuses, Outcome, expression, finished, refused, Outcomes}
use Rattle.smt_sexpr.proofs.OneValue.{same_token, not_right, not_left, spells_same}

-- no token is read
abbrev IsDead : Result (Option Token) LexError → Type 0
IsDead (Ok None) = Unit {0}
IsDead (Ok (Some token)) = ⊥
IsDead (Err error) = Unit {0}

dead_is : (r s : Result (Option Token) LexError) → r ≡ s → IsDead r → IsDead s
dead_is r s e d = subst IsDead e d

lexical_same : (e f : LexError) → ◌≡◌ {A = Result (Option Token) LexError} (Err e) (Err f) → e ≡ f
lexical_same e f h = cc

end_apart : (e : LexError) → ◌≡◌ {A = Result (Option Token) LexError} (Ok None) (Err e) → ⊥
end_apart e h = cc

module _ (one : OneReading) (bytes : List ℕ) where
  -- where a token is read nothing else is
  token_not_dead : (place : ℕ) (token : Token) (m : ℕ) (r : Result (Option Token) LexError) (n : ℕ) → ReadsToken bytes place token m → Reads bytes place r n → IsDead r → ⊥
  token_not_dead place token m r n p q d = dead_is r (Ok (Some token)) (one bytes place r (Ok (Some token)) n m q p).0 d

  spells_not_dead : (place : ℕ) (x : Sexpr) (m : ℕ) (r : Result (Option Token) LexError) (n : ℕ) → Spells bytes place x m → Reads bytes place r n → IsDead r → ⊥
  unfolding Spells
  spells_not_dead place (leaf kind text) m r n (t, p, tk, l, k, e) q d = token_not_dead place t m r n p q d
  spells_not_dead place (list xs) m r n (opening, mid, last, closing, p, l, each, c, k) q d = token_not_dead place opening mid r n p q d

  reached_not_dead : (place here : ℕ) (token : Token) (m : ℕ) (r : Result (Option Token) LexError) (n : ℕ) → place ≡ here → ReadsToken bytes place token m → Reads bytes here r n → IsDead r → ⊥
  reached_not_dead place here token m r n e p q d = token_not_dead here token m r n (subst (λ (k : ℕ). ReadsToken bytes k token m) e p) q d

  leaf_not_open : (t u : Token) → t ≡ u → t.kind ≢ Left → u.kind ≡ Left → ⊥
  leaf_not_open t u e apart l = apart (ap (λ (x : Token). x.kind) e ∙ l)

  module _ (here : ℕ) (r : Result (Option Token) LexError) (end : ℕ) (reads : Reads bytes here r end) (dead : IsDead r) where
    at_dead : (place : ℕ) → place ≡ here → Reads bytes place r end
    at_dead place e = subst (λ (k : ℕ). Reads bytes k r end) (sym e) reads

    leaf_passes : (kind : TokenKind) (text : List ℕ) (place mid : ℕ) (token : Token) → Spells bytes place (leaf kind text) mid → ReadsToken bytes place token mid → token.kind ≢ Left → IsInside bytes here place → IsInside bytes here mid
    leaf_passes kind text place mid token s p apart (reached _ e) = absurd (spells_not_dead place (leaf kind text) mid r end s (at_dead place e) dead)
    leaf_passes kind text place mid token s p apart (behind _ y n t inside) = subst (IsInside bytes here) (sym (spells_same one bytes place (leaf kind text) y mid n s t).1) inside
    leaf_passes kind text place mid token s p apart (deeper _ opening n q left inside) = absurd (leaf_not_open token opening (same_token one bytes place token opening mid n p q).0 apart left)

    list_passes : (xs : Items) (place mid : ℕ) (opening : Token) (first : ℕ) → Spells bytes place (list xs) mid → ReadsToken bytes place opening first → (IsInside bytes here first → ⊥) → IsInside bytes here place → IsInside bytes here mid
    list_passes xs place mid opening first s p closed (reached _ e) = absurd (spells_not_dead place (list xs) mid r end s (at_dead place e) dead)
    list_passes xs place mid opening first s p closed (behind _ y n t inside) = subst (IsInside bytes here) (sym (spells_same one bytes place (list xs) y mid n s t).1) inside
    list_passes xs place mid opening first s p closed (deeper _ other n q left inside) = absurd (closed (subst (IsInside bytes here) (sym (same_token one bytes place opening other first n p q).1) inside))

    none_closes : (place last : ℕ) (closing : Token) (after : ℕ) → place ≡ last → ReadsToken bytes place closing after → closing.kind ≡ Right → IsInside bytes here place → ⊥
    none_closes place last closing after each c k (reached _ e) = reached_not_dead place here closing after r end e c reads dead
    none_closes place last closing after each c k (behind _ y n t inside) = not_right one bytes place y n closing after t c k
    none_closes place last closing after each c k (deeper _ opening n q left inside) =
        not_left one bytes closing.kind k (ap (λ (x : Token). x.kind) (same_token one bytes place closing opening after n c q).0 ∙ left)

    mutual
      unfolding Spells

      -- what is inside lies behind each whole s-expression
      passes : (x : Sexpr) (place mid : ℕ) → Spells bytes place x mid → IsInside bytes here place → IsInside bytes here mid
      passes (leaf kind text) place mid (t, p, tk, l, k, e) inside =
          leaf_passes kind text place mid t (t, p, tk, l, k, e) p (λ h. l (sym tk ∙ h)) inside
      passes (list xs) place mid (opening, first, last, closing, p, l, each, c, k) inside =
          list_passes xs place mid opening first (opening, first, last, closing, p, l, each, c, k) p (λ i. closes xs first last closing mid each c k i) inside

      -- no list that is closed has it inside
      closes : (xs : Items) (place last : ℕ) (closing : Token) (after : ℕ) → SpellsEach bytes place xs last → ReadsToken bytes last closing after → closing.kind ≡ Right → IsInside bytes here place → ⊥
      closes none place last closing after each c k inside = none_closes place last closing after each (subst (λ (n : ℕ). ReadsToken bytes n closing after) (sym each) c) k inside
      closes (more x xs) place last closing after (mid, first, each) c k inside = closes xs mid last closing after each c k (passes x place mid first inside)

  -- a list that is still open is no whole s-expression
  open_not_spelt : (place here : ℕ) (r : Result (Option Token) LexError) (end : ℕ) (opening : Token) (mid : ℕ) (x : Sexpr) (after : ℕ) → Reads bytes here r end → IsDead r
      → ReadsToken bytes place opening mid → opening.kind ≡ Left → IsInside bytes here mid → Spells bytes place x after → ⊥
  unfolding Spells
  open_not_spelt place here r end opening mid (leaf kind text) after reads dead p left inside (t, q, tk, l, k, e) =
      leaf_not_open t opening (same_token one bytes place t opening after mid q p).0 (λ h. l (sym tk ∙ h)) left
  open_not_spelt place here r end opening mid (list xs) after reads dead p left inside (other, first, last, closing, q, l, each, c, k) =
      closes here r end reads dead xs first last closing after each c k (subst (IsInside bytes here) (sym (same_token one bytes place other opening first mid q p).1) inside)

  -- one place inside is where no token is read
  inside_one : (here there : ℕ) (r s : Result (Option Token) LexError) (m n place : ℕ) → IsInside bytes here place → Reads bytes here r m → IsDead r → IsInside bytes there place → Reads bytes there s n → IsDead s → here ≡ there
  unfolding Spells
  inside_one here there r s m n place (reached _ e) p d (reached _ f) q c = sym e ∙ f
  inside_one here there r s m n place (reached _ e) p d (behind _ y k t other) q c = absurd (spells_not_dead place y k r m t (subst (λ (i : ℕ). Reads bytes i r m) (sym e) p) d)
  inside_one here there r s m n place (reached _ e) p d (deeper _ opening k t left other) q c = absurd (reached_not_dead place here opening k r m e t p d)
  inside_one here there r s m n place (behind _ x k t inside) p d other q c =
      inside_one here there r s m n k inside p d (passes there s n q c x place k t other) q c
  inside_one here there r s m n place (deeper _ opening k t left inside) p d (reached _ f) q c = absurd (reached_not_dead place there opening k s n f t q c)
  inside_one here there r s m n place (deeper _ opening k t left inside) p d (behind _ y j u other) q c =
      absurd (open_not_spelt place here r m opening k y j p d t left inside u)
  inside_one here there r s m n place (deeper _ opening k t left inside) p d (deeper _ opening' j u left' other) q c =
      inside_one here there r s m n k inside p d (subst (IsInside bytes there) (sym (same_token one bytes place opening opening' k j t u).1) other) q c

  -- ---- outcomes

  -- where the lists are o, or at the place itself
  abbrev IsWithin : ℕ → ℕ → Type 0
  IsWithin place here = (place ≡ here) ⊎ ((outer : ℕ) × IsOpen bytes place outer here)

  within_one : (place here there : ℕ) (r s : Result (Option Token) LexError) (m n : ℕ) → IsWithin place here → Reads bytes here r m → IsDead r → IsWithin place there → Reads bytes there s n → IsDead s → here ≡ there
  within_one place here there r s m n (inl e) p d (inl f) q c = sym e ∙ f
  within_one place here there r s m n (inl e) p d (inr (outer, (opening, mid, t, left, at, inside))) q c = absurd (reached_not_dead place here opening mid r m e t p d)
  within_one place here there r s m n (inr (outer, (opening, mid, t, left, at, inside))) p d (inl f) q c = absurd (reached_not_dead place there opening mid s n f t q c)
  within_one place here there r s m n (inr (outer, (opening, mid, t, left, at, inside))) p d (inr (outer', (opening', mid', t', left', at', inside'))) q c =
      inside_one here there r s m n mid inside p d (subst (IsInside bytes there) (sym (same_token one bytes place opening opening' mid mid' t t').1) inside') q c

  -- what is read where no token is
  within_reads : (place here there : ℕ) (r s : Result (Option Token) LexError) (m n : ℕ) → IsWithin place here → Reads bytes here r m → IsDead r → IsWithin place there → Reads bytes there s n → IsDead s → (r ≡ s) × (m ≡ n)
  within_reads place here there r s m n w p d v q c =
      one bytes here r s m n p (subst (λ (i : ℕ). Reads bytes i s n) (sym (within_one place here there r s m n w p d v q c)) q)

  within_not_spelt : (place here : ℕ) (r : Result (Option Token) LexError) (end : ℕ) (x : Sexpr) (after : ℕ) → IsWithin place here → Reads bytes here r end → IsDead r → Spells bytes place x after → ⊥
  within_not_spelt place here r end x after (inl e) p d s = spells_not_dead place x after r end s (subst (λ (i : ℕ). Reads bytes i r end) (sym e) p) d
  within_not_spelt place here r end x after (inr (outer, (opening, mid, t, left, at, inside))) p d s = open_not_spelt place here r end opening mid x after p d t left inside s

  within_not_closed : (place here : ℕ) (r : Result (Option Token) LexError) (end : ℕ) (token : Token) (after : ℕ) → IsWithin place here → Reads bytes here r end → IsDead r → ReadsToken bytes place token after → token.kind ≡ Right → ⊥
  within_not_closed place here r end token after (inl e) p d t k = reached_not_dead place here token after r end e t p d
  within_not_closed place here r end token after (inr (outer, (opening, mid, u, left, at, inside))) p d t k =
      not_left one bytes token.kind k (ap (λ (x : Token). x.kind) (same_token one bytes place token opening after mid t u).0 ∙ left)

  outer_one : (place here there outer other : ℕ) → IsOpen bytes place outer here → IsOpen bytes place other there → outer ≡ other
  outer_one place here there outer other (opening, mid, t, left, at, inside) (opening', mid', t', left', at', inside') =
      sym at ∙ ap (λ (x : Token). x.start) (same_token one bytes place opening opening' mid mid' t t').0 ∙ at'

  -- ---- each pair of outcomes, once

  spelt_not_finished : (place : ℕ) (x : Sexpr) (m n : ℕ) → Spells bytes place x m → Reads bytes place (Ok None) n → ⊥
  spelt_not_finished place x m n s p = spells_not_dead place x m (Ok None) n s p tt

  spelt_not_refused : (place : ℕ) (x : Sexpr) (why : SexprRefusal) (m n : ℕ) → Spells bytes place x m → Refuses bytes place why n → ⊥
  spelt_not_refused place x (Lex e) m n s (here, w, p) = within_not_spelt place here (Err e) n x m w p tt s
  spelt_not_refused place x (UnclosedList outer) m n s (here, o, p) = within_not_spelt place here (Ok None) n x m (inr (outer, o)) p tt s
  spelt_not_refused place x (StrayClose start) m n s (token, t, k, at) = not_right one bytes place x m token n s t k

  finished_not_refused : (place : ℕ) (why : SexprRefusal) (m n : ℕ) → Reads bytes place (Ok None) m → Refuses bytes place why n → ⊥
  finished_not_refused place (Lex e) m n p (here, w, q) = end_apart e (within_reads place place here (Ok None) (Err e) m n (inl refl) p tt w q tt).0
  finished_not_refused place (UnclosedList outer) m n p (here, (opening, mid, t, left, at, inside), q) = token_not_dead place opening mid (Ok None) m t p tt
  finished_not_refused place (StrayClose start) m n p (token, t, k, at) = token_not_dead place token n (Ok None) m t p tt

  lexical_not_unclosed : (place : ℕ) (e : LexError) (outer m n : ℕ) → Refuses bytes place (Lex e) m → Refuses bytes place (UnclosedList outer) n → ⊥
  lexical_not_unclosed place e outer m n (here, w, p) (there, o, q) = end_apart e (within_reads place there here (Ok None) (Err e) n m (inr (outer, o)) q tt w p tt).0

  lexical_not_stray : (place : ℕ) (e : LexError) (start m n : ℕ) → Refuses bytes place (Lex e) m → Refuses bytes place (StrayClose start) n → ⊥
  lexical_not_stray place e start m n (here, w, p) (token, t, k, at) = within_not_closed place here (Err e) m token n w p tt t k

  unclosed_not_stray : (place outer start m n : ℕ) → Refuses bytes place (UnclosedList outer) m → Refuses bytes place (StrayClose start) n → ⊥
  unclosed_not_stray place outer start m n (here, o, p) (token, t, k, at) = within_not_closed place here (Ok None) m token n (inr (outer, o)) p tt t k

  refusal_one : (place : ℕ) (why other : SexprRefusal) (m n : ℕ) → Refuses bytes place why m → Refuses bytes place other n → (why ≡ other) × (m ≡ n)
  refusal_one place (Lex e) (Lex f) m n (here, w, p) (there, v, q) =
      let same = within_reads place here there (Err e) (Err f) m n w p tt v q tt in
      (ap Lex (lexical_same e f same.0), same.1)
  refusal_one place (Lex e) (UnclosedList outer) m n h k = absurd (lexical_not_unclosed place e outer m n h k)
  refusal_one place (Lex e) (StrayClose start) m n h k = absurd (lexical_not_stray place e start m n h k)
  refusal_one place (UnclosedList outer) (Lex f) m n h k = absurd (lexical_not_unclosed place f outer n m k h)
  refusal_one place (UnclosedList outer) (UnclosedList other) m n (here, o, p) (there, o', q) =
      (ap UnclosedList (outer_one place here there outer other o o'), (within_reads place here there (Ok None) (Ok None) m n (inr (outer, o)) p tt (inr (other, o')) q tt).1)
  refusal_one place (UnclosedList outer) (StrayClose start) m n h k = absurd (unclosed_not_stray place outer start m n h k)
  refusal_one place (StrayClose start) (Lex f) m n h k = absurd (lexical_not_stray place f start n m k h)
  refusal_one place (StrayClose start) (UnclosedList other) m n h k = absurd (unclosed_not_stray place other start n m k h)
  refusal_one place (StrayClose start) (StrayClose other) m n (token, t, k, at) (token', t', k', at') =
      let same = same_token one bytes place token token' m n t t' in
      (ap StrayClose (sym at ∙ ap (λ (x : Token). x.start) same.0 ∙ at'), same.1)

  outcome_here : (place : ℕ) (o p : Outcome) (m n : ℕ) → Outcomes bytes place o m → Outcomes bytes place p n → (o ≡ p) × (m ≡ n)
  outcome_here place (expression x) (expression y) m n h k = let same = spells_same one bytes place x y m n h k in (ap expression same.0, same.1)
  outcome_here place (expression x) finished m n h k = absurd (spelt_not_finished place x m n h k)
  outcome_here place (expression x) (refused why) m n h k = absurd (spelt_not_refused place x why m n h k)
  outcome_here place finished (expression y) m n h k = absurd (spelt_not_finished place y n m k h)
  outcome_here place finished finished m n h k = (refl, (one bytes place (Ok None) (Ok None) m n h k).1)
  outcome_here place finished (refused why) m n h k = absurd (finished_not_refused place why m n h k)
  outcome_here place (refused why) (expression y) m n h k = absurd (spelt_not_refused place y why n m k h)
  outcome_here place (refused why) finished m n h k = absurd (finished_not_refused place why n m k h)
  outcome_here place (refused why) (refused other) m n h k = let same = refusal_one place why other m n h k in (ap refused same.0, same.1)

pub outcomes_one : OneReading → OneOutcome
outcomes_one one bytes place o p m n h k = outcome_here one bytes place o p m n h k
