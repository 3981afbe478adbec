-- The bytes spell one s-expression at most.
use Rattle.std.proofs.Common.{◌≡◌, ◌≢◌, ℕ, List, Some, Ok, refl, sym, ap, subst, ◌∙◌}
use Rattle.std.specs.Prelude.{slice_range}
use Rattle.smt_lex.specs.declared.token.TokenKind.{TokenKind}
use Rattle.smt_lex.specs.declared.token.TokenKind.TheVariants.{Left, Right}
use Rattle.smt_lex.specs.declared.token.Token.{Token}
use Rattle.smt_lex.specs.Laws.{OneReading}
use Rattle.smt_sexpr.specs.Laws.{OneValue}
use Rattle.smt_sexpr.specs.Tree.{Sexpr, Items, leaf, list, none, more, leaf_text}
use Rattle.smt_sexpr.specs.Reading.{ReadsToken, Spells, SpellsEach}

module _ (one : OneReading) (bytes : List ℕ) where
  pub same_token : (place : ℕ) (t u : Token) (m n : ℕ) → ReadsToken bytes place t m → ReadsToken bytes place u n → (t ≡ u) × (m ≡ n)
  same_token place t u m n p q = let r = one bytes place (Ok (Some t)) (Ok (Some u)) m n p q in let e = r.0 in (cc, r.1)

  at_place : (place here : ℕ) (y : Sexpr) (n : ℕ) → here ≡ place → Spells bytes here y n → Spells bytes place y n
  at_place place here y n e s = rw (← e) s

  pub kinds_apart : (t u : Token) (kind : TokenKind) → t ≡ u → t.kind ≡ kind → kind ≢ Left → u.kind ≡ Left → ⊥
  kinds_apart t u kind e k apart l = apart (sym k ∙ ap (λ (x : Token). x.kind) e ∙ l)

  leaf_same : (k j : TokenKind) (a b : List ℕ) → k ≡ j → a ≡ b → leaf k a ≡ leaf j b
  leaf_same k j a b e f = cc

  more_same : (x y : Sexpr) (xs ys : Items) → x ≡ y → xs ≡ ys → more x xs ≡ more y ys
  more_same x y xs ys e f = cc

  pub not_left : (k : TokenKind) → k ≡ Right → k ≡ Left → ⊥
  not_left k r l = cc

  -- no s-expression begins with a closing parenthesis
  pub not_right : (place : ℕ) (x : Sexpr) (n : ℕ) (c : Token) (m : ℕ) → Spells bytes place x n → ReadsToken bytes place c m → c.kind ≡ Right → ⊥
  unfolding Spells
  not_right place (leaf k text) n c m (t, p, tk, l, r, e) pc right = r (sym tk ∙ ap (λ (x : Token). x.kind) (same_token place t c n m p pc).0 ∙ right)
  not_right place (list xs) n c m (opening, mid, last, closing, p, l, each, pl, r) pc right = not_left c.kind right (sym (ap (λ (x : Token). x.kind) (same_token place opening c mid m p pc).0) ∙ l)

  mutual
    unfolding Spells

    pub spells_same : (place : ℕ) (x y : Sexpr) (m n : ℕ) → Spells bytes place x m → Spells bytes place y n → (x ≡ y) × (m ≡ n)
    spells_same place (leaf k text) (leaf j other) m n (t, p, tk, l, r, e) (u, q, uk, l', r', f) =
        let s = same_token place t u m n p q in
        let kinds : k ≡ j = sym tk ∙ ap (λ (x : Token). x.kind) s.0 ∙ uk in
        let texts : text ≡ other = sym e ∙ ap (λ (x : TokenKind). leaf_text x (slice_range bytes t.start t.end)) kinds ∙ ap (λ (x : Token). leaf_text j (slice_range bytes x.start x.end)) s.0 ∙ f in
        (leaf_same k j text other kinds texts, s.1)
    spells_same place (leaf k text) (list ys) m n (t, p, tk, l, r, e) (opening, mid, last, closing, q, ol, each, c, cr) =
        absurd (kinds_apart t opening k (same_token place t opening m mid p q).0 tk l ol)
    spells_same place (list xs) (leaf j other) m n (opening, mid, last, closing, q, ol, each, c, cr) (u, p, uk, l, r, e) =
        absurd (kinds_apart u opening j (same_token place u opening n mid p q).0 uk l ol)
    spells_same place (list xs) (list ys) m n (opening, mid, last, closing, p, l, each, c, r) (opening', mid', last', closing', p', l', each', c', r') =
        let s = same_token place opening opening' mid mid' p p' in
        let rest = each_same mid xs ys last last' m n closing closing' each c r (subst (λ (here : ℕ). SpellsEach bytes here ys last') (sym s.1) each') c' r' in
        (ap list rest.0, rest.1)

    each_same : (place : ℕ) (xs ys : Items) (last end m n : ℕ) (c d : Token) → SpellsEach bytes place xs last → ReadsToken bytes last c m → c.kind ≡ Right → SpellsEach bytes place ys end → ReadsToken bytes end d n → d.kind ≡ Right → (xs ≡ ys) × (m ≡ n)
    each_same place none none last end m n c d p pc pr q qd qr = (refl, (same_token last c d m n pc (subst (λ (here : ℕ). ReadsToken bytes here d n) (sym q ∙ p) qd)).1)
    each_same place none (more y ys) last end m n c d p pc pr (mid, q, each) qd qr = absurd (not_right last y mid c m (subst (λ (here : ℕ). Spells bytes here y mid) p q) pc pr)
    each_same place (more x xs) none last end m n c d (mid, p, each) pc pr q qd qr = absurd (not_right end x mid d n (subst (λ (here : ℕ). Spells bytes here x mid) q p) qd qr)
    each_same place (more x xs) (more y ys) last end m n c d (mid, p, each) pc pr (mid', q, each') qd qr =
        let first = spells_same place x y mid mid' p q in
        let rest = each_same mid xs ys last end m n c d each pc pr (subst (λ (here : ℕ). SpellsEach bytes here ys end) (sym first.1) each') qd qr in
        (more_same x y xs ys first.0 rest.0, rest.1)

pub spells_one : OneReading → OneValue
spells_one one bytes place x y m n p q = spells_same one bytes place x y m n p q
