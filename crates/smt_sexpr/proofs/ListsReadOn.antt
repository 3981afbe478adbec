-- A list is read the same whatever follows it.
use Rattle.std.proofs.Common.{◌≡◌, ℕ, zero, suc, ◌+◌, ◌-◌, ◌≤◌, List, [], ◌∷◌, ◌++◌, length, take, drop, refl, sym, ap, subst, ◌∙◌, arith}
use Rattle.std.specs.Prelude.{slice_range}
use Rattle.std.proofs.lemmas.List.{append_assoc, drop-append-le, take-append-drop, length-drop, length-take, length-take-le, drop-drop}
use Rattle.smt_lex.specs.declared.token.TokenKind.{TokenKind}
use Rattle.smt_lex.specs.declared.token.TokenKind.TheVariants.{Left, Right}
use Rattle.smt_lex.specs.declared.token.Token.{Token}
use Rattle.smt_lex.specs.Grammar.{IsToken}
use Rattle.smt_lex.specs.Laws.{ReadsBefore, ReadsClosing}
use Rattle.smt_sexpr.specs.Laws.{ListIsWithin, ListReadsOn}
use Rattle.smt_sexpr.specs.Tree.{Sexpr, Items, leaf, list, none, more, leaf_text}
use Rattle.smt_sexpr.specs.Reading.{ReadsToken, Spells, SpellsEach}
use Rattle.smt_sexpr.proofs.LeafTexts.{token_forward}
use Rattle.smt_sexpr.proofs.ReadingLoop.{each_forward}

take_front : (n : ℕ) (xs ys : List ℕ) → n ≤ length xs → take n (xs ++ ys) ≡ take n xs
take_front zero xs ys le = refl
take_front (suc n) [] ys le = absurd (omega arith)
take_front (suc n) (x ∷ xs) ys le = ap (λ (zs : List ℕ). x ∷ zs) (take_front n xs ys (omega arith))

-- a part of the front
range_front : (front zs : List ℕ) (low high : ℕ) → low ≤ high → high ≤ length front → slice_range (front ++ zs) low high ≡ slice_range front low high
range_front front zs low high order le =
    ap (take (high - low)) (drop-append-le low front zs (omega arith)) ∙ take_front (high - low) (drop low front) zs (omega (arith, length-drop low front))

-- a token ends where it is left, and not before it begins
token_order : (bytes : List ℕ) (place : ℕ) (t : Token) (after : ℕ) → ReadsToken bytes place t after → (t.start ≤ t.end) × (t.end ≡ after)
token_order bytes place t after (n, gap, (start, m, longest, end, behind)) = (omega arith, sym behind)

-- where a closing parenthesis is read the text is split
record Closed (bytes : List ℕ) (t : Token) (after : ℕ) : Type 0 where
  within : after ≤ length bytes
  count : after ≡ t.start + 1
  split : bytes ≡ take t.start bytes ++ 41 ∷ drop after bytes
  front : length (take t.start bytes) ≡ t.start

first_of : (m : ℕ) (zs : List ℕ) → m ≤ length zs → take m zs ≡ 41 ∷ [] → (m ≡ 1) × (zs ≡ 41 ∷ drop 1 zs)
first_of m zs le e =
    let one : m ≡ 1 = sym (length-take-le m zs le) ∙ ap length e in
    (one, sym (take-append-drop 1 zs) ∙ ap (λ (xs : List ℕ). xs ++ drop 1 zs) (ap (λ (k : ℕ). take k zs) (sym one) ∙ e))

closed : (bytes : List ℕ) (place : ℕ) (t : Token) (after : ℕ) → ReadsToken bytes place t after → t.kind ≡ Right → Closed bytes t after
closed bytes place t after (n, gap, (start, m, longest, end, behind)) k =
    let zs = drop (place + n) bytes in
    let token : take m zs ≡ 41 ∷ [] = subst (λ (kind : TokenKind). IsToken kind (take m zs)) k longest.token in
    let parts = first_of m zs longest.within token in
    let one : m ≡ 1 = parts.0 in
    let some : length zs ≡ suc (length (drop 1 zs)) = ap length parts.1 in
    let behind_it : drop 1 zs ≡ drop after bytes = drop-drop 1 (place + n) bytes ∙ ap (λ (k : ℕ). drop k bytes) (let e : place + n + 1 ≡ after = omega arith in e) in
    let there : drop t.start bytes ≡ zs = ap (λ (k : ℕ). drop k bytes) start in
    record {
      within = omega (arith, length-drop (place + n) bytes);
      count = omega arith;
      split = sym (take-append-drop t.start bytes) ∙ ap (λ (xs : List ℕ). take t.start bytes ++ xs) (there ∙ parts.1 ∙ ap (λ (xs : List ℕ). 41 ∷ xs) behind_it);
      front = omega (arith, length-take t.start bytes, length-drop (place + n) bytes);
    }

module _ (before : ReadsBefore) (front rest other : List ℕ) where
  mutual
    unfolding Spells

    -- an s-expression in front of a closing parenthesis
    spells_before : (x : Sexpr) (place after : ℕ) → Spells (front ++ 41 ∷ rest) place x after → after ≤ length front → Spells (front ++ 41 ∷ other) place x after
    spells_before (leaf kind text) place after (t, p, tk, l, r, e) le =
        let order = token_order (front ++ 41 ∷ rest) place t after p in
        let start : t.start ≤ t.end = order.0 in
        let end : t.end ≤ length front = omega (arith, order.1) in
        let same : slice_range (front ++ 41 ∷ other) t.start t.end ≡ slice_range (front ++ 41 ∷ rest) t.start t.end = range_front front (41 ∷ other) t.start t.end start end ∙ sym (range_front front (41 ∷ rest) t.start t.end start end) in
        (t, before front rest other place t after p le, tk, l, r, ap (leaf_text kind) same ∙ e)
    spells_before (list xs) place after (opening, mid, last, closing, p, l, each, c, k) le =
        let a = each_forward (front ++ 41 ∷ rest) xs mid last each in
        let b = token_forward (front ++ 41 ∷ rest) last closing after c in
        (opening, mid, last, closing, before front rest other place opening mid p (omega (arith, a, b)), l, each_before xs mid last each (omega (arith, b)), before front rest other last closing after c le, k)

    each_before : (xs : Items) (place after : ℕ) → SpellsEach (front ++ 41 ∷ rest) place xs after → after ≤ length front → SpellsEach (front ++ 41 ∷ other) place xs after
    each_before none place after e le = e
    each_before (more x xs) place after (mid, first, others) le =
        let a = each_forward (front ++ 41 ∷ rest) xs mid after others in
        (mid, spells_before x place mid first (omega (arith, a)), each_before xs mid after others le)

  list_before : ReadsClosing → (xs : Items) (place after : ℕ) (opening : Token) (mid last : ℕ) (closing : Token) → ReadsToken (front ++ 41 ∷ rest) place opening mid → opening.kind ≡ Left → SpellsEach (front ++ 41 ∷ rest) mid xs last
      → ReadsToken (front ++ 41 ∷ rest) last closing after → closing.kind ≡ Right → closing.start ≡ length front → last ≤ length front → Spells (front ++ 41 ∷ other) place (list xs) after
  unfolding Spells
  list_before close xs place after opening mid last closing p l each c k start le =
      let a = each_forward (front ++ 41 ∷ rest) xs mid last each in
      (opening, mid, last, closing, before front rest other place opening mid p (omega (arith, a)), l, each_before xs mid last each le, close front rest other last closing after c start, k)

token_start : (bytes : List ℕ) (place : ℕ) (t : Token) (after : ℕ) → ReadsToken bytes place t after → place ≤ t.start
token_start bytes place t after (n, gap, (start, m, longest, end, behind)) = omega arith

pub list_within : ListIsWithin
unfolding Spells
list_within bytes place after xs (opening, mid, last, closing, p, l, each, c, k) = (closed bytes last closing after c k).within

pub list_on : ReadsBefore → ReadsClosing → ListReadsOn
unfolding Spells
list_on before close bytes added place after xs (opening, mid, last, closing, p, l, each, c, k) =
    let h = closed bytes last closing after c k in
    let front = take closing.start bytes in
    let rest = drop after bytes in
    let on : (bs : List ℕ) → bytes ≡ bs → bs ≡ front ++ 41 ∷ rest → Spells (front ++ 41 ∷ (rest ++ added)) place (list xs) after =
    λ bs e f. list_before before front rest (rest ++ added) close xs place after opening mid last closing
    (subst (λ (b : List ℕ). ReadsToken b place opening mid) (e ∙ f) p) l (subst (λ (b : List ℕ). SpellsEach b mid xs last) (e ∙ f) each)
    (subst (λ (b : List ℕ). ReadsToken b last closing after) (e ∙ f) c) k (sym h.front) (omega (arith, token_start bytes last closing after c, h.front)) in
    let whole : front ++ 41 ∷ (rest ++ added) ≡ bytes ++ added = sym (append_assoc front (41 ∷ rest) added) ∙ ap (λ (b : List ℕ). b ++ added) (sym h.split) in
    subst (λ (b : List ℕ). Spells b place (list xs) after) whole (on bytes refl h.split)
