-- What is read straight from the bytes has the text of its form.
use Rattle.std.proofs.Common.{◌≡◌, ◌∙◌, refl, sym, ap, subst, arith, ℕ, suc, ◌+◌, ◌-◌, ◌*◌, ◌<◌, ◌≤◌, true, get_or, List, [], ◌∷◌, ◌++◌, length, take, drop, map}
use Rattle.std.specs.Prelude.{All, IfSome, nat_eq, codes, Option, Some, None}
use Rattle.std.specs.Cmp.Lexicographic.{same_text}
use lib.Pointwise.{pointwise}
use Rattle.std.proofs.lemmas.List.{append_assoc, append-nil, length-append, take_more, take-append-drop, length-take, drop_at}
use Rattle.std.proofs.lemmas.List.Elements.{All-nil, All-push, All-append}
use Rattle.smt_lex.specs.Bytes.{is_space}
use Rattle.smt_lex.specs.Grammar.{is_gap, is_numeral}
use Rattle.smt_lex.specs.Numbers.{value_from, value_of}
use Rattle.smt_sexpr.specs.Tree.{Sexpr, Items, list}
use Rattle.smt_sexpr.specs.Laws.{SexprReadsBack}
use Rattle.smt_sexpr.specs.Reading.{Spells}
use Rattle.smt_sexpr.specs.Shapes.{items_of, symbol}
use Rattle.smt_sexpr.specs.Printing.{text_of, text_behind, IsWritable}
use Rattle.stn_core.specs.declared.literal.Literal.{Literal}
use Rattle.cert_text.specs.declared.entry.Version.{Version}
use Rattle.cert_text.specs.Form.{numeral_text, numeral, literal_sexpr, clause_sexpr, step_sexpr, item_sexpr}
use Rattle.cert_text.specs.declared.entry.FileEntry.TheVariants.{Unsat}
use Rattle.cert_text.proofs.EntryKinds.{file_entry_writable}
use Rattle.kept_lemmas.specs.declared.item.Item.{Item}
use Rattle.kept_lemmas.specs.declared.item.Item.TheVariants.{Own, Keep}
use Rattle.cert_read.specs.Parts.{item_of}
use Rattle.cert_read.specs.Written.{IsClosedGap}
use Rattle.cert_read.specs.code.Quick.{LiteralFits, ReadsFirst, ReadsClause, ReadsItem, Adds, AddsAll, IsQuick, ReadsOne}
use Rattle.cert_read.proofs.EntryBack.{item_back}
use Rattle.cert_read.proofs.NumeralTexts.{text_of_value}
use Rattle.cert_read.proofs.WrittenBack.{spells_before}

-- ---- digits

value_push : (acc : ℕ) (ds : List ℕ) (d : ℕ) → value_from acc (ds ++ d ∷ []) ≡ value_from acc ds * 10 + (d - 48)
unfolding value_from
value_push acc [] d = refl
value_push acc (e ∷ ds) d = value_push (acc * 10 + (e - 48)) ds d

-- one digit more
pub value_more : (bytes : List ℕ) (count : ℕ) → count < length bytes → value_of (take (count + 1) bytes) ≡ 10 * value_of (take count bytes) + (get_or bytes count 0 - 48)
value_more bytes count lt =
    ap value_of (take_more bytes count 0 lt) ∙ value_push 0 (take count bytes) (get_or bytes count 0) ∙ omega arith

pub strips : (bytes text rest : List ℕ) → pointwise nat_eq (take (length text) bytes) text ≡ true → rest ≡ drop (length text) bytes → bytes ≡ text ++ rest
strips bytes text rest same e =
    sym (take-append-drop (length text) bytes) ∙ ap (λ (xs : List ℕ). xs ++ drop (length text) bytes) (same_text (take (length text) bytes) text (sym same)) ∙ ap (λ (xs : List ℕ). text ++ xs) (sym e)

-- a numeral in front of what is behind it
pub numeral_front : (bytes rest : List ℕ) (count value : ℕ) → count ≤ length bytes → value ≡ value_of (take count bytes) → is_numeral (take count bytes) ≡ true → rest ≡ drop count bytes → bytes ≡ numeral_text value ++ rest
numeral_front bytes rest count value within is form e =
    sym (take-append-drop count bytes)
    ∙ ap (λ (xs : List ℕ). xs ++ drop count bytes) (sym (ap numeral_text is ∙ text_of_value (take count bytes) form))
    ∙ ap (λ (xs : List ℕ). numeral_text value ++ xs) (sym e)

-- ---- pieces of a text, one behind the other

two_pieces : (bytes a middle b rest : List ℕ) → bytes ≡ a ++ middle → middle ≡ b ++ rest → bytes ≡ (a ++ b) ++ rest
two_pieces bytes a middle b rest e f = e ∙ ap (λ (xs : List ℕ). a ++ xs) f ∙ sym (append_assoc a b rest)

-- ---- parts, each behind a space

module _ {A : Type 0} (f : A → Sexpr) (Fits : A → Type 0) where
  abbrev behind_text : List A → List ℕ
  behind_text xs = text_behind (items_of (map f xs))

  pub adds_more : (old now new : List A) (bytes here after : List ℕ) (x : A) → Adds f Fits old now bytes here → new ≡ now ++ x ∷ [] → Fits x → here ≡ 32 ∷ (text_of (f x) ++ after) → Adds f Fits old new bytes after
  adds_more old now new bytes here after x (added, is, fits, goes) next fit e = (
    added ++ x ∷ [],
    next ∙ ap (λ (xs : List A). xs ++ x ∷ []) is ∙ append_assoc old added (x ∷ []),
    All-push Fits added x fits fit,
    λ more behind rest.
        let inside : here ≡ behind_text (x ∷ more) ++ behind = e ∙ ap (λ (text : List ℕ). 32 ∷ (text_of (f x) ++ text)) rest ∙ ap (λ (text : List ℕ). 32 ∷ text) (sym (append_assoc (text_of (f x)) (behind_text more) behind)) in
        goes (x ∷ more) behind inside ∙ ap (λ (xs : List A). behind_text xs ++ behind) (sym (append_assoc added (x ∷ []) more)),
  )

  pub adds_all : (old new : List A) (bytes here after : List ℕ) → Adds f Fits old new bytes here → here ≡ 41 ∷ after → AddsAll f Fits old new bytes after
  adds_all old new bytes here after (added, is, fits, goes) e =
      (added, is, fits, goes [] after e ∙ ap (λ (xs : List A). behind_text xs ++ after) (append-nil added))

-- ---- clauses

pub clause_text : (first : Literal) (whole : List Literal) (bytes middle rest : List ℕ) → ReadsFirst bytes first middle → AddsAll literal_sexpr LiteralFits (first ∷ []) whole middle rest → ReadsClause bytes whole rest
clause_text first whole bytes middle rest (e, fit) (added, is, fits, f) =
    let text : bytes ≡ text_of (clause_sexpr (first ∷ added)) ++ rest = (e ∙ ap (λ (xs : List ℕ). 40 ∷ xs) (two_pieces (text_of (literal_sexpr first) ++ middle) (text_of (literal_sexpr first)) middle (text_behind (items_of (map literal_sexpr added))) rest refl f)) in (
      subst (λ (ls : List Literal). bytes ≡ text_of (clause_sexpr ls) ++ rest) (sym is) text,
      subst (All LiteralFits) (sym is) (All-append LiteralFits (first ∷ []) added (All-push LiteralFits [] first (All-nil LiteralFits) fit) fits),
    )

-- ---- items

list_of_item : (item : Item) → (xs : Items) × (item_sexpr item ≡ list xs)
list_of_item (Own lemma) = (items_of (symbol (codes "lemma") ∷ clause_sexpr lemma.clause ∷ map step_sexpr lemma.steps), refl)
list_of_item (Keep kept) = (items_of (symbol (codes "keep") ∷ numeral kept.entry ∷ numeral kept.item ∷ []), refl)

pub quick_is : (version : Version) (item : Item) (bytes inside rest : List ℕ) → bytes ≡ 32 ∷ inside → ReadsItem version inside item rest → IsQuick (item_of version) bytes item rest
quick_is version item bytes inside rest e (f, fits) =
    let listed = list_of_item item in (
      listed.0,
      subst IsWritable listed.1 ((file_entry_writable (Unsat (item ∷ []))).1.0),
      e ∙ ap (λ (xs : List ℕ). 32 ∷ xs) f ∙ ap (λ (x : Sexpr). 32 ∷ (text_of x ++ rest)) listed.1,
      ap (item_of version) (sym listed.1) ∙ item_back version item fits,
    )

space_gap : IsClosedGap (32 ∷ [])
unfolding is_gap is_space
space_gap rest = refl

quick_reads : SexprReadsBack → {A : Type 0} (meant : Sexpr → Option A) (bytes : List ℕ) (place : ℕ) (part : A) (rest : List ℕ) → place ≤ length bytes → IsQuick meant (drop place bytes) part rest → ReadsOne meant bytes place part (place + (length (drop place bytes) - length rest))
quick_reads back meant bytes place part rest within (xs, writable, e, is) =
    let text = text_of (list xs) in
    let before = take place bytes ++ 32 ∷ [] in
    let whole : before ++ (text ++ rest) ≡ bytes = append_assoc (take place bytes) (32 ∷ []) (text ++ rest) ∙ ap (λ (ys : List ℕ). take place bytes ++ ys) (sym e) ∙ take-append-drop place bytes in
    let count : length before ≡ place + 1 = length-append (take place bytes) (32 ∷ []) ∙ omega (arith, length-take place bytes, within) in
    let size : length (drop place bytes) ≡ suc (length text + length rest) = ap length e ∙ ap suc (length-append text rest) in
    let after : place + 1 + length text ≡ place + (length (drop place bytes) - length rest) = omega (arith, size) in
    let here : Spells bytes (place + 1) (list xs) (place + 1 + length text) = subst (λ (k : ℕ). Spells bytes k (list xs) (k + length text)) count (subst (λ (ys : List ℕ). Spells ys (length before) (list xs) (length before + length text)) whole (back (list xs) before rest writable tt)) in
    let behind : drop (place + 1) bytes ≡ text ++ rest = ap (drop (place + 1)) (sym whole) ∙ drop_at before (text ++ rest) (place + 1) count in
    let same : drop place bytes ≡ (32 ∷ []) ++ drop (place + 1) bytes = e ∙ ap (λ (ys : List ℕ). 32 ∷ ys) (sym behind) in
    let spelt = spells_before bytes (32 ∷ []) space_gap place (place + 1) refl same (list xs) (place + 1 + length text) here in
    (list xs, subst (Spells bytes place (list xs)) after spelt, is)

pub quick_found : SexprReadsBack → {A : Type 0} (meant : Sexpr → Option A) (bytes slice : List ℕ) (place now : ℕ) (part : A) (rest : List ℕ) → place ≤ length bytes → slice ≡ drop place bytes → now ≡ place + (length slice - length rest) → IsQuick meant slice part rest → ReadsOne meant bytes place part now
quick_found back meant bytes slice place now part rest within whole at quick =
    let here : IsQuick meant (drop place bytes) part rest = subst (λ (xs : List ℕ). IsQuick meant xs part rest) whole quick in
    let there : now ≡ place + (length (drop place bytes) - length rest) = at ∙ ap (λ (xs : List ℕ). place + (length xs - length rest)) whole in
    subst (ReadsOne meant bytes place part) (sym there) (quick_reads back meant bytes place part rest within here)

pub if_some_more : {A : Type 0} (P Q : A → Type 0) → ((x : A) → P x → Q x) → (o : Option A) → IfSome o P → IfSome o Q
if_some_more P Q f None h = tt
if_some_more P Q f (Some x) h = f x h
