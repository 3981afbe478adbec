-- What the printer has written, and what is left to write.
use Rattle.std.proofs.Common.{◌≡◌, ℕ, zero, suc, ◌+◌, ◌<◌, ◌≤◌, List, [], ◌∷◌, ◌++◌, length, take, drop, Option, Some, None, refl, sym, ap, subst, ◌∙◌, arith}
use Rattle.std.proofs.lemmas.Bool.{ne_eqb}
use Rattle.std.specs.Prelude.{◌==◌, if◌then◌else◌, reverse, option_map, unwrap_or, slice_get, slice_range}
use Rattle.std.proofs.lemmas.List.{append_assoc, append-nil, length-append, reverse-append, take-append-drop, take_at}
use Rattle.smt_sexpr.proofs.LeafTexts.{written_some}
use Rattle.smt_sexpr.proofs.TableGrowth.{means_writable, means_one}
use Rattle.smt_lex.specs.declared.token.TokenKind.{TokenKind}
use Rattle.smt_lex.specs.declared.token.Token.{Token}
use Rattle.smt_sexpr.specs.declared.node.Node.{Node}
use Rattle.smt_sexpr.specs.declared.node.Node.TheVariants.{Leaf, List as ListOf}
use Rattle.smt_sexpr.specs.declared.printer.OpenList.{OpenList}
use Rattle.smt_sexpr.specs.Tree.{Sexpr, Items, leaf, list, none, more, leaf_text}
use Rattle.smt_sexpr.specs.Table.{Table, Means, MeansEach, HasMeaning, AreBelow, Shows, ItemsAre}
use Rattle.smt_sexpr.specs.Printing.{written, text_of, text_behind}

-- ---- the s-expression of an id, found in at most n levels

abbrev pub items_by : (ℕ → Sexpr) → List ℕ → Items
items_by f [] = none
items_by f (id ∷ ids) = more (f id) (items_by f ids)

abbrev pub node_by : (ℕ → Sexpr) → Table → Node → Sexpr
node_by f t (Leaf token) = leaf token.kind (leaf_text token.kind (slice_range t.bytes token.start token.end))
node_by f t (ListOf first count) = list (items_by f (take count (drop first t.items)))

abbrev pub found_by : (ℕ → Sexpr) → Table → Option Node → Sexpr
found_by f t None = list none
found_by f t (Some node) = node_by f t node

unfoldable pub sexpr_within : ℕ → Table → ℕ → Sexpr
sexpr_within zero t id = list none
sexpr_within (suc n) t id = found_by (λ i. sexpr_within n t i) t (slice_get t.nodes id)

shown : (bytes : List ℕ) (token : Token) (kind : TokenKind) (text : List ℕ) → Shows bytes token kind text → leaf token.kind (leaf_text token.kind (slice_range bytes token.start token.end)) ≡ leaf kind text
shown bytes token kind text s = rw (s.same_kind) (ap (leaf kind) s.same_text)

more_same : (x y : Sexpr) (xs ys : Items) → x ≡ y → xs ≡ ys → more x xs ≡ more y ys
more_same x y xs ys p q = cc

mutual
  unfolding sexpr_within

  pub sexpr_found : (x : Sexpr) (n : ℕ) (t : Table) (id : ℕ) → Means t id x → id < n → sexpr_within n t id ≡ x
  sexpr_found x zero t id m lt = absurd (omega arith)
  sexpr_found (leaf kind text) (suc n) t id (token, at, shows) lt = rw at (shown t.bytes token kind text shows)
  sexpr_found (list xs) (suc n) t id (first, count, at, le, below, m) lt = rw at (ap list (items_found xs n t id (take count (drop first t.items)) m below (omega arith)))

  items_found : (xs : Items) (n : ℕ) (t : Table) (bound : ℕ) (ids : List ℕ) → MeansEach t ids xs → AreBelow bound ids → bound ≤ n → items_by (λ i. sexpr_within n t i) ids ≡ xs
  items_found none n t bound [] m below le = refl
  items_found (more x xs) n t bound [] m below le = absurd m
  items_found none n t bound (id ∷ ids) m below le = absurd m
  items_found (more x xs) n t bound (id ∷ ids) m below le =
      let lt : id < bound = below.0 in
      more_same (sexpr_within n t id) x (items_by (λ i. sexpr_within n t i) ids) xs (sexpr_found x n t id m.0 (omega arith)) (items_found xs n t bound ids m.1 below.1 le)

-- how many bytes the s-expression takes
unfoldable pub size : Table → ℕ → ℕ
size t id = length (text_of (sexpr_within (suc id) t id))

pub size_is : (t : Table) (id : ℕ) (x : Sexpr) → Means t id x → size t id ≡ length (text_of x)
unfolding size
size_is t id x m = ap (λ (y : Sexpr). length (text_of y)) (sexpr_found x (suc id) t id m (omega arith))

-- ---- what is left of a list

abbrev pub items_from : ℕ → Items → Items
items_from zero xs = xs
items_from (suc n) none = none
items_from (suc n) (more x xs) = items_from n xs

-- the text of a list behind its first n items; behind the opening parenthesis there is no space
abbrev pub text_from : ℕ → Items → List ℕ
text_from zero none = 41 ∷ []
text_from zero (more x xs) = text_of x ++ text_behind xs
text_from (suc n) xs = text_behind (items_from (suc n) xs)

abbrev pub count_of : Items → ℕ
count_of none = 0
count_of (more x xs) = suc (count_of xs)

list_text : (xs : Items) → text_of (list xs) ≡ 40 ∷ text_from 0 xs
list_text none = refl
list_text (more x xs) = refl

counted : (t : Table) (ids : List ℕ) (xs : Items) → MeansEach t ids xs → length ids ≡ count_of xs
counted t [] none m = refl
counted t [] (more x xs) m = absurd m
counted t (id ∷ ids) none m = absurd m
counted t (id ∷ ids) (more x xs) m = ap suc (counted t ids xs m.1)

-- the item n, and what follows it
item_behind : (t : Table) (ids : List ℕ) (xs : Items) (n item : ℕ) → MeansEach t ids xs → slice_get ids n ≡ Some item → (y : Sexpr) × Means t item y × (items_from n xs ≡ more y (items_from (suc n) xs))
item_behind t [] xs n item m e = absurd cc
item_behind t (id ∷ ids) none n item m e = absurd m
item_behind t (id ∷ ids) (more x xs) zero item m e = let h : id ≡ item = cc in (x, subst (λ (i : ℕ). Means t i x) h m.0, refl)
item_behind t (id ∷ ids) (more x xs) (suc n) item m e = item_behind t ids xs n item m.1 e

items_past : (xs : Items) (n : ℕ) → count_of xs ≤ n → items_from n xs ≡ none
items_past none zero le = refl
items_past none (suc n) le = refl
items_past (more x xs) zero le = absurd (omega arith)
items_past (more x xs) (suc n) le = items_past xs n (omega arith)

closes_text : (xs : Items) (n : ℕ) → count_of xs ≤ n → text_from n xs ≡ 41 ∷ []
closes_text none zero le = refl
closes_text (more x xs) zero le = absurd (omega arith)
closes_text xs (suc n) le = rw (items_past xs (suc n) le) refl

-- a space stands before each item but the first
abbrev pub space : ℕ → List ℕ
space n = if n == 0 then [] else 32 ∷ []

none_not_more : (y : Sexpr) (ys : Items) → none ≡ more y ys → ⊥
none_not_more y ys e = cc

item_text : (xs : Items) (n : ℕ) (y : Sexpr) → items_from n xs ≡ more y (items_from (suc n) xs) → text_from n xs ≡ space n ++ (text_of y ++ text_from (suc n) xs)
item_text none zero y e = absurd (none_not_more y (items_from 1 none) e)
item_text (more x xs) zero y e = let h : x ≡ y = cc in rw h refl
item_text xs (suc n) y e = rw (e, ne_eqb (suc n) 0 (λ h. absurd (omega arith))) refl

-- ---- the open lists

-- the text that is left, where the innermost list is the first
unfoldable pub Prints : Table → List OpenList → List ℕ → Type 0
Prints t [] text = text ≡ []
Prints t (f ∷ fs) text = (xs : Items) × (rest : List ℕ) × Means t f.id (list xs) × Prints t fs rest × (text ≡ text_from f.next xs ++ rest)

-- out has what it had before, and of x's text all but what is left
pub record Writing (t : Table) (id : ℕ) (before : List ℕ) (stack : List OpenList) (out : List ℕ) : Type 0 where
  pub added : List ℕ
  pub front : out ≡ before ++ added
  pub left : List ℕ
  pub prints : Prints t (reverse stack) left
  pub whole : (x : Sexpr) → Means t id x → out ++ left ≡ before ++ text_of x

grown : (old new : List ℕ) → take (length old) new ≡ old → new ≡ old ++ drop (length old) new
grown old new e = sym (take-append-drop (length old) new) ∙ ap (λ (xs : List ℕ). xs ++ drop (length old) new) e

-- what begin said of its answer
abbrev pub Begun : Table → ℕ → List OpenList → List OpenList → List ℕ → List ℕ → Type 0
Begun t item stack next_stack out next_out =
    ((kind : TokenKind) (text : List ℕ) → Means t item (leaf kind text) → (next_out ≡ out ++ written kind text) × (next_stack ≡ stack))
    × ((xs : Items) → Means t item (list xs) → (next_out ≡ out ++ 40 ∷ []) × (next_stack ≡ stack ++ record { id = item; next = 0 } ∷ []))

record Goes (t : Table) (out next_out : List ℕ) (next_stack : List OpenList) (text : List ℕ) : Type 0 where
  added : List ℕ
  front : next_out ≡ out ++ added
  longer : length out < length next_out
  left : List ℕ
  prints : Prints t (reverse next_stack) left
  whole : next_out ++ left ≡ out ++ text

begins : (t : Table) (y : Sexpr) (item : ℕ) (stack next_stack : List OpenList) (out next_out rest : List ℕ) → Means t item y → Begun t item stack next_stack out next_out → Prints t (reverse stack) rest → Goes t out next_out next_stack (text_of y ++ rest)
unfolding Prints
begins t (leaf kind text) item stack next_stack out next_out rest m b p =
    let made = b.0 kind text m in
    let some : 0 < length (written kind text) = written_some kind text (means_writable t item (leaf kind text) m) in
    record {
      added = written kind text;
      front = made.0;
      longer = omega (arith, ap length made.0, length-append out (written kind text));
      left = rest;
      prints = subst (λ (fs : List OpenList). Prints t (reverse fs) rest) (sym made.1) p;
      whole = ap (λ (xs : List ℕ). xs ++ rest) made.0 ∙ append_assoc out (written kind text) rest;
    }
begins t (list ys) item stack next_stack out next_out rest m b p =
    let made = b.1 ys m in
    let top : OpenList = record { id = item; next = 0 } in
    record {
      added = 40 ∷ [];
      front = made.0;
      longer = omega (arith, ap length made.0, length-append out (40 ∷ []));
      left = text_from 0 ys ++ rest;
      prints = subst (λ (fs : List OpenList). Prints t fs (text_from 0 ys ++ rest)) (sym (ap reverse made.1 ∙ reverse-append stack (top ∷ []))) (ys, rest, m, p, refl);
      whole = ap (λ (xs : List ℕ). xs ++ (text_from 0 ys ++ rest)) made.0 ∙ append_assoc out (40 ∷ []) (text_from 0 ys ++ rest) ∙ ap (λ (xs : List ℕ). out ++ (xs ++ rest)) (sym (list_text ys));
    }

-- ---- the steps of the loop

pub writing_starts : (t : Table) (id : ℕ) (y : Sexpr) (before out : List ℕ) (none_open stack : List OpenList) → Means t id y → none_open ≡ [] → Begun t id none_open stack before out → Writing t id before stack out
unfolding Prints
writing_starts t id y before out none_open stack m e b =
    let g = begins t y id none_open stack before out [] m b (rw e refl) in
    record {
      added = g.added;
      front = g.front;
      left = g.left;
      prints = g.prints;
      whole = λ x n. g.whole ∙ ap (λ (xs : List ℕ). before ++ xs) (append-nil (text_of y) ∙ ap text_of (means_one t id y x m n));
    }

-- the innermost list
pub record Top (t : Table) (f : OpenList) (rest : List OpenList) (left : List ℕ) : Type 0 where
  pub xs : Items
  pub behind : List ℕ
  pub means : Means t f.id (list xs)
  pub prints : Prints t (reverse rest) behind
  pub is : left ≡ text_from f.next xs ++ behind

top : (t : Table) (id : ℕ) (before : List ℕ) (stack rest : List OpenList) (f : OpenList) (out : List ℕ) (w : Writing t id before stack out) → stack ≡ rest ++ f ∷ [] → Top t f rest w.left
unfolding Prints
top t id before stack rest f out w e =
    let p : Prints t (f ∷ reverse rest) w.left = subst (λ (fs : List OpenList). Prints t fs w.left) (ap reverse e ∙ reverse-append rest (f ∷ [])) w.prints in
    record { xs = p.0; behind = p.1; means = p.2; prints = p.3; is = p.4 }

pub top_means : (t : Table) (id : ℕ) (before : List ℕ) (stack rest : List OpenList) (f : OpenList) (out : List ℕ) → Writing t id before stack out → stack ≡ rest ++ f ∷ [] → HasMeaning t f.id
top_means t id before stack rest f out w e = let p = top t id before stack rest f out w e in (list p.xs, p.means)

-- what items said of its answer
abbrev pub Listed : Table → ℕ → List ℕ → Type 0
Listed t id ids = (xs : Items) → Means t id (list xs) → MeansEach t ids xs

pub listed : {B : Type 0} (now : B → List ℕ) (t : Table) (id : ℕ) (o : Option B) (d r : B) → ((x : Sexpr) → Means t id x → ItemsAre t x (option_map now o)) → r ≡ unwrap_or o d → Listed t id (now r)
listed now t id None d r h e xs m = absurd (h (list xs) m)
listed now t id (Some s) d r h e xs m = rw e (h (list xs) m)

pub writing_closes : (t : Table) (id : ℕ) (before : List ℕ) (stack rest : List OpenList) (f : OpenList) (out next_out ids : List ℕ) → Writing t id before stack out → stack ≡ rest ++ f ∷ [] → Listed t f.id ids → length ids ≤ f.next → next_out ≡ out ++ 41 ∷ []
    → Writing t id before rest next_out
writing_closes t id before stack rest f out next_out ids w e known le made =
    let p = top t id before stack rest f out w e in
    let all : length ids ≡ count_of p.xs = counted t ids p.xs (known p.xs p.means) in
    let left : w.left ≡ 41 ∷ p.behind = p.is ∙ ap (λ (xs : List ℕ). xs ++ p.behind) (closes_text p.xs f.next (omega arith)) in
    record {
      added = w.added ++ 41 ∷ [];
      front = made ∙ ap (λ (xs : List ℕ). xs ++ 41 ∷ []) w.front ∙ append_assoc before w.added (41 ∷ []);
      left = p.behind;
      prints = p.prints;
      whole = λ x m. ap (λ (xs : List ℕ). xs ++ p.behind) made ∙ append_assoc out (41 ∷ []) p.behind ∙ ap (λ (xs : List ℕ). out ++ xs) (sym left) ∙ w.whole x m;
    }

-- the item that is next is begun
pub writing_goes : (t : Table) (id : ℕ) (before : List ℕ) (stack rest mid_stack next_stack : List OpenList) (f : OpenList) (out spaced next_out ids : List ℕ) (item : ℕ)
    → Writing t id before stack out → stack ≡ rest ++ f ∷ [] → Listed t f.id ids → slice_get ids f.next ≡ Some item → spaced ≡ out ++ space f.next → mid_stack ≡ rest ++ record { id = f.id; next = f.next + 1 } ∷ [] → Begun t item mid_stack next_stack spaced next_out
    → Writing t id before next_stack next_out × (length out < length next_out)
unfolding Prints
writing_goes t id before stack rest mid_stack next_stack f out spaced next_out ids item w e known at gap pushed b =
    let p = top t id before stack rest f out w e in
    let y = item_behind t ids p.xs f.next item (known p.xs p.means) at in
    let opened : OpenList = record { id = f.id; next = f.next + 1 } in
    let next_is : f.next + 1 ≡ suc f.next = omega arith in
    let rest_text = text_from (suc f.next) p.xs in
    let below : Prints t (reverse mid_stack) (rest_text ++ p.behind) = subst (λ (fs : List OpenList). Prints t fs (rest_text ++ p.behind)) (sym (ap reverse pushed ∙ reverse-append rest (opened ∷ [])))
    (p.xs, p.behind, p.means, p.prints, ap (λ (n : ℕ). text_from n p.xs ++ p.behind) (sym next_is)) in
    let g = begins t y.0 item mid_stack next_stack spaced next_out (rest_text ++ p.behind) y.1 b below in
    let left : w.left ≡ space f.next ++ (text_of y.0 ++ (rest_text ++ p.behind)) =
    p.is ∙ ap (λ (xs : List ℕ). xs ++ p.behind) (item_text p.xs f.next y.0 y.2) ∙ append_assoc (space f.next) (text_of y.0 ++ rest_text) p.behind ∙ ap (λ (xs : List ℕ). space f.next ++ xs) (append_assoc (text_of y.0) rest_text p.behind) in
    let longer : length spaced < length next_out = g.longer in (
      record {
        added = w.added ++ (space f.next ++ g.added);
        front = g.front ∙ ap (λ (xs : List ℕ). xs ++ g.added) gap ∙ append_assoc out (space f.next) g.added ∙ ap (λ (xs : List ℕ). xs ++ (space f.next ++ g.added)) w.front ∙ append_assoc before w.added (space f.next ++ g.added);
        left = g.left;
        prints = g.prints;
        whole = λ x m. g.whole ∙ ap (λ (xs : List ℕ). xs ++ (text_of y.0 ++ (rest_text ++ p.behind))) gap ∙ append_assoc out (space f.next) (text_of y.0 ++ (rest_text ++ p.behind)) ∙ ap (λ (xs : List ℕ). out ++ xs) (sym left) ∙ w.whole x m;
      },
      omega (arith, ap length gap, length-append out (space f.next)),
    )

pub item_means : (t : Table) (id : ℕ) (before : List ℕ) (stack rest : List OpenList) (f : OpenList) (out ids : List ℕ) (item : ℕ) → Writing t id before stack out → stack ≡ rest ++ f ∷ [] → Listed t f.id ids → slice_get ids f.next ≡ Some item → HasMeaning t item
item_means t id before stack rest f out ids item w e known at =
    let p = top t id before stack rest f out w e in
    let y = item_behind t ids p.xs f.next item (known p.xs p.means) at in
    (y.0, y.1)

-- ---- the end, and how far it is

pub writing_ends : (t : Table) (id : ℕ) (before out : List ℕ) (stack : List OpenList) → Writing t id before stack out → stack ≡ [] → (x : Sexpr) → Means t id x → out ≡ before ++ text_of x
unfolding Prints
writing_ends t id before out stack w e x m =
    let nothing : w.left ≡ [] = subst (λ (fs : List OpenList). Prints t (reverse fs) w.left) e w.prints in
    sym (append-nil out) ∙ ap (λ (xs : List ℕ). out ++ xs) (sym nothing) ∙ w.whole x m

pub writing_bound : (t : Table) (id : ℕ) (before out : List ℕ) (stack : List OpenList) (x : Sexpr) → Means t id x → Writing t id before stack out → length out ≤ length before + size t id
writing_bound t id before out stack x m w = omega (arith, ap length (w.whole x m), length-append out w.left, length-append before (text_of x), size_is t id x m)

pub writing_front : (t : Table) (id : ℕ) (before out more_out : List ℕ) (stack : List OpenList) → Writing t id before stack out → take (length out) more_out ≡ out → take (length before) more_out ≡ before
writing_front t id before out more_out stack w e =
    let all : more_out ≡ before ++ (w.added ++ drop (length out) more_out) = grown out more_out e ∙ ap (λ (xs : List ℕ). xs ++ drop (length out) more_out) w.front ∙ append_assoc before w.added (drop (length out) more_out) in
    ap (take (length before)) all ∙ take_at before (w.added ++ drop (length out) more_out) (length before) refl

pub front_of_more : (out gap spaced more_out : List ℕ) → spaced ≡ out ++ gap → take (length spaced) more_out ≡ spaced → take (length out) more_out ≡ out
front_of_more out gap spaced more_out e h =
    let all : more_out ≡ out ++ (gap ++ drop (length spaced) more_out) = grown spaced more_out h ∙ ap (λ (xs : List ℕ). xs ++ drop (length spaced) more_out) e ∙ append_assoc out gap (drop (length spaced) more_out) in
    ap (take (length out)) all ∙ take_at out (gap ++ drop (length spaced) more_out) (length out) refl
