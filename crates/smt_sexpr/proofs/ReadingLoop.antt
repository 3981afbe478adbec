-- What the loop over tokens keeps, and its steps.
use Rattle.std.proofs.Common.{◌≡◌, ◌≢◌, ◌⊎◌, ℕ, ◌+◌, ◌-◌, ◌<◌, ◌≤◌, List, [], ◌∷◌, ◌++◌, length, take, drop, Option, Some, None, Result, Ok, refl, sym, ap, subst, ◌∙◌, arith}
use Rattle.std.specs.Prelude.{reverse, slice_range}
use Rattle.std.proofs.lemmas.List.{reverse-append, append-nil, length-append, length-drop, take_all, drop_at, length-reverse}
use Rattle.smt_lex.specs.declared.token.TokenKind.TheVariants.{Left, Right}
use Rattle.smt_lex.specs.declared.token.Token.{Token}
use Rattle.smt_lex.specs.declared.token.LexError.{LexError}
use Rattle.smt_lex.specs.code.Lexing.{Lexing, err_of}
use Rattle.smt_lex.specs.Grammar.{Reads}
use Rattle.smt_sexpr.specs.declared.node.Node.{Node}
use Rattle.smt_sexpr.specs.declared.node.Node.TheVariants.{Leaf, List as ListOf}
use Rattle.smt_sexpr.specs.declared.reader.Frame.{Frame}
use Rattle.smt_sexpr.specs.Tree.{Sexpr, Items, leaf, list, none, more, leaf_text}
use Rattle.smt_sexpr.specs.Table.{Table, table_of, Means, MeansEach, AreBelow, Grows}
use Rattle.smt_sexpr.specs.Reading.{Spells, SpellsEach, IsOpen}
use Rattle.smt_sexpr.proofs.LeafTexts.{token_forward, token_shows}
use Rattle.smt_sexpr.proofs.TableGrowth.{get_last, each_below, means_each_grows, grows_refl, grows_trans}
use Rattle.smt_sexpr.proofs.OpenLists.{Stacked, stack_starts, stack_grows, stack_opens, stack_adds, Closes, stack_closes, stack_ends, stack_open, stack_within}

pub record Reading (start : Lexing) (old : Table) (lexer : Lexing) (nodes : List Node) (items : List ℕ) (stack : List Frame) (pending : List ℕ) : Type 0 where
  pub fresh : lexer.failed ≡ None
  pub bytes : lexer.bytes ≡ start.bytes
  pub grows : Grows old (table_of start.bytes nodes items)
  -- as long as no list is open nothing was added
  pub idle : stack ≡ [] → (nodes ≡ old.nodes) × (items ≡ old.items)
  pub stacked : Stacked (table_of start.bytes nodes items) start.place (reverse stack) pending lexer.place

-- what next said of its answer
pub record Answered (old : Lexing) (result : Result (Option Token) LexError) (new : Lexing) : Type 0 where
  pub bytes : new.bytes ≡ old.bytes
  pub reads : Reads old.bytes old.place result new.place
  pub failed : new.failed ≡ err_of result

pub reading_starts : (start : Lexing) (nodes : List Node) (items : List ℕ) (stack : List Frame) (pending : List ℕ) → start.failed ≡ None → stack ≡ [] → pending ≡ [] → Reading start (table_of start.bytes nodes items) start nodes items stack pending
reading_starts start nodes items stack pending fresh s p = record {
  fresh = fresh;
  bytes = refl;
  grows = grows_refl (table_of start.bytes nodes items);
  idle = λ z. (refl, refl);
  stacked = rw (s, p) (stack_starts (table_of start.bytes nodes items) start.place);
}

pub read_here : (start lexer new : Lexing) (result : Result (Option Token) LexError) → lexer.bytes ≡ start.bytes → Answered lexer result new → Reads start.bytes lexer.place result new.place
read_here start lexer new result e a = subst (λ (bytes : List ℕ). Reads bytes lexer.place result new.place) e a.reads

push_not_empty : (fs : List Frame) (f : Frame) → fs ++ f ∷ [] ≡ [] → ⊥
push_not_empty fs f e = omega (arith, ap length e, length-append fs (f ∷ []))

pub reading_opens : (start : Lexing) (old : Table) (lexer new : Lexing) (nodes : List Node) (items : List ℕ) (stack next_stack : List Frame) (pending : List ℕ) (token : Token) (f : Frame)
    → Reading start old lexer nodes items stack pending → Answered lexer (Ok (Some token)) new → token.kind ≡ Left → f.place ≡ token.start → f.first ≡ length pending → next_stack ≡ stack ++ f ∷ []
    → Reading start old new nodes items next_stack pending
reading_opens start old lexer new nodes items stack next_stack pending token f r a left at first e = record {
  fresh = a.failed;
  bytes = a.bytes ∙ r.bytes;
  grows = r.grows;
  idle = λ z. absurd (push_not_empty stack f (sym e ∙ z));
  stacked = subst (λ (fs : List Frame). Stacked (table_of start.bytes nodes items) start.place fs pending new.place) (sym (ap reverse e ∙ reverse-append stack (f ∷ [])))
      (stack_opens (table_of start.bytes nodes items) start.place (reverse stack) pending lexer.place token new.place f r.stacked (read_here start lexer new (Ok (Some token)) r.bytes a) left (sym at) first);
}

-- an s-expression is found, and the lists round it are still open
pub record Found (start : Lexing) (old : Table) (new : Lexing) (nodes : List Node) (items : List ℕ) (stack : List Frame) (pending : List ℕ) (id : ℕ) : Type 0 where
  pub fresh : new.failed ≡ None
  pub bytes : new.bytes ≡ start.bytes
  pub grows : Grows old (table_of start.bytes nodes items)
  pub before : ℕ
  pub stacked : Stacked (table_of start.bytes nodes items) start.place (reverse stack) pending before
  pub x : Sexpr
  pub means : Means (table_of start.bytes nodes items) id x
  pub spells : Spells start.bytes before x new.place

pub found_leaf : (start : Lexing) (old : Table) (lexer new : Lexing) (nodes more_nodes : List Node) (items : List ℕ) (stack : List Frame) (pending : List ℕ) (token : Token) (id : ℕ)
    → Reading start old lexer nodes items stack pending → Answered lexer (Ok (Some token)) new → token.kind ≢ Left → token.kind ≢ Right → more_nodes ≡ nodes ++ Leaf token ∷ [] → id ≡ length nodes
    → Found start old new more_nodes items stack pending id
unfolding Spells
found_leaf start old lexer new nodes more_nodes items stack pending token id r a not_left not_right e i =
    let g : Grows (table_of start.bytes nodes items) (table_of start.bytes more_nodes items) = record { bytes = refl; nodes = (Leaf token ∷ [], e); items = ([], sym (append-nil items)) } in
    record {
      fresh = a.failed;
      bytes = a.bytes ∙ r.bytes;
      grows = grows_trans old (table_of start.bytes nodes items) (table_of start.bytes more_nodes items) r.grows g;
      before = lexer.place;
      stacked = stack_grows (table_of start.bytes nodes items) (table_of start.bytes more_nodes items) start.place (reverse stack) pending lexer.place g r.stacked;
      x = leaf token.kind (leaf_text token.kind (slice_range start.bytes token.start token.end));
      means = (token, rw (e, i) (get_last nodes (Leaf token) []), token_shows start.bytes lexer.place token new.place (read_here start lexer new (Ok (Some token)) r.bytes a) not_left not_right);
      spells = (token, read_here start lexer new (Ok (Some token)) r.bytes a, refl, not_left, not_right, refl);
    }

closed : (start : Lexing) (lexer new : Lexing) (nodes : List Node) (items : List ℕ) (stack next_stack : List Frame) (pending : List ℕ) (token : Token) (f : Frame)
    → Stacked (table_of start.bytes nodes items) start.place (reverse stack) pending lexer.place → Reads start.bytes lexer.place (Ok (Some token)) new.place → token.kind ≡ Right → stack ≡ next_stack ++ f ∷ []
    → Closes (table_of start.bytes nodes items) start.place f (reverse next_stack) pending new.place
closed start lexer new nodes items stack next_stack pending token f h reads right e =
    stack_closes (table_of start.bytes nodes items) start.place f (reverse next_stack) pending lexer.place token new.place
    (subst (λ (fs : List Frame). Stacked (table_of start.bytes nodes items) start.place fs pending lexer.place) (ap reverse e ∙ reverse-append next_stack (f ∷ [])) h) reads right

pub frame_within : (start : Lexing) (old : Table) (lexer new : Lexing) (nodes : List Node) (items : List ℕ) (stack next_stack : List Frame) (pending : List ℕ) (token : Token) (f : Frame)
    → Reading start old lexer nodes items stack pending → Answered lexer (Ok (Some token)) new → token.kind ≡ Right → stack ≡ next_stack ++ f ∷ [] → f.first ≤ length pending
frame_within start old lexer new nodes items stack next_stack pending token f r a right e =
    (closed start lexer new nodes items stack next_stack pending token f r.stacked (read_here start lexer new (Ok (Some token)) r.bytes a) right e).within

pub found_list : (start : Lexing) (old : Table) (lexer new : Lexing) (nodes more_nodes : List Node) (items more_items : List ℕ) (stack next_stack : List Frame) (pending next_pending : List ℕ) (token : Token) (f : Frame) (id : ℕ)
    → Reading start old lexer nodes items stack pending → Answered lexer (Ok (Some token)) new → token.kind ≡ Right → stack ≡ next_stack ++ f ∷ []
    → more_nodes ≡ nodes ++ ListOf (length items) (length pending - f.first) ∷ [] → more_items ≡ items ++ drop f.first pending → next_pending ≡ take f.first pending → id ≡ length nodes
    → Found start old new more_nodes more_items next_stack next_pending id
found_list start old lexer new nodes more_nodes items more_items stack next_stack pending next_pending token f id r a right e ns is ps i =
    let s = table_of start.bytes nodes items in
    let t = table_of start.bytes more_nodes more_items in
    let g : Grows s t = record { bytes = refl; nodes = (ListOf (length items) (length pending - f.first) ∷ [], ns); items = (drop f.first pending, is) } in
    let c = closed start lexer new nodes items stack next_stack pending token f r.stacked (read_here start lexer new (Ok (Some token)) r.bytes a) right e in
    let count : length (drop f.first pending) ≡ length pending - f.first = length-drop f.first pending in
    let within : length items + (length pending - f.first) ≤ length more_items = omega (arith, ap length is, length-append items (drop f.first pending)) in
    let part : take (length pending - f.first) (drop (length items) more_items) ≡ drop f.first pending =
    ap (λ (xs : List ℕ). take (length pending - f.first) (drop (length items) xs)) is ∙ ap (take (length pending - f.first)) (drop_at items (drop f.first pending) (length items) refl) ∙ take_all (length pending - f.first) (drop f.first pending) (omega arith) in
    let below : AreBelow (length nodes) (drop f.first pending) = each_below s (drop f.first pending) c.xs c.means in
    record {
      fresh = a.failed;
      bytes = a.bytes ∙ r.bytes;
      grows = grows_trans old s t r.grows g;
      before = c.before;
      stacked = subst (λ (xs : List ℕ). Stacked t start.place (reverse next_stack) xs c.before) (sym ps) (stack_grows s t start.place (reverse next_stack) (take f.first pending) c.before g c.outer);
      x = list c.xs;
      means = (length items, length pending - f.first, rw (ns, i) (get_last nodes (ListOf (length items) (length pending - f.first)) []), within, rw (part, i) below, subst (λ (ids : List ℕ). MeansEach t ids c.xs) (sym part) (means_each_grows s t (drop f.first pending) c.xs g c.means));
      spells = c.spells;
    }

mutual
  unfolding Spells

  spells_forward : (bytes : List ℕ) (x : Sexpr) (place after : ℕ) → Spells bytes place x after → place < after
  spells_forward bytes (leaf kind text) place after (t, p, tk, l, r, e) = token_forward bytes place t after p
  spells_forward bytes (list xs) place after (opening, mid, last, closing, p, l, each, c, k) =
      let a = token_forward bytes place opening mid p in
      let b = each_forward bytes xs mid last each in
      let d = token_forward bytes last closing after c in
      omega arith

  pub each_forward : (bytes : List ℕ) (xs : Items) (place after : ℕ) → SpellsEach bytes place xs after → place ≤ after
  each_forward bytes none place after e = omega arith
  each_forward bytes (more x xs) place after (mid, first, rest) =
      let a = spells_forward bytes x place mid first in
      let b = each_forward bytes xs mid after rest in
      omega arith

pub found_forward : (start : Lexing) (old : Table) (new : Lexing) (nodes : List Node) (items : List ℕ) (stack : List Frame) (pending : List ℕ) (id : ℕ)
    → Found start old new nodes items stack pending id → length stack ≡ 0 → start.place < new.place
found_forward start old new nodes items [] pending id h e = let p = spells_forward start.bytes h.x h.before new.place h.spells in rw (stack_ends (table_of start.bytes nodes items) start.place pending h.before h.stacked) p
found_forward start old new nodes items (f ∷ fs) pending id h e = absurd (omega arith)

pub found_alone : (start : Lexing) (old : Table) (new : Lexing) (nodes : List Node) (items : List ℕ) (stack : List Frame) (pending : List ℕ) (id : ℕ)
    → Found start old new nodes items stack pending id → length stack ≡ 0 → (x : Sexpr) × Means (table_of start.bytes nodes items) id x × Spells start.bytes start.place x new.place
found_alone start old new nodes items [] pending id h e = (h.x, h.means, rw (stack_ends (table_of start.bytes nodes items) start.place pending h.before h.stacked) h.spells)
found_alone start old new nodes items (f ∷ fs) pending id h e = absurd (omega arith)

pushed : (t : Table) (place : ℕ) (fs : List Frame) (pending : List ℕ) (here id : ℕ) (x : Sexpr) (after : ℕ) → 0 < length fs → Stacked t place fs pending here → Means t id x → Spells t.bytes here x after
    → Stacked t place fs (pending ++ id ∷ []) after
pushed t place [] pending here id x after lt h m s = absurd (omega arith)
pushed t place (f ∷ fs) pending here id x after lt h m s = stack_adds t place f fs pending here id x after h m s

pub found_inside : (start : Lexing) (old : Table) (new : Lexing) (nodes : List Node) (items : List ℕ) (stack : List Frame) (pending next_pending : List ℕ) (id : ℕ)
    → Found start old new nodes items stack pending id → 0 < length stack → next_pending ≡ pending ++ id ∷ [] → Reading start old new nodes items stack next_pending
found_inside start old new nodes items stack pending next_pending id h lt e =
    let p = pushed (table_of start.bytes nodes items) start.place (reverse stack) pending h.before id h.x new.place (omega (arith, length-reverse stack)) h.stacked h.means h.spells in
    record {
      fresh = h.fresh;
      bytes = h.bytes;
      grows = h.grows;
      idle = λ z. absurd (omega (arith, ap length z));
      stacked = subst (λ (xs : List ℕ). Stacked (table_of start.bytes nodes items) start.place (reverse stack) xs new.place) (sym e) p;
    }

-- ---- the ends

pub reading_alone : (start : Lexing) (old : Table) (lexer : Lexing) (nodes : List Node) (items : List ℕ) (stack : List Frame) (pending : List ℕ) → Reading start old lexer nodes items stack pending → stack ≡ [] → start.place ≡ lexer.place
reading_alone start old lexer nodes items stack pending r e =
    stack_ends (table_of start.bytes nodes items) start.place pending lexer.place (subst (λ (fs : List Frame). Stacked (table_of start.bytes nodes items) start.place (reverse fs) pending lexer.place) e r.stacked)

pub reading_open : (start : Lexing) (old : Table) (lexer : Lexing) (nodes : List Node) (items : List ℕ) (stack rest : List Frame) (pending : List ℕ) (f : Frame) → Reading start old lexer nodes items stack pending → stack ≡ f ∷ rest
    → IsOpen start.bytes start.place f.place lexer.place
reading_open start old lexer nodes items stack rest pending f r e =
    stack_open (table_of start.bytes nodes items) start.place (reverse rest) f pending lexer.place
    (subst (λ (fs : List Frame). Stacked (table_of start.bytes nodes items) start.place fs pending lexer.place) (ap reverse e ∙ reverse-append (f ∷ []) rest) r.stacked)

pub reading_within : (start : Lexing) (old : Table) (lexer : Lexing) (nodes : List Node) (items : List ℕ) (stack : List Frame) (pending : List ℕ) → Reading start old lexer nodes items stack pending
    → (start.place ≡ lexer.place) ⊎ ((outer : ℕ) × IsOpen start.bytes start.place outer lexer.place)
reading_within start old lexer nodes items stack pending r = stack_within (table_of start.bytes nodes items) start.place (reverse stack) pending lexer.place r.stacked

pub answered : (old new : Lexing) (result given : Result (Option Token) LexError) → new.bytes ≡ old.bytes → (old.failed ≡ None → Reads old.bytes old.place result new.place)
    → (old.failed ≡ None → new.failed ≡ err_of result) → old.failed ≡ None → result ≡ given → Answered old given new
answered old new result given bytes reads failed fresh e = rw (← e) (record { bytes = bytes; reads = reads fresh; failed = failed fresh })
