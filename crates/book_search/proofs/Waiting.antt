-- From one turn to the next.
use Rattle.std.proofs.Common.{arith, ◌≡◌, ℕ, ◌<◌, inl, inr, List, length, set, Some, None, sym, ap, ◌∙◌, subst}
use Rattle.std.specs.Prelude.{slice_get}
use Rattle.stn_core.specs.declared.literal.Literal.{Literal}
use Rattle.stn_core.specs.declared.problem.Problem.{Problem}
use Rattle.refute_tree.specs.Batches.{LemmaBatch}
use Rattle.refute_tree.specs.Moves.{moved_number}
use Rattle.cover_tree.specs.declared.node.Node.{Node}
use Rattle.cover_tree.specs.declared.node.Node.TheVariants.{Free, Held, Shut, Split}
use Rattle.cover_tree.specs.Covers.{Cubes, NoneHeld, node_at, cube_at, with_node, divided}
use Rattle.cover_tree.proofs.Sets.{by_eq, get_set_same, get_set_other, get_two}
use Rattle.book_core.specs.declared.event.Event.{Event}
use Rattle.book_core.specs.declared.event.Event.TheVariants.{Take, Deliver}
use Rattle.book_core.specs.declared.event.Taken.TheVariants.{Cube, Done}
use Rattle.book_core.specs.declared.answer.Answer.{Answer}
use Rattle.book_core.specs.declared.answer.Answer.TheVariants.{Cube as AnswerCube, Done as AnswerDone}
use Rattle.book_core.specs.declared.event.Outcome.{Outcome}
use Rattle.book_core.specs.declared.event.Outcome.TheVariants.{Found, Shut as ShutBy, Split as SplitBy, Open}
use Rattle.book_core.specs.Books.{State, IsOpening, IsDone, IsHeldBy, IsJustifiedIn, after, cover_delivered}
use Rattle.book_core.specs.Runs.{Ledger, IsRun, state_of, with_event, Records, Answers}
use Rattle.book_core.specs.Ends.{EndsLaw, left_to_do, left_in, said_by}
use Rattle.book_core.proofs.Runs.{state_next}
use Rattle.book_search.specs.code.Deliveries.{IsWaiting, IsDelivered}

-- no other leaf is Held
abbrev pub OnlyHeld : Cubes → ℕ → Type 0
OnlyHeld c id = (k seat : ℕ) → node_at c k ≡ Some (Held seat) → k ≡ id

held_taken : (c : Cubes) (id seat : ℕ) → NoneHeld c → OnlyHeld (with_node c id (Held seat)) id
held_taken c id seat none k other e = elim (by_eq k id) [
  | inl s ↦ s
  | inr ne ↦ absurd (none k other (sym (get_set_other c.nodes id k (Held seat) ne) ∙ e))
]

-- the one Held leaf becomes another node
none_left : (c : Cubes) (id seat : ℕ) (node : Node) → OnlyHeld c id → node_at c id ≡ Some (Held seat) → ((other : ℕ) → node ≡ Held other → ⊥) → NoneHeld (with_node c id node)
none_left c id seat node only e is_not k other h = elim (by_eq k id) [
  | inl s ↦
      (let at : slice_get (set c.nodes id node) k ≡ Some node = ap (slice_get (set c.nodes id node)) s ∙ get_set_same c.nodes id (Held seat) node e in
      let same : node ≡ Held other = cc in
      is_not other same)
  | inr ne ↦ ne (only k other (sym (get_set_other c.nodes id k node ne) ∙ h))
]

none_divided : (c : Cubes) (id seat : ℕ) (l : Literal) → OnlyHeld c id → node_at c id ≡ Some (Held seat) → NoneHeld (divided c id l)
none_divided c id seat l only e k other h = elim (get_two (set c.nodes id split) Free Free k (Held other) h) [
  | inl a ↦ none_left c id seat split only e (λ o x. absurd cc) k other a
  | inr b ↦ elim b [ inl x ↦ (let y : Held other ≡ Free = x.1 in absurd cc) | inr x ↦ (let y : Held other ≡ Free = x.1 in absurd cc) ]
]
  where
    split : Node
    split = Split l (length c.nodes)

none_delivered : (c : Cubes) (id seat seen count : ℕ) (outcome : Outcome) → OnlyHeld c id → node_at c id ≡ Some (Held seat) → NoneHeld (cover_delivered c id seen count outcome)
none_delivered c id seat seen count (Found values) only e = none_left c id seat Free only e (λ o x. absurd cc)
none_delivered c id seat seen count (ShutBy j) only e = none_left c id seat (Shut (moved_number seen count j)) only e (λ o x. absurd cc)
none_delivered c id seat seen count (SplitBy l) only e = none_divided c id seat l only e
none_delivered c id seat seen count Open only e = none_left c id seat Free only e (λ o x. absurd cc)

-- a leaf was taken, and what was found of it delivered
pub waiting_on : (problem : Problem) (old taken new : Ledger) (id : ℕ) → IsWaiting problem old → taken ≡ with_event old (Take 0 (Cube id)) → node_at (state_of old).cover id ≡ Some Free → IsDelivered taken id new → IsWaiting problem new
waiting_on problem old taken new id w et free d =
    let mid = state_next old taken (Take 0 (Cube id)) et in
    let cover : (state_of taken).cover ≡ with_node (state_of old).cover id (Held 0) = ap (λ (s : State). s.cover) mid in
    let only : OnlyHeld (state_of taken).cover id = subst (λ (c : Cubes). OnlyHeld c id) (sym cover) (held_taken (state_of old).cover id 0 w.none_held) in
    let at : node_at (state_of taken).cover id ≡ Some (Held 0) = ap (λ (c : Cubes). node_at c id) cover ∙ get_set_same (state_of old).cover.nodes id Free (Held 0) free in
    let last = state_next taken new (Deliver 0 id d.0 d.1) d.2 in
    let none = none_delivered (state_of taken).cover id 0 d.0.seen (length (state_of taken).lemmas) d.1 only at in
    record {
      problem_is = ap (λ (b : Ledger). b.problem) d.2 ∙ (ap (λ (b : Ledger). b.problem) et ∙ w.problem_is);
      none_held = subst (λ (s : State). NoneHeld s.cover) (sym last) none;
    }

-- the leaf that was taken is Held
pub taken_held : (old taken : Ledger) (id : ℕ) → taken ≡ with_event old (Take 0 (Cube id)) → node_at (state_of old).cover id ≡ Some Free → node_at (state_of taken).cover id ≡ Some (Held 0)
taken_held old taken id et free =
    ap (λ (s : State). node_at s.cover id) (state_next old taken (Take 0 (Cube id)) et) ∙ get_set_same (state_of old).cover.nodes id Free (Held 0) free

-- a cube was taken
pub cube_taken : (old new : Ledger) (answer : Answer) (id : ℕ) (cube : List Literal) → answer ≡ AnswerCube id cube → Answers old 0 answer new → Records old (Take 0 (Cube id)) new × (cube ≡ cube_at (state_of old).cover id)
cube_taken old new answer id cube e h = subst (λ (a : Answer). Answers old 0 a new) e h

pub done_taken : (old new : Ledger) (answer : Answer) → answer ≡ AnswerDone → Answers old 0 answer new → Records old (Take 0 Done) new
done_taken old new answer e h = subst (λ (a : Answer). Answers old 0 a new) e h

pub same_cube : (old taken : Ledger) (shown cube : List Literal) (id : ℕ) → shown ≡ cube → cube ≡ cube_at (state_of old).cover id → taken ≡ with_event old (Take 0 (Cube id)) → shown ≡ cube_at (state_of taken).cover id
same_cube old taken shown cube id es e et = es ∙ (e ∙ sym (ap (λ (s : State). cube_at s.cover id) (state_next old taken (Take 0 (Cube id)) et)))

-- no schedule was found before the leaf was taken, and so none after it
pub unfound_taken : (old taken : Ledger) (id : ℕ) → taken ≡ with_event old (Take 0 (Cube id)) → (state_of old).found ≡ None → (state_of taken).found ≡ None
unfound_taken old taken id et none = ap (λ (s : State). s.found) (state_next old taken (Take 0 (Cube id)) et) ∙ none

-- what an event leaves to do
left_next : (old new : Ledger) (e : Event) → new ≡ with_event old e → left_in new ≡ left_to_do old.problem (after (state_of old) e)
left_next old new e is =
    ap (λ (b : Ledger). left_to_do b.problem (state_of new)) is ∙ ap (λ (s : State). left_to_do old.problem s) (state_next old new e is)

pub delivered_less : EndsLaw → (old new : Ledger) (id : ℕ) (batch : LemmaBatch) (outcome : Outcome) → IsOpening old.problem old.opening → IsRun old.problem old.opening old.journal → IsHeldBy (state_of old) id 0 → IsJustifiedIn old.problem (state_of old) id batch outcome → said_by outcome ≡ 1 → (state_of old).found ≡ None → new ≡ with_event old (Deliver 0 id batch outcome) → left_in new < left_in old
delivered_less ends old new id batch outcome opens run held justified said none is =
    let less = ends old.problem old.opening old.journal (Deliver 0 id batch outcome) opens run (held, justified) none in
    omega (arith, less.0, said, left_next old new (Deliver 0 id batch outcome) is)

pub taken_less : EndsLaw → (old taken new : Ledger) (id : ℕ) → IsOpening old.problem old.opening → IsRun old.problem old.opening old.journal → Records old (Take 0 (Cube id)) taken → left_in new < left_in taken → left_in new < left_in old
taken_less ends old taken new id opens run r less =
    let same = ends old.problem old.opening old.journal (Take 0 (Cube id)) opens run r.0 r.0.0 in
    omega (arith, less, same, left_next old taken (Take 0 (Cube id)) r.1)

pub waiting_done : (problem : Problem) (old new : Ledger) → IsWaiting problem old → new ≡ with_event old (Take 0 Done) → IsWaiting problem new
waiting_done problem old new w e =
    record {
      problem_is = ap (λ (b : Ledger). b.problem) e ∙ w.problem_is;
      none_held = subst (λ (s : State). NoneHeld s.cover) (sym (state_next old new (Take 0 Done) e)) w.none_held;
    }

pub done_is : (old new : Ledger) → Records old (Take 0 Done) new → IsDone (state_of new)
done_is old new r = subst IsDone (sym (state_next old new (Take 0 Done) r.1)) r.0

-- the lemmas that the book opened with stay the same
pub same_opening : (old taken new : Ledger) (id : ℕ) → taken ≡ with_event old (Take 0 (Cube id)) → IsDelivered taken id new → new.opening ≡ old.opening
same_opening old taken new id et d = ap (λ (b : Ledger). b.opening) d.2 ∙ ap (λ (b : Ledger). b.opening) et
