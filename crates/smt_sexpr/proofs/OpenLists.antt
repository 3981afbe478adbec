-- The lists that are open while one s-expression is read.
use Rattle.std.proofs.Common.{◌≡◌, ◌⊎◌, ℕ, ◌≤◌, List, [], ◌∷◌, ◌++◌, length, take, drop, refl, sym, subst, arith, inl, inr}
use Rattle.std.proofs.lemmas.List.{length-append, take-append-le, drop-append-le, take_all, drop_all}
use Rattle.smt_lex.specs.declared.token.TokenKind.TheVariants.{Left, Right}
use Rattle.smt_lex.specs.declared.token.Token.{Token}
use Rattle.smt_sexpr.specs.declared.reader.Frame.{Frame}
use Rattle.smt_sexpr.specs.Tree.{Sexpr, Items, list, none, more}
use Rattle.smt_sexpr.specs.Table.{Table, Means, MeansEach, Grows}
use Rattle.smt_sexpr.specs.Reading.{ReadsToken, Spells, SpellsEach, IsInside, reached, behind, deeper, IsOpen}
use Rattle.smt_sexpr.proofs.TableGrowth.{push, means_each_grows, means_each_push}

-- From the place to here the frames are open, the innermost first; pending are the ids of their items.
unfoldable pub Stacked : Table → ℕ → List Frame → List ℕ → ℕ → Type 0
Stacked t place [] pending here = (pending ≡ []) × (place ≡ here)
Stacked t place (f ∷ fs) pending here =
    (before : ℕ) × (opening : Token) × (mid : ℕ) × (xs : Items) × Stacked t place fs (take f.first pending) before × ReadsToken t.bytes before opening mid × (opening.kind ≡ Left) × (opening.start ≡ f.place)
    × (f.first ≤ length pending) × MeansEach t (drop f.first pending) xs × SpellsEach t.bytes mid xs here

spells_each_push : (bytes : List ℕ) (place : ℕ) (xs : Items) (here : ℕ) (x : Sexpr) (after : ℕ) → SpellsEach bytes place xs here → Spells bytes here x after → SpellsEach bytes place (push xs x) after
unfolding Spells
spells_each_push bytes place none here x after s h = (after, rw s h, refl)
spells_each_push bytes place (more y ys) here x after (mid, first, rest) h = (mid, first, spells_each_push bytes mid ys here x after rest h)

pub stack_starts : (t : Table) (place : ℕ) → Stacked t place [] [] place
unfolding Stacked
stack_starts t place = (refl, refl)

pub stack_grows : (s t : Table) (place : ℕ) (fs : List Frame) (pending : List ℕ) (here : ℕ) → Grows s t → Stacked s place fs pending here → Stacked t place fs pending here
unfolding Stacked
stack_grows s t place [] pending here g h = h
stack_grows s t place (f ∷ fs) pending here g (before, opening, mid, xs, inner, reads, left, at, le, means, spells) =
    (before, opening, mid, xs, stack_grows s t place fs (take f.first pending) before g inner, rw (g.bytes) reads, left, at, le, means_each_grows s t (drop f.first pending) xs g means, rw (g.bytes) spells)

pub stack_opens : (t : Table) (place : ℕ) (fs : List Frame) (pending : List ℕ) (here : ℕ) (opening : Token) (after : ℕ) (f : Frame)
    → Stacked t place fs pending here → ReadsToken t.bytes here opening after → opening.kind ≡ Left → opening.start ≡ f.place → f.first ≡ length pending → Stacked t place (f ∷ fs) pending after
unfolding Stacked Spells
stack_opens t place fs pending here opening after f h reads left at first =
    let all : take f.first pending ≡ pending = take_all f.first pending (omega arith) in
    let nothing : drop f.first pending ≡ [] = drop_all f.first pending (omega arith) in
    (here, opening, after, none, rw all h, reads, left, at, omega arith, rw nothing tt, refl)

pub stack_adds : (t : Table) (place : ℕ) (f : Frame) (fs : List Frame) (pending : List ℕ) (here : ℕ) (id : ℕ) (x : Sexpr) (after : ℕ)
    → Stacked t place (f ∷ fs) pending here → Means t id x → Spells t.bytes here x after → Stacked t place (f ∷ fs) (pending ++ id ∷ []) after
unfolding Stacked
stack_adds t place f fs pending here id x after (before, opening, mid, xs, inner, reads, left, at, le, means, spells) m s = (
  before,
  opening,
  mid,
  push xs x,
  rw (take-append-le f.first pending (id ∷ []) le) inner,
  reads,
  left,
  at,
  omega (arith, length-append pending (id ∷ [])),
  rw (drop-append-le f.first pending (id ∷ []) le) (means_each_push t (drop f.first pending) xs id x means m),
  spells_each_push t.bytes mid xs here x after spells s,
)

-- the innermost list is closed
pub record Closes (t : Table) (place : ℕ) (f : Frame) (fs : List Frame) (pending : List ℕ) (after : ℕ) : Type 0 where
  pub xs : Items
  pub before : ℕ
  pub spells : Spells t.bytes before (list xs) after
  pub means : MeansEach t (drop f.first pending) xs
  pub within : f.first ≤ length pending
  pub outer : Stacked t place fs (take f.first pending) before

pub stack_closes : (t : Table) (place : ℕ) (f : Frame) (fs : List Frame) (pending : List ℕ) (here : ℕ) (closing : Token) (after : ℕ)
    → Stacked t place (f ∷ fs) pending here → ReadsToken t.bytes here closing after → closing.kind ≡ Right → Closes t place f fs pending after
unfolding Stacked Spells
stack_closes t place f fs pending here closing after (before, opening, mid, xs, inner, opens, left, at, le, means, spells) reads right = record {
  xs = xs;
  before = before;
  spells = (opening, mid, here, closing, opens, left, spells, reads, right);
  means = means;
  within = le;
  outer = inner;
}

pub stack_ends : (t : Table) (place : ℕ) (pending : List ℕ) (here : ℕ) → Stacked t place [] pending here → place ≡ here
unfolding Stacked
stack_ends t place pending here h = h.1

-- ---- inside the open lists

inside_behind : (bytes : List ℕ) (here : ℕ) (x : Sexpr) (after : ℕ) → Spells bytes here x after → (place : ℕ) → IsInside bytes here place → IsInside bytes after place
inside_behind bytes here x after s place (reached _ e) = behind place x after (subst (λ (n : ℕ). Spells bytes n x after) (sym e) s) (reached after refl)
inside_behind bytes here x after s place (behind _ y mid h rest) = behind place y mid h (inside_behind bytes here x after s mid rest)
inside_behind bytes here x after s place (deeper _ opening mid h left rest) = deeper place opening mid h left (inside_behind bytes here x after s mid rest)

inside_deeper : (bytes : List ℕ) (here : ℕ) (token : Token) (after : ℕ) → ReadsToken bytes here token after → token.kind ≡ Left → (place : ℕ) → IsInside bytes here place → IsInside bytes after place
inside_deeper bytes here token after t l place (reached _ e) = deeper place token after (subst (λ (n : ℕ). ReadsToken bytes n token after) (sym e) t) l (reached after refl)
inside_deeper bytes here token after t l place (behind _ y mid h rest) = behind place y mid h (inside_deeper bytes here token after t l mid rest)
inside_deeper bytes here token after t l place (deeper _ opening mid h left rest) = deeper place opening mid h left (inside_deeper bytes here token after t l mid rest)

inside_each : (bytes : List ℕ) (xs : Items) (here after place : ℕ) → SpellsEach bytes here xs after → IsInside bytes here place → IsInside bytes after place
unfolding Spells
inside_each bytes none here after place e h = subst (λ (n : ℕ). IsInside bytes n place) e h
inside_each bytes (more x xs) here after place (mid, s, rest) h = inside_each bytes xs mid after place rest (inside_behind bytes here x mid s place h)

-- one list more is open inside
open_inside : (bytes : List ℕ) (place outer here : ℕ) (opening : Token) (mid : ℕ) (xs : Items) (after : ℕ) → IsOpen bytes place outer here → ReadsToken bytes here opening mid → opening.kind ≡ Left → SpellsEach bytes mid xs after → IsOpen bytes place outer after
open_inside bytes place outer here opening mid xs after (first, behind_first, t, l, at, inside) reads left spells =
    (first, behind_first, t, l, at, inside_each bytes xs mid after behind_first spells (inside_deeper bytes here opening mid reads left behind_first inside))

open_outside : (bytes : List ℕ) (place outer : ℕ) (opening : Token) (mid : ℕ) (xs : Items) (after : ℕ) → ReadsToken bytes place opening mid → opening.kind ≡ Left → opening.start ≡ outer → SpellsEach bytes mid xs after → IsOpen bytes place outer after
open_outside bytes place outer opening mid xs after reads left at spells = (opening, mid, reads, left, at, inside_each bytes xs mid after mid spells (reached mid refl))

-- the outermost frame is the last
pub stack_open : (t : Table) (place : ℕ) (fs : List Frame) (f : Frame) (pending : List ℕ) (here : ℕ) → Stacked t place (fs ++ f ∷ []) pending here → IsOpen t.bytes place f.place here
unfolding Stacked
stack_open t place [] f pending here (before, opening, mid, xs, inner, opens, left, at, le, means, spells) =
    open_outside t.bytes place f.place opening mid xs here (rw inner.1 opens) left at spells
stack_open t place (g ∷ fs) f pending here (before, opening, mid, xs, inner, opens, left, at, le, means, spells) =
    open_inside t.bytes place f.place before opening mid xs here (stack_open t place fs f (take g.first pending) before inner) opens left spells

-- the innermost is open, and so is some outermost
open_some : (t : Table) (place : ℕ) (f : Frame) (fs : List Frame) (pending : List ℕ) (here : ℕ) → Stacked t place (f ∷ fs) pending here → (outer : ℕ) × IsOpen t.bytes place outer here
unfolding Stacked
open_some t place f [] pending here (before, opening, mid, xs, inner, opens, left, at, le, means, spells) =
    (f.place, open_outside t.bytes place f.place opening mid xs here (rw inner.1 opens) left at spells)
open_some t place f (g ∷ fs) pending here (before, opening, mid, xs, inner, opens, left, at, le, means, spells) =
    let outside = open_some t place g fs (take f.first pending) before inner in
    (outside.0, open_inside t.bytes place outside.0 before opening mid xs here outside.1 opens left spells)

pub stack_within : (t : Table) (place : ℕ) (fs : List Frame) (pending : List ℕ) (here : ℕ) → Stacked t place fs pending here → (place ≡ here) ⊎ ((outer : ℕ) × IsOpen t.bytes place outer here)
stack_within t place [] pending here h = inl (stack_ends t place pending here h)
stack_within t place (f ∷ fs) pending here h = inr (open_some t place f fs pending here h)
