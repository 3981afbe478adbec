-- The walk over the script's part of a source.
use Rattle.std.proofs.Common.{refl, sym, subst, arith, ◌∙◌, ◌≡◌, ◌+◌, ℕ, List, [], ◌∷◌, length, Bool, true, false}
use Rattle.smt_sexpr.specs.Tree.{Sexpr}
use Rattle.smt_sexpr.specs.Table.{Table, Means}
use Rattle.smt_sexpr.specs.Reading.{Spells}
use Rattle.smt_answer.specs.declared.kind.Kind.{Kind}
use Rattle.script_walk.specs.code.Events as events
use Rattle.script_walk.specs.declared.reader.Next.{Next as Read}
use Rattle.script_walk.specs.declared.reader.Next.TheVariants as read
use Rattle.dtp_check.specs.declared.script_part.PartEnd.{PartEnd}
use Rattle.dtp_check.specs.declared.script_part.PartEnd.TheVariants as part
use Rattle.dtp_check.specs.declared.script_part.Next.{Next}
use Rattle.dtp_check.specs.declared.script_part.Next.TheVariants.{Command, Ended}
use Rattle.dtp_check.specs.code.Parts.{IsNext, GoesOn}
use Rattle.smt_script.specs.Commands.{is_exit}
use Rattle.dtp_check.specs.Judged.{EndsPart, IsApart, ExitEnds, FollowsExit, ScriptPart}

pub part_ends : (bytes : List ℕ) (place : ℕ) (end : PartEnd) (behind : ℕ) → EndsPart bytes place end behind → ScriptPart bytes place [] end behind
unfolding ScriptPart
part_ends bytes place end behind h = h

part_more : (bytes : List ℕ) (place mid : ℕ) (x : Sexpr) (xs : List Sexpr) (end : PartEnd) (behind : ℕ) → Spells bytes place x mid → IsApart x → FollowsExit (is_exit x) (ExitEnds mid xs end behind) (ScriptPart bytes mid xs end behind)
    → ScriptPart bytes place (x ∷ xs) end behind
unfolding ScriptPart
part_more bytes place mid x xs end behind spells apart rest = (mid, spells, apart, rest)

pub part_exits : (bytes : List ℕ) (place mid : ℕ) (x : Sexpr) → Spells bytes place x mid → IsApart x → is_exit x ≡ true → ScriptPart bytes place (x ∷ []) part.Exit mid
part_exits bytes place mid x spells apart e =
    part_more bytes place mid x [] part.Exit mid spells apart (subst (λ (b : Bool). FollowsExit b (ExitEnds mid [] part.Exit mid) (ScriptPart bytes mid [] part.Exit mid)) (sym e) (refl, refl, refl))

pub part_goes_on : (bytes : List ℕ) (place mid : ℕ) (x : Sexpr) (xs : List Sexpr) (end : PartEnd) (behind : ℕ) → Spells bytes place x mid → IsApart x → is_exit x ≡ false → ScriptPart bytes mid xs end behind → ScriptPart bytes place (x ∷ xs) end behind
part_goes_on bytes place mid x xs end behind spells apart e rest =
    part_more bytes place mid x xs end behind spells apart (subst (λ (b : Bool). FollowsExit b (ExitEnds mid xs end behind) (ScriptPart bytes mid xs end behind)) (sym e) rest)

-- the commands so far and those to come are the whole script
pub record IsWalked (bytes : List ℕ) (place commands : ℕ) : Type 0 where
  pub whole : (rest : List Sexpr) (end : PartEnd) (behind : ℕ) → ScriptPart bytes place rest end behind → (xs : List Sexpr) × ScriptPart bytes 0 xs end behind × (length xs ≡ commands + length rest)

pub walked_more : (bytes : List ℕ) (place mid commands : ℕ) (x : Sexpr) → IsWalked bytes place commands → Spells bytes place x mid → IsApart x → is_exit x ≡ false → IsWalked bytes mid (commands + 1)
walked_more bytes place mid commands x h spells apart e = record {
  whole = λ rest end behind p.
      let w = h.whole (x ∷ rest) end behind (part_goes_on bytes place mid x rest end behind spells apart e p) in
      let count = w.2 in
      (w.0, w.1, omega (arith, count));
}

-- what was read is a command
pub record IsCommandAt (bytes : List ℕ) (place : ℕ) (t : Table) (id after : ℕ) : Type 0 where
  pub x : Sexpr
  pub means : Means t id x
  pub spells : Spells bytes place x after
  pub apart : IsApart x

pub command_read : (bytes : List ℕ) (place : ℕ) (t : Table) (after : ℕ) (next : Next) (id : ℕ) → next ≡ Command id → IsNext bytes place t after next → IsCommandAt bytes place t id after
command_read bytes place t after next id e h =
    let w : IsNext bytes place t after (Command id) = subst (λ (n : Next). IsNext bytes place t after n) e h in
    record { x = w.0; means = w.1; spells = w.2; apart = w.3 }

pub end_read : (bytes : List ℕ) (place : ℕ) (t : Table) (after : ℕ) (next : Next) (end : PartEnd) → next ≡ Ended end → IsNext bytes place t after next → EndsPart bytes place end after
end_read bytes place t after next end e h = subst (λ (n : Next). IsNext bytes place t after n) e h

-- what can't be read ends the script's part
pub unread_ends : (bytes : List ℕ) (place : ℕ) (t : Table) (after : ℕ) (next : Read) (kind : Kind) → next ≡ read.Unread kind → events.IsNext bytes place t after next → EndsPart bytes place (part.Unread kind) after
unread_ends bytes place t after next kind e h =
    let w : events.IsNext bytes place t after (read.Unread kind) = subst (λ (n : Read). events.IsNext bytes place t after n) e h in
    (w.0, w.1, sym w.2)

-- the script's part, with the number of its commands
pub record IsPart (bytes : List ℕ) (end : PartEnd) (behind commands : ℕ) : Type 0 where
  pub xs : List Sexpr
  pub is : ScriptPart bytes 0 xs end behind
  pub count : length xs ≡ commands

module _ (bytes lexed : List ℕ) (place commands : ℕ) (same : lexed ≡ bytes) (h : IsWalked lexed place commands) where
  whole_part : (rest : List Sexpr) (end : PartEnd) (behind total : ℕ) → ScriptPart lexed place rest end behind → commands + length rest ≡ total → (xs : List Sexpr) × ScriptPart bytes 0 xs end behind × (length xs ≡ total)
  whole_part rest end behind total p e =
      let w = h.whole rest end behind p in
      (w.0, subst (λ (b : List ℕ). ScriptPart b 0 w.0 end behind) same w.1, w.2 ∙ e)

  pub walk_exits : (t : Table) (id after : ℕ) (test : Bool) (c : IsCommandAt lexed place t id after) → test ≡ is_exit c.x → test ≡ true → (xs : List Sexpr) × ScriptPart bytes 0 xs part.Exit after × (length xs ≡ commands + 1)
  walk_exits t id after test c e f = whole_part (c.x ∷ []) part.Exit after (commands + 1) (part_exits lexed place after c.x c.spells c.apart (sym e ∙ f)) (omega arith)

  pub walk_ends : (end : PartEnd) (after : ℕ) → EndsPart lexed place end after → (xs : List Sexpr) × ScriptPart bytes 0 xs end after × (length xs ≡ commands)
  walk_ends end after e = whole_part [] end after commands (part_ends lexed place end after e) (omega arith)

pub command_goes_on : (next : Next) (id : ℕ) → next ≡ Command id → GoesOn next
command_goes_on next id e = subst GoesOn (sym e) tt
