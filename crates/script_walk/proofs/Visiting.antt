-- A visitor where an event comes.
use Rattle.std.proofs.Common.{arith, ap, subst, ◌≡◌, ◌<◌, ◌-◌, ℕ, List, length, Result, Ok, Err}
use Rattle.std.specs.Prelude.{IfOk, IfErr}
use Rattle.script_walk.specs.declared.walk.Event.{Event}
use Rattle.script_walk.specs.declared.walk.Walk.{Walk}
use Rattle.script_walk.specs.code.Events.{GoesOn, IsNextEvent}
use Rattle.script_walk.specs.code.Visiting.{IsAt}

abbrev pub at_event : {V L : Type 0} (SoFar : V → L → V → L → Type 0) (Comes : V → V → Event → Type 0) (first before now : V) (lent_first lent : L) (event other : Event)
    → event ≡ other → SoFar first lent_first before lent → Comes before now event → IsAt SoFar Comes now lent other
at_event SoFar Comes first before now lent_first lent event other e so_far comes = record {
  first = first;
  lent_first = lent_first;
  before = before;
  so_far = so_far;
  comes = subst (λ (f : Event). Comes before now f) e comes;
}

-- what a result says wherever the visitor is, it says where it is
module _ {A E At : Type 0} (at : At) where
  pub ok_at : (P : At → A → Type 0) (r : Result A E) → IfOk r (λ a. (x : At) → P x a) → IfOk r (P at)
  ok_at P (Ok a) h = h at
  ok_at P (Err e) h = tt

  pub err_at : (P : At → E → Type 0) (r : Result A E) → IfErr r (λ e. (x : At) → P x e) → IfErr r (P at)
  err_at P (Ok a) h = tt
  err_at P (Err e) h = h at

-- what is left of a script, when an event came behind which it goes on
pub less_left : (v w : Walk) (event : Event) → GoesOn event → IsNextEvent v w event → length w.lexer.bytes - w.lexer.place < length v.lexer.bytes - v.lexer.place
less_left v w event goes h =
    let there = h.ready goes in
    let within = there.within in
    let forward = h.forward goes in
    let same : length w.lexer.bytes ≡ length v.lexer.bytes = ap (λ (b : List ℕ). length b) h.bytes in
    omega (arith, within, forward, same)
