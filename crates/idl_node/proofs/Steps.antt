-- What calls that make a node give, one after another.
use Rattle.std.proofs.Common.{sym, ap, subst, arith, ◌∙◌, ◌≡◌, ◌≤◌, ℕ, List, length, take, Option, Some}
use Rattle.std.specs.Prelude.{Result, Ok, Err, OnOk, OnErr}
use Rattle.std.proofs.lemmas.List.{take-take, length-take, take_all}
use Rattle.idl_node.specs.declared.error.NodeError.{NodeError}
use Rattle.idl_node.specs.declared.error.NodeError.TheVariants.{Refused, OutOfMemory}
use Rattle.idl_node.specs.declared.error.NodeRefusal.TheVariants.{TooLarge}
use Rattle.idl_node.specs.code.Made.{Makes}
use Rattle.idl_node.specs.Making.{then}
use Rattle.idl_node.specs.Nodes.{NodeValue, Placed}

pub take_whole : {A : Type 0} (xs : List A) → take (length xs) xs ≡ xs
take_whole xs = take_all (length xs) xs (omega arith)

pub front_within : {A : Type 0} (a b : List A) → take (length a) b ≡ a → length a ≤ length b
front_within a b e = omega (arith, length-take (length a) b, ap length e)

-- a longer table is as it was, and so is a longer one of it
pub front_on : (a b c : List NodeValue) → take (length a) b ≡ a → take (length b) c ≡ b → take (length a) c ≡ a
front_on a b c e f = sym (take-take (length a) (length b) c (front_within a b e)) ∙ ap (take (length a)) f ∙ e

-- ---- a making that is taken back after an error

module _ (old middle now : List NodeValue) (count : ℕ) (counted : count ≡ length old) (front : take (length old) middle ≡ old) where
  pub settled_makes : (made : Option Placed) (result : Result ℕ NodeError) → OnOk result (now ≡ middle) → Makes middle made result → Makes now made result
  settled_makes made (Ok number) same h = subst (λ (ns : List NodeValue). made ≡ Some (record { nodes = ns; number = number })) (sym same) h
  settled_makes made (Err (Refused TooLarge)) same h = h
  settled_makes made (Err OutOfMemory) same h = tt

  pub settled_err : (result : Result ℕ NodeError) → OnErr result (now ≡ take count middle) → OnErr result (now ≡ old)
  settled_err (Ok number) cut = tt
  settled_err (Err error) cut = cut ∙ ap (λ (n : ℕ). take n middle) counted ∙ front

  pub settled_front : (result : Result ℕ NodeError) → OnOk result (now ≡ middle) → OnErr result (now ≡ take count middle) → take (length old) now ≡ old
  settled_front (Ok number) same cut = ap (take (length old)) same ∙ front
  settled_front (Err error) same cut = ap (take (length old)) (settled_err (Err error) cut) ∙ take_whole old
