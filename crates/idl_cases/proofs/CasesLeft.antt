-- From what is left of a walk over cases to the whole.
use Rattle.std.proofs.Common.{arith, ap, sym, subst, ◌∙◌, ◌≡◌, ◌<◌, ◌≤◌, ◌+◌, ℕ, List, length, Bool, Bor, Option, Some, None}
use Rattle.std.specs.Prelude.{IfSome, IsTrue}
use Rattle.idl_cases.specs.Guarded.{CaseValue, branched}
use Rattle.idl_cases.specs.code.CaseSums.{added_each, signed_cases, signed_count}
use Rattle.idl_cases.specs.code.CasesLeft.{IsCompared, IsMixed}
use Rattle.idl_cases.specs.code.GuardBounds.{AreGuardsBelow}
use Rattle.idl_cases.specs.declared.same.Compared.{Compared}
use Rattle.idl_cases.specs.declared.same.Compared.TheVariants as compared
use Rattle.idl_cases.specs.declared.same.Mixing.{Mixing}
use Rattle.idl_cases.specs.declared.same.Mixing.TheVariants as mixed
use Rattle.idl_cases.proofs.CaseLaws.{length-branched}

-- ---- of one term

pub mixed_whole : (P : Type 0) (limit count : ℕ) (r : Mixing) (all : ℕ) → r ≡ mixed.Whole all → IsMixed limit P count r → P
mixed_whole P limit count r all e h = subst (IsMixed limit P count) e h

pub mixed_part : (P : Type 0) (limit count : ℕ) (r : Mixing) (all : ℕ) (part : Bor (List CaseValue)) → r ≡ mixed.Part all part → IsMixed limit P count r → (AreGuardsBelow count part.now → P) × (length part.now < limit)
mixed_part P limit count r all part e h = subst (IsMixed limit P count) e h

-- the whole of which this one is a part
pub mixed_more : (P Q : Type 0) (limit more count : ℕ) (r : Mixing) → limit ≤ more → (P → Q) → IsMixed limit P count r → IsMixed more Q count r
mixed_more P Q limit more count (mixed.Whole all) le f h = f h
mixed_more P Q limit more count (mixed.Part all part) le f h = (λ below. f (h.0 below), omega (arith, le, h.1))

pub some_more : (P Q : Type 0) (o : Option ℕ) → (P → Q) → IfSome o (λ _. P) → IfSome o (λ _. Q)
some_more P Q (Some n) f h = f h
some_more P Q None f h = tt

-- ---- of two terms

pub compared_whole : (P : Type 0) (limit : ℕ) (r : Compared) (same : Bool) → r ≡ compared.Whole same → IsCompared limit P r → IsTrue same → P
compared_whole P limit r same e h = subst (IsCompared limit P) e h

pub compared_part : (P : Type 0) (limit : ℕ) (r : Compared) (part beside : Bor (List CaseValue)) → r ≡ compared.Part part beside → IsCompared limit P r → (part.now ≡ beside.now → P) × (length part.now < limit)
compared_part P limit r part beside e h = subst (IsCompared limit P) e h

-- ---- what choices are made of

pub branches_count : (s : Bool) (c d : ℕ) (cases a b : List CaseValue) → cases ≡ signed_cases s (branched c d a b) → length cases ≡ length a + length b
branches_count s c d cases a b e = ap (length {A = CaseValue}) e ∙ signed_count s (branched c d a b) ∙ length-branched c d a b
