-- The minus form of a number.
use Rattle.std.proofs.Common.{◌≡◌, refl, sym, ap, ℕ, zero, suc, true, Some, pos, neg_ℤ}
use Rattle.std.specs.Prelude.{codes, option_and_then}
use Rattle.smt_sexpr.specs.Tree.{Sexpr, list, none, more}
use Rattle.cert_read.specs.Parts.{numeral_within, negative, number_within}
use Rattle.smt_sexpr.specs.Shapes.{is_symbol}

pub negative_number : (most : ℕ) (head digits : Sexpr) (n : ℕ) → is_symbol (codes "-") head ≡ true → Some n ≡ numeral_within most digits → (n ≡ 0 → ⊥) → number_within most (list (more head (more digits none))) ≡ Some (neg_ℤ (pos n))
negative_number most head digits zero minus e some = absurd (some refl)
negative_number most head digits (suc n) minus e some = rw minus (ap (option_and_then negative) (sym e))
