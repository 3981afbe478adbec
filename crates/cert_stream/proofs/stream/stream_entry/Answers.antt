use Rattle.std.proofs.Common.{◌≡◌, ◌∷◌, List, ℤ, map, sym, ap, ◌∙◌, arith, to_z, of_z}
use Rattle.std.specs.Int.{w128}
use Rattle.std.specs.Prelude.{codes}
use Rattle.std.proofs.lemmas.Int.{ints}
use Rattle.smt_lex.specs.Bytes.{is_symbol_byte}
use Rattle.smt_sexpr.specs.Shapes.{form}
use Rattle.stn_core.specs.declared.named.NamedValue.{NamedValue}
use Rattle.refute_tree.specs.declared.lemma.Lemma.{Lemma}
use Rattle.cert_text.specs.declared.entry.Entry.{Entry}
use Rattle.cert_text.specs.declared.entry.Entry.TheVariants.{Unsat, Best}
use Rattle.cert_text.specs.Form.{number_of_value, values_sexpr, lemma_sexpr, entry_sexpr, line_of}
use Rattle.cert_stream.proofs.Pieces.{streams_text}
use Rattle.cert_stream.proofs.stream.stream_entry.Goals as goal

pub returns-in-Unsat : goal.returns-in-Unsat
unfolding is_symbol_byte
returns-in-Unsat g c =
    let lines = ap (λ (lemmas : List Lemma). line_of (entry_sexpr (Unsat lemmas))) c.as_slice-in-Unsat.ensures ∙ ap (λ (entry : Entry). line_of (entry_sexpr entry)) (sym c.in-Unsat.is) in
    streams_text lines c.stream_line-in-Unsat.ensures

pub returns-in-Best : goal.returns-in-Best
unfolding is_symbol_byte
returns-in-Best g c =
    let least : to_z w128 (of_z w128 c.in-Best.least) ≡ c.in-Best.least = omega (arith, ints) in
    let lines =
    ap (λ (m : ℤ). line_of (form (codes "best") (number_of_value m ∷ values_sexpr c.as_slice-in-Best.result.now ∷ map lemma_sexpr c.as_slice-in-Best-2.result.now))) least
    ∙ ap (λ (values : List NamedValue). line_of (form (codes "best") (number_of_value c.in-Best.least ∷ values_sexpr values ∷ map lemma_sexpr c.as_slice-in-Best-2.result.now))) c.as_slice-in-Best.ensures
    ∙ ap (λ (lemmas : List Lemma). line_of (entry_sexpr (Best c.in-Best.least c.in-Best.values lemmas))) c.as_slice-in-Best-2.ensures
    ∙ ap (λ (entry : Entry). line_of (entry_sexpr entry)) (sym c.in-Best.is) in
    streams_text lines c.stream_best.ensures
