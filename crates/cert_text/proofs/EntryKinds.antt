-- The laws of entries, kind by kind: what a further kind adds to them stands in this file. An entry that keeps no lemmas has the
-- laws of the entry that it is in a certificate.
use Rattle.std.proofs.Common.{◌≡◌, ◌∙◌, ℕ, refl, sym, ap, subst, arith, List, [], ◌∷◌, map}
use Rattle.std.proofs.lemmas.List.Elements.{All-map}
use Rattle.std.specs.Prelude.{codes}
use Rattle.smt_lex.specs.Bytes.{is_quoted_byte}
use Rattle.smt_sexpr.specs.Laws.{OneValue, SexprReadsBack}
use Rattle.smt_sexpr.specs.Printing.{IsWritable}
use Rattle.smt_sexpr.specs.Shapes.{form}
use Rattle.smt_sexpr.specs.Tree.{Sexpr}
use Rattle.refute_tree.specs.declared.lemma.Lemma.{Lemma}
use Rattle.kept_lemmas.specs.declared.item.Item.{Item}
use Rattle.kept_lemmas.specs.declared.item.Item.TheVariants.{Own}
use Rattle.cert_text.specs.declared.entry.Version.{Version}
use Rattle.cert_text.specs.declared.entry.Entry.{Entry}
use Rattle.cert_text.specs.declared.entry.Entry.TheVariants.{Sat, Unsat, Best, Unbounded}
use Rattle.cert_text.specs.declared.entry.FileEntry.{FileEntry}
use Rattle.cert_text.specs.declared.entry.FileEntry.TheVariants as file
use Rattle.cert_text.specs.Form.{numeral, number_of_value, lemma_sexpr, item_sexpr, value_sexpr, values_sexpr, entry_sexpr, file_entry_sexpr, file_entry_of}
use Rattle.cert_text.specs.Limits.{EntryWithin, FileEntryWithin, ItemWithin}
use Rattle.cert_text.specs.Laws.{EntryIsWritable, FileEntryIsWritable, LineReadsBack, EntryReadsBack, FileEntryReadsBack, OneEntry, OneLine, OneFileEntry, OneFileLine, OwnText}
use Rattle.cert_text.proofs.Writable.{each_writable, numeral_writable, number_writable, item_writable, value_writable, line_back}
use Rattle.cert_text.proofs.OneEntry.{parts, first, others, first_byte, third_byte, each_one, numeral_one, number_one, item_one, value_one, same_line}

-- ---- kind by kind

pub file_entry_writable : FileEntryIsWritable
unfolding is_quoted_byte
file_entry_writable (file.Sat values) = (refl, each_writable value_sexpr value_writable values)
file_entry_writable (file.Unsat items) = (refl, each_writable item_sexpr item_writable items)
file_entry_writable (file.Best m values items) = (refl, (number_writable m, (each_writable value_sexpr value_writable values, each_writable item_sexpr item_writable items)))
file_entry_writable (file.Unbounded values points) = (refl, (each_writable number_of_value number_writable values, (each_writable numeral numeral_writable points, tt)))

pub file_entry_back : SexprReadsBack → FileEntryReadsBack
file_entry_back back (file.Sat values) = line_back back (file_entry_sexpr (file.Sat values)) (λ rest. tt) (file_entry_writable (file.Sat values))
file_entry_back back (file.Unsat items) = line_back back (file_entry_sexpr (file.Unsat items)) (λ rest. tt) (file_entry_writable (file.Unsat items))
file_entry_back back (file.Best m values items) = line_back back (file_entry_sexpr (file.Best m values items)) (λ rest. tt) (file_entry_writable (file.Best m values items))
file_entry_back back (file.Unbounded values points) = line_back back (file_entry_sexpr (file.Unbounded values points)) (λ rest. tt) (file_entry_writable (file.Unbounded values points))

pub file_entry_one : OneFileEntry
file_entry_one (file.Sat vs) (file.Sat ws) e = ap file.Sat (each_one value_sexpr value_one vs ws (ap (λ x. others (parts x)) e))
file_entry_one (file.Unsat ls) (file.Unsat ks) e = ap file.Unsat (each_one item_sexpr item_one ls ks (ap (λ x. others (parts x)) e))
file_entry_one (file.Sat vs) (file.Unsat ks) e = absurd (omega (arith, ap first_byte e))
file_entry_one (file.Unsat ls) (file.Sat ws) e = absurd (omega (arith, ap first_byte e))
file_entry_one (file.Best m vs ls) (file.Best n ws ks) e =
    let value = number_one m n (ap (λ x. first (others (parts x))) e) in
    let values = each_one value_sexpr value_one vs ws (ap (λ x. parts (first (others (others (parts x))))) e) in
    let items = each_one item_sexpr item_one ls ks (ap (λ x. others (others (others (parts x)))) e) in
    λ i. file.Best (value i) (values i) (items i)
file_entry_one (file.Unbounded vs ps) (file.Unbounded ws qs) e =
    let values = each_one number_of_value number_one vs ws (ap (λ x. parts (first (others (parts x)))) e) in
    let points = each_one numeral numeral_one ps qs (ap (λ x. parts (first (others (others (parts x))))) e) in
    λ i. file.Unbounded (values i) (points i)
file_entry_one (file.Sat vs) (file.Best n ws ks) e = absurd (omega (arith, ap first_byte e))
file_entry_one (file.Best m vs ls) (file.Sat ws) e = absurd (omega (arith, ap first_byte e))
file_entry_one (file.Unsat ls) (file.Best n ws ks) e = absurd (omega (arith, ap first_byte e))
file_entry_one (file.Best m vs ls) (file.Unsat ks) e = absurd (omega (arith, ap first_byte e))
file_entry_one (file.Sat vs) (file.Unbounded ws qs) e = absurd (omega (arith, ap first_byte e))
file_entry_one (file.Unbounded vs ps) (file.Sat ws) e = absurd (omega (arith, ap first_byte e))
file_entry_one (file.Unsat ls) (file.Unbounded ws qs) e = absurd (omega (arith, ap third_byte e))
file_entry_one (file.Unbounded vs ps) (file.Unsat ks) e = absurd (omega (arith, ap third_byte e))
file_entry_one (file.Best m vs ls) (file.Unbounded ws qs) e = absurd (omega (arith, ap first_byte e))
file_entry_one (file.Unbounded vs ps) (file.Best n ws ks) e = absurd (omega (arith, ap first_byte e))

own_sexprs : (lemmas : List Lemma) → map item_sexpr (map Own lemmas) ≡ map lemma_sexpr lemmas
own_sexprs [] = refl
own_sexprs (lemma ∷ lemmas) = ap (λ (xs : List Sexpr). lemma_sexpr lemma ∷ xs) (own_sexprs lemmas)

pub own_text : OwnText
own_text (Sat values) = refl
own_text (Unsat lemmas) = ap (form (codes "unsat")) (own_sexprs lemmas)
own_text (Best m values lemmas) = ap (λ (xs : List Sexpr). form (codes "best") (number_of_value m ∷ values_sexpr values ∷ xs)) (own_sexprs lemmas)
own_text (Unbounded values points) = refl

pub own_within : (version : Version) (points : ℕ) (entry : Entry) → EntryWithin version points entry → FileEntryWithin version points (file_entry_of entry)
own_within version points (Sat values) within = within
own_within version points (Unsat lemmas) within = All-map (ItemWithin version points) Own lemmas within
own_within version points (Best m values lemmas) within = (within.0, within.1, All-map (ItemWithin version points) Own lemmas within.2)
own_within version points (Unbounded values set) within = within

-- the lemmas that are own among the items: an entry is read off what it is in a certificate
abbrev lemmas_in : List Item → List Lemma
lemmas_in [] = []
lemmas_in (Own lemma ∷ items) = lemma ∷ lemmas_in items
lemmas_in (item ∷ items) = lemmas_in items

lemmas_back : (lemmas : List Lemma) → lemmas_in (map Own lemmas) ≡ lemmas
lemmas_back [] = refl
lemmas_back (lemma ∷ lemmas) = ap (λ (ls : List Lemma). lemma ∷ ls) (lemmas_back lemmas)

abbrev entry_in : FileEntry → Entry
entry_in (file.Sat values) = Sat values
entry_in (file.Unsat items) = Unsat (lemmas_in items)
entry_in (file.Best m values items) = Best m values (lemmas_in items)
entry_in (file.Unbounded values points) = Unbounded values points

entry_kept : (entry : Entry) → entry_in (file_entry_of entry) ≡ entry
entry_kept (Sat values) = refl
entry_kept (Unsat lemmas) = ap Unsat (lemmas_back lemmas)
entry_kept (Best m values lemmas) = ap (Best m values) (lemmas_back lemmas)
entry_kept (Unbounded values points) = refl

-- ---- of an entry that keeps no lemmas

pub entry_writable : EntryIsWritable
entry_writable e = subst IsWritable (own_text e) (file_entry_writable (file_entry_of e))

pub entry_back : SexprReadsBack → EntryReadsBack
entry_back back e = subst LineReadsBack (own_text e) (file_entry_back back (file_entry_of e))

pub entry_one : OneEntry
entry_one e f same =
    let shown : file_entry_of e ≡ file_entry_of f = file_entry_one (file_entry_of e) (file_entry_of f) (own_text e ∙ same ∙ sym (own_text f)) in
    sym (entry_kept e) ∙ ap entry_in shown ∙ entry_kept f

-- ---- lines

pub line_one : OneValue → SexprReadsBack → OneLine
line_one one back e f same =
    entry_one e f (same_line one (entry_sexpr e) (entry_sexpr f) (entry_back back e) (entry_back back f) same)

pub file_line_one : OneValue → SexprReadsBack → OneFileLine
file_line_one one back e f same =
    file_entry_one e f (same_line one (file_entry_sexpr e) (file_entry_sexpr f) (file_entry_back back e) (file_entry_back back f) same)
