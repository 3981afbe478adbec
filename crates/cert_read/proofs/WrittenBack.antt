-- The text of a certificate, read line by line.
use Rattle.std.proofs.Common.{◌≡◌, ◌∙◌, refl, sym, ap, subst, arith, ℕ, ◌+◌, ◌-◌, ◌<◌, ◌≤◌, true, false, List, [], ◌∷◌, ◌++◌, length, take, drop, Option, Some, None, Result, Ok}
use Rattle.std.proofs.lemmas.List.{append_assoc, append-nil, length-append, length-drop, drop_at, take-append-drop, length-take}
use Rattle.std.proofs.Math.Seq.{take-append-add}
use Rattle.std.proofs.lemmas.List.Elements.{recursion_from_All}
use Rattle.std.specs.List.{AllByRecursion}
use Rattle.smt_lex.specs.declared.token.Token.{Token}
use Rattle.smt_lex.specs.declared.token.LexError.{LexError}
use Rattle.smt_lex.specs.Bytes.{is_space}
use Rattle.smt_lex.specs.Grammar.{is_gap, LongestGap, ReadsBehind, Reads}
use Rattle.smt_sexpr.specs.Tree.{Sexpr, leaf, list}
use Rattle.smt_sexpr.specs.Reading.{Spells}
use Rattle.smt_sexpr.specs.Printing.{text_of}
use Rattle.cert_text.specs.declared.entry.Version.{Version}
use Rattle.cert_text.specs.declared.entry.FileEntry.{FileEntry}
use Rattle.cert_text.specs.Form.{header_sexpr, file_entry_sexpr, end_sexpr, line_of}
use Rattle.cert_text.specs.Laws.{HeaderReadsBack, FileEntryReadsBack, LineReadsBack}
use Rattle.cert_read.specs.Laws.{CertificateReadsBack}
use Rattle.cert_read.specs.Certificates.{certificate, ReadsEntries, ReadsCertificate}
use Rattle.cert_read.specs.Written.{entries_text, certificate_text, IsClosedGap, FileEntryFits}
use Rattle.cert_read.proofs.EntryKinds.{entry_back}

-- ---- what stands behind a gap is read in front of it

gap_more : (gap rest : List ℕ) (n : ℕ) → IsClosedGap gap → LongestGap rest n → LongestGap (gap ++ rest) (length gap + n)
gap_more gap rest n closed h = record {
  within = omega (arith, h.within, length-append gap rest);
  gap = ap (is_gap false) (take-append-add gap rest n) ∙ closed (take n rest) ∙ h.gap;
  longest = λ m more within all.
      let same : length gap + (m - length gap) ≡ m = omega arith in
      let inside : is_gap false (take (m - length gap) rest) ≡ true = sym (closed (take (m - length gap) rest)) ∙ ap (is_gap false) (sym (take-append-add gap rest (m - length gap))) ∙ ap (λ (k : ℕ). is_gap false (take k (gap ++ rest))) same ∙ all in
      h.longest (m - length gap) (omega arith) (omega (arith, within, length-append gap rest)) inside;
}

module _ (bytes gap : List ℕ) (closed : IsClosedGap gap) (place there : ℕ) (e : there ≡ place + length gap) (same : drop place bytes ≡ gap ++ drop there bytes) where
  reads_before : (r : Result (Option Token) LexError) (after : ℕ) → Reads bytes there r after → Reads bytes place r after
  reads_before r after (n, longest, behind) =
      let at : there + n ≡ place + (length gap + n) = omega arith in (
        length gap + n,
        subst (λ (text : List ℕ). LongestGap text (length gap + n)) (sym same) (gap_more gap (drop there bytes) n closed longest),
        subst (λ (start : ℕ). ReadsBehind bytes start r after) at behind,
      )

  pub spells_before : (x : Sexpr) (after : ℕ) → Spells bytes there x after → Spells bytes place x after
  unfolding Spells
  spells_before (leaf kind text) after (t, p, tk, l, r, is) = (t, reads_before (Ok (Some t)) after p, tk, l, r, is)
  spells_before (list xs) after (opening, mid, last, closing, p, l, each, c, k) = (opening, mid, last, closing, reads_before (Ok (Some opening)) mid p, l, each, c, k)

-- ---- lines

line_feed : IsClosedGap (10 ∷ [])
unfolding is_gap is_space
line_feed rest = refl

-- a line whose line feed isn't split off
line_parts : (x : Sexpr) (rest : List ℕ) → line_of x ++ rest ≡ text_of x ++ (10 ∷ rest)
line_parts x rest = append_assoc (text_of x) (10 ∷ []) rest

-- the s-expression of a line behind the line feed before it
line_back : (x : Sexpr) → LineReadsBack x → (bytes before rest : List ℕ) (place : ℕ) → bytes ≡ before ++ (10 ∷ (line_of x ++ rest)) → place ≡ length before → Spells bytes place x (place + 1 + length (text_of x))
line_back x back bytes before rest place e p =
    let opened = before ++ 10 ∷ [] in
    let grouped : opened ++ (line_of x ++ rest) ≡ bytes = append_assoc before (10 ∷ []) (line_of x ++ rest) ∙ sym e in
    let count : length opened ≡ place + 1 = omega (arith, length-append before (10 ∷ [])) in
    let here : Spells bytes (place + 1) x (place + 1 + length (text_of x)) = subst (λ (k : ℕ). Spells bytes k x (k + length (text_of x))) count (subst (λ (text : List ℕ). Spells text (length opened) x (length opened + length (text_of x))) grouped (back opened rest)) in
    let first : drop place bytes ≡ 10 ∷ (line_of x ++ rest) = ap (drop place) e ∙ drop_at before (10 ∷ (line_of x ++ rest)) place (sym p) in
    let second : drop (place + 1) bytes ≡ line_of x ++ rest = ap (drop (place + 1)) (sym grouped) ∙ drop_at opened (line_of x ++ rest) (place + 1) count in
    let same : drop place bytes ≡ (10 ∷ []) ++ drop (place + 1) bytes = first ∙ ap (λ (text : List ℕ). 10 ∷ text) (sym second) in
    spells_before bytes (10 ∷ []) line_feed place (place + 1) refl same x (place + 1 + length (text_of x)) here

-- a line feed, and then nothing
rest_back : (bytes before : List ℕ) (place : ℕ) → bytes ≡ before ++ 10 ∷ [] → place ≡ length before → Reads bytes place (Ok None) (place + 1)
unfolding is_gap is_space
rest_back bytes before place e p =
    let rest : drop place bytes ≡ 10 ∷ [] = ap (drop place) e ∙ drop_at before (10 ∷ []) place (sym p) in
    let gap : LongestGap (10 ∷ []) 1 = record { within = omega arith; gap = refl; longest = λ m more within all. absurd (omega (arith, within)) } in
    let count : place + 1 ≡ length bytes = omega (arith, ap length e, length-append before (10 ∷ [])) in
    (1, subst (λ (text : List ℕ). LongestGap text 1) (sym rest) gap, (count, refl))

module _ (back : FileEntryReadsBack) (end : LineReadsBack end_sexpr) (version : Version) where
  -- the bytes before the next line feed
  behind_line : (before rest : List ℕ) (x : Sexpr) → before ++ (10 ∷ (line_of x ++ rest)) ≡ (before ++ (10 ∷ text_of x)) ++ (10 ∷ rest)
  behind_line before rest x = ap (λ (text : List ℕ). before ++ (10 ∷ text)) (line_parts x rest) ∙ sym (append_assoc before (10 ∷ text_of x) (10 ∷ rest))

  lines_back : (es : List FileEntry) (bytes before : List ℕ) (place : ℕ) → AllByRecursion (FileEntryFits version) es → bytes ≡ before ++ (10 ∷ (entries_text es ++ line_of end_sexpr)) → place ≡ length before → ReadsEntries version bytes place (certificate version es)
  lines_back [] bytes before place fits e p =
      let mid = place + 1 + length (text_of end_sexpr) in
      let ended : bytes ≡ before ++ (10 ∷ (line_of end_sexpr ++ [])) = e ∙ ap (λ (text : List ℕ). before ++ (10 ∷ text)) (sym (append-nil (line_of end_sexpr))) in
      let spells = line_back end_sexpr end bytes before [] place ended p in
      let count : mid ≡ length (before ++ (10 ∷ text_of end_sexpr)) = omega (arith, length-append before (10 ∷ text_of end_sexpr)) in
      (refl, place, mid, mid + 1, refl, spells, rest_back bytes (before ++ (10 ∷ text_of end_sexpr)) mid (ended ∙ behind_line before [] end_sexpr) count)
  lines_back (entry ∷ es) bytes before place fits e p =
      let x = file_entry_sexpr entry in
      let rest = entries_text es ++ line_of end_sexpr in
      let mid = place + 1 + length (text_of x) in
      let grouped : bytes ≡ before ++ (10 ∷ (line_of x ++ rest)) = e ∙ ap (λ (text : List ℕ). before ++ (10 ∷ text)) (append_assoc (line_of x) (entries_text es) (line_of end_sexpr)) in
      let spells = line_back x (back entry) bytes before rest place grouped p in
      let count : mid ≡ length (before ++ (10 ∷ text_of x)) = omega (arith, length-append before (10 ∷ text_of x)) in
      let others = lines_back es bytes (before ++ (10 ∷ text_of x)) mid fits.1 (grouped ∙ behind_line before rest x) count in
      (refl, others.1, others.2, others.3, (x, mid, spells, entry_back version entry fits.0, others.4), others.5, others.6)

  module _ (header : LineReadsBack (header_sexpr version)) where
    text_back : (es : List FileEntry) (bytes before : List ℕ) (place : ℕ) → AllByRecursion (FileEntryFits version) es → bytes ≡ before ++ certificate_text version es → place ≡ length before → ReadsCertificate bytes place (certificate version es)
    text_back es bytes before place fits e p =
        let rest = entries_text es ++ line_of end_sexpr in
        let mid = place + length (text_of (header_sexpr version)) in
        let spells : Spells bytes place (header_sexpr version) mid = subst (λ (k : ℕ). Spells bytes k (header_sexpr version) (k + length (text_of (header_sexpr version)))) (sym p) (subst (λ (text : List ℕ). Spells text (length before) (header_sexpr version) (length before + length (text_of (header_sexpr version)))) (sym e) (header before rest)) in
        let opened = before ++ text_of (header_sexpr version) in
        let grouped : bytes ≡ opened ++ (10 ∷ rest) = e ∙ ap (λ (text : List ℕ). before ++ text) (line_parts (header_sexpr version) rest) ∙ sym (append_assoc before (text_of (header_sexpr version)) (10 ∷ rest)) in
        let count : mid ≡ length opened = omega (arith, length-append before (text_of (header_sexpr version))) in
        (version, mid, spells, lines_back es bytes opened mid fits grouped count)

    -- behind a gap
    behind_gap : (es : List FileEntry) (bytes gap : List ℕ) (place there : ℕ) → IsClosedGap gap → there ≡ place + length gap → drop place bytes ≡ gap ++ drop there bytes → ReadsCertificate bytes there (certificate version es) → ReadsCertificate bytes place (certificate version es)
    behind_gap es bytes gap place there closed e same (found, mid, spells, rest) = (found, mid, spells_before bytes gap closed place there e same (header_sexpr found) mid spells, rest)

pub certificate_back : FileEntryReadsBack → LineReadsBack end_sexpr → HeaderReadsBack → CertificateReadsBack
certificate_back back end header version es bytes gap place fits closed e =
    let there = place + length gap in
    let text = certificate_text version es in
    let whole : bytes ≡ (take place bytes ++ gap) ++ text = sym (take-append-drop place bytes) ∙ ap (λ (rest : List ℕ). take place bytes ++ rest) e ∙ sym (append_assoc (take place bytes) gap text) in
    let some : 0 < length text = omega (arith, length-append (line_of (header_sexpr version)) (entries_text es ++ line_of end_sexpr), length-append (text_of (header_sexpr version)) (10 ∷ [])) in
    let left : length bytes - place ≡ length gap + length text = sym (length-drop place bytes) ∙ ap length e ∙ length-append gap text in
    let short : place ≤ length bytes = omega arith in
    let front : length (take place bytes) ≡ place = omega (arith, length-take place bytes, short) in
    let count : there ≡ length (take place bytes ++ gap) = omega (arith, length-append (take place bytes) gap, front) in
    let rest : drop there bytes ≡ text = ap (drop there) whole ∙ drop_at (take place bytes ++ gap) text there (sym count) in
    behind_gap back end version (header version) es bytes gap place there closed refl (e ∙ ap (λ (t : List ℕ). gap ++ t) (sym rest))
    (text_back back end version (header version) es bytes (take place bytes ++ gap) there (recursion_from_All (FileEntryFits version) es fits) whole count)
