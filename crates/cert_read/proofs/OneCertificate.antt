-- A text is one thing at most.
use Rattle.std.proofs.Common.{◌⊎◌, inl, inr, ◌≡◌, ◌∙◌, refl, sym, ap, subst, ℕ, ◌+◌, List, [], ◌∷◌, length, Option, Some, None, Ok}
use Rattle.smt_lex.specs.Grammar.{Reads}
use Rattle.smt_lex.specs.Laws.{OneReading}
use Rattle.smt_sexpr.specs.Laws.{OneOutcome}
use Rattle.smt_sexpr.specs.Tree.{Sexpr}
use Rattle.smt_sexpr.specs.Reading.{Spells, Outcome, expression, finished, refused, Outcomes}
use Rattle.cert_text.specs.declared.entry.Version.{Version}
use Rattle.cert_text.specs.declared.entry.FileEntry.{FileEntry}
use Rattle.cert_text.specs.Form.{header_sexpr, end_sexpr}
use Rattle.cert_text.proofs.OneEntry.{header_one}
use Rattle.cert_read.specs.Parts.{entry_of}
use Rattle.cert_read.specs.declared.error.CertificateRefusal.TheVariants.{NoHeader, IllFormed, NoEnd, TextAfterEnd}
use Rattle.cert_read.specs.Laws.{OneCertificate, OneRest}
use Rattle.cert_read.specs.Certificates.{CertificateOutcome, certificate, no_certificate, HoldsEntries, IsStrange, HasMore, ReadsEntries, LacksHeader, ReadsCertificate}

-- no entry stands at the place
abbrev IsNone : Version → Outcome → Type 0
IsNone version (expression x) = entry_of version x ≡ None
IsNone version finished = Unit {0}
IsNone version (refused why) = Unit {0}

abbrev Stops : Version → List ℕ → ℕ → Type 0
Stops version bytes here = (o : Outcome) × (after : ℕ) × Outcomes bytes here o after × IsNone version o

strange_none : (version : Version) (o : Outcome) → IsStrange version o → IsNone version o
strange_none version (expression x) h = h.0
strange_none version finished h = tt
strange_none version (refused why) h = tt

expression_same : (x y : Sexpr) → ◌≡◌ {A = Outcome} (expression x) (expression y) → x ≡ y
expression_same x y e = cc

end_not_finished : ◌≡◌ {A = Outcome} (expression end_sexpr) finished → ⊥
end_not_finished e = cc

end_not_strange : (version : Version) (o : Outcome) → o ≡ expression end_sexpr → IsStrange version o → ⊥
end_not_strange version (expression x) e h = h.1 (expression_same x end_sexpr e)
end_not_strange version finished e h = h
end_not_strange version (refused why) e h = absurd cc

finished_not_strange : (version : Version) (o : Outcome) → o ≡ finished → IsStrange version o → ⊥
finished_not_strange version o e h = subst (IsStrange version) e h

none_apart : (e : FileEntry) (o : Option FileEntry) → o ≡ Some e → o ≡ None → ⊥
none_apart e o is none = absurd cc

entry_same : (version : Version) (e f : FileEntry) (x y : Sexpr) → x ≡ y → entry_of version x ≡ Some e → entry_of version y ≡ Some f → e ≡ f
entry_same version e f x y same p q =
    let h : ◌≡◌ {A = Option FileEntry} (Some e) (Some f) = sym p ∙ ap (entry_of version) same ∙ q in
    cc

module _ (one : OneOutcome) (reading : OneReading) (version : Version) (bytes : List ℕ) where
  not_here : (here : ℕ) (e : FileEntry) (x : Sexpr) (mid : ℕ) → Stops version bytes here → Spells bytes here x mid → entry_of version x ≡ Some e → ⊥
  not_here here e x mid (o, after, outcome, none) spells is =
      none_apart e (entry_of version x) is (subst (IsNone version) (one bytes here o (expression x) after mid outcome spells).0 none)

  held_same : (place here there : ℕ) (es fs : List FileEntry) → HoldsEntries version bytes place es here → Stops version bytes here → HoldsEntries version bytes place fs there → Stops version bytes there → (es ≡ fs) × (here ≡ there)
  held_same place here there [] [] p stop q halt = (refl, sym p ∙ q)
  held_same place here there [] (f ∷ fs) p stop (y, mid, spells, is, rest) halt = absurd (not_here place f y mid (subst (Stops version bytes) (sym p) stop) spells is)
  held_same place here there (e ∷ es) [] (x, mid, spells, is, rest) stop q halt = absurd (not_here place e x mid (subst (Stops version bytes) (sym q) halt) spells is)
  held_same place here there (e ∷ es) (f ∷ fs) (x, mid, spells, is, rest) stop (y, next, spelt, also, others) halt =
      let same = one bytes place (expression x) (expression y) mid next spells spelt in
      let head = entry_same version e f x y (expression_same x y same.0) is also in
      let tail = held_same mid here there es fs rest stop (subst (λ (k : ℕ). HoldsEntries version bytes k fs there) (sym same.1) others) halt in
      (λ i. head i ∷ tail.0 i, tail.1)

  -- ---- what stands behind the entries

  module _ (here : ℕ) where
    abbrev EndsAt : ℕ → Type 0
    EndsAt mid = Spells bytes here end_sexpr mid

    abbrev StrangeAt : Type 0
    StrangeAt = (o : Outcome) × (after : ℕ) × Outcomes bytes here o after × IsStrange version o

    end_stops : (mid : ℕ) → EndsAt mid → Stops version bytes here
    end_stops mid h = (expression end_sexpr, mid, h, refl)

    strange_stops : StrangeAt → Stops version bytes here
    strange_stops (o, after, outcome, strange) = (o, after, outcome, strange_none version o strange)

    finished_stops : (after : ℕ) → Outcomes bytes here finished after → Stops version bytes here
    finished_stops after h = (finished, after, h, tt)

    end_apart_strange : (mid : ℕ) → EndsAt mid → StrangeAt → ⊥
    end_apart_strange mid h (o, after, outcome, strange) = end_not_strange version o (one bytes here o (expression end_sexpr) after mid outcome h).0 strange

    end_apart_finished : (mid after : ℕ) → EndsAt mid → Outcomes bytes here finished after → ⊥
    end_apart_finished mid after h f = end_not_finished (one bytes here (expression end_sexpr) finished mid after h f).0

    strange_apart_finished : (after : ℕ) → StrangeAt → Outcomes bytes here finished after → ⊥
    strange_apart_finished after (o, other, outcome, strange) f = finished_not_strange version o (one bytes here o finished other after outcome f).0 strange

    closed_apart_more : (mid after next : ℕ) → EndsAt mid → Reads bytes mid (Ok None) after → EndsAt next → HasMore bytes next → ⊥
    closed_apart_more mid after next h rest k (result, end, reads, more) =
        let same = one bytes here (expression end_sexpr) (expression end_sexpr) mid next h k in
        more (reading bytes next result (Ok None) end after reads (subst (λ (m : ℕ). Reads bytes m (Ok None) after) same.1 rest)).0

  -- ---- behind the header

  -- each kind of outcome but the first has an entry's place where it shows
  abbrev At : (ℕ → Type 0) → ℕ → List FileEntry → Type 0
  At P place es = (here : ℕ) × HoldsEntries version bytes place es here × P here

  abbrev Closed : ℕ → Type 0
  Closed here = (mid : ℕ) × (after : ℕ) × EndsAt here mid × Reads bytes mid (Ok None) after

  abbrev Finished : ℕ → Type 0
  Finished here = (after : ℕ) × Outcomes bytes here finished after

  abbrev More : ℕ → Type 0
  More here = (mid : ℕ) × EndsAt here mid × HasMore bytes mid

  -- two texts of entries that stop are one
  together : (P Q : ℕ → Type 0) (place : ℕ) (es fs : List FileEntry) → ((here : ℕ) → P here → Stops version bytes here) → ((here : ℕ) → Q here → Stops version bytes here) → At P place es → At Q place fs → (es ≡ fs) × ((here : ℕ) × P here × Q here)
  together P Q place es fs stop halt (here, held, p) (there, also, q) =
      let same = held_same place here there es fs held (stop here p) also (halt there q) in
      (same.0, (there, subst P same.1 p, q))

  closed_stops : (here : ℕ) → Closed here → Stops version bytes here
  closed_stops here (mid, after, h, rest) = end_stops here mid h

  finished_halts : (here : ℕ) → Finished here → Stops version bytes here
  finished_halts here (after, h) = finished_stops here after h

  more_stops : (here : ℕ) → More here → Stops version bytes here
  more_stops here (mid, h, more) = end_stops here mid h

  closed_at : (place : ℕ) (of : Version) (es : List FileEntry) → ReadsEntries version bytes place (certificate of es) → At Closed place es
  closed_at place of es (same, here, mid, after, held, h, rest) = (here, held, (mid, after, h, rest))

  -- the entries before an ill-formed one
  strange_at : (place k : ℕ) → ReadsEntries version bytes place (no_certificate (IllFormed k)) → (es : List FileEntry) × (k ≡ length es + 1) × At StrangeAt place es
  strange_at place k (es, here, held, (o, after, outcome, strange, e)) = (es, e, (here, held, (o, after, outcome, strange)))

  finished_at : (place : ℕ) → ReadsEntries version bytes place (no_certificate NoEnd) → (es : List FileEntry) × At Finished place es
  finished_at place (es, here, held, h) = (es, (here, held, h))

  more_at : (place : ℕ) → ReadsEntries version bytes place (no_certificate TextAfterEnd) → (es : List FileEntry) × At More place es
  more_at place (es, here, held, h) = (es, (here, held, h))

  closed_not_strange : (place k : ℕ) (of : Version) (es : List FileEntry) → ReadsEntries version bytes place (certificate of es) → ReadsEntries version bytes place (no_certificate (IllFormed k)) → ⊥
  closed_not_strange place k of es h g =
      let s = strange_at place k g in
      let both = together Closed StrangeAt place es s.0 closed_stops strange_stops (closed_at place of es h) s.2 in
      end_apart_strange both.1.0 both.1.1.0 both.1.1.2 both.1.2

  closed_not_finished : (place : ℕ) (of : Version) (es : List FileEntry) → ReadsEntries version bytes place (certificate of es) → ReadsEntries version bytes place (no_certificate NoEnd) → ⊥
  closed_not_finished place of es h g =
      let f = finished_at place g in
      let both = together Closed Finished place es f.0 closed_stops finished_halts (closed_at place of es h) f.1 in
      end_apart_finished both.1.0 both.1.1.0 both.1.2.0 both.1.1.2 both.1.2.1

  closed_not_more : (place : ℕ) (of : Version) (es : List FileEntry) → ReadsEntries version bytes place (certificate of es) → ReadsEntries version bytes place (no_certificate TextAfterEnd) → ⊥
  closed_not_more place of es h g =
      let m = more_at place g in
      let both = together Closed More place es m.0 closed_stops more_stops (closed_at place of es h) m.1 in
      closed_apart_more both.1.0 both.1.1.0 both.1.1.1 both.1.2.0 both.1.1.2 both.1.1.3 both.1.2.1 both.1.2.2

  strange_not_finished : (place k : ℕ) → ReadsEntries version bytes place (no_certificate (IllFormed k)) → ReadsEntries version bytes place (no_certificate NoEnd) → ⊥
  strange_not_finished place k h g =
      let s = strange_at place k h in
      let f = finished_at place g in
      let both = together StrangeAt Finished place s.0 f.0 strange_stops finished_halts s.2 f.1 in
      strange_apart_finished both.1.0 both.1.2.0 both.1.1 both.1.2.1

  strange_not_more : (place k : ℕ) → ReadsEntries version bytes place (no_certificate (IllFormed k)) → ReadsEntries version bytes place (no_certificate TextAfterEnd) → ⊥
  strange_not_more place k h g =
      let s = strange_at place k h in
      let m = more_at place g in
      let both = together StrangeAt More place s.0 m.0 strange_stops more_stops s.2 m.1 in
      end_apart_strange both.1.0 both.1.2.0 both.1.2.1 both.1.1

  finished_not_more : (place : ℕ) → ReadsEntries version bytes place (no_certificate NoEnd) → ReadsEntries version bytes place (no_certificate TextAfterEnd) → ⊥
  finished_not_more place h g =
      let f = finished_at place h in
      let m = more_at place g in
      let both = together Finished More place f.0 m.0 finished_halts more_stops f.1 m.1 in
      end_apart_finished both.1.0 both.1.2.0 both.1.1.0 both.1.2.1 both.1.1.1

  closed_same : (place : ℕ) (v w : Version) (es fs : List FileEntry) → ReadsEntries version bytes place (certificate v es) → ReadsEntries version bytes place (certificate w fs) → es ≡ fs
  closed_same place v w es fs h g = (together Closed Closed place es fs closed_stops closed_stops (closed_at place v es h) (closed_at place w fs g)).0

  strange_same : (place j k : ℕ) → ReadsEntries version bytes place (no_certificate (IllFormed j)) → ReadsEntries version bytes place (no_certificate (IllFormed k)) → j ≡ k
  strange_same place j k h g =
      let s = strange_at place j h in
      let t = strange_at place k g in
      let same = (together StrangeAt StrangeAt place s.0 t.0 strange_stops strange_stops s.2 t.2).0 in
      s.1 ∙ ap (λ (es : List FileEntry). length es + 1) same ∙ sym t.1

  no_header_behind : (place : ℕ) → ReadsEntries version bytes place (no_certificate NoHeader) → ⊥
  no_header_behind place (es, here, held, h) = h

  entries_one : (place : ℕ) (o p : CertificateOutcome) → ReadsEntries version bytes place o → ReadsEntries version bytes place p → o ≡ p
  entries_one place (certificate v es) (certificate w fs) h g =
      let versions : v ≡ w = h.0 ∙ sym g.0 in
      let entries : es ≡ fs = closed_same place v w es fs h g in
      λ i. certificate (versions i) (entries i)
  entries_one place (certificate of es) (no_certificate (IllFormed k)) h g = absurd (closed_not_strange place k of es h g)
  entries_one place (certificate of es) (no_certificate NoEnd) h g = absurd (closed_not_finished place of es h g)
  entries_one place (certificate of es) (no_certificate TextAfterEnd) h g = absurd (closed_not_more place of es h g)
  entries_one place (no_certificate (IllFormed k)) (certificate of es) h g = absurd (closed_not_strange place k of es g h)
  entries_one place (no_certificate (IllFormed j)) (no_certificate (IllFormed k)) h g = ap (λ (n : ℕ). no_certificate (IllFormed n)) (strange_same place j k h g)
  entries_one place (no_certificate (IllFormed k)) (no_certificate NoEnd) h g = absurd (strange_not_finished place k h g)
  entries_one place (no_certificate (IllFormed k)) (no_certificate TextAfterEnd) h g = absurd (strange_not_more place k h g)
  entries_one place (no_certificate NoEnd) (certificate of es) h g = absurd (closed_not_finished place of es g h)
  entries_one place (no_certificate NoEnd) (no_certificate (IllFormed k)) h g = absurd (strange_not_finished place k g h)
  entries_one place (no_certificate NoEnd) (no_certificate NoEnd) h g = refl
  entries_one place (no_certificate NoEnd) (no_certificate TextAfterEnd) h g = absurd (finished_not_more place h g)
  entries_one place (no_certificate TextAfterEnd) (certificate of es) h g = absurd (closed_not_more place of es g h)
  entries_one place (no_certificate TextAfterEnd) (no_certificate (IllFormed k)) h g = absurd (strange_not_more place k g h)
  entries_one place (no_certificate TextAfterEnd) (no_certificate NoEnd) h g = absurd (finished_not_more place g h)
  entries_one place (no_certificate TextAfterEnd) (no_certificate TextAfterEnd) h g = refl
  entries_one place (no_certificate NoHeader) p h g = absurd (no_header_behind place h)
  entries_one place o (no_certificate NoHeader) h g = absurd (no_header_behind place g)

-- ---- with the header

module _ (one : OneOutcome) (reading : OneReading) (bytes : List ℕ) where
  abbrev Headed : ℕ → CertificateOutcome → Type 0
  Headed place o = (version : Version) × (mid : ℕ) × Spells bytes place (header_sexpr version) mid × ReadsEntries version bytes mid o

  lacks_not_headed : (place : ℕ) (o : CertificateOutcome) → LacksHeader bytes place → Headed place o → ⊥
  lacks_not_headed place o (p, after, outcome, other) (version, mid, h, rest) =
      other version (one bytes place p (expression (header_sexpr version)) after mid outcome h).0

  headed_one : (place : ℕ) (o p : CertificateOutcome) → Headed place o → Headed place p → o ≡ p
  headed_one place o p (v, mid, h, rest) (w, next, g, others) =
      let same = one bytes place (expression (header_sexpr w)) (expression (header_sexpr v)) next mid g h in
      let version : w ≡ v = header_one w v (expression_same (header_sexpr w) (header_sexpr v) same.0) in
      let here : ReadsEntries w bytes mid p = subst (λ (k : ℕ). ReadsEntries w bytes k p) same.1 others in
      entries_one one reading v bytes mid o p rest (subst (λ (u : Version). ReadsEntries u bytes mid p) version here)

  -- either there is no header, or what follows it
  cases : (place : ℕ) (o : CertificateOutcome) → ReadsCertificate bytes place o → (LacksHeader bytes place × (o ≡ no_certificate NoHeader)) ⊎ Headed place o
  cases place (certificate of es) h = inr h
  cases place (no_certificate NoHeader) h = inl (h, refl)
  cases place (no_certificate (IllFormed k)) h = inr h
  cases place (no_certificate NoEnd) h = inr h
  cases place (no_certificate TextAfterEnd) h = inr h

  certificate_same : (place : ℕ) (o p : CertificateOutcome) → ReadsCertificate bytes place o → ReadsCertificate bytes place p → o ≡ p
  certificate_same place o p h g = elim (cases place o h) [
    | inl lacks ↦ elim (cases place p g) [
      | inl also ↦ lacks.1 ∙ sym also.1
      | inr headed ↦ absurd (lacks_not_headed place p lacks.0 headed)
    ]
    | inr headed ↦ elim (cases place p g) [
      | inl lacks ↦ absurd (lacks_not_headed place o lacks.0 headed)
      | inr also ↦ headed_one place o p headed also
    ]
  ]

pub certificate_one : OneOutcome → OneReading → OneCertificate
certificate_one one reading bytes place o p h g = certificate_same one reading bytes place o p h g

pub one_behind : OneOutcome → OneReading → OneRest
one_behind one reading version bytes place o p h g = entries_one one reading version bytes place o p h g
