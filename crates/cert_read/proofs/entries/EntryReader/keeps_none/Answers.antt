use Rattle.std.proofs.Common.{sym, ap, subst, ◌∙◌, ◌≡◌, ℕ, List, true, false}
use Rattle.std.specs.Prelude.{codes, not}
use Rattle.bstr.specs.Text.{Contains}
use Rattle.cert_read.specs.code.Entries.{EntriesFrom}
use Rattle.cert_read.proofs.KeepsNone.{first_keeps_none, wordless_keeps_none}
use Rattle.cert_read.proofs.entries.EntryReader.keeps_none.Goals as goal

pub returns-in-One : goal.returns-in-One
returns-in-One c = λ t.
    let first = sym (ap (λ (e : EntriesFrom). e.version) c.self.view_is) ∙ c.in-One.is in
    first_keeps_none c.args.self.now.bytes c.args.self.now.version first c.args.self.now.place

pub returns-in-Two : goal.returns-in-Two
returns-in-Two c = λ t.
    let bytes : c.bytes.result.now ≡ c.args.self.now.bytes = c.bytes.ensures ∙ ap (λ (e : EntriesFrom). e.bytes) c.self.view_is in
    let apart : Contains c.bytes.result.now (codes "keep") → ⊥ = λ h. (let found : c.contains_str.result ≡ true = c.contains_str.ensures.1 h in let both : false ≡ true = sym (ap not found) ∙ t in cc) in
    wordless_keeps_none c.args.self.now.bytes (subst (λ (b : List ℕ). Contains b (codes "keep") → ⊥) bytes apart) c.args.self.now.version c.args.self.now.place
