use Rattle.std.proofs.Common.{rules, ◌≡◌, ◌∙◌, sym, ap, subst, ◌^◌, List, Some, None}
use Rattle.std.specs.Prelude.{All, option_map}
use Rattle.refute_tree.specs.declared.lemma.Lemma.{Lemma}
use Rattle.refute_tree.specs.Trees.{IsRefutation}
use Rattle.cert_text.specs.declared.entry.Version.TheVariants.{One}
use Rattle.cert_text.specs.Limits.{LemmaWithin}
use Rattle.kept_lemmas.specs.declared.item.Item.{Item}
use Rattle.kept_lemmas.specs.Entries.{shelf_of}
use Rattle.cert_check.specs.declared.flaw.CheckError.{CheckError}
use Rattle.cert_check.specs.declared.flaw.Flaw.{Flaw}
use Rattle.dtp_check.specs.declared.judgement.EntryFlaw.TheVariants.{Flawed}
use Rattle.lemma_shelf.specs.ItemFlaws.{items_flaw}
use Rattle.lemma_shelf.specs.Lowering.{StandFor}
use Rattle.dtp_check.specs.code.Earlier.{RefusesBy}
use Rattle.dtp_convert.proofs.lemmas.shown_lemmas.Goals as goal

pub returns-in-Err-Refused-clause-shown : goal.returns-in-Err-Refused-clause-shown
returns-in-Err-Refused-clause-shown c = λ before held.
    let problem = c.args.problem.now in
    let flaw = items_flaw (shelf_of before) problem.points problem.clauses c.as_slice.result.now in
    let told : flaw ≡ Some c.in-Err-Refused.flaw = subst (λ (error : CheckError). RefusesBy flaw error) c.in-Err-Refused.field-0-is (c.in-Err-Refused.ensures.flaw before held) in
    let found = subst (λ (items : List Item). items_flaw (shelf_of before) problem.points problem.clauses items ≡ Some c.in-Err-Refused.flaw) c.as_slice.ensures told in
    ap (option_map Flawed) found ∙ ap (λ (f : Flaw). Some (Flawed f)) (sym c.in-Err-Refused.flaw-is)

pub returns-clause-shown : goal.returns-clause-shown
returns-clause-shown c = λ before held.
    let problem = c.args.problem.now in
    let longer = c.lengths_law.ensures.lengthened problem.points problem.clauses c.in-Ok.refutation c.in-Ok.ensures.refutes in (
      subst (λ (items : List Item). items_flaw (shelf_of before) problem.points problem.clauses items ≡ None) c.as_slice.ensures (c.in-Ok.ensures.right (search rules) before held),
      record {
        refutes = subst (λ (lemmas : List Lemma). IsRefutation problem.points problem.clauses lemmas) (sym c.in_ok-shown.ensures) longer;
        within = subst (λ (lemmas : List Lemma). All (LemmaWithin One (2 ^ 32)) lemmas) c.as_slice-2.ensures (c.are_within.ensures (search rules));
        stay = (
          c.in-Ok.refutation,
          c.in_ok-shown.ensures,
          subst (λ (items : List Item). StandFor before (record { points = problem.points; clauses = problem.clauses; items = items }) c.in-Ok.refutation) c.as_slice.ensures (c.in-Ok.ensures.stand before held),
        );
      },
    )
