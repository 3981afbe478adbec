use Rattle.std.proofs.Common.{arith, ◌≡◌, ◌++◌, ◌-◌, ◌∙◌, ap, List, ℕ, length, take, drop, vec_len}
use Rattle.std.proofs.lemmas.List.{take_rest}
use Rattle.dtp_gen.specs.Scripts.{script}
use Rattle.cert_text.specs.declared.entry.Version.TheVariants.{One}
use Rattle.cert_text.specs.Form.{header_sexpr, line_of}
use Rattle.dtp_entry.specs.declared.report.Report.TheVariants.{Certificate}
use Rattle.dtp_bench.specs.Benches.{plan_of}
use Rattle.dtp_bench.proofs.FirstLine.{is_sat_there, is_unsat_there}
use Rattle.dtp_bench.proofs.certified.verdict_in.Goals as goal

pub returns-then-starts_with : goal.returns-then-starts_with
returns-then-starts_with c =
    let certificate = c.args.certificate.now in
    let header : c.write_header.new.out.items ≡ line_of (header_sexpr One) = c.in_ok-write_header.ensures.ok ∙ ap (λ (bytes : List ℕ). bytes ++ line_of (header_sexpr One)) c.new-header.ensures.items in
    let size : vec_len c.write_header.new.out ≡ length c.write_header.new.out.items = omega arith in
    let line : take (length certificate - c.len.result) (drop c.len.result certificate) ≡ drop (length c.write_header.new.out.items) certificate =
    take_rest certificate c.len.result ∙ ap (λ (n : ℕ). drop n certificate) (c.len.ensures ∙ size) in
    is_unsat_there (script (plan_of c.args.plan)) certificate (c.plan_law.ensures.ends (Certificate One)) c.requires c.write_header.new.out.items _ header line c.starts_with.result c.starts_with.ensures.value c.if-starts_with.true

pub returns : goal.returns
returns c =
    let certificate = c.args.certificate.now in
    let header : c.write_header.new.out.items ≡ line_of (header_sexpr One) = c.in_ok-write_header.ensures.ok ∙ ap (λ (bytes : List ℕ). bytes ++ line_of (header_sexpr One)) c.new-header.ensures.items in
    let size : vec_len c.write_header.new.out ≡ length c.write_header.new.out.items = omega arith in
    let line : take (length certificate - c.len.result) (drop c.len.result certificate) ≡ drop (length c.write_header.new.out.items) certificate =
    take_rest certificate c.len.result ∙ ap (λ (n : ℕ). drop n certificate) (c.len.ensures ∙ size) in
    is_sat_there (script (plan_of c.args.plan)) certificate (c.plan_law.ensures.ends (Certificate One)) c.requires c.write_header.new.out.items _ header line c.starts_with.result c.starts_with.ensures.value c.if-starts_with.false
