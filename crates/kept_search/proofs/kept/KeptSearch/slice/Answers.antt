use Rattle.std.proofs.Common.{rules, ◌≡◌, ◌++◌, ◌<◌, ◌≤◌, ◌+◌, ℕ, List, length, map, All, sym, subst, arith}
use Rattle.refute_tree.specs.declared.lemma.Lemma.{Lemma}
use Rattle.refute_tree.specs.Trees.{stated}
use Rattle.conflict_analysis.specs.Proved.{IsClauseOver}
use Rattle.branch_search.specs.declared.answer.Slice.TheVariants.{Model, Refuted, Split}
use Rattle.branch_search.specs.Slices.{question_of, IsSlice}
use Rattle.kept_search.specs.Searches.{Searched}
use Rattle.kept_search.specs.Kept.{IsNext}
use Rattle.kept_search.specs.declared.reply.Reply.TheVariants.{Open}
use Rattle.kept_search.proofs.Keeping.{clauses_over, answered, own_number, behind, next_model, next_open, next_split, next_denied}
use Rattle.kept_search.proofs.kept.KeptSearch.slice.Goals as goal

pub slice-requires-clause-lemmas : goal.slice-requires-clause-lemmas
slice-requires-clause-lemmas c =
    let same : c.as_slice-handed.result.now ≡ c.args.self.now.lemmas = search rules in
    subst (λ (ls : List Lemma). All (IsClauseOver c.args.problem.now.points) (map stated ls)) (sym same) (clauses_over c.args.problem.now c.args.self.now c.requires.of)

pub returns-then-all_hold : goal.returns-then-all_hold
returns-then-all_hold c =
    let same : c.as_slice-handed.result.now ≡ c.args.self.now.lemmas = search rules in
    let is = answered c.args.problem.now c.args.cube.now c.args.self.now c.as_slice-handed.result.now (Model c.in-Model.schedule c.in-Model.batch) c.in_ok-found.found same c.in-Model.is c.in_ok-found.ensures.answer in
    let points : c.keep.new.self.points ≡ c.args.self.now.points = search rules in
    let lemmas : c.keep.new.self.lemmas ≡ c.args.self.now.lemmas ++ c.in-Model.batch.lemmas = search rules in
    next_model c.joined_law.ensures c.args.problem.now c.args.cube.now c.args.self.now c.keep.new.self c.in-Model.batch c.requires.of points lemmas c.in-Model.schedule is (search rules)

pub returns-else-all_hold : goal.returns-else-all_hold
returns-else-all_hold c =
    let same : c.as_slice-handed.result.now ≡ c.args.self.now.lemmas = search rules in
    let is = answered c.args.problem.now c.args.cube.now c.args.self.now c.as_slice-handed.result.now (Model c.in-Model.schedule c.in-Model.batch) c.in_ok-found.found same c.in-Model.is c.in_ok-found.ensures.answer in
    let points : c.keep.new.self.points ≡ c.args.self.now.points = search rules in
    let lemmas : c.keep.new.self.lemmas ≡ c.args.self.now.lemmas ++ c.in-Model.batch.lemmas = search rules in
    next_open c.joined_law.ensures c.args.problem.now c.args.cube.now c.args.self.now c.keep.new.self c.in-Model.batch c.requires.of points lemmas c.in-Model.schedule is

pub number_of-requires-clause-own : goal.number_of-requires-clause-own
number_of-requires-clause-own c =
    let lemmas : c.keep-in-Refuted.new.self.lemmas ≡ c.args.self.now.lemmas ++ c.in-Refuted.batch.lemmas = search rules in
    let count : c.len.result ≡ length c.keep-in-Refuted.new.self.lemmas = search rules in
    let own : length c.lemmas-own.result.now ≡ length c.in-Refuted.batch.lemmas = search rules in
    behind c.args.self.now.lemmas c.keep-in-Refuted.new.self.lemmas c.in-Refuted.batch.lemmas c.len.result (length c.lemmas-own.result.now) lemmas count own

pub number_of-requires-clause-j : goal.number_of-requires-clause-j
number_of-requires-clause-j c =
    let same : c.as_slice-handed.result.now ≡ c.args.self.now.lemmas = search rules in
    let is = answered c.args.problem.now c.args.cube.now c.args.self.now c.as_slice-handed.result.now (Refuted c.in-Refuted.batch c.in-Refuted.j) c.in_ok-found.found same c.in-Refuted.is c.in_ok-found.ensures.answer in
    let own : length c.lemmas-own.result.now ≡ length c.in-Refuted.batch.lemmas = search rules in
    subst (λ (n : ℕ). c.in-Refuted.j < n) (sym own) (own_number c.args.problem.now c.args.cube.now c.args.self.now c.in-Refuted.batch c.in-Refuted.j is)

pub returns-in_ok-keep-in-Refuted : goal.returns-in_ok-keep-in-Refuted
returns-in_ok-keep-in-Refuted c =
    let same : c.as_slice-handed.result.now ≡ c.args.self.now.lemmas = search rules in
    let is = answered c.args.problem.now c.args.cube.now c.args.self.now c.as_slice-handed.result.now (Refuted c.in-Refuted.batch c.in-Refuted.j) c.in_ok-found.found same c.in-Refuted.is c.in_ok-found.ensures.answer in
    let points : c.keep-in-Refuted.new.self.points ≡ c.args.self.now.points = search rules in
    let lemmas : c.keep-in-Refuted.new.self.lemmas ≡ c.args.self.now.lemmas ++ c.in-Refuted.batch.lemmas = search rules in
    let count : c.len.result ≡ length c.keep-in-Refuted.new.self.lemmas = search rules in
    let own : length c.lemmas-own.result.now ≡ length c.in-Refuted.batch.lemmas = search rules in
    next_denied c.joined_law.ensures c.args.problem.now c.args.cube.now c.args.self.now c.keep-in-Refuted.new.self c.in-Refuted.batch c.requires.of points lemmas
    (λ values l h n. (c.negation_law.ensures.exact values l).0 n h) c.in-Refuted.j c.len.result (length c.lemmas-own.result.now) c.number_of.result is count own c.number_of.ensures

pub returns-in_ok-keep-in-Split : goal.returns-in_ok-keep-in-Split
returns-in_ok-keep-in-Split c =
    let same : c.as_slice-handed.result.now ≡ c.args.self.now.lemmas = search rules in
    let is = answered c.args.problem.now c.args.cube.now c.args.self.now c.as_slice-handed.result.now (Split c.in-Split.field-0 c.in-Split.batch) c.in_ok-found.found same c.in-Split.is c.in_ok-found.ensures.answer in
    let points : c.keep-in-Split.new.self.points ≡ c.args.self.now.points = search rules in
    let lemmas : c.keep-in-Split.new.self.lemmas ≡ c.args.self.now.lemmas ++ c.in-Split.batch.lemmas = search rules in
    subst (λ (s : Searched). IsNext c.args.problem.now c.args.cube.now s Open) (sym c.self-in-Split.view_is)
    (next_split c.joined_law.ensures c.args.problem.now c.args.cube.now c.args.self.now c.keep-in-Split.new.self c.in-Split.batch c.requires.of points lemmas c.in-Split.field-0 is)
