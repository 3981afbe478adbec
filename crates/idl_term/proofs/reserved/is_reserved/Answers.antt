use Rattle.std.proofs.Common.{arith, ◌≡◌, length, false}
use Rattle.std.specs.Prelude.{◌==◌}
use Rattle.std.proofs.lemmas.Bool.Decides.{nat_tests}
use Rattle.idl_term.proofs.ReservedWords.{reserved_of_length, reserved_of_no_length}
use Rattle.idl_term.proofs.reserved.is_reserved.Goals as goal

pub returns-then-len-eq1 : goal.returns-then-len-eq1
returns-then-len-eq1 c =
    let count : length c.args.name.now ≡ 1 = grind (arith, nat_tests) in
    reserved_of_length c.args.name.now 1 c.is_word_of_one.result count c.is_word_of_one.ensures

pub returns-then-len-eq2 : goal.returns-then-len-eq2
returns-then-len-eq2 c =
    let count : length c.args.name.now ≡ 2 = grind (arith, nat_tests) in
    reserved_of_length c.args.name.now 2 c.is_word_of_two.result count c.is_word_of_two.ensures

pub returns-then-len-eq3 : goal.returns-then-len-eq3
returns-then-len-eq3 c =
    let count : length c.args.name.now ≡ 3 = grind (arith, nat_tests) in
    reserved_of_length c.args.name.now 3 c.is_word_of_three.result count c.is_word_of_three.ensures

pub returns-then-len-eq4 : goal.returns-then-len-eq4
returns-then-len-eq4 c =
    let count : length c.args.name.now ≡ 4 = grind (arith, nat_tests) in
    reserved_of_length c.args.name.now 4 c.is_word_of_four.result count c.is_word_of_four.ensures

pub returns-then-len-eq5 : goal.returns-then-len-eq5
returns-then-len-eq5 c =
    let count : length c.args.name.now ≡ 5 = grind (arith, nat_tests) in
    reserved_of_length c.args.name.now 5 c.is_word_of_five.result count c.is_word_of_five.ensures

pub returns-then-len-eq6 : goal.returns-then-len-eq6
returns-then-len-eq6 c =
    let count : length c.args.name.now ≡ 6 = grind (arith, nat_tests) in
    reserved_of_length c.args.name.now 6 c.is_word_of_six.result count c.is_word_of_six.ensures

pub returns-then-len-eq8 : goal.returns-then-len-eq8
returns-then-len-eq8 c =
    let count : length c.args.name.now ≡ 8 = grind (arith, nat_tests) in
    reserved_of_length c.args.name.now 8 c.is_word_of_eight.result count c.is_word_of_eight.ensures

pub returns-else-len-eq8 : goal.returns-else-len-eq8
returns-else-len-eq8 c =
    let h1 : (1 == length c.args.name.now) ≡ false = grind (arith, nat_tests) in
    let h2 : (2 == length c.args.name.now) ≡ false = grind (arith, nat_tests) in
    let h3 : (3 == length c.args.name.now) ≡ false = grind (arith, nat_tests) in
    let h4 : (4 == length c.args.name.now) ≡ false = grind (arith, nat_tests) in
    let h5 : (5 == length c.args.name.now) ≡ false = grind (arith, nat_tests) in
    let h6 : (6 == length c.args.name.now) ≡ false = grind (arith, nat_tests) in
    let h8 : (8 == length c.args.name.now) ≡ false = grind (arith, nat_tests) in
    reserved_of_no_length c.args.name.now h1 h2 h3 h4 h5 h6 h8
