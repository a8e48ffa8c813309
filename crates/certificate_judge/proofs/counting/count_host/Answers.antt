-- From zeros, the tables and then the partial.
use Rattle.std.proofs.Common.{ℕ, ◌+◌, ◌≤◌, List, [], length, take, rules, sym, subst, arith}
use Rattle.std.proofs.lemmas.List.{length-map}
use Rattle.certificates.specs.Certificate.{Id}
use Rattle.certificates.specs.SizeLaws.{all_fit}
use Rattle.certificates.specs.PrintLaws.{host_fits}
use Rattle.certificate_judge.specs.Faults.{number_of, number_in}
use Rattle.certificate_judge.specs.Judging.{AreNumbers, ids_in}
use Rattle.certificate_judge.proofs.Numbers.{numbers_alike, zeros}
use Rattle.certificate_judge.proofs.counting.count_host.Goals as goal

pub returns-clause-counted : goal.returns-clause-counted
returns-clause-counted c = λ part is fits rising.
    let enough : length (ids_in c.args.block.now) ≤ length c.args.counters.now = omega (arith, c.requires, length-map c.args.block.now (λ (r : List ℕ). take 18 r)) in
    let cleared : AreNumbers (λ _. 0) (ids_in c.args.block.now) c.fill.new.self =
    subst (AreNumbers (λ _. 0) (ids_in c.args.block.now)) (sym (c.fill.ensures.after (λ y e. search rules))) (zeros (ids_in c.args.block.now) (length c.args.counters.now) enough) in
    let tables = c.count_tables.ensures.counted (λ _. 0) part.tables is.tables (all_fit _ _ _ [] part.tables (host_fits part fits).tables) rising cleared in
    let all = c.count_ids.ensures.counted (λ id. 0 + number_in id part.tables) rising tables in
    subst (λ (xs : List Id). AreNumbers (λ id. number_in id part.tables + number_of id xs) (ids_in c.args.block.now) c.count_ids.new.counters) is.partial
    (numbers_alike _ (λ id. number_in id part.tables + number_of id c.args.host.now.partial.now) (λ id. omega arith) (ids_in c.args.block.now) c.count_ids.new.counters all)
