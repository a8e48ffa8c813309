-- One block more, and all of them.
use Rattle.std.proofs.Common.{◌≡◌, ℕ, ◌≤◌, List, length, sym, subst, ◌∙◌, arith, rules}
use Rattle.certificates.specs.PrintLaws.{AreRising}
use Rattle.certificate_judge.specs.Faults.{occurrences}
use Rattle.certificate_judge.specs.Judging.{ids_in}
use Rattle.certificate_judge.proofs.Parts.{occurrences-bound}
use Rattle.certificate_judge.proofs.Blocks.{NotingItems, noting_no_items, note_block, noted_items}
use Rattle.certificate_judge.proofs.judging.note_counts.Goals as goal

pub loop-left-init : goal.loop-left-init
loop-left-init c = λ offsets part is fits below small before.
    noting_no_items part offsets c.args.at c.args.host.now.items.now c.args.tally fits is.items before

pub loop-left-preserved : goal.loop-left-preserved
loop-left-preserved c = λ offsets part is fits below small before.
    let within : c.min.result ≤ length c.loop-left.left.now = omega (arith, c.min.ensures) in
    subst (λ (records : List (List ℕ)). NotingItems part offsets c.args.at records c.saturating_add-here.result c.note_items-now.result) (sym c.split_at.ensures.back)
    (note_block part offsets c.args.at c.loop-left.left.now c.loop-left.here c.min.result c.loop-left.now c.saturating_add-here.result c.note_items-now.result within below
    (λ room. omega (arith, c.saturating_add-here.ensures, c.split_at.ensures.front_len, room))
    (c.loop-left.invariant offsets part is fits below small before)
    (λ os items rising eq each room now.
    c.note_items-now.ensures os items (occurrences part) (c.split_at.ensures.front ∙ eq) each
    (c.count_host.ensures.counted part is fits (subst (λ (records : List (List ℕ)). AreRising (ids_in records)) (sym c.split_at.ensures.front) rising))
    (occurrences-bound part fits small) room now))

pub returns : goal.returns
returns c = λ offsets part is fits below small before.
    let none : length c.loop-left.left.now ≡ 0 = search (rules, c.loop-left-test.ensures, c.is_empty.ensures) in
    noted_items part offsets c.args.at c.loop-left.left.now c.loop-left.here c.loop-left.now none (c.loop-left.invariant offsets part is fits below small before)
