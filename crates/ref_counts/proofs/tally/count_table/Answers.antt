-- One table, counted from nothing.
use Rattle.std.proofs.Common.{◌≡◌, ◌+◌, ℕ, [], ap, ◌∙◌, arith}
use Rattle.stored_trees.specs.Occurrences.{occurrences}
use Rattle.ref_counts.specs.Numbers.{Items, number, capped}
use Rattle.ref_counts.proofs.tally.count_table.Goals as goal

pub returns : goal.returns
returns c = λ id.
    let all : 0 + occurrences id c.args.table.now ≡ occurrences id c.args.table.now = omega arith in
    ap (λ (items : Items). number items id) c.in_ok-counts.ensures
    ∙ c.in_ok-count.ensures id 0 (ap (λ (items : Items). number items id) c.new-tally.ensures) ∙ ap capped all
