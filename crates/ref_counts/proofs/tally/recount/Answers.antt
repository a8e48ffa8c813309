-- What is counted of a host names an id exactly if the tree of a backup or of the partial does.
use Rattle.std.proofs.Common.{◌<◌, ℕ, List, sym, subst}
use Rattle.merge_view.specs.Views.{Rows}
use Rattle.ref_counts.specs.Numbers.{total}
use Rattle.ref_counts.specs.NumberLaws.{capped-some, some-capped}
use Rattle.ref_counts.specs.StoredLaws.{named_in_from_total, total_from_named_in}
use Rattle.ref_counts.proofs.tally.recount.Goals as goal

pub returns-clause-bridge : goal.returns-clause-bridge
returns-clause-bridge c = λ host whole is id. (
  λ n. named_in_from_total id host whole (subst (λ (tables : List Rows). 0 < total id tables) is
      (some-capped (total id c.args.tables.now) (subst (λ (m : ℕ). 0 < m) (c.in_ok-counts.ensures id) n))),
  λ w. subst (λ (m : ℕ). 0 < m) (sym (c.in_ok-counts.ensures id))
      (capped-some (total id c.args.tables.now) (subst (λ (tables : List Rows). 0 < total id tables) (sym is) (total_from_named_in id host whole w))),
)
