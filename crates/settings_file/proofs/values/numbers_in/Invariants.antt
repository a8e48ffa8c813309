-- What the values that are left say stands behind the numbers so far.
use Rattle.std.proofs.Common.{◌≡◌, ℕ, ◌++◌, List, drop}
use Rattle.std.specs.Prelude.{option_map}
use Rattle.toml.specs.View.{items_view}
use Rattle.settings_file.specs.Values.{numbers_in}
use Rattle.settings_file.proofs.values.numbers_in.Given as goal

abbrev pub invariant-loop-value : goal.invariant-loop-value
invariant-loop-value l =
    numbers_in 0 l.most (items_view l.values)
    ≡ option_map (λ (others : List ℕ). l.numbers.items ++ others) (numbers_in 0 l.most (items_view (drop l.value-index l.values)))
