-- What the text of FullKeepCnt says in a query.
--     counts_of      one to sixteen numbers of at most 1,000, with a comma between each two
use Rattle.std.specs.Prelude.{ℕ, ◌==◌, List, Option, option_and_then}
use Rattle.std.specs.List.{slice_split}
use Rattle.http_query.specs.Numbers.{number_of}
use Rattle.backup_rules.specs.Ranges.{if_keep_counts}
use Rattle.rule_texts.specs.Periods.{each_of}

unfoldable pub counts_of : List ℕ → Option (List ℕ)
counts_of text = option_and_then if_keep_counts (each_of (number_of 1000) (slice_split (λ byte. byte == 44) text))
