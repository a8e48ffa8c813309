-- The counts of a host with another partial, or with none.
--     rows_of      the rows of a partial's file
--     counts_then      they are those of what is stored of it then
use Rattle.std.specs.Prelude.{◌≡◌, ℕ, ◌+◌, ◌-◌, ◌^◌, ◌≤◌, ◌<◌, length, Option, Some, None, IfSome}
use Rattle.std.specs.Option.{option_map}
use Rattle.std.proofs.Common.{sym, ap, ◌∙◌, arith}
use Rattle.disk_trait.specs.declared.ids.PoolId.{PoolId}
use Rattle.merge_view.specs.Views.{Rows}
use Rattle.stored_trees.specs.Occurrences.{occurrences}
use Rattle.partial_files.specs.declared.partial.PartialFile.{PartialFile}
use Rattle.ref_counts.specs.Numbers.{Items, number, total, capped}
use Rattle.ref_counts.specs.NumberLaws.{capped-few}
use Rattle.ref_counts.specs.Stored.{StoredHost, stored, of_partial}
use Rattle.ref_counts.specs.StoredLaws.{total-counted}
use Rattle.office_changes.specs.BoundLaws.{few_occurrences}
use Rattle.store_parts.specs.Held.{AreCounts}
use Rattle.store_partials.specs.Parked.{number_without, number_with, number_then}

abbrev pub rows_of : Option PartialFile → Option Rows
rows_of parked = option_map (λ partial. partial.rows) parked

-- no more rows than a partial's file has
abbrev pub AreFew : Rows → Type 0
AreFew rows = length rows < 4294967296

-- rows name a content so rarely that the number is held as it is
held : (id : PoolId) (rows : Rows) → AreFew rows → capped (occurrences id rows) ≡ occurrences id rows
held id rows few = let size = few_occurrences id rows in capped-few (occurrences id rows) (omega (arith, size, few))

less : (n b o : ℕ) → n ≡ b + (o + 0) → n - o ≡ b
less n b o e = omega (arith, e)

without_is : (id : PoolId) (n b : ℕ) (parked : Option PartialFile) → n ≡ b + total id (of_partial (rows_of parked)) → IfSome (rows_of parked) AreFew
    → number_without n parked id ≡ b
without_is id n b None e few = omega (arith, e)
without_is id n b (Some partial) e few =
    ap (λ m. n - m) (held id partial.rows few) ∙ less n b (occurrences id partial.rows) e

more : (b o : ℕ) → b + 4294967296 < 2 ^ 64 → o ≤ 4294967296 → capped (b + o) ≡ b + (o + 0)
more b o room few = let all = capped-few (b + o) (omega (arith, room, few)) in omega (arith, all)

with_is : (id : PoolId) (b : ℕ) (rows : Option Rows) → b + 4294967296 < 2 ^ 64 → IfSome rows AreFew
    → number_with b rows id ≡ b + total id (of_partial rows)
with_is id b None room few = omega arith
with_is id b (Some rows) room few =
    let size = few_occurrences id rows in
    ap (λ m. capped (b + m)) (held id rows few) ∙ more b (occurrences id rows) room (omega (arith, size, few))

-- the rows of the old partial are few, and so are the new ones; and there is room beside the tables of the backups
pub counts_then : (items olds : Items) (parked : Option PartialFile) (rows : Option Rows) (of : StoredHost)
    → ((id : PoolId) → number items id ≡ number_then (number olds id) parked rows id) → AreCounts olds of → of.partial ≡ rows_of parked
    → IfSome (rows_of parked) AreFew → IfSome rows AreFew → ((id : PoolId) → total id (stored of.backups) + 4294967296 < 2 ^ 64)
    → AreCounts items (record of { partial = rows })
counts_then items olds parked rows of each before same few_old few_new room = λ id.
    each id
    ∙ ap (λ n. number_with n rows id) (without_is id (number olds id) (total id (stored of.backups)) parked
    (before id ∙ total-counted id of ∙ ap (λ (p : Option Rows). total id (stored of.backups) + total id (of_partial p)) same) few_old)
    ∙ with_is id (total id (stored of.backups)) rows (room id) few_new
    ∙ sym (total-counted id (record of { partial = rows }))
