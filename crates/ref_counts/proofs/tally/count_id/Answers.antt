-- The number that is put is one more.
use Rattle.std.proofs.Common.{◌≡◌, ◌+◌, ◌<◌, ℕ, Bool, true, false, refl, ap, ◌∙◌, if◌then◌else◌, arith}
use Rattle.std.specs.Option.{unwrap_or}
use Rattle.std.specs.Map.{lookup}
use Rattle.std.specs.BTreeMap.{insert_entry, is_at}
use Rattle.disk_trait.specs.declared.ids.PoolId.{PoolId}
use Rattle.ordered_lists.specs.OrderLaws.{lookup-find, insert_entry-put}
use Rattle.attr_tables.specs.Records.{is_same_id}
use Rattle.attr_tables.specs.RecordLaws.{same_id}
use Rattle.pool_index.specs.Items.{id_cmp}
use Rattle.ref_counts.specs.Numbers.{Items, AreSome, number, capped}
use Rattle.ref_counts.specs.NumberLaws.{number-put, AreSome-put, capped-more}
use Rattle.ref_counts.proofs.tally.count_id.Goals as goal

counted : (k : PoolId) (before : ℕ) (entries after : Items) → before ≡ unwrap_or (lookup (is_at (id_cmp k)) entries) 0
    → after ≡ insert_entry id_cmp entries k (capped (before + 1)) → (other : PoolId) (n : ℕ) → number entries other ≡ capped n
    → number after other ≡ capped (n + (if is_same_id k other then 1 else 0))
counted k before entries after b e other n is =
    ap (λ es. number es other) (e ∙ insert_entry-put id_cmp k (capped (before + 1)) entries)
    ∙ number-put k (capped (before + 1)) entries other ∙ step (is_same_id k other) refl
  where
    had : before ≡ number entries k
    had = b ∙ ap (λ o. unwrap_or o 0) (lookup-find id_cmp k entries)

    nothing_more : n ≡ n + 0
    nothing_more = omega arith

    step : (t : Bool) → is_same_id k other ≡ t → (if t then capped (before + 1) else number entries other) ≡ capped (n + (if t then 1 else 0))
    step true same = capped-more before n (had ∙ ap (number entries) (same_id k other same) ∙ is)
    step false apart = is ∙ ap capped nothing_more

some_more : (n : ℕ) → 0 < capped (n + 1)
some_more n = omega arith

some : (k : PoolId) (before : ℕ) (entries after : Items) → after ≡ insert_entry id_cmp entries k (capped (before + 1)) → AreSome entries → AreSome after
some k before entries after e h =
    rw (e ∙ insert_entry-put id_cmp k (capped (before + 1)) entries) (AreSome-put k (capped (before + 1)) entries (some_more before) h)

pub returns-clause-number : goal.returns-clause-number
returns-clause-number c =
    counted c.args.id c.unwrap_or-before.result c.args.numbers.now.entries c.insert.new.self.entries
    (c.unwrap_or-before.ensures ∙ ap (λ o. unwrap_or o 0) (c.copied.ensures ∙ c.get.ensures.value))
    (c.in_ok-insert.ensures.entries ∙ ap (insert_entry id_cmp c.args.numbers.now.entries c.args.id) c.saturating_add.ensures)

pub returns-clause-some : goal.returns-clause-some
returns-clause-some c =
    some c.args.id c.unwrap_or-before.result c.args.numbers.now.entries c.insert.new.self.entries
    (c.in_ok-insert.ensures.entries ∙ ap (insert_entry id_cmp c.args.numbers.now.entries c.args.id) c.saturating_add.ensures)
