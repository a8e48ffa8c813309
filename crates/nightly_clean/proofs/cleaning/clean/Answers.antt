use Rattle.std.proofs.Common.{List, length, subst, sym, ap, ◌∙◌}
use Rattle.disk_trait.specs.declared.ids.PoolId.{PoolId}
use Rattle.pool_changes.specs.Kept.{slots_of}
use Rattle.pool_changes.specs.Indexed.{AreLive, AreUnclaimed}
use Rattle.pool_fate.specs.declared.fate.Fate.TheVariants.{Gains, Loses, Leaves}
use Rattle.nightly_clean.specs.Cleanings.{is_protected, wanted_ids}
use Rattle.nightly_clean.specs.CleaningLaws.{live_wanted, unclaimed_wanted, cleaning_after}
use Rattle.nightly_clean.proofs.cleaning.clean.Goals as goal

pub propose-requires-clause-marked : goal.propose-requires-clause-marked
propose-requires-clause-marked g c =
    let gained = c.in_ok-gained.ensures ∙ ap (wanted_ids Gains (is_protected c.args.counts.now)) c.as_slice.ensures in
    subst (λ (ids : List PoolId). AreLive (slots_of c.args.pool.now.names) ids) (sym (c.as_slice-4.ensures.value ∙ gained))
    (live_wanted (slots_of c.args.pool.now.names) c.args.counts.now c.args.bucket Gains c.in_ok-items.items c.in_ok-items.ensures)

pub propose-requires-clause-unmarked : goal.propose-requires-clause-unmarked
propose-requires-clause-unmarked g c =
    let lost = c.in_ok-lost.ensures ∙ ap (wanted_ids Loses (is_protected c.args.counts.now)) c.as_slice-2.ensures in
    subst (λ (ids : List PoolId). AreLive (slots_of c.args.pool.now.names) ids) (sym (c.as_slice-5.ensures.value ∙ lost))
    (live_wanted (slots_of c.args.pool.now.names) c.args.counts.now c.args.bucket Loses c.in_ok-items.items c.in_ok-items.ensures)

pub propose-requires-clause-removed : goal.propose-requires-clause-removed
propose-requires-clause-removed g c =
    let left = c.in_ok-left.ensures ∙ ap (wanted_ids Leaves (is_protected c.args.counts.now)) c.as_slice-3.ensures in
    subst (λ (ids : List PoolId). AreUnclaimed (slots_of c.args.pool.now.names) ids) (sym (c.as_slice-6.ensures.value ∙ left))
    (unclaimed_wanted (slots_of c.args.pool.now.names) c.args.counts.now c.args.bucket c.in_ok-items.items c.in_ok-items.ensures)

pub returns-clause-cleaned : goal.returns-clause-cleaned
returns-clause-cleaned g c =
    let gained = c.in_ok-gained.ensures ∙ ap (wanted_ids Gains (is_protected c.args.counts.now)) c.as_slice.ensures in
    let lost = c.in_ok-lost.ensures ∙ ap (wanted_ids Loses (is_protected c.args.counts.now)) c.as_slice-2.ensures in
    let left = c.in_ok-left.ensures ∙ ap (wanted_ids Leaves (is_protected c.args.counts.now)) c.as_slice-3.ensures in
    let of = c.in_ok-change.ensures.of in
    record {
      each = cleaning_after (slots_of c.args.pool.now.names) c.args.counts.now c.args.bucket c.in_ok-items.items c.in_ok-change.change c.in_ok-items.ensures
          (record {
            added_are = of.added_are;
            marked_are = of.marked_are ∙ c.as_slice-4.ensures.value ∙ gained;
            unmarked_are = of.unmarked_are ∙ c.as_slice-5.ensures.value ∙ lost;
            removed_are = of.removed_are ∙ c.as_slice-6.ensures.value ∙ left;
          });
      items = c.in_ok-items.items;
      of_bucket = c.in_ok-items.ensures;
      marked = c.count-marked.ensures ∙ ap length (c.as_slice-7.ensures.value ∙ gained);
      unmarked = c.count-unmarked.ensures ∙ ap length (c.as_slice-8.ensures.value ∙ lost);
      removed = c.count-removed.ensures ∙ ap length (c.as_slice-9.ensures.value ∙ left);
    }
