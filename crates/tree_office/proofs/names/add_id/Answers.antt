use Rattle.std.proofs.Common.{◌∙◌, ap, ℕ, List}
use Rattle.std.specs.FinMap.Entries.{put}
use Rattle.ordered_lists.specs.OrderLaws.{insert_entry-put}
use Rattle.pool_index.specs.Items.{id_cmp}
use Rattle.tree_office.proofs.names.add_id.Goals as goal

pub returns : goal.returns
returns c = c.in_ok-insert.ensures.entries ∙ insert_entry-put id_cmp c.args.name.now.id c.in_ok-content.content c.args.ids.now.entries
    ∙ ap (λ (bytes : List ℕ). put id_cmp c.args.name.now.id bytes c.args.ids.now.entries) (c.in_ok-content.ensures ∙ c.as_slice.ensures)
