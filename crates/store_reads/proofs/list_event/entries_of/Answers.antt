use Rattle.std.proofs.Common.{◌∙◌, ap}
use Rattle.std.specs.Option.{option_copied}
use Rattle.backup_views.specs.Kept.{rows_of}
use Rattle.merge_view.specs.Runs.{within_rows}
use Rattle.store_reads.proofs.Listing.{entries_within, if_ok}
use Rattle.store_reads.proofs.list_event.entries_of.Goals as goal

pub returns-in-Some : goal.returns-in-Some
returns-in-Some c =
    if_ok c.listed-in-Some.result
    (λ list is. is ∙ entries_within (option_copied c.args.directory) c.in-Some.path.now (rows_of c.args.views.now.kept) c.within.result.now
    (ap option_copied c.in-Some.is)
    (c.within.ensures ∙ ap (λ path. within_rows path (rows_of c.args.views.now.kept)) c.as_slice.ensures.value))
    c.listed-in-Some.ensures
