use Rattle.std.proofs.Common.{sym, ◌∙◌, List, ap, subst}
use Rattle.journal_view.specs.Found.{is_seen}
use Rattle.pool_changes.specs.Kept.{slots_of}
use Rattle.pool_changes.specs.Listed.{index_of}
use Rattle.ref_counts.specs.Numbers.{Items}
use Rattle.store_opening.proofs.Unlisting.{none_of_all, an_unlisted, index_file_seen}
use Rattle.store_opening.specs.Unlisted.{AreAllListed}
use Rattle.store_opening.proofs.unlisted.refuse_unlisted.Goals as goal

pub returns-in-None-clause-listed : goal.returns-in-None-clause-listed
returns-in-None-clause-listed g c =
    subst (λ (counts : List Items). AreAllListed (index_of (slots_of c.args.found.now.pool.names)) counts) c.as_slice.ensures
    (none_of_all (index_of (slots_of c.args.found.now.pool.names)) c.as_slice.result.now (sym c.first_of_all.ensures ∙ c.in-None.is))

pub refusal_with-requires-clause-seen : goal.refusal_with-requires-clause-seen
refusal_with-requires-clause-seen g c = ap is_seen c.index_file_of-file.ensures ∙ index_file_seen c.has.result c.in-Some.id

pub returns-in-Some-clause-unlisting : goal.returns-in-Some-clause-unlisting
returns-in-Some-clause-unlisting g c = λ file bytes e all is seen pool holds counted.
    let f = c.refusal_with.ensures.foreign file bytes e in
    an_unlisted c.args.found.now.pool.in_one_file (slots_of c.args.found.now.pool.names) c.args.found.now.catalog c.args.found.now.counts c.as_slice.result.now c.in-Some.id c.args.files.now c.has.result all file bytes
    c.as_slice.ensures (sym c.first_of_all.ensures ∙ c.in-Some.is) c.has.ensures seen (f.0 ∙ c.index_file_of-file.ensures)
    (f.1 all is ∙ ap all c.index_file_of-file.ensures) pool holds counted
