use Rattle.std.proofs.Common.{List, sym, subst, ◌∙◌}
use Rattle.ref_counts.specs.Numbers.{Items}
use Rattle.store_parts.specs.Held.{AreCountsOf}
use Rattle.store_opening.specs.KeptTablesLaws.{tables_told}
use Rattle.store_opening.proofs.Raising.{looks_still, held_raised, looks_raised, next_are, next_done, next_committed, tables_raised}
use Rattle.office_model.specs.Office.{raised}
use Rattle.store_opening.proofs.Whole.{whole_raised}
use Rattle.store_opening.proofs.begin.raise.Goals as goal

pub commit-requires-clause-changes : goal.commit-requires-clause-changes
commit-requires-clause-changes g c = next_are _ _ c.in-Ok.next c.in-Ok.ensures

pub returns-in-Err-clause-looks : goal.returns-in-Err-clause-looks
returns-in-Err-clause-looks g c = λ office names at. looks_still c.args.journal.now _ _ office names at (raised office)

pub returns-in-Ok-commit-clause-ok : goal.returns-in-Ok-commit-clause-ok
returns-in-Ok-commit-clause-ok g c = λ office names held.
    held_raised c.args.journal.now c.args.found.now.pool c.args.found.now.catalog office names held.stored c.in-Ok.next c.in-Ok.ensures
    c.commit.new.journal c.accept.new.found.pool c.accept.ensures.names c.accept.ensures.buckets c.accept.new.found.counts
    (subst (λ (cs : List Items). AreCountsOf cs held.stored.shown) (sym c.accept.ensures.counts) held.counted)
    c.accept.new.found.partials (c.accept.ensures.partials ∙ held.parked)
    c.accept.new.found.catalog c.accept.ensures.catalog c.in-Ok-commit.ensures.ready
    (next_done _ _ c.in-Ok.next c.in-Ok.ensures c.args.journal.now c.commit.new.journal c.in-Ok-commit.ensures.done)
    c.in-Ok-commit.ensures.certain

pub returns-in-Ok-commit-clause-looks : goal.returns-in-Ok-commit-clause-looks
returns-in-Ok-commit-clause-looks g c = λ office names at.
    looks_raised c.args.journal.now c.args.found.now.pool c.args.found.now.catalog office names at c.in-Ok.next c.in-Ok.ensures
    c.commit.new.journal c.commit.result (next_committed _ _ c.in-Ok.next c.in-Ok.ensures _ _ _ c.commit.ensures)

pub returns-in-Err-commit-clause-looks : goal.returns-in-Err-commit-clause-looks
returns-in-Err-commit-clause-looks g c = λ office names at.
    looks_raised c.args.journal.now c.args.found.now.pool c.args.found.now.catalog office names at c.in-Ok.next c.in-Ok.ensures
    c.commit.new.journal c.commit.result (next_committed _ _ c.in-Ok.next c.in-Ok.ensures _ _ _ c.commit.ensures)

pub returns-in-Ok-commit-clause-whole : goal.returns-in-Ok-commit-clause-whole
returns-in-Ok-commit-clause-whole g c = λ whole.
    whole_raised c.args.journal.now c.commit.new.journal c.args.found.now.pool c.accept.new.found.pool c.args.found.now.catalog
    c.args.found.now.counts c.accept.new.found.counts c.args.found.now.partials c.accept.new.found.partials c.in-Ok.next c.in-Ok.ensures
    c.accept.new.found.catalog c.accept.ensures.catalog c.accept.ensures.counts c.accept.ensures.partials c.accept.ensures.names c.accept.ensures.buckets c.in-Ok-commit.ensures.done whole

pub returns-in-Err-clause-tables : goal.returns-in-Err-clause-tables
returns-in-Err-clause-tables g c = λ all is. tables_told c.args.journal.now all c.requires.ready is

pub returns-in-Ok-commit-clause-tables : goal.returns-in-Ok-commit-clause-tables
returns-in-Ok-commit-clause-tables g c = λ all is.
    tables_raised _ _ c.in-Ok.next c.in-Ok.ensures c.args.journal.now c.commit.new.journal c.commit.result
    (next_committed _ _ c.in-Ok.next c.in-Ok.ensures _ _ _ c.commit.ensures) all is

pub returns-in-Err-commit-clause-tables : goal.returns-in-Err-commit-clause-tables
returns-in-Err-commit-clause-tables g c = λ all is.
    tables_raised _ _ c.in-Ok.next c.in-Ok.ensures c.args.journal.now c.commit.new.journal c.commit.result
    (next_committed _ _ c.in-Ok.next c.in-Ok.ensures _ _ _ c.commit.ensures) all is
