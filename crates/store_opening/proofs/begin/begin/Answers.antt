use Rattle.std.specs.Prelude.{is_some}
use Rattle.std.proofs.Common.{Err, sym, ap, ◌∙◌}
use Rattle.intent_journal.specs.declared.fault.JournalFault.{JournalFault}
use Rattle.store_opening.proofs.Beginning.{crash_still, begins_not, begins_spent, begins_raised, begins_between, begins_crash, tables_still}
use Rattle.store_opening.specs.declared.fault.OpenRefusal.TheVariants.{EpochsSpent}
use Rattle.store_opening.proofs.Settling.{ends_still, ends_spent, ends_raised, ends_between}
use Rattle.store_opening.proofs.Whole.{buckets_of, last_whole, not_spent}
use Rattle.store_opening.proofs.begin.begin.Goals as goal

pub returns-in-Err-clause-begins : goal.returns-in-Err-clause-begins
returns-in-Err-clause-begins g c = λ a b holds.
    begins_not g.N.Namer c.args.journal.now a b holds c.requires _ c.in-Err.refusal (c.in-Err.ensures.known a b holds) c.in-Err.ensures.kind
    c.in-Err.ensures.quiet

pub returns-in-Err-clause-crash : goal.returns-in-Err-clause-crash
returns-in-Err-clause-crash g c = λ a b holds. crash_still _ c.args.journal.now a b holds _ c.in-Err.ensures.quiet

pub returns-then-epoch-ge18446744073709551615-clause-begins : goal.returns-then-epoch-ge18446744073709551615-clause-begins
returns-then-epoch-ge18446744073709551615-clause-begins g c = λ a b holds.
    begins_spent g.N.Namer c.args.journal.now a b holds c.requires c.recover.new.journal c.in-Ok.found (c.in-Ok.ensures.recovers a b holds)
    c.in-Ok.ensures.quiet c.epoch.result c.epoch.ensures c.if-epoch-ge18446744073709551615.true

pub returns-then-epoch-ge18446744073709551615-clause-crash : goal.returns-then-epoch-ge18446744073709551615-clause-crash
returns-then-epoch-ge18446744073709551615-clause-crash g c = λ a b holds.
    crash_still _ c.args.journal.now a b holds c.recover.new.journal c.in-Ok.ensures.quiet

pub returns-in-Ok-raise-clause-begins : goal.returns-in-Ok-raise-clause-begins
returns-in-Ok-raise-clause-begins g c = λ a b holds.
    begins_raised g.N.Namer c.args.journal.now a b holds c.requires c.recover.new.journal c.in-Ok.found (c.in-Ok.ensures.recovers a b holds)
    c.in-Ok.ensures.quiet c.raise.new.journal c.raise.new.found c.epoch.result c.epoch.ensures c.if-epoch-ge18446744073709551615.false
    c.raise.ensures.names c.in-Ok-raise.ensures.ok c.raise.ensures.tables

pub returns-in-Ok-raise-clause-crash : goal.returns-in-Ok-raise-clause-crash
returns-in-Ok-raise-clause-crash g c = λ a b holds.
    begins_crash g.N.Namer c.args.journal.now a b holds c.requires c.recover.new.journal c.in-Ok.found (c.in-Ok.ensures.recovers a b holds)
    c.in-Ok.ensures.quiet c.raise.new.journal c.raise.ensures.looks

pub returns-in-Err-raise-clause-begins : goal.returns-in-Err-raise-clause-begins
returns-in-Err-raise-clause-begins g c = λ a b holds.
    begins_between g.N.Namer c.args.journal.now a b holds c.requires c.recover.new.journal c.in-Ok.found
    (c.in-Ok.ensures.recovers a b holds)
    c.in-Ok.ensures.quiet c.raise.new.journal c.raise.ensures.looks c.refusal_of.result c.refusal_of.ensures.kind
    (λ e. c.raise.ensures.memory (c.in-Err-raise.is ∙ ap (λ (f : JournalFault). Err f) (c.refusal_of.ensures.memory.0 e)))

pub returns-in-Err-raise-clause-crash : goal.returns-in-Err-raise-clause-crash
returns-in-Err-raise-clause-crash g c = λ a b holds.
    begins_crash g.N.Namer c.args.journal.now a b holds c.requires c.recover.new.journal c.in-Ok.found (c.in-Ok.ensures.recovers a b holds)
    c.in-Ok.ensures.quiet c.raise.new.journal c.raise.ensures.looks

pub returns-in-Err-clause-spent : goal.returns-in-Err-clause-spent
returns-in-Err-clause-spent g c = λ e. absurd (c.in-Err.ensures.kind e)

pub returns-then-epoch-ge18446744073709551615-clause-spent : goal.returns-then-epoch-ge18446744073709551615-clause-spent
returns-then-epoch-ge18446744073709551615-clause-spent g c = λ e all is.
    last_whole _ _ _ _ _ all (c.in-Ok.ensures.whole all (sym c.in-Ok.ensures.quiet.told_same ∙ is)) c.epoch.result c.epoch.ensures
    c.if-epoch-ge18446744073709551615.true

pub returns-in-Ok-raise-clause-whole : goal.returns-in-Ok-raise-clause-whole
returns-in-Ok-raise-clause-whole g c =
    c.in-Ok-raise.ensures.whole (λ all is. c.in-Ok.ensures.whole all (sym c.in-Ok.ensures.quiet.told_same ∙ is))

pub returns-in-Ok-raise-clause-listed : goal.returns-in-Ok-raise-clause-listed
returns-in-Ok-raise-clause-listed g c = λ all is id.
    ap is_some (c.raise.ensures.names id) ∙ c.in-Ok.ensures.listed all is id

pub returns-in-Ok-raise-clause-buckets : goal.returns-in-Ok-raise-clause-buckets
returns-in-Ok-raise-clause-buckets g c =
    buckets_of _ c.raise.new.found c.in-Ok-raise.ensures.buckets
    (c.in-Ok-raise.ensures.whole (λ all is. c.in-Ok.ensures.whole all (sym c.in-Ok.ensures.quiet.told_same ∙ is)))

pub returns-in-Err-raise-clause-spent : goal.returns-in-Err-raise-clause-spent
returns-in-Err-raise-clause-spent g c = λ e. absurd (not_spent _ c.refusal_of.ensures.kind e)

pub returns-in-Err-clause-ends : goal.returns-in-Err-clause-ends
returns-in-Err-clause-ends g c = λ a b holds.
    ends_still g.N.Namer c.args.journal.now a b holds c.recover.new.journal c.in-Err.refusal c.in-Err.ensures.quiet

pub returns-then-epoch-ge18446744073709551615-clause-ends : goal.returns-then-epoch-ge18446744073709551615-clause-ends
returns-then-epoch-ge18446744073709551615-clause-ends g c = λ a b holds.
    ends_spent g.N.Namer c.args.journal.now a b holds c.recover.new.journal c.in-Ok.found (c.in-Ok.ensures.recovers a b holds)
    c.in-Ok.ensures.quiet EpochsSpent

pub returns-in-Ok-raise-clause-ends : goal.returns-in-Ok-raise-clause-ends
returns-in-Ok-raise-clause-ends g c = λ a b holds.
    ends_raised g.N.Namer c.args.journal.now a b holds c.recover.new.journal c.in-Ok.found (c.in-Ok.ensures.recovers a b holds)
    c.in-Ok.ensures.quiet c.raise.new.journal c.raise.ensures.looks c.requires c.raise.new.found c.epoch.result c.epoch.ensures
    c.if-epoch-ge18446744073709551615.false c.raise.ensures.names c.in-Ok-raise.ensures.ok c.raise.ensures.tables

pub returns-in-Err-raise-clause-ends : goal.returns-in-Err-raise-clause-ends
returns-in-Err-raise-clause-ends g c = λ a b holds.
    ends_between g.N.Namer c.args.journal.now a b holds c.recover.new.journal c.in-Ok.found (c.in-Ok.ensures.recovers a b holds)
    c.in-Ok.ensures.quiet c.raise.new.journal c.raise.ensures.looks c.refusal_of.result

pub returns-in-Err-clause-tables : goal.returns-in-Err-clause-tables
returns-in-Err-clause-tables g c = λ all is. tables_still c.args.journal.now _ c.requires c.in-Err.ensures.quiet all is

pub returns-then-epoch-ge18446744073709551615-clause-tables : goal.returns-then-epoch-ge18446744073709551615-clause-tables
returns-then-epoch-ge18446744073709551615-clause-tables g c = λ all is.
    tables_still c.args.journal.now c.recover.new.journal c.requires c.in-Ok.ensures.quiet all is

pub returns-in-Ok-raise-clause-tables : goal.returns-in-Ok-raise-clause-tables
returns-in-Ok-raise-clause-tables g c = λ all is. c.raise.ensures.tables all (c.in-Ok.ensures.quiet.told_same ∙ is)

pub returns-in-Err-raise-clause-tables : goal.returns-in-Err-raise-clause-tables
returns-in-Err-raise-clause-tables g c = λ all is. c.raise.ensures.tables all (c.in-Ok.ensures.quiet.told_same ∙ is)
