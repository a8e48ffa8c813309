-- A commit is the end of a dump with its host's next number; of a dump that is not open, what its receipt says.
use Rattle.std.proofs.Common.{refl}
use Rattle.std.proofs.lemmas.Option.{slice_get_read}
use Rattle.store_commits.specs.EventLaws.{runs_again}
use Rattle.office_model.specs.declared.event.Event.TheVariants.{Commit}
use Rattle.office_model.specs.events.Commit.{at_time}
use Rattle.store_commits.specs.Tables.{IsLeft}
use Rattle.store_commits.specs.HeedLaws.{heeds_again}
use Rattle.store_commits.specs.NumberLaws.{ends_now, free_now, runs_unnumbered, heeds_now, heeds_refused}
use Rattle.store_commits.proofs.event.commit_dump.Goals as goal

pub returns-in-Err-clause-runs : goal.returns-in-Err-clause-runs
returns-in-Err-clause-runs g c =
    runs_again c.args.parts.now (Commit c.args.session c.args.now) c.args.session (at_time c.args.now) refl c.in-Err.ensures.none
    c.answer_again.result c.answer_again.ensures

pub returns-in-Err-clause-tables : goal.returns-in-Err-clause-tables
returns-in-Err-clause-tables g c =
    heeds_again IsLeft c.args.parts.now c.args.session c.in-Err.ensures.none c.answer_again.result c.answer_again.ensures

-- no number is left
pub returns-in-Err-line_now-clause-runs : goal.returns-in-Err-line_now-clause-runs
returns-in-Err-line_now-clause-runs g c =
    runs_unnumbered c.args.parts.now c.in-Ok.at c.index-dump.result.now
    (slice_get_read _ _ _ _ refl c.in-Ok.ensures.within c.index-dump.ensures) c.args.session c.in-Ok.ensures.found c.args.now
    c.in-Err-line_now.rule c.in-Err-line_now.ensures.broken

pub returns-in-Err-line_now-clause-tables : goal.returns-in-Err-line_now-clause-tables
returns-in-Err-line_now-clause-tables g c =
    heeds_refused c.args.parts.now c.in-Ok.at c.index-dump.result.now
    (slice_get_read _ _ _ _ refl c.in-Ok.ensures.within c.index-dump.ensures) c.args.session c.in-Ok.ensures.found IsLeft
    c.in-Err-line_now.rule c.in-Ok.ensures.within c.in-Err-line_now.ensures.broken

-- the end of the dump
pub end_dump-requires-clause-free : goal.end_dump-requires-clause-free
end_dump-requires-clause-free g c =
    free_now c.args.parts.now c.in-Ok.at c.index-dump.result.now
    (slice_get_read _ _ _ _ refl c.in-Ok.ensures.within c.index-dump.ensures) c.args.now c.in-Ok-line_now.line c.in-Ok-line_now.ensures.line

pub returns-clause-runs : goal.returns-clause-runs
returns-clause-runs g c =
    c.end_dump.ensures.runs (Commit c.args.session c.args.now) c.args.session
    (ends_now c.args.parts.now c.in-Ok.at c.index-dump.result.now
    (slice_get_read _ _ _ _ refl c.in-Ok.ensures.within c.index-dump.ensures) c.args.session c.in-Ok.ensures.found c.args.now
    c.in-Ok-line_now.line c.in-Ok-line_now.ensures.line)

pub returns-clause-tables : goal.returns-clause-tables
returns-clause-tables g c =
    heeds_now c.args.parts.now c.in-Ok.at c.index-dump.result.now
    (slice_get_read _ _ _ _ refl c.in-Ok.ensures.within c.index-dump.ensures) c.args.session c.in-Ok.ensures.found c.args.now
    c.in-Ok-line_now.line c.in-Ok-line_now.ensures.line c.end_dump.result c.end_dump.new.parts
    (c.end_dump.ensures.tables c.args.session c.in-Ok.ensures.found)
