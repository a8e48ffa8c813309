-- An adoption is the end of a dump with a number of its own; of a dump that is not open, what its receipt says.
use Rattle.std.specs.Prelude.{◌≤◌}
use Rattle.std.proofs.Common.{refl, sym, ap, subst, arith}
use Rattle.std.proofs.lemmas.Option.{slice_get_read}
use Rattle.backup_rules.specs.declared.lines.Line.{Line}
use Rattle.store_commits.specs.EventLaws.{runs_again}
use Rattle.office_model.specs.declared.event.Event.TheVariants.{Adopt}
use Rattle.office_model.specs.events.Adopt.{adopted_line, as_there}
use Rattle.store_commits.specs.Judged.{IsFree}
use Rattle.store_commits.specs.Committing.{EndsAs}
use Rattle.store_commits.specs.Tables.{HeedsAdopted}
use Rattle.store_commits.specs.HeedLaws.{heeds_again}
use Rattle.store_commits.specs.NumberLaws.{ends_there, free_there, runs_number_behind, heeds_refused}
use Rattle.store_commits.proofs.event.adopt_dump.Goals as goal

pub returns-in-Err-clause-runs : goal.returns-in-Err-clause-runs
returns-in-Err-clause-runs g c =
    runs_again c.args.parts.now (Adopt c.args.session c.args.number c.args.start c.args.end c.args.kind) c.args.session
    (as_there (adopted_line c.args.number c.args.start c.args.end c.args.kind)) refl c.in-Err.ensures.none
    c.answer_again.result c.answer_again.ensures

pub returns-in-Err-clause-tables : goal.returns-in-Err-clause-tables
returns-in-Err-clause-tables g c =
    heeds_again (λ next. IsFree next c.args.number) c.args.parts.now c.args.session c.in-Err.ensures.none c.answer_again.result
    c.answer_again.ensures

-- the number is below the next one
pub returns-in-Err-line_there-clause-runs : goal.returns-in-Err-line_there-clause-runs
returns-in-Err-line_there-clause-runs g c =
    runs_number_behind c.args.parts.now c.in-Ok.at c.index-dump.result.now
    (slice_get_read _ _ _ _ refl c.in-Ok.ensures.within c.index-dump.ensures) c.args.session c.in-Ok.ensures.found
    c.args.number c.args.start c.args.end c.args.kind c.in-Err-line_there.rule c.in-Err-line_there.ensures.behind

pub returns-in-Err-line_there-clause-tables : goal.returns-in-Err-line_there-clause-tables
returns-in-Err-line_there-clause-tables g c =
    heeds_refused c.args.parts.now c.in-Ok.at c.index-dump.result.now
    (slice_get_read _ _ _ _ refl c.in-Ok.ensures.within c.index-dump.ensures) c.args.session c.in-Ok.ensures.found
    (λ next. IsFree next c.args.number) c.in-Err-line_there.rule c.in-Ok.ensures.within
    (λ index here free. let behind = (c.in-Err-line_there.ensures.behind index here).0 in omega (arith, free, behind))

-- the end of the dump
pub end_dump-requires-clause-free : goal.end_dump-requires-clause-free
end_dump-requires-clause-free g c =
    λ session there index here. subst (λ (line : Line). index.next ≤ line.number) (sym c.in-Ok-line_there.ensures.line)
    (free_there c.args.parts.now c.in-Ok.at c.index-dump.result.now
    (slice_get_read _ _ _ _ refl c.in-Ok.ensures.within c.index-dump.ensures) c.args.number c.in-Ok-line_there.ensures.there
    session there index here)

pub end_dump-requires-clause-filled : goal.end_dump-requires-clause-filled
end_dump-requires-clause-filled g c = ap (λ (line : Line). line.filled) c.in-Ok-line_there.ensures.line

pub returns-clause-runs : goal.returns-clause-runs
returns-clause-runs g c =
    c.end_dump.ensures.runs (Adopt c.args.session c.args.number c.args.start c.args.end c.args.kind) c.args.session
    (subst (λ (line : Line). EndsAs c.args.parts.now (Adopt c.args.session c.args.number c.args.start c.args.end c.args.kind)
    c.args.session c.in-Ok.at line) (sym c.in-Ok-line_there.ensures.line)
    (ends_there c.args.parts.now c.in-Ok.at c.index-dump.result.now
    (slice_get_read _ _ _ _ refl c.in-Ok.ensures.within c.index-dump.ensures) c.args.session c.in-Ok.ensures.found
    c.args.number c.args.start c.args.end c.args.kind (omega (arith, c.ranges.number.fits)) c.in-Ok-line_there.ensures.there))

pub returns-clause-tables : goal.returns-clause-tables
returns-clause-tables g c =
    subst (λ (line : Line). HeedsAdopted line.number c.args.parts.now c.args.session c.end_dump.result c.end_dump.new.parts)
    c.in-Ok-line_there.ensures.line (c.end_dump.ensures.tables c.args.session c.in-Ok.ensures.found)
