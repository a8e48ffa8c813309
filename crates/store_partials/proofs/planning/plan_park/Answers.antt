-- What was gathered and built is the plan.
use Rattle.std.proofs.Common.{refl}
use Rattle.std.proofs.lemmas.Option.{slice_get_read}
use Rattle.store_partials.specs.PlanLaws.{planned_of, gather_refused, bytes_refused, gather_heeds, there_heeds, bytes_heeds}
use Rattle.store_partials.proofs.planning.plan_park.Goals as goal

pub returns-in-Err-gather_park-clause-refused : goal.returns-in-Err-gather_park-clause-refused
returns-in-Err-gather_park-clause-refused g c = λ session is.
    gather_refused c.args.parts.now c.gather_park.new.journal c.args.at c.index-dump.result.now
    (slice_get_read _ _ _ _ refl c.requires.within c.index-dump.ensures) c.in-Some.ensures.within c.in-Some.ensures.held c.in-Some.file
    c.in-Some.ensures.number c.in-Ok.partial c.in-Ok.ensures c.of_host-head.result c.of_host-head.ensures session is
    c.in-Err-gather_park.refusal c.in-Err-gather_park.ensures.kind

pub returns-in-Err-gather_park-clause-partial : goal.returns-in-Err-gather_park-clause-partial
returns-in-Err-gather_park-clause-partial g c = λ session is.
    gather_heeds c.args.parts.now c.gather_park.new.journal c.args.at c.index-dump.result.now
    (slice_get_read _ _ _ _ refl c.requires.within c.index-dump.ensures) c.in-Some.ensures.within c.in-Some.ensures.held c.in-Some.file
    c.in-Some.ensures.number c.in-Ok.partial c.in-Ok.ensures c.of_host-head.result c.of_host-head.ensures session is
    c.in-Err-gather_park.refusal c.in-Err-gather_park.ensures.partial

pub returns-in-Err-partial_bytes-clause-refused : goal.returns-in-Err-partial_bytes-clause-refused
returns-in-Err-partial_bytes-clause-refused g c = λ session is.
    bytes_refused c.args.parts.now c.gather_park.new.journal c.args.at c.index-dump.result.now
    (slice_get_read _ _ _ _ refl c.requires.within c.index-dump.ensures) c.in-Some.ensures.within c.in-Some.ensures.held c.in-Some.file
    c.in-Some.ensures.number c.in-Ok.partial c.in-Ok.ensures c.of_host-head.result c.of_host-head.ensures session is
    c.in-Err-partial_bytes.refusal c.in-Err-partial_bytes.ensures.kind

pub returns-in-Err-partial_bytes-clause-partial : goal.returns-in-Err-partial_bytes-clause-partial
returns-in-Err-partial_bytes-clause-partial g c = λ session is.
    bytes_heeds c.args.parts.now c.gather_park.new.journal c.args.at c.index-dump.result.now
    (slice_get_read _ _ _ _ refl c.requires.within c.index-dump.ensures) c.in-Some.ensures.within c.in-Some.ensures.held c.in-Some.file
    c.in-Some.ensures.number c.in-Ok.partial c.in-Ok.ensures c.of_host-head.result c.of_host-head.ensures session is
    c.in-Err-partial_bytes.refusal c.in-Err-partial_bytes.ensures.kind c.in-Ok-gather_park.ensures.partial

pub returns-in-Ok-build_park-clause-planned : goal.returns-in-Ok-build_park-clause-planned
returns-in-Ok-build_park-clause-planned g c = λ session is.
    planned_of c.args.parts.now c.gather_park.new.journal c.args.at c.index-dump.result.now
    (slice_get_read _ _ _ _ refl c.requires.within c.index-dump.ensures) c.in-Some.ensures.within c.in-Some.ensures.held c.in-Some.file
    c.in-Some.ensures.number c.in-Ok.partial c.in-Ok.ensures c.of_host-head.result c.of_host-head.ensures session is
    c.in-Ok-partial_bytes.bytes c.in-Ok-gather_park.counts c.in-Ok-build_park.plan c.in-Ok-gather_park.ensures.counts
    c.in-Ok-gather_park.ensures.within c.in-Ok-partial_bytes.ensures.file.0 c.in-Ok-partial_bytes.ensures.file.1 c.in-Ok-build_park.ensures

pub returns-in-Ok-build_park-clause-partial : goal.returns-in-Ok-build_park-clause-partial
returns-in-Ok-build_park-clause-partial g c = λ session is.
    there_heeds c.args.parts.now c.gather_park.new.journal c.args.at c.index-dump.result.now
    (slice_get_read _ _ _ _ refl c.requires.within c.index-dump.ensures) c.in-Some.ensures.within c.in-Some.ensures.held c.in-Some.file
    c.in-Some.ensures.number c.in-Ok.partial c.in-Ok.ensures c.of_host-head.result c.of_host-head.ensures session is
    c.in-Ok-gather_park.ensures.partial
