use Rattle.std.proofs.Common.{ℕ, refl, sym, ◌∙◌, arith}
use Rattle.disk_trait.specs.Files.{Files}
use Rattle.disk_trait.specs.Images.{Leaves, LeavesOnly}
use Rattle.store_stages.proofs.StageFiles.{staged_is, takes_name}
use Rattle.store_stages.proofs.taking.take_stage.Goals as goal

left : {D : Type 0} {moment : D → ℕ} {left_since : D → ℕ → Files → Type 0} {old new : D} {P : Files → Type 0}
    → LeavesOnly moment left_since old new P → Leaves moment left_since old new P
left only = record { later = only.later; since = only.since }

pub returns-then-stage-eq0-clause-takes : goal.returns-then-stage-eq0-clause-takes
returns-then-stage-eq0-clause-takes g c = λ all value told is. (λ asked. refl, refl, sym is.size ∙ c.if-stage-eq0.true)

pub returns-in-Ok-clause-takes : goal.returns-in-Ok-clause-takes
returns-in-Ok-clause-takes g c = λ all value told is.
    takes_name g.N.Namer.digest_of _ _ _ _ c.in-Ok.id value.bytes
    (c.in-Ok.ensures.takes value.bytes
    (staged_is g.N.Namer.holds c.args.journal.now all value c.args.stage.now told is (omega (arith, c.if-stage-eq0.false)))
    (c.so_far-digest.ensures value.bytes is.digest))

pub returns-in-Ok-clause-crash : goal.returns-in-Ok-clause-crash
returns-in-Ok-clause-crash g c = λ all told certain. left (c.match_or_stage_file.ensures.any_moment all told certain)

pub returns-in-Err-clause-misses : goal.returns-in-Err-clause-misses
returns-in-Err-clause-misses g c = λ all value told is.
    c.in-Err.ensures.misses value.bytes
    (staged_is g.N.Namer.holds c.args.journal.now all value c.args.stage.now told is (omega (arith, c.if-stage-eq0.false)))
    (c.so_far-digest.ensures value.bytes is.digest)

pub returns-in-Err-clause-crash : goal.returns-in-Err-clause-crash
returns-in-Err-clause-crash g c = λ all told certain. left (c.match_or_stage_file.ensures.any_moment all told certain)
