use Rattle.std.proofs.Common.{◌≡◌, ◌<◌, length, sym, ◌∙◌, refl, arith, rules}
use Rattle.std.proofs.lemmas.Bool.{false≢true}
use Rattle.pool_store.proofs.Imaging.{reads_then}
use Rattle.pool_store.proofs.Sourcing.{source_told, source_length, agrees_there, agrees_more, agrees_all}
use Rattle.pool_store.proofs.source.agrees.Goals as goal

pub returns-in-Ok-false-clause-same : goal.returns-in-Ok-false-clause-same
returns-in-Ok-false-clause-same g c = λ all content told is.
    let same = c.loop-from.invariant.reads.looks.same in
    let here = c.in-Ok-false.ensures.same all content (same ∙ told)
    (source_told c.args.source.now (g.D.Disk.files c.args.journal.now.disk) (g.D.Disk.files c.loop-from.journal.disk) content same is) in
    let count : length content ≡ c.size-size.result =
    source_length c.args.source.now (g.D.Disk.files c.args.journal.now.disk) content is ∙ sym c.size-size.ensures in (
      λ f. absurd (false≢true f),
      λ e. sym c.in-Ok-false.field-0-test ∙ here.1 (agrees_there (all c.args.file) content c.loop-from.from c.room_at-room.result
          c.more_at-more.result (omega (arith, count, c.room_at-room.ensures.within)) (λ before. c.more_at-more.ensures.before (omega (arith, count, before))) e),
    )

pub loop-from-preserved : goal.loop-from-preserved
loop-from-preserved g c =
    let same = c.loop-from.invariant.reads.looks.same in
    record {
      within = search rules;
      ready = search rules;
      still = search rules;
      reads = reads_then c.loop-from.invariant.reads c.in-Ok-true.ensures.reads;
      agrees = λ all bytes told is.
          let here = c.in-Ok-true.ensures.same all bytes (same ∙ told)
          (source_told c.args.source.now (g.D.Disk.files c.args.journal.now.disk) (g.D.Disk.files c.loop-from.journal.disk) bytes same is) in
          let count : length bytes ≡ c.size-size.result =
          source_length c.args.source.now (g.D.Disk.files c.args.journal.now.disk) bytes is ∙ sym c.size-size.ensures in
          agrees_more (all c.args.file) bytes c.loop-from.from c.room_at-room.result c.more_at-more.result
          (omega (arith, count, c.room_at-room.ensures.within)) (c.loop-from.invariant.agrees all bytes told is)
          (here.0 c.in-Ok-true.field-0-test);
      whole = λ all bytes told is some end.
          let here = c.in-Ok-true.ensures.same all bytes (same ∙ told)
          (source_told c.args.source.now (g.D.Disk.files c.args.journal.now.disk) (g.D.Disk.files c.loop-from.journal.disk) bytes same is) in
          let count : length bytes ≡ c.size-size.result =
          source_length c.args.source.now (g.D.Disk.files c.args.journal.now.disk) bytes is ∙ sym c.size-size.ensures in
          agrees_all (all c.args.file) bytes c.loop-from.from c.room_at-room.result c.more_at-more.result
          (omega (arith, count, c.room_at-room.ensures.within, end))
          (c.more_at-more.ensures.last (omega (arith, c.room_at-room.ensures.within, end)))
          (c.loop-from.invariant.agrees all bytes told is) (here.0 c.in-Ok-true.field-0-test);
    }

pub returns-clause-same : goal.returns-clause-same
returns-clause-same g c = λ all content told is.
    let some : 0 < c.size-size.result = omega (arith, c.requires.some, c.size-size.ensures) in
    (λ t. c.loop-from.invariant.whole all content told is (omega (arith, some, c.loop-from-test.false)) c.loop-from-test.false, λ e. refl)
