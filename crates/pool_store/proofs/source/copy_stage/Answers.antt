use Rattle.std.proofs.Common.{◌≡◌, length, take, ◌∙◌, refl, arith, rules}
use Rattle.std.proofs.lemmas.List.{length-take-le}
use Rattle.disk_trait.specs.declared.ids.FileId.TheVariants.{Pool}
use Rattle.pool_store.specs.RewritingLaws.{reads_rewrites, rewrites_none, rewrites_then}
use Rattle.pool_store.proofs.Sourcing.{so_far, so_far_there, staged_copied, copied_more, copied_all}
use Rattle.pool_store.proofs.source.copy_stage.Goals as goal

pub loop-from-init : goal.loop-from-init
loop-from-init g c = record {
  within = omega arith;
  ready = c.requires.ready;
  still = refl;
  rewrites = rewrites_none c.args.journal.now (Pool c.args.id);
  copied = λ all content told staged. told;
}

pub returns-in-Err-clause-lost : goal.returns-in-Err-clause-lost
returns-in-Err-clause-lost g c = λ file found e.
    let lost = c.in-Err.ensures.lost file found e in
    record {
      is = lost.is;
      never = λ all content told staged.
          let copied = c.loop-from.invariant.copied all content told staged in
          lost.never (so_far all (Pool c.args.id) c.loop-from.from (take c.loop-from.from content)) content copied
          (staged_copied c.args.number c.args.size c.args.id c.loop-from.from (take c.loop-from.from content) content all
          (g.D.Disk.files c.args.journal.now.disk) (g.D.Disk.files c.loop-from.journal.disk) told copied staged);
    }

pub returns-in-Err-put_piece-clause-rewrites : goal.returns-in-Err-put_piece-clause-rewrites
returns-in-Err-put_piece-clause-rewrites g c =
    let file = Pool c.args.id in
    rewrites_then c.args.journal.now file c.loop-from.journal c.put_piece.new.journal refl c.loop-from.invariant.rewrites
    (rewrites_then c.loop-from.journal file c.read_stage.new.journal c.put_piece.new.journal refl
    (reads_rewrites c.loop-from.journal file c.read_stage.new.journal c.in-Ok.ensures.reads) c.put_piece.ensures.rewrites)

pub loop-from-preserved : goal.loop-from-preserved
loop-from-preserved g c =
    let file = Pool c.args.id in
    record {
      within = search rules;
      ready = search rules;
      still = search rules;
      rewrites = rewrites_then c.args.journal.now file c.loop-from.journal c.put_piece.new.journal refl c.loop-from.invariant.rewrites
          (rewrites_then c.loop-from.journal file c.read_stage.new.journal c.put_piece.new.journal refl
          (reads_rewrites c.loop-from.journal file c.read_stage.new.journal c.in-Ok.ensures.reads) c.put_piece.ensures.rewrites);
      copied = λ all content told staged.
          let from = c.loop-from.from in
          let front = take from content in
          let copied = c.loop-from.invariant.copied all content told staged in
          let staged' = staged_copied c.args.number c.args.size c.args.id from front content all (g.D.Disk.files c.args.journal.now.disk)
          (g.D.Disk.files c.loop-from.journal.disk) told copied staged in
          let count : length front ≡ from = length-take-le from content (omega (arith, c.loop-from-test.true, staged.size_is)) in
          copied_more all file (g.D.Disk.files c.put_piece.new.journal.disk) content c.as_slice.result.now from c.room_at-room.result
          c.room_at-room.ensures.some
          (c.as_slice.ensures ∙ c.in-Ok.ensures.found (so_far all file from front) content copied staged')
          (c.in-Ok-put_piece.ensures.told (so_far all file from front) front (c.in-Ok.ensures.reads.looks.same ∙ copied) count
          (λ some. so_far_there all file from front some));
    }

pub returns-clause-told : goal.returns-clause-told
returns-clause-told g c = λ all content told staged.
    copied_all all (Pool c.args.id) (g.D.Disk.files c.loop-from.journal.disk) content c.args.size c.loop-from.from c.requires.some staged.size_is
    c.loop-from-test.false c.loop-from.invariant.within (c.loop-from.invariant.copied all content told staged)
