-- The bytes that a read gave come behind those that came before.
use Rattle.std.proofs.Common.{rules, ◌∙◌}
use Rattle.restore_stream.proofs.FieldLaws.{filled_more, filled_len}
use Rattle.restore_stream.proofs.fields.fill.Goals as goal

pub loop-done-preserved : goal.loop-done-preserved
loop-done-preserved g c =
    let before = c.loop-done.invariant in
    let len = filled_len c.loop-done.done c.loop-done.room c.read.new.room before.in_range (search rules) in
    record {
      in_range = search rules;
      len = len ∙ before.len;
      told = filled_more c.loop-done.done c.in-Ok.count c.loop-done.room c.read.new.room _ _ _ before.in_range
          (search rules) c.in-Ok.ensures.fits before.told c.in-Ok.ensures.told;
      written = c.read.ensures.written ∙ before.written;
      sent = c.read.ensures.sent ∙ before.sent;
      same = search rules;
    }
