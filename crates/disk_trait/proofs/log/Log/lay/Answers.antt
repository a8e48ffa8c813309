use Rattle.std.proofs.Common.{refl, arith}
use Rattle.disk_trait.proofs.Records.{laid}
use Rattle.disk_trait.proofs.log.Log.lay.Goals as goal

pub returns : goal.returns
returns c =
    laid c.args.self.now _ c.args.bytes.now c.len.result c.requires.whole (omega (arith, c.len.ensures)) c.in-Ok.ensures.items refl refl
    refl (omega (arith, c.requires.room)) c.requires.whole.changes
    (omega (arith, c.in-Ok.ensures.len, c.in-Ok.ensures.capacity, c.requires.whole.bytes, c.requires.room)) refl
