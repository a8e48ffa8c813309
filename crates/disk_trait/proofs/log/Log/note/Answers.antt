use Rattle.std.proofs.Common.{refl, arith}
use Rattle.disk_trait.specs.declared.log.Entry.TheVariants as E
use Rattle.disk_trait.proofs.Records.{kept_one}
use Rattle.disk_trait.proofs.log.Log.note.Goals as goal

pub returns : goal.returns
returns c =
    kept_one c.args.self.now _ (E.Missed c.args.file) 0 0 c.requires.whole tt refl refl c.in-Ok.ensures.items
    (omega arith) (omega arith) (omega (arith, c.in-Ok.ensures.len, c.in-Ok.ensures.capacity, c.requires.room)) c.requires.whole.bytes
    (λ files was. record { old = files; was = was; are = refl })
