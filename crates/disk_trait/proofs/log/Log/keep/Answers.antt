use Rattle.std.proofs.Common.{List, refl, sym, ap, ◌∙◌, arith}
use Rattle.disk_trait.specs.Maps.{files_of}
use Rattle.disk_trait.specs.Log.{call_of, files_with}
use Rattle.disk_trait.proofs.Records.{kept_one}
use Rattle.disk_trait.proofs.log.Log.keep.Goals as goal

pub returns : goal.returns
returns c =
    kept_one c.args.self.now _ c.args.entry 1 0 c.requires.whole c.requires.kept refl refl c.in-Ok.ensures.items
    (omega (arith, c.requires.room)) (omega arith) (omega (arith, c.in-Ok.ensures.len, c.in-Ok.ensures.capacity, c.requires.whole.changes, c.requires.room)) c.requires.whole.bytes
    (λ files was.
    let follows = c.followed.ensures files was in
    record {
      old = follows.old;
      was = sym c.take-index.ensures.value ∙ follows.was;
      are = follows.are ∙ ap (λ (bytes : List _). files_with (files_of follows.old) (call_of bytes c.args.entry)) c.as_slice.ensures.value;
    })
