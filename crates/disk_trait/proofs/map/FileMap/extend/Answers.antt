use Rattle.std.proofs.Common.{◌++◌, List, Some, None, ap, ◌∙◌}
use Rattle.disk_trait.specs.Files.{Files, with_bytes}
use Rattle.disk_trait.specs.Maps.{files_of}
use Rattle.disk_trait.proofs.Listing.{changed_twice}
use Rattle.disk_trait.proofs.map.FileMap.extend.Goals as goal

pub returns-in-Ok : goal.returns-in-Ok
returns-in-Ok c =
    let files = files_of c.args.self.now in
    c.in-Ok.ensures
    ∙ ap (λ (held : Files). with_bytes held c.args.file (Some c.from_vec.result)) c.take-bytes.ensures.gone
    ∙ changed_twice files c.args.file None (Some c.from_vec.result)
    ∙ ap (λ (bytes : List _). with_bytes files c.args.file (Some bytes))
    (c.from_vec.ensures ∙ c.in_ok-extend_from_slice.ensures.items ∙ ap (λ (held : List _). held ++ c.args.more.now) c.take-bytes.ensures.held)
