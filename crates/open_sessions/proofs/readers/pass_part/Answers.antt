use Rattle.std.proofs.Common.{◌≡◌, ◌+◌, length, refl, subst}
use Rattle.std.specs.Prelude.{Some, slice_set}
use Rattle.std.proofs.lemmas.Option.{slice_get_read}
use Rattle.open_sessions.specs.declared.readers.OpenReader.{OpenReader}
use Rattle.open_sessions.specs.Giving.{IsPassed}
use Rattle.open_sessions.proofs.Passing.{passed_further, passed_stopped}
use Rattle.open_sessions.proofs.readers.pass_part.Goals as goal

pub returns-in-Some-clause-passed : goal.returns-in-Some-clause-passed
returns-in-Some-clause-passed g c = λ reader there.
    let was = c.index_mut-reader.result.now in
    let read = slice_get_read _ _ _ _ refl c.requires.there c.index_mut-reader.ensures.value in
    let same : was ≡ reader = cc (read, there) in
    let items = c.args.readers.now.items.items in
    subst (λ (r : OpenReader _). IsPassed g.N.Namer.holds g.N.Namer.digest_of r c.args.part.now items c.args.index
    (slice_set items c.args.index (record was { digest = c.update.new.state; wrong = Some c.in-Some.digest }))) same
    (passed_stopped g.N.Namer.holds g.N.Namer.digest_of was c.args.part.now items c.args.index c.update.new.state c.update.ensures
    c.in-Some.digest c.in-Some.ensures)

pub returns-in-None-clause-passed : goal.returns-in-None-clause-passed
returns-in-None-clause-passed g c = λ reader there.
    let was = c.index_mut-reader.result.now in
    let read = slice_get_read _ _ _ _ refl c.requires.there c.index_mut-reader.ensures.value in
    let same : was ≡ reader = cc (read, there) in
    let items = c.args.readers.now.items.items in
    subst (λ (r : OpenReader _). IsPassed g.N.Namer.holds g.N.Namer.digest_of r c.args.part.now items c.args.index
    (slice_set items c.args.index (record was { given = was.given + length c.args.part.now; digest = c.update.new.state }))) same
    (passed_further g.N.Namer.holds g.N.Namer.digest_of was c.args.part.now items c.args.index c.update.new.state c.update.ensures
    c.in-None.ensures)
