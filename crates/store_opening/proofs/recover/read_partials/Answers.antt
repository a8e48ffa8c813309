-- The partials of as many hosts as the catalog has.
use Rattle.std.proofs.Common.{List, length, subst}
use Rattle.backup_index.specs.Index.{Index}
use Rattle.host_partials.specs.Held.{AreTold}
use Rattle.store_opening.proofs.HostTotals.{few_known, without_partial}
use Rattle.store_opening.proofs.recover.read_partials.Goals as goal

pub read_all-requires-clause-few : goal.read_all-requires-clause-few
read_all-requires-clause-few g c = few_known _ _ c.hosts.ensures.hosts c.hosts.ensures.are

pub returns-in-Ok-clause-told : goal.returns-in-Ok-clause-told
returns-in-Ok-clause-told g c = λ all is.
    subst (λ (hosts : List Index). AreTold all (length hosts) c.in-Ok.partials) c.hosts.ensures.hosts (c.in-Ok.ensures.told all is)

pub returns-in-Err-clause-foreign : goal.returns-in-Err-clause-foreign
returns-in-Err-clause-foreign g c = λ file found e all is holds.
    let f = c.partials_refusal.ensures.foreign file found e in
    without_partial _ all c.args.catalog.now _ file found f.0 f.1 is c.hosts.ensures.hosts holds (c.in-Err.ensures.foreign file f.0 f.2)
