use Rattle.std.proofs.Common.{refl}
use Rattle.office_catalog.specs.Known.{given_commit}
use Rattle.office_catalog.proofs.Keeping.{kept_change, change_is, in_view, not_broken}
use Rattle.office_catalog.proofs.catalog.Catalog.set_commit.Goals as goal

pub unreachable-requires : goal.unreachable-requires
unreachable-requires c = not_broken c.args.next c.args.lines c.in-Err.field-0 c.requires.sound c.in-Err.ensures.broken

pub invariant_of-self : goal.invariant_of-self
invariant_of-self c =
    kept_change (given_commit c.args.next c.args.receipts c.args.lines) c.args.host c.self.inside.hosts c.self.inside.named c.index_mut.result.now c.set_commit.new.self
    (record { name = λ index. refl; host = λ index. refl }) (in_view _ _ _ _ c.self.view_is c.requires.host) (λ index there. c.requires.sound) c.index_mut.ensures.value c.in-Ok.ensures.ok
    c.self.invariant

pub returns : goal.returns
returns c =
    change_is (given_commit c.args.next c.args.receipts c.args.lines) c.args.host c.self.inside.epoch c.self.inside.hosts.items c.args.self.now c.index_mut.result.now c.set_commit.new.self c.self.view_is
    (in_view _ _ _ _ c.self.view_is c.requires.host) c.index_mut.ensures.value c.in-Ok.ensures.ok
