use Rattle.std.proofs.Common.{◌≡◌, ◌≤◌, ◌<◌, ap, ◌∙◌, arith}
use Rattle.std.proofs.lemmas.Bool.{leb-true, leb-false}
use Rattle.backup_index.specs.Index.{Index}
use Rattle.office_catalog.proofs.Leading.{found_by, found_only}
use Rattle.office_catalog.proofs.catalog.Catalog.may_follow.Goals as goal

pub returns-clause-follows : goal.returns-clause-follows
returns-clause-follows c = λ e index there.
    let found = found_by c.args.self.now c.args.host c.hosts.result.now c.index-hosts-host.result c.requires c.hosts.ensures.hosts c.index-hosts-host.is in
    let le : c.next.result ≤ c.from.result = leb-true c.next.result c.from.result e in
    let next : c.next.result ≡ index.next = c.next.ensures ∙ ap (λ (i : Index). i.next) (found_only _ _ _ _ index found there) in
    let number : c.from.result ≡ c.args.number = c.from.ensures in
    omega (arith, le, next, number)

pub returns-clause-below : goal.returns-clause-below
returns-clause-below c = λ e index there.
    let found = found_by c.args.self.now c.args.host c.hosts.result.now c.index-hosts-host.result c.requires c.hosts.ensures.hosts c.index-hosts-host.is in
    let lt : c.from.result < c.next.result = leb-false c.next.result c.from.result e in
    let next : c.next.result ≡ index.next = c.next.ensures ∙ ap (λ (i : Index). i.next) (found_only _ _ _ _ index found there) in
    let number : c.from.result ≡ c.args.number = c.from.ensures in
    omega (arith, lt, next, number)
