use Rattle.std.proofs.Common.{sym, subst, IsUtf8}
use Rattle.push_work.proofs.HostLemmas.{host_text}
use Rattle.push_work.proofs.ends.text_of_host.Goals as goal

pub unreachable-requires : goal.unreachable-requires
unreachable-requires c =
    c.in-Err.ensures.cases.0 (subst IsUtf8 (sym c.as_slice.ensures.value) (host_text c.args.host.now c.as_slice.ensures.valid))
