use Rattle.std.proofs.Common.{subst, sym, IsUtf8}
use Rattle.event_texts.proofs.NameLemmas.{host_is_text}
use Rattle.event_texts.proofs.targets.name_text.Goals as goal

-- a host's name is text
pub unreachable-requires : goal.unreachable-requires
unreachable-requires c = c.in-Err.ensures.cases.0 (subst IsUtf8 (sym c.as_slice.ensures.value) (host_is_text c.args.host.now c.as_slice.ensures.valid))
