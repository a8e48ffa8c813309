use Rattle.open_sessions.proofs.Tokens.{has_kept}
use Rattle.open_sessions.proofs.edits.remove_in.Goals as goal

pub forget-requires : goal.forget-requires
forget-requires c = has_kept c.args.dump.now.kept c.keep.new.kept c.args.token c.in_ok-keep.ensures.ok
