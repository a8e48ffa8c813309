use Rattle.open_sessions.proofs.Tokens.{forgotten}
use Rattle.open_sessions.proofs.edits.forget.Goals as goal

pub returns-in-Some : goal.returns-in-Some
returns-in-Some c = λ was fresh is.
    forgotten was c.args.kept.now c.forget.new.self c.args.token c.in-Some.token c.in-Some.is c.forget.ensures fresh is
