use Rattle.office_store.proofs.Serving.{no_reopening, serves_reopen, answers, refuses}
use Rattle.office_store.proofs.store.Store.apply.Goals as goal

pub returns-then-is_reopen-clause-serves : goal.returns-then-is_reopen-clause-serves
returns-then-is_reopen-clause-serves g c =
    serves_reopen c.args.self.now _ _ _ _ c.is_reopen.ensures c.if-is_reopen.true c.reopen.ensures.steps c.reopen.ensures.crash
    c.reopen.ensures.reopens

pub returns-then-is_halted-clause-serves : goal.returns-then-is_halted-clause-serves
returns-then-is_halted-clause-serves g c =
    refuses c.args.self.now _ _ _ c.is_reopen.ensures c.if-is_reopen.false c.is_halted.ensures c.if-is_halted.true

pub returns-then-is_halted-clause-reopens : goal.returns-then-is_halted-clause-reopens
returns-then-is_halted-clause-reopens g c = λ e. absurd (no_reopening _ _ c.is_reopen.ensures c.if-is_reopen.false e)

pub returns-clause-serves : goal.returns-clause-serves
returns-clause-serves g c =
    answers c.args.self.now _ _ _ _ _ c.is_reopen.ensures c.if-is_reopen.false c.is_halted.ensures c.if-is_halted.false c.carry_out.ensures.runs
    c.carry_out.ensures.there c.carry_out.ensures.files c.carry_out.ensures.quiet

pub returns-clause-reopens : goal.returns-clause-reopens
returns-clause-reopens g c = λ e. absurd (no_reopening _ _ c.is_reopen.ensures c.if-is_reopen.false e)
