use Rattle.std.proofs.Common.{sym, ◌∙◌, inl, inr}
use Rattle.browse_http.proofs.FileLemmas.{memory_fate, other_fate}
use Rattle.browse_http.proofs.answers.respond.Goals as goal

pub returns-in-Err-clause-ends : goal.returns-in-Err-clause-ends
returns-in-Err-clause-ends g c = inr (c.in-Err.ensures.lacks, c.give_up.ensures.says)

pub returns-in-Err-write_reply-clause-ends : goal.returns-in-Err-write_reply-clause-ends
returns-in-Err-write_reply-clause-ends g c = inl c.in-Err-write_reply.ensures.front

pub returns-then-is_memory-clause-ends : goal.returns-then-is_memory-clause-ends
returns-then-is_memory-clause-ends g c = inl (memory_fate c.args.reply.now (sym c.is_memory.ensures ∙ c.if-is_memory.true), c.in-Ok-write_reply.ensures.all)

pub returns-then-closes-clause-ends : goal.returns-then-closes-clause-ends
returns-then-closes-clause-ends g c =
    inl (c.if-closes.true, other_fate c.args.reply.now (sym c.is_memory.ensures ∙ c.if-is_memory.false), c.in-Ok-write_reply.ensures.all)

pub returns-clause-goes : goal.returns-clause-goes
returns-clause-goes g c = record {
  wrote = c.in-Ok-write_reply.ensures.all;
  stays_open = c.if-closes.false;
  fine = other_fate c.args.reply.now (sym c.is_memory.ensures ∙ c.if-is_memory.false);
}
