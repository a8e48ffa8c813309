use Rattle.std.proofs.lemmas.Bool.{false≢true}
use Rattle.intent_journal.proofs.BodyLaws.{no_magic, no_list, no_end}
use Rattle.intent_journal.proofs.intent.read_body.Goals as goal

pub returns-in-Err-clause-back : goal.returns-in-Err-clause-back
returns-in-Err-clause-back c = λ changes intent is. absurd (no_magic _ _ _ _ c.new-reader.ensures c.in-Err.ensures.field.reads changes is)

pub returns-in-Err-read_changes-clause-back : goal.returns-in-Err-read_changes-clause-back
returns-in-Err-read_changes-clause-back c =
    no_list _ _ _ _ _ c.new-reader.ensures c.in-Ok.ensures.field.reads c.in-Ok-read_u64.ensures.field.reads _
    c.in-Err-read_changes.ensures.back

pub returns-then-not-is_at_end-clause-back : goal.returns-then-not-is_at_end-clause-back
returns-then-not-is_at_end-clause-back c = λ changes intent is.
    absurd (no_end _ _ _ _ _ c.new-reader.ensures c.in-Ok.ensures.field.reads c.in-Ok-read_u64.ensures.field.reads _
    c.read_changes.new.reader (λ e. false≢true (c.if-not-is_at_end.ensures.1 e)) c.in-Ok-read_changes.ensures.back changes intent is)
