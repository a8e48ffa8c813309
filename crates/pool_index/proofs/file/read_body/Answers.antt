-- What the file begins with, its byte, and its items.
use Rattle.wire_bytes.specs.Grammar.{magic, followed_by}
use Rattle.wire_bytes.specs.GrammarLaws.{then_finds, then_refuses, first_refuses, seen_finds, seen_refuses}
use Rattle.pool_index.specs.Layout.{byte_bytes, items_grammar, index_grammar, index_sees}
use Rattle.pool_index.proofs.file.read_body.Goals as goal

pub returns-in-Err : goal.returns-in-Err
unfolding index_grammar
returns-in-Err c = seen_refuses (index_sees c.args.byte) (first_refuses (λ _. followed_by (magic (byte_bytes c.args.byte)) (λ _. items_grammar c.args.byte)) c.in-Err.ensures)

pub returns-in-Err-read_byte : goal.returns-in-Err-read_byte
unfolding index_grammar
returns-in-Err-read_byte c =
    seen_refuses (index_sees c.args.byte)
    (then_refuses (λ _. followed_by (magic (byte_bytes c.args.byte)) (λ _. items_grammar c.args.byte)) c.in-Ok.ensures (first_refuses (λ _. items_grammar c.args.byte) c.in-Err-read_byte.ensures))

pub returns-in-Err-read_counted : goal.returns-in-Err-read_counted
unfolding index_grammar
returns-in-Err-read_counted c =
    seen_refuses (index_sees c.args.byte)
    (then_refuses (λ _. followed_by (magic (byte_bytes c.args.byte)) (λ _. items_grammar c.args.byte)) c.in-Ok.ensures
    (then_refuses (λ _. items_grammar c.args.byte) c.in-Ok-read_byte.ensures c.in-Err-read_counted.ensures))

pub returns-in-Ok-read_counted : goal.returns-in-Ok-read_counted
unfolding index_grammar
returns-in-Ok-read_counted c =
    seen_finds (index_sees c.args.byte)
    (then_finds (λ _. followed_by (magic (byte_bytes c.args.byte)) (λ _. items_grammar c.args.byte)) c.in-Ok.ensures
    (then_finds (λ _. items_grammar c.args.byte) c.in-Ok-read_byte.ensures c.in-Ok-read_counted.ensures))
