-- What the file begins with, the host, the kind, the start, the number of rows, and the rows.
use Rattle.std.proofs.Common.{◌∙◌}
use Rattle.wire_bytes.specs.Grammar.{sees_counted}
use Rattle.wire_bytes.specs.GrammarLaws.{field_finds, field_refuses, refused_again, refused_by, then_finds, then_refuses, first_refuses, seen_finds, seen_refuses}
use Rattle.partial_files.specs.LayoutLaws.{partial_sees}
use Rattle.partial_files.specs.Partials.{partial_grammar}
use Rattle.partial_files.proofs.reading.read_body.Goals as goal

pub returns-in_err-read_magic : goal.returns-in_err-read_magic
unfolding partial_grammar
returns-in_err-read_magic c =
    refused_again _ _ _ c.from_residual.ensures.1 (seen_refuses (partial_sees c.args.host) (first_refuses _ c.in_err-read_magic.ensures))

pub returns-in_err-read_host : goal.returns-in_err-read_host
unfolding partial_grammar
returns-in_err-read_host c =
    refused_again _ _ _ c.from_residual-in_err-read_host.ensures.1
    (seen_refuses (partial_sees c.args.host) (then_refuses _ c.in_ok-read_magic.ensures (first_refuses _ c.in_err-read_host.ensures)))

pub returns-in_err-kind : goal.returns-in_err-kind
unfolding partial_grammar
returns-in_err-kind c =
    refused_again _ _ _ c.from_residual-in_err-kind.ensures.1
    (seen_refuses (partial_sees c.args.host) (then_refuses _ c.in_ok-read_magic.ensures (then_refuses _ c.in_ok-read_host.ensures
    (first_refuses _ c.in_err-kind.ensures))))

pub returns-in_err-start : goal.returns-in_err-start
unfolding partial_grammar
returns-in_err-start c =
    refused_by _ _ _ c.from_residual-in_err-start.ensures.1
    (λ e told. seen_refuses (partial_sees c.args.host) (then_refuses _ c.in_ok-read_magic.ensures (then_refuses _ c.in_ok-read_host.ensures
    (then_refuses _ c.in_ok-kind.ensures
    (first_refuses _ (field_refuses c.in_err-start.ensures.field.reads (told ∙ c.in_err-start.ensures.here)))))))

pub returns-in_err-count : goal.returns-in_err-count
unfolding partial_grammar
returns-in_err-count c =
    refused_by _ _ _ c.from_residual-in_err-count.ensures.1
    (λ e told. seen_refuses (partial_sees c.args.host) (then_refuses _ c.in_ok-read_magic.ensures (then_refuses _ c.in_ok-read_host.ensures
    (then_refuses _ c.in_ok-kind.ensures (then_refuses _ (field_finds c.in_ok-start.ensures.field.reads)
    (seen_refuses (sees_counted _ _ _ _) (first_refuses _ (field_refuses c.in_err-count.ensures.field.reads (told ∙ c.in_err-count.ensures.here)))))))))

pub returns-in_err-rows : goal.returns-in_err-rows
unfolding partial_grammar
returns-in_err-rows c =
    refused_again _ _ _ c.from_residual-in_err-rows.ensures.1
    (seen_refuses (partial_sees c.args.host) (then_refuses _ c.in_ok-read_magic.ensures (then_refuses _ c.in_ok-read_host.ensures
    (then_refuses _ c.in_ok-kind.ensures (then_refuses _ (field_finds c.in_ok-start.ensures.field.reads)
    (seen_refuses (sees_counted _ _ _ _) (then_refuses _ (field_finds c.in_ok-count.ensures.field.reads) c.in_err-rows.ensures)))))))

pub returns : goal.returns
unfolding partial_grammar
returns c =
    seen_finds (partial_sees c.args.host) (then_finds _ c.in_ok-read_magic.ensures (then_finds _ c.in_ok-read_host.ensures
    (then_finds _ c.in_ok-kind.ensures (then_finds _ (field_finds c.in_ok-start.ensures.field.reads)
    (seen_finds (sees_counted _ _ _ _) (then_finds _ (field_finds c.in_ok-count.ensures.field.reads) c.in_ok-rows.ensures))))))
