-- What the file begins with, the host, the number of items, and the items.
use Rattle.std.proofs.Common.{sym, subst, ◌∙◌}
use Rattle.wire_bytes.specs.Grammar.{sees_counted}
use Rattle.wire_bytes.specs.GrammarLaws.{field_finds, field_refuses, refused_again, refused_by, then_finds, then_refuses, first_refuses, seen_finds, seen_refuses}
use Rattle.wire_bytes.specs.GrammarReading.{Finds}
use Rattle.ref_counts.specs.Numbers.{Items}
use Rattle.ref_counts.specs.LayoutLaws.{counts_sees}
use Rattle.ref_counts.specs.CountsFile.{counts_grammar, counts_from_items}
use Rattle.ref_counts.proofs.reading.read_body.Goals as goal

pub returns-in_err-read_magic : goal.returns-in_err-read_magic
unfolding counts_grammar
returns-in_err-read_magic c =
    refused_again _ _ _ c.from_residual.ensures.1 (seen_refuses (counts_sees c.args.host) (first_refuses _ c.in_err-read_magic.ensures))

pub returns-in_err-read_host : goal.returns-in_err-read_host
unfolding counts_grammar
returns-in_err-read_host c =
    refused_again _ _ _ c.from_residual-in_err-read_host.ensures.1
    (seen_refuses (counts_sees c.args.host) (then_refuses _ c.in_ok-read_magic.ensures (first_refuses _ c.in_err-read_host.ensures)))

pub returns-in_err-count : goal.returns-in_err-count
unfolding counts_grammar
returns-in_err-count c =
    refused_by _ _ _ c.from_residual-in_err-count.ensures.1
    (λ e told. seen_refuses (counts_sees c.args.host) (then_refuses _ c.in_ok-read_magic.ensures (then_refuses _ c.in_ok-read_host.ensures
    (seen_refuses (sees_counted _ _ _ _) (first_refuses _ (field_refuses c.in_err-count.ensures.field.reads (told ∙ c.in_err-count.ensures.here)))))))

pub returns-in_err-items : goal.returns-in_err-items
unfolding counts_grammar
returns-in_err-items c =
    refused_again _ _ _ c.from_residual-in_err-items.ensures.1
    (seen_refuses (counts_sees c.args.host) (then_refuses _ c.in_ok-read_magic.ensures (then_refuses _ c.in_ok-read_host.ensures
    (seen_refuses (sees_counted _ _ _ _) (then_refuses _ (field_finds c.in_ok-count.ensures.field.reads) c.in_err-items.ensures)))))

pub from_items-requires : goal.from_items-requires
from_items-requires c = counts_from_items c.in_ok-count.count c.in_ok-items.items.items c.in_ok-items.ensures.fits

pub returns : goal.returns
unfolding counts_grammar
returns c =
    subst (λ (items : Items). Finds (counts_grammar c.args.host) c.args.reader.now items c.read_items.new.reader) (sym c.from_items.ensures)
    (seen_finds (counts_sees c.args.host) (then_finds _ c.in_ok-read_magic.ensures (then_finds _ c.in_ok-read_host.ensures
    (seen_finds (sees_counted _ _ _ _) (then_finds _ (field_finds c.in_ok-count.ensures.field.reads) c.in_ok-items.ensures)))))
