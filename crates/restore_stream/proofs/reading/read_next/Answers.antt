-- A path behind its first byte, or the number of paths behind the end's.
use Rattle.restore_stream.specs.Streams.{row_step}
use Rattle.restore_stream.proofs.ReadingLaws.{reads_again}
use Rattle.restore_stream.proofs.RowReading.{first_tag_refuses, row_next, row_refuses, end_next, end_refuses, next_behind}
use Rattle.std.specs.Option.{option_map}
use Rattle.restore_stream.proofs.reading.read_next.Goals as goal

pub returns-in_err-tag-clause-read : goal.returns-in_err-tag-clause-read
returns-in_err-tag-clause-read g c =
    reads_again (row_step c.args.tree.now) c.args.start _ _ (λ next. option_map (λ m. m.0) next) _ _ c.from_residual.ensures.1
    (first_tag_refuses _ c.in_err-tag.ensures.read)

pub returns-in_err-next-clause-read : goal.returns-in_err-next-clause-read
returns-in_err-next-clause-read g c =
    reads_again (row_step c.args.tree.now) c.args.start _ _ (λ next. option_map (λ m. m.0) next) _ _ c.from_residual-in_err-next.ensures.1
    (row_refuses _ c.if-tag-eq69.true c.in_ok-tag.ensures.read c.in_err-next.ensures.read)

pub returns-then-tag-eq69-clause-read : goal.returns-then-tag-eq69-clause-read
returns-then-tag-eq69-clause-read g c = row_next _ _ c.if-tag-eq69.true c.in_ok-tag.ensures.read c.in_ok-next.ensures.read

pub returns-then-tag-eq69-clause-behind : goal.returns-then-tag-eq69-clause-behind
returns-then-tag-eq69-clause-behind g c = next_behind _ _ c.args.start _ c.in_ok-next.ensures.behind

pub returns-in_err-read_this_u32-clause-read : goal.returns-in_err-read_this_u32-clause-read
returns-in_err-read_this_u32-clause-read g c =
    reads_again (row_step c.args.tree.now) c.args.start _ _
    (λ next. option_map (λ m. m.0) next) _ _ c.from_residual-in_err-read_this_u32.ensures.1
    (end_refuses _ c.len.result c.len.ensures.value c.if-tag-eq69.false c.in_ok-tag.ensures.read c.in_err-read_this_u32.ensures.read)

pub returns-clause-read : goal.returns-clause-read
returns-clause-read g c =
    end_next _ c.len.result c.len.ensures.value c.if-tag-eq69.false c.in_ok-tag.ensures.read c.in_ok-read_this_u32.ensures.read
