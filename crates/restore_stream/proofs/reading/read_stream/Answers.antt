use Rattle.restore_stream.specs.Streams.{stream_layout}
use Rattle.restore_stream.proofs.StreamLaws.{read_exactly_from, tree_read, tree_back}
use Rattle.restore_stream.proofs.reading.read_stream.Goals as goal

pub returns-clause-exact : goal.returns-clause-exact
returns-clause-exact g c = read_exactly_from stream_layout (λ tree. tree) _ _ c.read_parts.result c.read_parts.ensures.read

pub returns-clause-tree : goal.returns-clause-tree
returns-clause-tree g c = tree_read _ _ c.read_parts.result c.read_parts.ensures.read c.read_parts.ensures.made

pub returns-clause-back : goal.returns-clause-back
returns-clause-back g c = tree_back _ _ c.read_parts.result c.read_parts.ensures.read
