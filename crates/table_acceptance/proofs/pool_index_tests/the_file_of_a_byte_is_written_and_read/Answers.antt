-- One item is in order.
use Rattle.std.specs.List.Sorted.{IsStrictlySortedBy}
use Rattle.table_acceptance.proofs.pool_index_tests.the_file_of_a_byte_is_written_and_read.Goals as goal

pub write_bucket-requires-clause-rising : goal.write_bucket-requires-clause-rising
unfolding IsStrictlySortedBy
write_bucket-requires-clause-rising g c = (tt, tt)
