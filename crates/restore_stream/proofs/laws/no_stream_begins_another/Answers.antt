use Rattle.restore_stream.proofs.PrintLaws.{stream_print}
use Rattle.restore_stream.proofs.FitLaws.{tree_fits}
use Rattle.restore_stream.proofs.StreamLaws.{streams_one_way, no_cut_stream}
use Rattle.restore_stream.proofs.laws.no_stream_begins_another.Goals as goal

pub returns-clause-print : goal.returns-clause-print
returns-clause-print c = stream_print

pub returns-clause-one_way : goal.returns-clause-one_way
returns-clause-one_way c = streams_one_way

pub returns-clause-cut : goal.returns-clause-cut
returns-clause-cut c = no_cut_stream

pub returns-clause-fits : goal.returns-clause-fits
returns-clause-fits c = tree_fits
