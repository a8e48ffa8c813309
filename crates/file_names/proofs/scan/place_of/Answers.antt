use Rattle.std.proofs.Common.{arith}
use Rattle.file_names.proofs.ScanLaws.{place_of_is}
use Rattle.file_names.proofs.scan.place_of.Goals as goal

pub returns-then-byte-stop-clause-value : goal.returns-then-byte-stop-clause-value
returns-then-byte-stop-clause-value c = place_of_is c.args.stop c.args.bytes.now c.loop-i.i (omega arith) c.loop-i.invariant (λ _. c.if-byte-stop.true)

pub returns-clause-value : goal.returns-clause-value
returns-clause-value c =
    place_of_is c.args.stop c.args.bytes.now _ (omega arith) (λ k below. c.loop-i.invariant k (omega arith)) (λ below. absurd (omega (arith, below)))
