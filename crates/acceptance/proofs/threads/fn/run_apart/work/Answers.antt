use denote.Param.Send.{sendable}
use Rattle.acceptance.proofs.threads.fn.run_apart.work.Goals as goal

pub run-requires-send-D : goal.run-requires-send-D
run-requires-send-D g c κs within = search sendable

pub run-requires-send-C : goal.run-requires-send-C
run-requires-send-C g c κs within = search sendable
