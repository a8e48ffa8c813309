use Rattle.std.proofs.Common.{arith}
use Rattle.http_bodies.proofs.ReadLemmas.{StopsIn-made}
use Rattle.http_bodies.proofs.reading.pass_bytes.Goals as goal

pub returns-in-Err-Failed-clause-stops : goal.returns-in-Err-Failed-clause-stops
returns-in-Err-Failed-clause-stops g c =
    StopsIn-made _ _ _ _ _ _ c.in-Err-Failed.ensures.fewer (grind arith) (grind arith) (λ more is. tt)

pub returns-in-Err-Memory-clause-stops : goal.returns-in-Err-Memory-clause-stops
returns-in-Err-Memory-clause-stops g c =
    StopsIn-made _ _ _ _ _ _ c.in-Err-Memory.ensures.fewer (grind arith) (grind arith) (λ more is. tt)
