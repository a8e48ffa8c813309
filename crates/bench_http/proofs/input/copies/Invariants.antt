-- Each pass puts one copy behind the others.
use Rattle.std.proofs.Common.{◌≡◌, ◌*◌, length, vec_len}
use Rattle.bench_http.proofs.input.copies.Given as goal

abbrev pub invariant-loop : goal.invariant-loop
invariant-loop l = vec_len l.all ≡ l.counter * length l.bytes
