use Rattle.std.proofs.Common.{◌≡◌, take, length}
use Rattle.std.specs.Prelude.{vec_capacity}
use Rattle.turn_lock.specs.Asked.{Asked}
use Rattle.turn_lock.proofs.asking.ask_all.Given as goal

abbrev pub invariant-loop-ask : goal.invariant-loop-ask
invariant-loop-ask g l = record {
  own : l.pass.seat.table_id ≡ l.initial.pass.seat.table_id;
  counted : length l.answers.items ≡ l.ask-index;
  room : vec_capacity l.answers ≡ vec_capacity l.initial.answers;
  asked : Asked l.initial.pass.seat.me.0 (take l.ask-index l.asks) l.answers.items l.pass.seat.me.0;
}
