use Rattle.std.proofs.Common.{sym, ◌∙◌}
use Rattle.json_back.proofs.ReadingLaws.{data-utf8, data-none}
use Rattle.json_back.proofs.reading.read_json.Goals as goal

pub returns-in-Ok : goal.returns-in-Ok
returns-in-Ok c = sym (data-utf8 c.args.bytes.now c.in-Ok.ensures.ok.0 ∙ c.in-Ok.ensures.ok.1)

pub returns-else-is_memory : goal.returns-else-is_memory
returns-else-is_memory c = sym (data-none c.args.bytes.now (c.in-Err.ensures.err (λ memory. let never = c.if-is_memory.ensures.1 memory in absurd cc)))
