use Rattle.json_back.proofs.BackLaws.{bytes-read}
use Rattle.json_back.proofs.laws.bytes_read_back.Goals as goal

pub returns : goal.returns
returns c = bytes-read
