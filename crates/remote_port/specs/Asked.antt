-- A request that the program holds.
use Rattle.std.specs.Prelude.{codes, string_bytes}
use Rattle.std.specs.Option.{option_copied}
use Rattle.http_client.specs.Requests.{Ask}
use Rattle.remote_port.specs.declared.codec.Asked.{Asked}

-- what it asks, of the host `b`
abbrev pub asked_of : Asked → Ask
asked_of asked = record {
  method = asked.method.now;
  target = string_bytes asked.target;
  host = codes "b";
  body = option_copied asked.body;
}
