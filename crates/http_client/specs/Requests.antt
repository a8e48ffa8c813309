-- A request, byte for byte (RFC 9112, sections 3 to 6).
use Rattle.std.specs.Prelude.{ℕ, List, [], ◌++◌, length, Option, Some, None, codes, unwrap_or}
use Rattle.std.specs.Option.{option_copied}
use Rattle.http_wire.specs.Message.{line_end, length_line}
use Rattle.http_client.specs.declared.requests.Request.{Request}

-- what a request asks
pub record Ask : Type 0 where
  pub method : List ℕ
  pub target : List ℕ
  pub host : List ℕ
  pub body : Option (List ℕ)

abbrev pub ask_of : Request → Ask
ask_of request = record {
  method = request.method.now;
  target = request.target.now;
  host = request.host.now;
  body = option_copied request.body;
}

-- the length of the body, if there is one
abbrev pub length_part : Option (List ℕ) → List ℕ
length_part None = []
length_part (Some body) = length_line (length body)

-- the request up to its body
unfoldable pub request_head : Ask → List ℕ
request_head ask =
    ask.method ++ codes " " ++ ask.target ++ codes " HTTP/1.1" ++ line_end ++ codes "Host: " ++ ask.host ++ line_end
    ++ length_part ask.body ++ line_end

abbrev pub request_bytes : Ask → List ℕ
request_bytes ask = request_head ask ++ unwrap_or ask.body []
