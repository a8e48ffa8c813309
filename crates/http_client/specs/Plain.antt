-- Requests and messages that the other end reads as they are.
use Rattle.std.specs.Prelude.{◌≡◌, ℕ, ◌<◌, ◌≤◌, ◌^◌, Bool, true, false, ◌&&◌, nat_lt, nat_le, List, length, Option, Some, None, IfSome}
use Rattle.std.specs.List.{list_all}
use Rattle.httparse.specs.Grammar.{is_token, is_uri_byte, is_value_byte}
use Rattle.http_heads.specs.Fields.{body_limit}
use Rattle.http_heads.specs.Fronts.{head_limit}
use Rattle.http_heads.specs.Responses.{ends_at_head}
use Rattle.http_wire.specs.Message.{Message, phrase, response_head}
use Rattle.http_client.specs.Requests.{Ask, request_head}

-- there are bytes, and each may stand in a target
abbrev pub is_target : List ℕ → Bool
is_target bytes = nat_lt 0 (length bytes) && list_all is_uri_byte bytes

-- each byte may stand in a field's value
abbrev pub is_value : List ℕ → Bool
is_value bytes = list_all is_value_byte bytes

-- the body is within the limit
abbrev pub has_fitting_body : Option (List ℕ) → Bool
has_fitting_body None = true
has_fitting_body (Some body) = nat_le (length body) body_limit

-- its texts may stand in a head, which is within the limit, and so is its body
abbrev pub is_plain : Ask → Bool
is_plain ask =
    is_token ask.method && is_target ask.target && is_value ask.host && nat_le (length (request_head ask)) head_limit
    && has_fitting_body ask.body

-- a message with a body, whose texts may stand in a head within the limit
pub record IsPlainMessage (m : Message) : Type 0 where
  pub status : m.status < 1000
  pub has_body : ends_at_head m.status ≡ false
  pub phrase : is_value (phrase m.status) ≡ true
  pub content_type : is_value m.content_type ≡ true
  pub allow : IfSome m.allow (λ methods. is_value methods ≡ true)
  pub short : length (response_head m) ≤ head_limit
  pub size : length m.body < 2 ^ 64
  pub whole : m.is_head ≡ false
