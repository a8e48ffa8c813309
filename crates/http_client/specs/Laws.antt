-- What each end writes, as the other reads it.
use Rattle.std.specs.Prelude.{◌≡◌, ℕ, ◌<◌, ◌≤◌, ◌^◌, Bool, true, false, List, [], ◌++◌, length, Option, Some, None, IfSome, IsUtf8, unwrap_or}
use Rattle.http_heads.specs.declared.version.Version.TheVariants.{Http11}
use Rattle.http_heads.specs.Heads.{HeadParts}
use Rattle.http_heads.specs.Fronts.{IsHeadRead, Read as IsHead}
use Rattle.http_heads.specs.Responses.{HasResponse}
use Rattle.http_wire.specs.Message.{Message, phrase, response_head, response_bytes, bytes_head, no_memory_response}
use Rattle.http_client.specs.Requests.{Ask, request_bytes}
use Rattle.http_client.specs.Plain.{is_plain, IsPlainMessage}

-- the length of the body, if there is one
abbrev pub size_of : Option (List ℕ) → Option ℕ
size_of None = None
size_of (Some body) = Some (length body)

-- what a server reads of the head
abbrev pub parts_asked : Ask → HeadParts
parts_asked ask = record {
  method = ask.method;
  target = ask.target;
  version = Http11;
  content_length = size_of ask.body;
  chunked = false;
  expects_continue = false;
  closes = false;
}

-- what this client writes, a server reads as the head that says it, and then the body, whatever follows
abbrev pub RequestsAreHeads : Type 0
RequestsAreHeads =
    (ask : Ask) → is_plain ask ≡ true → IsUtf8 ask.target → (rest : List ℕ)
    → IsHeadRead (request_bytes ask ++ rest) (IsHead (parts_asked ask) (unwrap_or ask.body [] ++ rest))

-- what a server writes is a response with this status and body, whatever follows
abbrev pub MessagesAreResponses : Type 0
MessagesAreResponses =
    (m : Message) → IsPlainMessage m → (rest : List ℕ) → HasResponse (response_bytes m ++ rest) m.status m.body rest

-- so is the head of bytes with so many bytes behind it
abbrev pub BytesAreResponses : Type 0
BytesAreResponses =
    (body : List ℕ) (closes : Bool) → length body < 2 ^ 64 → (rest : List ℕ)
    → HasResponse (bytes_head (length body) closes ++ (body ++ rest)) 200 body rest

-- and the response to want of memory
abbrev pub NoMemoryIsAResponse : Type 0
NoMemoryIsAResponse = (rest : List ℕ) → HasResponse (no_memory_response ++ rest) 507 [] rest

-- a message of short texts has a head of at most 512 bytes
abbrev pub ShortTextsMakeShortHeads : Type 0
ShortTextsMakeShortHeads =
    (m : Message) → length (phrase m.status) ≤ 64 → length m.content_type ≤ 64 → IfSome m.allow (λ methods. length methods ≤ 64)
    → length m.body < 2 ^ 64 → length (response_head m) ≤ 512
