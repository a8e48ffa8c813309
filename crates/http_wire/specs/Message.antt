-- A response, byte for byte (RFC 9112, sections 3 to 6).
use Rattle.std.specs.Prelude.{ℕ, Bool, true, false, List, [], ◌∷◌, ◌++◌, length, Option, Some, None, codes, decimal, unwrap_or, if◌then◌else◌}
use Rattle.http.specs.StatusCode.{code_digits, reason_phrase}

-- what a response says, and whether it answers HEAD
pub record Message : Type 0 where
  pub status : ℕ
  pub content_type : List ℕ
  pub body : List ℕ
  pub allow : Option (List ℕ)
  pub closes : Bool
  pub is_head : Bool

abbrev pub line_end : List ℕ
line_end = 13 ∷ 10 ∷ []

-- the phrase that goes with a status, as `Not Found` with 404
unfoldable pub phrase : ℕ → List ℕ
phrase status = unwrap_or (reason_phrase status) []

unfoldable pub status_line : ℕ → List ℕ
status_line status = codes "HTTP/1.1 " ++ code_digits status ++ codes " " ++ phrase status ++ line_end

unfoldable pub field_line : List ℕ → List ℕ → List ℕ
field_line name value = name ++ codes ": " ++ value ++ line_end

-- the length of the body in decimal
unfoldable pub length_line : ℕ → List ℕ
length_line length = field_line (codes "Content-Length") (decimal length)

-- the methods that the target takes, where they are given
unfoldable pub allow_line : Option (List ℕ) → List ℕ
allow_line None = []
allow_line (Some methods) = field_line (codes "Allow") methods

-- the connection's last response
unfoldable pub close_line : Bool → List ℕ
close_line false = []
close_line true = field_line (codes "Connection") (codes "close")

-- the response up to its body; the length is that of the body also where the body is left off
unfoldable pub response_head : Message → List ℕ
response_head message =
    status_line message.status ++ field_line (codes "Content-Type") message.content_type
    ++ length_line (length message.body) ++ allow_line message.allow ++ close_line message.closes ++ line_end

-- the head of a response of so many bytes that follow it in parts
unfoldable pub bytes_head : ℕ → Bool → List ℕ
bytes_head size closes =
    status_line 200 ++ field_line (codes "Content-Type") (codes "application/octet-stream")
    ++ length_line size ++ close_line closes ++ line_end

-- the body, which is left off where the method is HEAD
abbrev pub body_sent : Message → List ℕ
body_sent message = if message.is_head then [] else message.body

abbrev pub response_bytes : Message → List ℕ
response_bytes message = response_head message ++ body_sent message

-- the interim response that asks for a body (RFC 9110, section 15.2.1)
abbrev pub continue_response : List ℕ
continue_response = codes "HTTP/1.1 100 Continue" ++ line_end ++ line_end

-- the response to want of memory
abbrev pub no_memory_response : List ℕ
no_memory_response =
    codes "HTTP/1.1 507 Insufficient Storage" ++ line_end ++ codes "Content-Length: 0" ++ line_end ++ codes "Connection: close" ++ line_end
    ++ line_end
