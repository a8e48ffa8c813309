-- A chunked body (RFC 9112, section 7.1), and the limits on its parts.
use Rattle.std.specs.Prelude.{◌≡◌, ℕ, ◌<◌, ◌≤◌, List, [], ◌∷◌, ◌++◌, length, All}
use Rattle.httparse.specs.Ascii.{crlf_bytes}
use Rattle.http_heads.specs.Fields.{body_limit}
use Rattle.httparse.specs.Grammar.{LineEnd, ChunkLine, print_chunk_line, IsChunkLine, chunk_size, Field, IsField, print_section}

-- the most bytes of a chunk line
abbrev pub line_limit : ℕ
line_limit = 1024

-- the most bytes of a trailer section, and the most fields of it
abbrev pub trailer_limit : ℕ
trailer_limit = 16384

abbrev pub trailer_fields : ℕ
trailer_fields = 64

-- these bytes are a chunk line that announces so many bytes
pub record IsLine (bytes : List ℕ) (size : ℕ) : Type 0 where
  pub line : ChunkLine
  pub is_line : IsChunkLine line
  pub bytes_are : bytes ≡ print_chunk_line line
  pub short : length bytes ≤ line_limit
  pub size_is : size ≡ chunk_size line

-- these bytes are a trailer section
pub record IsTrailer (bytes : List ℕ) : Type 0 where
  pub fields : List Field
  pub last : LineEnd
  pub are_fields : All IsField fields
  pub bytes_are : bytes ≡ print_section fields last
  pub short : length bytes ≤ trailer_limit
  pub few : length fields ≤ trailer_fields

-- a chunk: its line, and its data, of at least one byte
pub record Chunk : Type 0 where
  pub line : List ℕ
  pub bytes : List ℕ

pub record IsChunk (chunk : Chunk) : Type 0 where
  pub is_line : IsLine chunk.line (length chunk.bytes)
  pub some : 0 < length chunk.bytes

abbrev pub print_chunk : Chunk → List ℕ
print_chunk chunk = chunk.line ++ (chunk.bytes ++ crlf_bytes)

abbrev pub AreChunks : List Chunk → Type 0
AreChunks [] = Unit {0}
AreChunks (chunk ∷ chunks) = IsChunk chunk × AreChunks chunks

-- their bytes as they are sent, and the bytes that they carry
abbrev pub print_chunks : List Chunk → List ℕ
print_chunks [] = []
print_chunks (chunk ∷ chunks) = print_chunk chunk ++ print_chunks chunks

abbrev pub carried : List Chunk → List ℕ
carried [] = []
carried (chunk ∷ chunks) = chunk.bytes ++ carried chunks

-- whole chunks, and the bytes that they carry
pub record AreWhole (raw body : List ℕ) : Type 0 where
  pub chunks : List Chunk
  pub are : AreChunks chunks
  pub raw_is : raw ≡ print_chunks chunks
  pub body_is : body ≡ carried chunks

-- a whole body in chunks: chunks, a line that announces none, and a trailer section
pub record IsChunked (raw body : List ℕ) : Type 0 where
  pub front : List ℕ
  pub whole : AreWhole front body
  pub last : List ℕ
  pub is_last : IsLine last 0
  pub trailer : List ℕ
  pub is_trailer : IsTrailer trailer
  pub raw_is : raw ≡ front ++ (last ++ trailer)
  pub few : length body ≤ body_limit
