-- How the steps of a reading keep what was taken the front of a body.
use Rattle.std.proofs.Common.{◌≡◌, ◌≤◌, ◌<◌, ◌+◌, ◌-◌, ◌==◌, ℕ, Bool, true, false, List, [], ◌∷◌, ◌++◌, length, refl, sym, ap, ◌∙◌, subst, arith, append_assoc, append-nil, length-append}
use Rattle.std.proofs.lemmas.Bool.Decides.{nat_tests}
use Rattle.httparse.specs.Ascii.{crlf_bytes}
use Rattle.http_bodies.specs.declared.body.Place.{Place}
use Rattle.http_bodies.specs.declared.body.Place.TheVariants.{Counted, Line, InChunk, Trailer, Done}
use Rattle.http_heads.specs.Fields.{body_limit}
use Rattle.http_bodies.specs.Chunks.{IsLine, Chunk, IsChunk, print_chunk, AreChunks, print_chunks, carried, AreWhole}
use Rattle.http_bodies.specs.Bodies.{Coding, OfLength, Chunked, IsAtPlace, IsAt, IsItem}
use Rattle.http_bodies.specs.Steps.{behind_by, item_after}

AreChunks-snoc : (chunks : List Chunk) (chunk : Chunk) → AreChunks chunks → IsChunk chunk → AreChunks (chunks ++ chunk ∷ [])
AreChunks-snoc [] chunk are is = (is, tt)
AreChunks-snoc (c ∷ chunks) chunk are is = (are.0, AreChunks-snoc chunks chunk are.1 is)

print_chunks-snoc : (chunks : List Chunk) (chunk : Chunk) → print_chunks (chunks ++ chunk ∷ []) ≡ print_chunks chunks ++ print_chunk chunk
print_chunks-snoc [] chunk = append-nil (print_chunk chunk)
print_chunks-snoc (c ∷ chunks) chunk =
    ap (λ xs. print_chunk c ++ xs) (print_chunks-snoc chunks chunk) ∙ sym (append_assoc (print_chunk c) (print_chunks chunks) (print_chunk chunk))

carried-snoc : (chunks : List Chunk) (chunk : Chunk) → carried (chunks ++ chunk ∷ []) ≡ carried chunks ++ chunk.bytes
carried-snoc [] chunk = append-nil chunk.bytes
carried-snoc (c ∷ chunks) chunk = ap (λ xs. c.bytes ++ xs) (carried-snoc chunks chunk) ∙ sym (append_assoc c.bytes (carried chunks) chunk.bytes)

-- one more chunk
AreWhole-more : (front before line part raw got : List ℕ) → AreWhole front before → IsLine line (length part) → 0 < length part
    → raw ≡ front ++ (line ++ part) → got ≡ before ++ part → AreWhole (raw ++ crlf_bytes) got
AreWhole-more front before line part raw got whole is_line some raw_is got_is =
    let chunk : Chunk = record { line = line; bytes = part } in
    record {
      chunks = whole.chunks ++ chunk ∷ [];
      are = AreChunks-snoc whole.chunks chunk whole.are (record { is_line = is_line; some = some });
      raw_is = ap (λ xs. xs ++ crlf_bytes) raw_is ∙ append_assoc front (line ++ part) crlf_bytes
          ∙ ap (λ xs. front ++ xs) (append_assoc line part crlf_bytes) ∙ ap (λ xs. xs ++ print_chunk chunk) whole.raw_is
          ∙ sym (print_chunks-snoc whole.chunks chunk);
      body_is = got_is ∙ ap (λ xs. xs ++ part) whole.body_is ∙ sym (carried-snoc whole.chunks chunk);
    }

zero_where : (size : ℕ) → (size == 0) ≡ true → size ≡ 0
zero_where size e = grind (arith, nat_tests)

some_where : (size : ℕ) → (size == 0) ≡ false → 0 < size
some_where size e = grind (arith, nat_tests)

at_line : (room size : ℕ) (front had item : List ℕ) (none : Bool) → (size == 0) ≡ none → AreWhole front had → length had + room ≡ body_limit → IsLine item size
    → size ≤ room → IsAt Chunked (behind_by none room size) (front ++ item) had
at_line room size front had item true e whole sum is_line fits = record {
  front = front;
  whole = whole;
  last = item;
  is_last = subst (IsLine item) (zero_where size e) is_line;
  raw_is = refl;
  few = omega (arith, sum);
}
at_line room size front had item false e whole sum is_line fits =
    let all : size ≡ length {A = ℕ} [] + size = omega arith in (
      record {
        front = front;
        before = had;
        whole = whole;
        line = item;
        part = [];
        is_line = subst (IsLine item) all is_line;
        some = subst (λ n. 0 < n) all (some_where size e);
        raw_is = ap (λ xs. front ++ xs) (sym (append-nil item));
        got_is = sym (append-nil had);
      },
      omega (arith, sum, fits),
    )

-- what comes at a place was passed
pub at_item : (coding : Coding) (place : Place) (room size : ℕ) (front had item : List ℕ) → IsAtPlace coding place room front had → IsItem place item size
    → size ≤ room → IsAt coding (item_after place room size) (front ++ item) had
at_item (OfLength count) (Counted left) room size front had item at is fits = absurd is
at_item (OfLength count) Line room size front had item at is fits = absurd at
at_item (OfLength count) (InChunk left) room size front had item at is fits = absurd at
at_item (OfLength count) Trailer room size front had item at is fits = absurd at
at_item (OfLength count) Done room size front had item at is fits = absurd at
at_item Chunked (Counted left) room size front had item at is fits = absurd at
at_item Chunked Line room size front had item at is fits = at_line room size front had item (size == 0) refl at.0 at.1 is fits
at_item Chunked (InChunk left) room size front had item at is fits =
    let in_chunk = at.0 in
    let none : length in_chunk.part + left ≡ length in_chunk.part = omega (arith, is.0) in (
      subst (λ (xs : List ℕ). AreWhole (front ++ xs) had) (sym is.1)
          (AreWhole-more in_chunk.front in_chunk.before in_chunk.line in_chunk.part front had in_chunk.whole
          (subst (IsLine in_chunk.line) none in_chunk.is_line) (omega (arith, in_chunk.some, is.0)) in_chunk.raw_is in_chunk.got_is),
      omega (arith, at.1, is.0),
    )
at_item Chunked Trailer room size front had item at is fits = record {
  front = at.front;
  whole = at.whole;
  last = at.last;
  is_last = at.is_last;
  trailer = item;
  is_trailer = is.0;
  raw_is = ap (λ xs. xs ++ item) at.raw_is ∙ append_assoc at.front at.last item;
  few = at.few;
}
at_item Chunked Done room size front had item at is fits = absurd is

-- bytes that are carried were passed
pub at_counted : (coding : Coding) (left room count : ℕ) (front had bytes : List ℕ) → IsAtPlace coding (Counted left) room front had → length bytes ≡ count
    → count ≤ left → IsAtPlace coding (Counted (left - count)) room (front ++ bytes) (had ++ bytes)
at_counted (OfLength total) left room count front had bytes at size few =
    (ap (λ xs. xs ++ bytes) at.0, omega (arith, at.1, length-append had bytes, size, few))
at_counted Chunked left room count front had bytes at size few = absurd at

pub at_in_chunk : (coding : Coding) (left room count : ℕ) (front had bytes : List ℕ) → IsAtPlace coding (InChunk left) room front had → length bytes ≡ count
    → count ≤ left → IsAtPlace coding (InChunk (left - count)) room (front ++ bytes) (had ++ bytes)
at_in_chunk (OfLength total) left room count front had bytes at size few = absurd at
at_in_chunk Chunked left room count front had bytes at size few =
    let a = at.0 in
    let lengths : length (a.part ++ bytes) + (left - count) ≡ length a.part + left = omega (arith, length-append a.part bytes, size, few) in (
      record {
        front = a.front;
        before = a.before;
        whole = a.whole;
        line = a.line;
        part = a.part ++ bytes;
        is_line = subst (IsLine a.line) (sym lengths) a.is_line;
        some = omega (arith, lengths, a.some);
        raw_is = ap (λ xs. xs ++ bytes) a.raw_is ∙ append_assoc a.front (a.line ++ a.part) bytes
            ∙ ap (λ xs. a.front ++ xs) (append_assoc a.line a.part bytes);
        got_is = ap (λ xs. xs ++ bytes) a.got_is ∙ append_assoc a.before a.part bytes;
      },
      omega (arith, at.1, length-append had bytes, size, few),
    )
