-- What the bytes read ahead say of what comes at a place.
use Rattle.std.proofs.Common.{◌≡◌, ◌≤◌, ◌<◌, ◌+◌, ◌-◌, ℕ, List, ◌++◌, length, take, drop, min, map, refl, sym, ap, ◌∙◌, arith, append_assoc, length-append}
use Rattle.std.proofs.lemmas.List.{length-map, take-append-drop, take-append-le, length-take}
use Rattle.std.proofs.Math.Seq.{take-length, take-append-add}
use Rattle.httparse.specs.declared.spans.HeaderSpan.{HeaderSpan}
use Rattle.httparse.specs.Grammar.{Field, ChunkLine, print_chunk_line, HasNoChunkLine, NeverHasChunkLine, print_section, HasNoSection}
use Rattle.httparse.specs.Spans.{IsChunkLineAt, IsSectionOf, SectionOverflows, header_bytes, name_and_value}
use Rattle.http_bodies.specs.declared.body.Place.TheVariants.{Line, Trailer}
use Rattle.http_bodies.specs.Chunks.{line_limit, trailer_limit, trailer_fields, IsLine}
use Rattle.http_bodies.specs.Bodies.{NeverHasItem, HasLargeChunk}
use Rattle.http_bodies.specs.Steps.{IsWholeItem}

module _ (bytes : List ℕ) (n limit : ℕ) (n_is : n ≡ min (length bytes) limit) where
  split : take n bytes ++ drop n bytes ≡ bytes
  split = take-append-drop n bytes

  -- text at the front of the part that is looked at
  front-text : (text rest : List ℕ) → take n bytes ≡ text ++ rest → bytes ≡ text ++ (rest ++ drop n bytes)
  front-text text rest is = sym split ∙ ap (λ xs. xs ++ drop n bytes) is ∙ append_assoc text rest (drop n bytes)

  front-length : (text rest : List ℕ) → take n bytes ≡ text ++ rest → length text ≤ n
  front-length text rest is = omega (arith, ap length is, length-append text rest, length-take n bytes)

  front-taken : (text rest : List ℕ) (len : ℕ) → take n bytes ≡ text ++ rest → len ≡ length text → take len bytes ≡ text
  front-taken text rest len is len_is =
      ap (λ k. take k bytes) len_is ∙ ap (take (length text)) (front-text text rest is)
      ∙ take-append-le (length text) text (rest ++ drop n bytes) (omega arith) ∙ take-length text

  -- what the part never has, the bytes never have
  never-front : (text rest after : List ℕ) → bytes ++ after ≡ text ++ rest → take n bytes ++ (drop n bytes ++ after) ≡ text ++ rest
  never-front text rest after is = sym (append_assoc (take n bytes) (drop n bytes) after) ∙ ap (λ xs. xs ++ after) split ∙ is

  -- a short text that stands at the front of the bytes and more stands in the part if it is full
  full-front : (text rest after : List ℕ) → bytes ++ after ≡ text ++ rest → limit ≤ length bytes → length text ≤ limit
      → take n bytes ≡ text ++ take (n - length text) rest
  full-front text rest after is full short =
      let n_all : n ≡ length text + (n - length text) = omega (arith, n_is, full, short) in
      sym (take-append-le n bytes after (omega (arith, n_is))) ∙ ap (take n) is ∙ ap (λ k. take k (text ++ rest)) n_all
      ∙ take-append-add text rest (n - length text)

-- ---- chunk lines

module _ (bytes : List ℕ) (n : ℕ) (n_is : n ≡ min (length bytes) line_limit) where
  line-at : (len size : ℕ) (l : ChunkLine) → IsChunkLineAt (take n bytes) len size l → IsLine (take len bytes) size
  line-at len size l at =
      let taken = front-taken bytes n line_limit n_is (print_chunk_line l) (drop len (take n bytes)) len at.reads.1 at.len_is in
      record {
        line = l;
        is_line = at.reads.0;
        bytes_are = taken;
        short = omega (arith, ap length taken, front-length bytes n line_limit n_is (print_chunk_line l) (drop len (take n bytes)) at.reads.1, n_is);
        size_is = at.size_is;
      }

  line-within : (len size : ℕ) (l : ChunkLine) → IsChunkLineAt (take n bytes) len size l → len ≤ length bytes
  line-within len size l at =
      omega (arith, at.len_is, front-length bytes n line_limit n_is (print_chunk_line l) (drop len (take n bytes)) at.reads.1, n_is)

  pub whole-line : (room len size : ℕ) → (l : ChunkLine) × IsChunkLineAt (take n bytes) len size l → size ≤ room → IsWholeItem Line room bytes len size
  whole-line room len size (l, at) fits =
      record { within = line-within len size l at; is_item = line-at len size l at; fits = fits }

  pub large-line : (room len size : ℕ) → (l : ChunkLine) × IsChunkLineAt (take n bytes) len size l → room < size → HasLargeChunk Line room bytes
  large-line room len size (l, at) large = record {
    line = take len bytes;
    rest = drop len bytes;
    size = size;
    is_line = line-at len size l at;
    at_line = refl;
    bytes_are = sym (take-append-drop len bytes);
    large = large;
  }

  pub never-line : NeverHasChunkLine (take n bytes) → NeverHasItem Line bytes
  never-line never after item rest size is text =
      never (drop n bytes ++ after) is.line rest
      (is.is_line, never-front bytes n line_limit n_is item rest after text ∙ ap (λ xs. xs ++ rest) is.bytes_are)

  pub full-line : HasNoChunkLine (take n bytes) → line_limit ≤ length bytes → NeverHasItem Line bytes
  full-line none full after item rest size is text =
      none is.line (take (n - length item) rest)
      (is.is_line, full-front bytes n line_limit n_is item rest after text full is.short ∙ ap (λ xs. xs ++ take (n - length item) rest) is.bytes_are)

-- ---- trailer sections

module _ (bytes : List ℕ) (n : ℕ) (n_is : n ≡ min (length bytes) trailer_limit) where
  fields-few : (start : List ℕ) (spans : List HeaderSpan) (count : ℕ) (fields : List Field) → length spans ≡ trailer_fields
      → map (header_bytes start) (take count spans) ≡ map name_and_value fields → length fields ≤ trailer_fields
  fields-few start spans count fields room are =
      omega (arith, simp length-map at (ap length are), length-take count spans, room)

  pub whole-trailer : (room len count : ℕ) (spans : List HeaderSpan) → length spans ≡ trailer_fields → IsSectionOf (take n bytes) 0 spans (len, count)
      → IsWholeItem Trailer room bytes len 0
  whole-trailer room len count spans few (fields, last, at) =
      let text = print_section fields last in
      let len_is : len ≡ length text = omega (arith, at.len_is) in
      let taken = front-taken bytes n trailer_limit n_is text (drop len (take n bytes)) len at.reads.1 len_is in
      let fits = front-length bytes n trailer_limit n_is text (drop len (take n bytes)) at.reads.1 in
      record {
        within = omega (arith, len_is, fits, n_is);
        is_item = (
          record {
            fields = fields;
            last = last;
            are_fields = at.reads.0;
            bytes_are = taken;
            short = omega (arith, ap length taken, fits, n_is);
            few = fields-few (take n bytes) spans count fields few at.fields_are;
          },
          refl,
        );
        fits = omega arith;
      }

  pub over-trailer : SectionOverflows trailer_fields (take n bytes) → NeverHasItem Trailer bytes
  over-trailer over after item rest size is text =
      let many = over (drop n bytes ++ after) is.0.fields is.0.last rest
      (is.0.are_fields, never-front bytes n trailer_limit n_is item rest after text ∙ ap (λ xs. xs ++ rest) is.0.bytes_are) in
      omega (arith, many, is.0.few)

  pub full-trailer : HasNoSection (take n bytes) → trailer_limit ≤ length bytes → NeverHasItem Trailer bytes
  full-trailer none full after item rest size is text =
      none is.0.fields is.0.last (take (n - length item) rest)
      (is.0.are_fields, full-front bytes n trailer_limit n_is item rest after text full is.0.short ∙ ap (λ xs. xs ++ take (n - length item) rest) is.0.bytes_are)
