-- A reading as a run of steps, each of which the input determines: so an input has one run, and readings of it differ in how far they went.
use Rattle.std.specs.Prelude.{◌≡◌, ◌⊎◌, ℕ, ◌<◌, ◌≤◌, ◌+◌, ◌-◌, ◌==◌, false, List, [], ◌∷◌, ◌++◌, length}
use Rattle.std.proofs.Common.{refl, sym, ap, ◌∙◌, subst, arith, append_assoc, append-nil, length-append, inl, inr}
use Rattle.std.proofs.lemmas.Bool.Decides.{nat_tests}
use Rattle.httparse.specs.Ascii.{crlf_bytes}
use Rattle.httparse.specs.Grammar.{print_chunk_line, chunk_size, print_section}
use Rattle.httparse.proofs.ChunkLemmas.{chunk_line_unique}
use Rattle.httparse.proofs.GrammarLemmas.{section_unique}
use Rattle.http_heads.specs.Fields.{body_limit}
use Rattle.http_bodies.specs.declared.body.Body.{Body}
use Rattle.http_bodies.specs.declared.body.Place.{Place}
use Rattle.http_bodies.specs.declared.body.Place.TheVariants.{Counted, Line, InChunk, Trailer, Done}
use Rattle.http_bodies.specs.Chunks.{IsLine, Chunk, IsChunk, print_chunk, AreChunks, print_chunks, carried, AreWhole}
use Rattle.http_bodies.specs.Bodies.{Coding, OfLength, Chunked, IsAtPlace, IsItem, WantsBytes}
use Rattle.http_bodies.specs.Steps.{behind_by, after_item}

-- a step: what comes at a place was passed, which announced so many bytes; or a byte that is carried was taken
pub data Step : Type 0 where
  Passed : List ℕ → ℕ → Step
  Took : ℕ → Step

-- the bytes of some steps, and those that they carry
abbrev pub raw_of : List Step → List ℕ
raw_of [] = []
raw_of (Passed item size ∷ steps) = item ++ raw_of steps
raw_of (Took byte ∷ steps) = byte ∷ raw_of steps

abbrev pub got_of : List Step → List ℕ
got_of [] = []
got_of (Passed item size ∷ steps) = got_of steps
got_of (Took byte ∷ steps) = byte ∷ got_of steps

-- one byte less is to come
abbrev pub place_behind : Place → Place
place_behind (Counted left) = Counted (left - 1)
place_behind (InChunk left) = InChunk (left - 1)
place_behind Line = Line
place_behind Trailer = Trailer
place_behind Done = Done

abbrev pub at : Place → ℕ → Body
at place room = record { place = place; room = room }

abbrev pub behind_byte : Body → Body
behind_byte body = at (place_behind body.place) body.room

-- these steps lead from there to there
abbrev pub IsRun : List Step → Body → Body → Type 0
IsRun [] old new = old ≡ new
IsRun (Passed item size ∷ steps) old new = IsItem old.place item size × (size ≤ old.room) × IsRun steps (after_item old size) new
IsRun (Took byte ∷ steps) old new = WantsBytes old.place × IsRun steps (behind_byte old) new

-- ---- what comes at a place, it determines

pub item_unique : (place : Place) (i j : List ℕ) (n k : ℕ) (r q : List ℕ) → IsItem place i n → IsItem place j k → i ++ r ≡ j ++ q
    → (i ≡ j) × (n ≡ k) × (r ≡ q)
item_unique (Counted left) i j n k r q x y is = absurd x
item_unique Line i j n k r q x y is =
    let same = chunk_line_unique (i ++ r) x.line y.line r q (x.is_line, ap (λ xs. xs ++ r) x.bytes_are)
    (y.is_line, is ∙ ap (λ xs. xs ++ q) y.bytes_are) in
    (x.bytes_are ∙ ap print_chunk_line same.0 ∙ sym y.bytes_are, x.size_is ∙ ap chunk_size same.0 ∙ sym y.size_is, same.1)
item_unique (InChunk left) i j n k r q x y is =
    (x.1 ∙ sym y.1, x.2 ∙ sym y.2, crlf_rest r q (sym (ap (λ xs. xs ++ r) x.1) ∙ is ∙ ap (λ xs. xs ++ q) y.1))
  where
    crlf_rest : (r q : List ℕ) → crlf_bytes ++ r ≡ crlf_bytes ++ q → r ≡ q
    crlf_rest r q is = cc
item_unique Trailer i j n k r q x y is =
    let same = section_unique (i ++ r) x.0.fields y.0.fields x.0.last y.0.last r q
    (x.0.are_fields, ap (λ xs. xs ++ r) x.0.bytes_are) (y.0.are_fields, is ∙ ap (λ xs. xs ++ q) y.0.bytes_are) in
    (x.0.bytes_are ∙ (λ i. print_section (same.0 i) (same.1 i)) ∙ sym y.0.bytes_are, x.1 ∙ sym y.1, same.2)
item_unique Done i j n k r q x y is = absurd x

-- no place has both
pub item_or_byte : (place : Place) (item : List ℕ) (size : ℕ) → IsItem place item size → WantsBytes place → ⊥
item_or_byte (Counted left) item size is wants = is
item_or_byte Line item size is wants = wants
item_or_byte (InChunk left) item size is wants = omega (arith, is.0, wants)
item_or_byte Trailer item size is wants = wants
item_or_byte Done item size is wants = is

-- ---- two runs of one input

-- a further step leads on from there
pub record GoesOn (body : Body) (more : List ℕ) : Type 0 where
  pub step : Step
  pub steps : List Step
  pub end : Body
  pub rest : List ℕ
  pub run : IsRun (step ∷ steps) body end
  pub more_is : more ≡ raw_of (step ∷ steps) ++ rest

pub record AreSame (s t : List Step) (a b : Body) (m r : List ℕ) : Type 0 where
  pub raw : raw_of s ≡ raw_of t
  pub got : got_of s ≡ got_of t
  pub end : a ≡ b
  pub more : m ≡ r

pub one_run : (s t : List Step) (start a b : Body) (m r : List ℕ) → IsRun s start a → IsRun t start b → raw_of s ++ m ≡ raw_of t ++ r
    → AreSame s t a b m r ⊎ (GoesOn a m ⊎ GoesOn b r)
one_run [] [] start a b m r x y is = inl (record { raw = refl; got = refl; end = sym x ∙ y; more = is })
one_run [] (step ∷ steps) start a b m r x y is =
    inr (inl (record { step = step; steps = steps; end = b; rest = r; run = subst (λ s. IsRun (step ∷ steps) s b) x y; more_is = is }))
one_run (step ∷ steps) [] start a b m r x y is =
    inr (inr (record { step = step; steps = steps; end = a; rest = m; run = subst (λ s. IsRun (step ∷ steps) s a) y x; more_is = sym is }))
one_run (Passed i n ∷ s) (Passed j k ∷ t) start a b m r x y is =
    let same = item_unique start.place i j n k (raw_of s ++ m) (raw_of t ++ r) x.0 y.0
    (sym (append_assoc i (raw_of s) m) ∙ is ∙ append_assoc j (raw_of t) r) in
    elim (one_run s t (after_item start k) a b m r (subst (λ z. IsRun s (after_item start z) a) same.1 x.2) y.2 same.2) [
      | inl e ↦ inl (record { raw = ap (λ xs. xs ++ raw_of s) same.0 ∙ ap (λ xs. j ++ xs) e.raw; got = e.got; end = e.end; more = e.more })
      | inr on ↦ inr on
    ]
one_run (Passed i n ∷ s) (Took c ∷ t) start a b m r x y is = absurd (item_or_byte start.place i n x.0 y.0)
one_run (Took b ∷ s) (Passed j k ∷ t) start a z m r x y is = absurd (item_or_byte start.place j k y.0 x.0)
one_run (Took b ∷ s) (Took c ∷ t) start a z m r x y is =
    let first : b ≡ c = cc in
    let others : raw_of s ++ m ≡ raw_of t ++ r = cc in
    elim (one_run s t (behind_byte start) a z m r x.1 y.1 others) [
      | inl e ↦ inl (record { raw = λ i. first i ∷ e.raw i; got = λ i. first i ∷ e.got i; end = e.end; more = e.more })
      | inr on ↦ inr on
    ]

-- ---- runs

pub record Runs (old new : Body) (raw got : List ℕ) : Type 0 where
  pub steps : List Step
  pub run : IsRun steps old new
  pub raw_is : raw ≡ raw_of steps
  pub got_is : got ≡ got_of steps

Runs-as : (a b c : Body) (raw raw' got got' : List ℕ) → Runs a b raw got → b ≡ c → raw' ≡ raw → got' ≡ got → Runs a c raw' got'
Runs-as a b c raw raw' got got' x end raw_is got_is =
    record { steps = x.steps; run = subst (IsRun x.steps a) end x.run; raw_is = raw_is ∙ x.raw_is; got_is = got_is ∙ x.got_is }

IsRun-then : (steps more : List Step) (a b c : Body) → IsRun steps a b → IsRun more b c → IsRun (steps ++ more) a c
IsRun-then [] more a b c x y = subst (λ s. IsRun more s c) (sym x) y
IsRun-then (Passed item size ∷ steps) more a b c x y = (x.0, x.1, IsRun-then steps more (after_item a size) b c x.2 y)
IsRun-then (Took byte ∷ steps) more a b c x y = (x.0, IsRun-then steps more (behind_byte a) b c x.1 y)

raw_of-then : (steps more : List Step) → raw_of (steps ++ more) ≡ raw_of steps ++ raw_of more
raw_of-then [] more = refl
raw_of-then (Passed item size ∷ steps) more = ap (λ xs. item ++ xs) (raw_of-then steps more) ∙ sym (append_assoc item (raw_of steps) (raw_of more))
raw_of-then (Took byte ∷ steps) more = ap (λ xs. byte ∷ xs) (raw_of-then steps more)

got_of-then : (steps more : List Step) → got_of (steps ++ more) ≡ got_of steps ++ got_of more
got_of-then [] more = refl
got_of-then (Passed item size ∷ steps) more = got_of-then steps more
got_of-then (Took byte ∷ steps) more = ap (λ xs. byte ∷ xs) (got_of-then steps more)

Runs-then : (a b c : Body) (raw raw' got got' : List ℕ) → Runs a b raw got → Runs b c raw' got' → Runs a c (raw ++ raw') (got ++ got')
Runs-then a b c raw raw' got got' x y = record {
  steps = x.steps ++ y.steps;
  run = IsRun-then x.steps y.steps a b c x.run y.run;
  raw_is = ap (λ xs. xs ++ raw') x.raw_is ∙ ap (λ xs. raw_of x.steps ++ xs) y.raw_is ∙ sym (raw_of-then x.steps y.steps);
  got_is = ap (λ xs. xs ++ got') x.got_is ∙ ap (λ xs. got_of x.steps ++ xs) y.got_is ∙ sym (got_of-then x.steps y.steps);
}

Runs-item : (body : Body) (item : List ℕ) (size : ℕ) → IsItem body.place item size → size ≤ body.room → Runs body (after_item body size) item []
Runs-item body item size is fits =
    record { steps = Passed item size ∷ []; run = (is, fits, refl); raw_is = sym (append-nil item); got_is = refl }

-- bytes that are carried, one by one
took : List ℕ → List Step
took [] = []
took (byte ∷ bytes) = Took byte ∷ took bytes

raw_of-took : (bytes : List ℕ) → bytes ≡ raw_of (took bytes)
unfolding took
raw_of-took [] = refl
raw_of-took (byte ∷ bytes) = ap (λ xs. byte ∷ xs) (raw_of-took bytes)

got_of-took : (bytes : List ℕ) → bytes ≡ got_of (took bytes)
unfolding took
got_of-took [] = refl
got_of-took (byte ∷ bytes) = ap (λ xs. byte ∷ xs) (got_of-took bytes)

IsRun-counted : (bytes : List ℕ) (left room : ℕ) → length bytes ≤ left → IsRun (took bytes) (at (Counted left) room) (at (Counted (left - length bytes)) room)
unfolding took
IsRun-counted [] left room few = ap (λ n. at (Counted n) room) (omega arith)
IsRun-counted (byte ∷ bytes) left room few =
    let less : (left - 1) - length bytes ≡ left - length (byte ∷ bytes) = omega arith in (
      omega (arith, few),
      subst (λ n. IsRun (took bytes) (at (Counted (left - 1)) room) (at (Counted n) room)) less
          (IsRun-counted bytes (left - 1) room (omega (arith, few))),
    )

IsRun-in_chunk : (bytes : List ℕ) (left room : ℕ) → length bytes ≤ left → IsRun (took bytes) (at (InChunk left) room) (at (InChunk (left - length bytes)) room)
unfolding took
IsRun-in_chunk [] left room few = ap (λ n. at (InChunk n) room) (omega arith)
IsRun-in_chunk (byte ∷ bytes) left room few =
    let less : (left - 1) - length bytes ≡ left - length (byte ∷ bytes) = omega arith in (
      omega (arith, few),
      subst (λ n. IsRun (took bytes) (at (InChunk (left - 1)) room) (at (InChunk n) room)) less
          (IsRun-in_chunk bytes (left - 1) room (omega (arith, few))),
    )

Runs-counted : (bytes : List ℕ) (left count room : ℕ) → length bytes + left ≡ count → Runs (at (Counted count) room) (at (Counted left) room) bytes bytes
Runs-counted bytes left count room sum =
    let rest : count - length bytes ≡ left = omega (arith, sum) in
    record {
      steps = took bytes;
      run = subst (λ n. IsRun (took bytes) (at (Counted count) room) (at (Counted n) room)) rest (IsRun-counted bytes count room (omega (arith, sum)));
      raw_is = raw_of-took bytes;
      got_is = got_of-took bytes;
    }

Runs-in_chunk : (bytes : List ℕ) (left count room : ℕ) → length bytes + left ≡ count → Runs (at (InChunk count) room) (at (InChunk left) room) bytes bytes
Runs-in_chunk bytes left count room sum =
    let rest : count - length bytes ≡ left = omega (arith, sum) in
    record {
      steps = took bytes;
      run = subst (λ n. IsRun (took bytes) (at (InChunk count) room) (at (InChunk n) room)) rest (IsRun-in_chunk bytes count room (omega (arith, sum)));
      raw_is = raw_of-took bytes;
      got_is = got_of-took bytes;
    }

-- ---- chunks

some_where : (size : ℕ) → 0 < size → (size == 0) ≡ false
some_where size some = grind (arith, nat_tests)

-- a chunk line, and the first bytes of its chunk
Runs-line : (line part : List ℕ) (left room : ℕ) → IsLine line (length part + left) → 0 < length part + left → length part + left ≤ room
    → Runs (at Line room) (at (InChunk left) (room - (length part + left))) (line ++ part) part
Runs-line line part left room is_line some fits =
    let size = length part + left in
    let first : Runs (at Line room) (at (InChunk size) (room - size)) line []
    = subst (λ none. Runs (at Line room) (behind_by none room size) line []) (some_where size some) (Runs-item (at Line room) line size is_line fits) in
    Runs-then (at Line room) (at (InChunk size) (room - size)) (at (InChunk left) (room - size)) line part [] part first
    (Runs-in_chunk part left size (room - size) refl)

Runs-chunk : (chunk : Chunk) (room : ℕ) → IsChunk chunk → length chunk.bytes ≤ room
    → Runs (at Line room) (at Line (room - length chunk.bytes)) (print_chunk chunk) chunk.bytes
Runs-chunk chunk room is fits =
    let all : length chunk.bytes ≡ length chunk.bytes + 0 = omega arith in
    let rest = room - (length chunk.bytes + 0) in
    let bytes = Runs-line chunk.line chunk.bytes 0 room (subst (IsLine chunk.line) all is.is_line) (omega (arith, is.some)) (omega (arith, fits)) in
    let end = Runs-item (at (InChunk 0) rest) crlf_bytes 0 (refl, refl, refl) (omega arith) in
    Runs-as (at Line room) (at Line rest) (at Line (room - length chunk.bytes)) ((chunk.line ++ chunk.bytes) ++ crlf_bytes) (print_chunk chunk)
    (chunk.bytes ++ []) chunk.bytes
    (Runs-then (at Line room) (at (InChunk 0) rest) (at Line rest) (chunk.line ++ chunk.bytes) crlf_bytes chunk.bytes [] bytes end)
    (ap (λ n. at Line (room - n)) (sym all)) (sym (append_assoc chunk.line chunk.bytes crlf_bytes)) (sym (append-nil chunk.bytes))

Runs-chunks : (chunks : List Chunk) (room : ℕ) → AreChunks chunks → length (carried chunks) ≤ room
    → Runs (at Line room) (at Line (room - length (carried chunks))) (print_chunks chunks) (carried chunks)
Runs-chunks [] room are fits = record { steps = []; run = ap (λ n. at Line n) (omega arith); raw_is = refl; got_is = refl }
Runs-chunks (chunk ∷ chunks) room are fits =
    let n = length chunk.bytes in
    let sum = length-append chunk.bytes (carried chunks) in
    let less : (room - n) - length (carried chunks) ≡ room - length (chunk.bytes ++ carried chunks) = omega (arith, sum) in
    Runs-as (at Line room) (at Line ((room - n) - length (carried chunks))) (at Line (room - length (chunk.bytes ++ carried chunks)))
    (print_chunk chunk ++ print_chunks chunks) (print_chunk chunk ++ print_chunks chunks) (chunk.bytes ++ carried chunks) (chunk.bytes ++ carried chunks)
    (Runs-then (at Line room) (at Line (room - n)) (at Line ((room - n) - length (carried chunks))) (print_chunk chunk) (print_chunks chunks) chunk.bytes
    (carried chunks) (Runs-chunk chunk room are.0 (omega (arith, sum, fits))) (Runs-chunks chunks (room - n) are.1 (omega (arith, sum, fits))))
    (ap (λ k. at Line k) less) refl refl

Runs-whole : (raw got : List ℕ) (room left : ℕ) → AreWhole raw got → length got + left ≡ room → Runs (at Line room) (at Line left) raw got
Runs-whole raw got room left whole sum =
    let few : length (carried whole.chunks) + left ≡ room = ap (λ (xs : List ℕ). length xs + left) (sym whole.body_is) ∙ sum in
    let less : room - length (carried whole.chunks) ≡ left = omega (arith, few) in
    Runs-as (at Line room) (at Line (room - length (carried whole.chunks))) (at Line left) (print_chunks whole.chunks) raw (carried whole.chunks) got
    (Runs-chunks whole.chunks room whole.are (omega (arith, few))) (ap (λ n. at Line n) less) whole.raw_is whole.body_is

-- ---- each reading has a run

abbrev pub start_of : Coding → Body
start_of (OfLength count) = at (Counted count) 0
start_of Chunked = at Line body_limit

-- they stand at one place; how many bytes further chunks may have counts at a chunk line alone
pub record AreAlike (a b : Body) : Type 0 where
  pub place : a.place ≡ b.place
  pub room : b.place ≡ Line → a.room ≡ b.room

pub record Reaches (coding : Coding) (body : Body) (raw got : List ℕ) : Type 0 where
  pub end : Body
  pub runs : Runs (start_of coding) end raw got
  pub alike : AreAlike end body

-- behind the last chunk line
Runs-last : (front last got : List ℕ) → AreWhole front got → IsLine last 0 → length got ≤ body_limit
    → Runs (at Line body_limit) (at Trailer (body_limit - length got)) (front ++ last) got
Runs-last front last got whole is_last few =
    let rest = body_limit - length got in
    Runs-as (at Line body_limit) (at Trailer rest) (at Trailer rest) (front ++ last) (front ++ last) (got ++ []) got
    (Runs-then (at Line body_limit) (at Line rest) (at Trailer rest) front last got [] (Runs-whole front got body_limit rest whole (omega (arith, few)))
    (Runs-item (at Line rest) last 0 is_last (omega arith)))
    refl refl (sym (append-nil got))

pub IsAt-reaches : (coding : Coding) (place : Place) (room : ℕ) (raw got : List ℕ) → IsAtPlace coding place room raw got → Reaches coding (at place room) raw got
IsAt-reaches (OfLength count) (Counted left) room raw got is = record {
  end = at (Counted left) 0;
  runs = Runs-as (at (Counted count) 0) (at (Counted left) 0) (at (Counted left) 0) got raw got got (Runs-counted got left count 0 is.1) refl is.0 refl;
  alike = record { place = refl; room = λ line. absurd (cc) };
}
IsAt-reaches (OfLength count) Line room raw got is = absurd is
IsAt-reaches (OfLength count) (InChunk left) room raw got is = absurd is
IsAt-reaches (OfLength count) Trailer room raw got is = absurd is
IsAt-reaches (OfLength count) Done room raw got is = absurd is
IsAt-reaches Chunked (Counted left) room raw got is = absurd is
IsAt-reaches Chunked Line room raw got is =
    record { end = at Line room; runs = Runs-whole raw got body_limit room is.0 is.1; alike = record { place = refl; room = λ line. refl } }
IsAt-reaches Chunked (InChunk left) room raw got is =
    let x = is.0 in
    let size = length x.part + left in
    let rest = body_limit - length x.before in
    let sum : length x.before + length x.part + left + room ≡ body_limit = omega (arith, is.1, ap length x.got_is, length-append x.before x.part) in
    record {
      end = at (InChunk left) (rest - size);
      runs = Runs-as (at Line body_limit) (at (InChunk left) (rest - size)) (at (InChunk left) (rest - size)) (x.front ++ (x.line ++ x.part)) raw
          (x.before ++ x.part) got
          (Runs-then (at Line body_limit) (at Line rest) (at (InChunk left) (rest - size)) x.front (x.line ++ x.part) x.before x.part
          (Runs-whole x.front x.before body_limit rest x.whole (omega (arith, sum))) (Runs-line x.line x.part left rest x.is_line x.some (omega (arith, sum))))
          refl x.raw_is x.got_is;
      alike = record { place = refl; room = λ line. absurd (cc) };
    }
IsAt-reaches Chunked Trailer room raw got is =
    let rest = body_limit - length got in
    record {
      end = at Trailer rest;
      runs = Runs-as (at Line body_limit) (at Trailer rest) (at Trailer rest) (is.front ++ is.last) raw got got
          (Runs-last is.front is.last got is.whole is.is_last is.few) refl is.raw_is refl;
      alike = record { place = refl; room = λ line. absurd (cc) };
    }
IsAt-reaches Chunked Done room raw got is =
    let rest = body_limit - length got in
    record {
      end = at Done rest;
      runs = Runs-as (at Line body_limit) (at Done rest) (at Done rest) ((is.front ++ is.last) ++ is.trailer) raw (got ++ []) got
          (Runs-then (at Line body_limit) (at Trailer rest) (at Done rest) (is.front ++ is.last) is.trailer got []
          (Runs-last is.front is.last got is.whole is.is_last is.few) (Runs-item (at Trailer rest) is.trailer 0 (is.is_trailer, refl) (omega arith)))
          refl (is.raw_is ∙ sym (append_assoc is.front is.last is.trailer)) (sym (append-nil got));
      alike = record { place = refl; room = λ line. absurd (cc) };
    }
