-- How the steps of a reading make the whole of it.
use Rattle.std.proofs.Common.{◌≡◌, ◌≤◌, ◌<◌, ◌+◌, ◌-◌, ◌*◌, ◌==◌, nat_le, ◌||◌, ℕ, Bool, true, false, List, take, drop, [], ◌++◌, length, Option, Some, refl, sym, ap, ◌∙◌, subst, arith, append_assoc, append-nil, length-append, if◌then◌else◌, inl}
use Rattle.std.proofs.lemmas.Bool.Decides.{nat_tests}
use Rattle.std.proofs.lemmas.List.{take-append-drop}
use Rattle.stream_traits.specs.Told.{before}
use Rattle.stream_traits.specs.ToldLaws.{before_append}
use Rattle.http_wire.specs.Bodies.{AddsBytes, TookFewer}
use Rattle.http_bodies.specs.declared.body.Body.{Body}
use Rattle.http_bodies.specs.declared.body.Place.{Place}
use Rattle.http_bodies.specs.declared.body.Place.TheVariants.{Counted, Line, InChunk, Trailer, Done}
use Rattle.http_bodies.specs.declared.stop.BodyStop.{BodyStop}
use Rattle.http_bodies.specs.declared.stop.BodyStop.TheVariants as S
use Rattle.http_bodies.specs.Bodies.{IsAt, IsAtPlace, is_done, most_left, most_at, IsItem}
use Rattle.http_bodies.specs.Steps.{item_after, after_item, behind_by, IsWholeItem}
use Rattle.http_bodies.specs.Reads.{Reads, ReadsPiece, Stops, StopsAt, StopsAfter, StopsHere, StopsIn, EndsBytes, StepsOn, TakesItem, FillsPiece, piece_size, rank, weight}
use Rattle.http_bodies.specs.ReadLaws.{Reads-none, Reads-then}
use Rattle.http_bodies.proofs.PlaceLemmas.{at_item, at_counted, at_in_chunk}

-- ---- what comes between the bytes that are carried

most_after : (room size : ℕ) (none : Bool) → (size == 0) ≡ none → size ≤ room
    → most_left (behind_by none room size) ≤ room
most_after room size true e fits = omega arith
most_after room size false e fits = omega (arith, fits)

less_after : (place : Place) (room size : ℕ) (item : List ℕ) → IsItem place item size → size ≤ room
    → most_left (item_after place room size) + 0 ≤ most_left (record { place = place; room = room })
less_after (Counted left) room size item is fits = absurd is
less_after Line room size item is fits = omega (arith, most_after room size (size == 0) refl fits)
less_after (InChunk left) room size item is fits = omega arith
less_after Trailer room size item is fits = omega arith
less_after Done room size item is fits = absurd is

pub Reads-item : (body : Body) (left left' : Option (List ℕ)) (size : ℕ) → TakesItem body.place left left' size → size ≤ body.room
    → Reads body (after_item body size) left left' []
Reads-item body left left' size takes fits = record {
  raw = takes.item;
  took = takes.took;
  at = λ coding front had at.
      subst (λ (xs : List ℕ). IsAt coding (after_item body size) (front ++ takes.item) xs) (sym (append-nil had))
      (at_item coding body.place body.room size front had takes.item at takes.is_item fits);
  less = less_after body.place body.room size takes.item takes.is_item fits;
}

some_where : (size : ℕ) → (size == 0) ≡ false → 0 < size
some_where size e = grind (arith, nat_tests)

chunk_rank : (size : ℕ) (none : Bool) → none ≡ false → (if none then 3 else 1) < 2
chunk_rank size true e = absurd (cc)
chunk_rank size false e = omega arith

line_rank : (room size : ℕ) (none : Bool) → (size == 0) ≡ none
    → rank (behind_by none room size).place < 2
line_rank room size true e = omega arith
line_rank room size false e = chunk_rank size (size == 0) e

pub rank-item : (place : Place) (room size : ℕ) (item : List ℕ) → IsItem place item size → rank (item_after place room size).place < rank place
rank-item (Counted left) room size item is = absurd is
rank-item Line room size item is = line_rank room size (size == 0) refl
rank-item (InChunk left) room size item is = let zero : left ≡ 0 = is.0 in subst (λ n. 2 < rank (InChunk n)) (sym zero) (omega arith)
rank-item Trailer room size item is = omega arith
rank-item Done room size item is = absurd is

-- ---- bytes that are carried

pub StopsIn-made : (left had count : ℕ) (old new : Option (List ℕ)) (stop : BodyStop) → TookFewer old new count → count ≤ left → had + count ≤ piece_size
    → ((more : List ℕ) → new ≡ Some more → EndsBytes stop more) → StopsIn left had old new stop
StopsIn-made left had count old new stop fewer few fits cause = record {
  bytes = fewer.bytes;
  within = omega (arith, fewer.fewer, few);
  short = omega (arith, fewer.fewer, fits);
  took = fewer.took;
  cause = cause;
}

zero_of : (n : ℕ) → (n == 0) ≡ true → n ≡ 0
zero_of n e = grind (arith, nat_tests)

chunk_low : (left : ℕ) (none : Bool) → (left == 0) ≡ none → 0 < left → (if none then 3 else 1) < 2
chunk_low left true e some = absurd (omega (arith, zero_of left e, some))
chunk_low left false e some = omega arith

chunk_most : (none : Bool) → (if none then 3 else 1) < 4
chunk_most true = omega arith
chunk_most false = omega arith

rank_low : (left : ℕ) → 0 < left → rank (InChunk left) < 2
rank_low left some = chunk_low left (left == 0) refl some

rank_most : (left : ℕ) → rank (InChunk left) < 4
rank_most left = chunk_most (left == 0)

rank_some : (left : ℕ) → 0 < rank (InChunk left)
rank_some left = some (left == 0)
  where
    some : (none : Bool) → 0 < (if none then 3 else 1)
    some true = omega arith
    some false = omega arith

Reads-counted : (body : Body) (left : ℕ) (old new : Option (List ℕ)) (bytes : List ℕ) → body.place ≡ Counted left → length bytes ≤ left → old ≡ before bytes new
    → Reads body (record { place = Counted (left - length bytes); room = body.room }) old new bytes
Reads-counted body left old new bytes is few took = record {
  raw = bytes;
  took = took;
  at = λ coding front had at.
      at_counted coding left body.room (length bytes) front had bytes (subst (λ p. IsAtPlace coding p body.room front had) is at) refl few;
  less = subst (λ p. (left - length bytes) + length bytes ≤ most_at p body.room) (sym is) (omega (arith, few));
}

Reads-chunk : (body : Body) (left : ℕ) (old new : Option (List ℕ)) (bytes : List ℕ) → body.place ≡ InChunk left → length bytes ≤ left → old ≡ before bytes new
    → Reads body (record { place = InChunk (left - length bytes); room = body.room }) old new bytes
Reads-chunk body left old new bytes is few took = record {
  raw = bytes;
  took = took;
  at = λ coding front had at.
      at_in_chunk coding left body.room (length bytes) front had bytes (subst (λ p. IsAtPlace coding p body.room front had) is at) refl few;
  less = subst (λ p. ((left - length bytes) + body.room) + length bytes ≤ most_at p body.room) (sym is) (omega (arith, few));
}

cause_counted : (stop : BodyStop) (left room : ℕ) (more : List ℕ) → 0 < left → EndsBytes stop more → StopsAt stop (record { place = Counted left; room = room }) more
cause_counted S.Truncated left room more some ends = inl (some, ends)
cause_counted S.BadChunk left room more some ends = absurd ends
cause_counted S.TooLarge left room more some ends = absurd ends
cause_counted S.LinkFault left room more some ends = tt
cause_counted S.Memory left room more some ends = tt

cause_chunk : (stop : BodyStop) (left room : ℕ) (more : List ℕ) → 0 < left → EndsBytes stop more → StopsAt stop (record { place = InChunk left; room = room }) more
cause_chunk S.Truncated left room more some ends = inl (some, ends)
cause_chunk S.BadChunk left room more some ends = absurd ends
cause_chunk S.TooLarge left room more some ends = absurd ends
cause_chunk S.LinkFault left room more some ends = tt
cause_chunk S.Memory left room more some ends = tt

pub StopsAfter-counted : (body : Body) (left had : ℕ) (old new : Option (List ℕ)) (stop : BodyStop) → body.place ≡ Counted left → StopsIn left had old new stop
    → StopsAfter body had old new stop
StopsAfter-counted body left had old new stop is stops = record {
  body = record { place = Counted (left - length stops.bytes); room = body.room };
  got = stops.bytes;
  reads = Reads-counted body left old new stops.bytes is (omega (arith, stops.within)) stops.took;
  short = stops.short;
  cause = λ more told. cause_counted stop (left - length stops.bytes) body.room more (omega (arith, stops.within)) (stops.cause more told);
}

pub StopsAfter-chunk : (body : Body) (left had : ℕ) (old new : Option (List ℕ)) (stop : BodyStop) → body.place ≡ InChunk left → StopsIn left had old new stop
    → StopsAfter body had old new stop
StopsAfter-chunk body left had old new stop is stops = record {
  body = record { place = InChunk (left - length stops.bytes); room = body.room };
  got = stops.bytes;
  reads = Reads-chunk body left old new stops.bytes is (omega (arith, stops.within)) stops.took;
  short = stops.short;
  cause = λ more told. cause_chunk stop (left - length stops.bytes) body.room more (omega (arith, stops.within)) (stops.cause more told);
}

pub StopsAfter-here : (body : Body) (had : ℕ) (old new : Option (List ℕ)) (stop : BodyStop) → had < piece_size → StopsHere body old new stop
    → StopsAfter body had old new stop
StopsAfter-here body had old new stop short stops = record {
  body = body;
  got = [];
  reads = subst (λ told. Reads body body old told []) (sym stops.same) (Reads-none body old);
  short = omega (arith, short);
  cause = λ more told. stops.cause more (sym stops.same ∙ told);
}

pub StepsOn-chunk : (body : Body) (left count : ℕ) (had has : List ℕ) (old new : Option (List ℕ)) → body.place ≡ InChunk left → 0 < left → AddsBytes had has old new count
    → count ≤ left → 0 < count → length has ≤ piece_size → StepsOn body (record { place = InChunk (left - count); room = body.room }) had has old new
StepsOn-chunk body left count had has old new is full adds few some fits =
    let longer : length has ≡ length had + count = omega (arith, ap length adds.has_is, length-append had adds.bytes, adds.size) in
    record {
      got = adds.bytes;
      has_is = adds.has_is;
      reads = subst (λ k. Reads body (record { place = InChunk (left - k); room = body.room }) old new adds.bytes) adds.size
          (Reads-chunk body left old new adds.bytes is (omega (arith, adds.size, few)) adds.took);
      fits = fits;
      lighter = subst (λ p. weight (record { place = InChunk (left - count); room = body.room }) has < 4 * (piece_size - length had) + rank p) (sym is)
          (omega (arith, longer, fits, some, rank_most (left - count), rank_some left));
    }

-- ---- a piece

pub FillsPiece-step : (a b c : Body) (had mid has : List ℕ) (l m r : Option (List ℕ)) → StepsOn a b had mid l m → FillsPiece b c mid has m r → FillsPiece a c had has l r
FillsPiece-step a b c had mid has l m r x y = record {
  got = x.got ++ y.got;
  has_is = y.has_is ∙ ap (λ xs. xs ++ y.got) x.has_is ∙ append_assoc had x.got y.got;
  reads = Reads-then a b c l m r x.got y.got x.reads y.reads;
  fits = y.fits;
  last = y.last;
}

pub StopsAfter-step : (a b : Body) (had mid : List ℕ) (l m r : Option (List ℕ)) (stop : BodyStop) → StepsOn a b had mid l m → StopsAfter b (length mid) m r stop
    → StopsAfter a (length had) l r stop
StopsAfter-step a b had mid l m r stop x y = record {
  body = y.body;
  got = x.got ++ y.got;
  reads = Reads-then a b y.body l m r x.got y.got x.reads y.reads;
  short = omega (arith, y.short, ap length x.has_is, length-append had x.got, length-append x.got y.got);
  cause = y.cause;
}

done_where : (done full : Bool) (n : ℕ) → (done || full) ≡ true → full ≡ nat_le piece_size n → n < piece_size → done ≡ true
done_where true full n e is short = refl
done_where false true n e is short = absurd (grind (arith, nat_tests))
done_where false false n e is short = absurd (cc)

pub FillsPiece-none : (body : Body) (piece : List ℕ) (left : Option (List ℕ)) (n : ℕ) → n ≡ length piece → n ≤ piece_size
    → (is_done body || nat_le piece_size n) ≡ true → FillsPiece body body piece piece left left
FillsPiece-none body piece left n size fits filled = record {
  got = [];
  has_is = sym (append-nil piece);
  reads = Reads-none body left;
  fits = omega (arith, size, fits);
  last = λ short. done_where (is_done body) (nat_le piece_size n) n filled refl (omega (arith, size, short));
}

pub ReadsPiece-filled : (a b : Body) (had has : List ℕ) (l r : Option (List ℕ)) → had ≡ [] → FillsPiece a b had has l r → ReadsPiece a b l r has
ReadsPiece-filled a b had has l r none fills =
    let same : has ≡ fills.got = fills.has_is ∙ ap (λ xs. xs ++ fills.got) none in
    record {
      reads = subst (λ (xs : List ℕ). Reads a b l r xs) (sym same) fills.reads;
      fits = fills.fits;
      last = fills.last;
    }

pub Stops-filled : (a : Body) (had : List ℕ) (l r : Option (List ℕ)) (stop : BodyStop) → had ≡ [] → StopsAfter a (length had) l r stop → Stops a l r stop
Stops-filled a had l r stop none stops = record {
  body = stops.body;
  got = stops.got;
  reads = stops.reads;
  short = omega (arith, stops.short);
  cause = stops.cause;
}

pub Stops-none : (body : Body) (left : Option (List ℕ)) → Stops body left left S.Memory
Stops-none body left = record { body = body; got = []; reads = Reads-none body left; short = omega arith; cause = λ more told. tt }

-- ---- what comes between

pub TakesItem-taken : (place : Place) (room : ℕ) (ahead has bytes : List ℕ) (first link link' : Option (List ℕ)) (len size : ℕ) → before ahead link ≡ first
    → bytes ≡ ahead → IsWholeItem place room bytes len size → has ≡ drop len ahead → link' ≡ link → TakesItem place first (before has link') size
TakesItem-taken place room ahead has bytes first link link' len size start same whole has_is still = record {
  item = take len bytes;
  is_item = whole.is_item;
  took = sym start ∙ ap (λ xs. before xs link) (sym same ∙ sym (take-append-drop len bytes)) ∙ before_append (take len bytes) (drop len bytes) link
      ∙ ap (λ xs. before (take len bytes) (before xs link)) (ap (drop len) same ∙ sym has_is)
      ∙ ap (λ told. before (take len bytes) (before has told)) (sym still);
}
