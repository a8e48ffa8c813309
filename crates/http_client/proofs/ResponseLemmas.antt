-- Lemmas on responses that are read through a wire.
use Rattle.std.proofs.Common.{◌≡◌, ◌<◌, ◌≤◌, ℕ, List, [], ◌++◌, length, drop, arith, sym, ap, subst, ◌∙◌, refl, inr, append-nil, length-append}
use Rattle.std.specs.Prelude.{Option, Some, None}
use Rattle.stream_traits.specs.Told.{before, IsEnd}
use Rattle.stream_traits.specs.ToldLaws.{before_nil, before_append}
use Rattle.httparse.specs.Grammar.{print_response}
use Rattle.http_heads.specs.declared.response.ResponseParts.{ResponseParts}
use Rattle.http_heads.specs.Fields.{body_limit}
use Rattle.http_heads.specs.Responses.{HasResponseHead, NeverResponds, IsWholeResponse, IsLongResponse, IsTruncated, IsForeign, IsEnded}
use Rattle.http_heads.proofs.ResponseLemmas.{response_head-append, never_responds-append}
use Rattle.http_wire.specs.Bodies.{TookFewer}
use Rattle.http_wire.specs.Wires.{ReadsAhead}
use Rattle.http_wire.proofs.HeadLemmas.{ReadsAhead-left, ReadsAhead-none}
use Rattle.http_client.specs.declared.responses.ResponseRead.{ResponseRead}
use Rattle.http_client.specs.declared.responses.ResponseRead.TheVariants as R
use Rattle.http_client.specs.declared.responses.ResponseHeadRead.{ResponseHeadRead}
use Rattle.http_client.specs.declared.responses.ResponseHeadRead.TheVariants as H
use Rattle.http_client.specs.ResponseReads.{TookNone, TookSome, CutsResponse, ComesTo, IsLonger, ReadsResponse, TakesResponseHead, ReadsResponseHead, CutsBody, ReadsBody, EndsResponsesAs}

-- ---- heads

-- the head's bytes are a head whatever follows them
head-bytes : (bytes : List ℕ) (parts : ResponseParts) (rest : List ℕ) (x : HasResponseHead bytes parts rest) (after : List ℕ)
    → HasResponseHead (print_response x.head ++ after) parts after
head-bytes bytes parts rest x after = record {
  head = x.head;
  reads = (x.reads.0, refl);
  short = x.short;
  few = x.few;
  status = x.status;
  text = x.text;
  names = x.names;
  size = x.size;
}

-- a whole head that was read ahead was taken
pub TakesResponseHead-taken : (most : ℕ) (ahead has : List ℕ) (old new : Option (List ℕ)) (len : ℕ) (parts : ResponseParts)
    → IsWholeResponse ahead len parts → parts.length ≤ most → has ≡ drop len ahead → new ≡ old
    → TakesResponseHead most (before ahead old) (before has new) parts
TakesResponseHead-taken most ahead has old new len parts front small has_is same =
    let whole = front.whole in
    record {
      bytes = print_response whole.head;
      took = ap (λ xs. before xs old) whole.reads.1 ∙ before_append (print_response whole.head) (drop len ahead) old
          ∙ (λ i. before (print_response whole.head) (before (sym has_is i) (sym same i)));
      few = small;
      whole = λ rest. head-bytes ahead parts (drop len ahead) whole rest;
    }

-- what is so of the bytes that were read ahead, whatever follows them, is so of the input
none-ahead : (What : List ℕ → Type 0) (ahead : List ℕ) (link : Option (List ℕ)) → ((more : List ℕ) → What (ahead ++ more))
    → TookNone (before ahead link) (before ahead link) What
none-ahead What ahead None so = record { same = refl; told = λ input is. let no : ⊥ = cc (is) in absurd no }
none-ahead What ahead (Some more) so = record {
  same = refl;
  told = λ input is. let all : ahead ++ more ≡ input = cc (is) in subst What all (so more);
}

pub foreign-ahead : (ahead judged : List ℕ) (link : Option (List ℕ)) → judged ≡ ahead → NeverResponds judged
    → TookNone (before ahead link) (before ahead link) (ComesTo IsForeign)
foreign-ahead ahead judged link same never =
    none-ahead (ComesTo IsForeign) ahead link (λ more. never_responds-append ahead more (subst NeverResponds same never))

long-append : (front more : List ℕ) (most : ℕ) → IsLongResponse front most → IsLongResponse (front ++ more) most
long-append front more most x = record {
  parts = x.parts;
  rest = x.rest ++ more;
  whole = response_head-append front more x.parts x.rest x.whole;
  many = x.many;
}

pub long-ahead : (most : ℕ) (ahead judged : List ℕ) (link : Option (List ℕ)) → judged ≡ ahead → IsLongResponse judged most
    → TookNone (before ahead link) (before ahead link) (IsLonger most)
long-ahead most ahead judged link same long =
    none-ahead (IsLonger most) ahead link
    (λ more. long-append ahead more most (subst (λ (t : List ℕ). IsLongResponse t most) same long))

-- longer than any body is longer than so many bytes
pub longest-ahead : (most : ℕ) (ahead judged : List ℕ) (link : Option (List ℕ)) → most ≤ body_limit → judged ≡ ahead
    → IsLongResponse judged body_limit → TookNone (before ahead link) (before ahead link) (IsLonger most)
longest-ahead most ahead judged link small same long =
    long-ahead most ahead judged link same
    (record { parts = long.parts; rest = long.rest; whole = long.whole; many = omega (arith, long.many, small) })

pub longer-ahead : (most : ℕ) (ahead : List ℕ) (link : Option (List ℕ)) (len : ℕ) (parts : ResponseParts) → IsWholeResponse ahead len parts
    → most < parts.length → TookNone (before ahead link) (before ahead link) (IsLonger most)
longer-ahead most ahead link len parts front many =
    long-ahead most ahead ahead link refl (record { parts = parts; rest = drop len ahead; whole = front.whole; many = many })

-- ---- the end of the input

-- the input ends behind what was read ahead
ended-told : (What : List ℕ → Type 0) (ahead : List ℕ) (link : Option (List ℕ)) → IsEnd link → What ahead
    → (input : List ℕ) → before ahead link ≡ Some input → What input
ended-told What ahead None end so input is = let no : ⊥ = cc (is) in absurd no
ended-told What ahead (Some more) end so input is =
    let all : ahead ++ more ≡ input = cc (is) in
    let same : ahead ≡ input = sym (append-nil ahead) ∙ ap (λ xs. ahead ++ xs) (sym end) ∙ all in
    subst What same so

ends-told : (What : List ℕ → Type 0) (had has looked : List ℕ) (old new : Option (List ℕ)) → ReadsAhead had has old new 0 → IsEnd old
    → looked ≡ has → What looked → TookNone (before had old) (before has new) What
ends-told What had has looked old new came end same so = record {
  same = ReadsAhead-left had has old new 0 came;
  told = ended-told What had old end (subst What (same ∙ ReadsAhead-none had has old new came) so);
}

-- it ended, and nothing more came
ends-reads : (most : ℕ) (had has looked : List ℕ) (old new : Option (List ℕ)) (read : ResponseHeadRead) → ReadsAhead had has old new 0
    → IsEnd old → looked ≡ has → EndsResponsesAs looked read → ReadsResponseHead most (before had old) (before has new) read
ends-reads most had has looked old new H.Ended came end same ends = ends-told (ComesTo IsEnded) had has looked old new came end same ends
ends-reads most had has looked old new H.Truncated came end same ends =
    ends-told (ComesTo IsTruncated) had has looked old new came end same ends
ends-reads most had has looked old new (H.Whole parts) came end same ends = absurd ends
ends-reads most had has looked old new H.Foreign came end same ends = absurd ends
ends-reads most had has looked old new H.TooLong came end same ends = absurd ends
ends-reads most had has looked old new H.LinkFault came end same ends = absurd ends
ends-reads most had has looked old new H.Memory came end same ends = absurd ends

-- the same, where the number of bytes that came is known to be 0
pub ends-zero : (most : ℕ) (had has looked : List ℕ) (old new : Option (List ℕ)) (count : ℕ) (read : ResponseHeadRead) → count ≡ 0
    → ReadsAhead had has old new count → (count ≡ 0 → IsEnd old) → looked ≡ has → EndsResponsesAs looked read
    → ReadsResponseHead most (before had old) (before has new) read
ends-zero most had has looked old new count read zero came end same ends =
    ends-reads most had has looked old new read (subst (ReadsAhead had has old new) zero came) (end zero) same ends

-- ---- bodies

-- a body ends too early where fewer bytes were taken and none is left
pub CutsBody-ended : (left left' : Option (List ℕ)) (count : ℕ) → TookFewer left left' count → IsEnd left' → CutsBody left left' count
CutsBody-ended left None count took end =
    record { some = took; short = λ rest is. let no : None ≡ Some rest = sym took.took ∙ is in absurd cc }
CutsBody-ended left (Some more) count took end = record {
  some = took;
  short = λ rest is.
      let all : Some (took.bytes ++ more) ≡ Some rest = sym took.took ∙ is in
      let same : took.bytes ++ more ≡ rest = cc (all) in
      omega (arith, took.fewer, ap length end, ap length same, length-append took.bytes more);
}

-- a front of a body was taken behind the head
front-both : (most : ℕ) (left mid left' : Option (List ℕ)) (parts : ResponseParts) → TakesResponseHead most left mid parts
    → TookFewer mid left' parts.length → TookSome left left'
front-both most left mid left' parts head took = record {
  taken = head.bytes ++ took.bytes;
  took = head.took ∙ ap (before head.bytes) took.took ∙ sym (before_append head.bytes took.bytes left');
}

told-behind : (mid : Option (List ℕ)) (bytes input : List ℕ) → before bytes mid ≡ Some input
    → (rest : List ℕ) × (mid ≡ Some rest) × (input ≡ bytes ++ rest)
told-behind None bytes input is = let no : ⊥ = cc (is) in absurd no
told-behind (Some rest) bytes input is = let all : bytes ++ rest ≡ input = cc (is) in (rest, refl, sym all)

-- what was read of the body behind a head was read of the response
pub both-read : (most : ℕ) (left mid left' : Option (List ℕ)) (parts : ResponseParts) (read : ResponseRead)
    → TakesResponseHead most left mid parts → ReadsBody parts mid left' read → ReadsResponse most left left' read
both-read most left mid left' parts (R.Response status body) head took =
    let bytes = took.1 in
    let same : body.items ≡ bytes.bytes = bytes.has_is in
    let size : parts.length ≡ length body.items = sym bytes.size ∙ ap length (sym same) in
    record {
      head = head.bytes;
      took = head.took ∙ ap (before head.bytes) (bytes.took ∙ ap (λ xs. before xs left') (sym same))
          ∙ sym (before_append head.bytes body.items left');
      few = omega (arith, size, head.few);
      whole = λ rest.
          subst (λ (p : ResponseParts). HasResponseHead (head.bytes ++ (body.items ++ rest)) p (body.items ++ rest))
          (λ i. record { status = sym took.0 i; length = size i }) (head.whole (body.items ++ rest));
    }
both-read most left mid left' parts R.Truncated head cut = record {
  some = front-both most left mid left' parts head cut.some;
  told = λ input is.
      let w : (rest : List ℕ) × (mid ≡ Some rest) × (input ≡ head.bytes ++ rest) =
      told-behind mid head.bytes input (sym head.took ∙ is) in
      inr (record {
        parts = parts;
        part = w.0;
        head = subst (λ (xs : List ℕ). HasResponseHead xs parts w.0) (sym w.2) (head.whole w.0);
        short = cut.short w.0 w.1;
      });
}
both-read most left mid left' parts R.LinkFault head took = front-both most left mid left' parts head took
both-read most left mid left' parts R.Memory head took = front-both most left mid left' parts head took
both-read most left mid left' parts R.Ended head took = absurd took
both-read most left mid left' parts R.Foreign head took = absurd took
both-read most left mid left' parts R.TooLong head took = absurd took

-- nothing was taken
pub TookSome-none : (left left' : Option (List ℕ)) → left' ≡ left → TookSome left left'
TookSome-none left left' same = record { taken = []; took = sym same ∙ sym (before_nil left') }

-- the input ends inside the head
pub CutsResponse-head : (left left' : Option (List ℕ)) → TookNone left left' (ComesTo IsTruncated) → CutsResponse left left'
CutsResponse-head left left' none = record { some = TookSome-none left left' none.same; told = none.told }
