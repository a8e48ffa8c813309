-- How the steps of a connection make the whole of it.
use Rattle.std.proofs.Common.{◌≡◌, ℕ, ◌+◌, ◌<◌, ◌≤◌, ◌==◌, Bool, true, false, ◌||◌, not, List, [], ◌∷◌, ◌++◌, length, take, Option, Some, None, Err, if◌then◌else◌, unwrap_or, refl, sym, ap, ◌∙◌, subst, inl, inr, suc, append_assoc, append-nil, length-append, arith}
use Rattle.std.specs.Prelude.{◌⊎◌, IsErrOf}
use Rattle.std.proofs.Math.Seq.{take-length, take-append-add}
use Rattle.std.proofs.lemmas.List.{take-append-le}
use Rattle.std.proofs.lemmas.Bool.Decides.{nat_tests}
use Rattle.fault_counts.specs.Counts.{Counted}
use Rattle.stream_traits.specs.Seen.{LinkSeen}
use Rattle.stream_traits.specs.Told.{before, behind}
use Rattle.stream_traits.specs.ToldLaws.{behind_nil, behind_append, before_nil, before_append}
use Rattle.stream_traits.specs.Moments.{after_reading}
use Rattle.office_model.specs.Step.{Call}
use Rattle.call_scripts.specs.Moments.{Gave}
use Rattle.http_heads.specs.declared.refusal.HeadRefusal.{HeadRefusal}
use Rattle.http_heads.specs.Fields.{body_limit}
use Rattle.http_heads.specs.Heads.{HeadParts}
use Rattle.http_heads.specs.Fronts.{Ended as IsEnded, Truncated as IsTruncated}
use Rattle.http_wire.specs.HeadReads.{TakesHead, ComesTo, RefusesHead as RefusedHead, continue_due, FailsToAsk}
use Rattle.http_wire.specs.Message.{no_memory_response, continue_response}
use Rattle.http_bodies.specs.declared.body.Body.{Body}
use Rattle.http_bodies.specs.declared.body.Place.TheVariants.{Counted as CountedPlace, Line}
use Rattle.http_bodies.specs.declared.stop.BodyStop.{BodyStop}
use Rattle.http_bodies.specs.declared.stop.BodyStop.TheVariants as S
use Rattle.http_bodies.specs.Bodies.{OfLength, Chunked, IsAt, IsBody}
use Rattle.http_bodies.specs.Reads.{StopsAt}
use Rattle.http_bodies.specs.ReadLaws.{IsBody-done}
use Rattle.request_events.specs.declared.defaults.Defaults.{Defaults}
use Rattle.request_events.specs.Plans.{planned}
use Rattle.http_replies.specs.declared.body_refusal.BodyRefusal.{BodyRefusal}
use Rattle.http_replies.specs.declared.body_refusal.BodyRefusal.TheVariants.{BadChunk, FileTooLarge}
use Rattle.http_replies.specs.Messages.{bad_response, broken_response}
use Rattle.browse_http.specs.declared.end.End.{End}
use Rattle.browse_http.specs.declared.end.End.TheVariants.{Ended, Truncated, BadRequest, LinkFault, Memory, Cut}
use Rattle.browse_http.specs.declared.heads.Request.{Request}
use Rattle.browse_http.specs.Scripts.{Fate, Fine}
use Rattle.browse_http.specs.Talk.{takes_nothing, IsBegun, Outcome, Exchange, AreExchanges, coding_of, staged_of, GoOn, CallsOf, StopsInBody, RefusesHead, stop_of, RefusesBody, SaysNoMemory, MaySay, requests, said, said_at, response_of, outcome_fate, is_fine, calls_in, calls_of, moments_of, goes_on, is_last, asks_head, request_limit, final_list, Stops, StopsUncalled, StopsCalled, Converses, ServesLink}
use Rattle.browse_http.specs.Reading.{ReadsHead, IsRequest, SaysLast, EndsUncalled, EndsBody}
use Rattle.browse_http.specs.Serving.{Attended, Attends, AttendsEnd, AttendsPart, AttendsLast, GoesOn, EndsAt, SoFar}

-- what is told behind these bytes, where the whole is told
told_after : (front : List ℕ) (left left' : Option (List ℕ)) (input : List ℕ) → left ≡ before front left' → left ≡ Some input
    → (rest : List ℕ) × (left' ≡ Some rest) × (input ≡ front ++ rest)
told_after front left None input reads is = absurd (cc)
told_after front left (Some rest) input reads is = (rest, refl, cc)

silent : (written written' : Option (List ℕ)) → written' ≡ written → written' ≡ behind written []
silent written written' same = same ∙ sym (behind_nil written)

none_taken : (left left' : Option (List ℕ)) → left' ≡ left → left ≡ before [] left'
none_taken left left' same = sym same ∙ sym (before_nil left')

loud : {A : Type 0} → false ≡ true → A
loud e = absurd cc

whole : (xs : List ℕ) → xs ≡ take (length xs) xs
whole xs = sym (take-length xs)

-- ---- requests that weren't read whole

-- a text was said last behind these bytes, or the link failed within it
ends_saying : (made : List Call) (left left' written asked written' : Option (List ℕ)) (taken prefix text : List ℕ) (wanted end : End) → left ≡ before taken left'
    → (takes_nothing wanted ≡ true → taken ≡ []) → (taken ≡ []) ⊎ IsBegun taken → asked ≡ behind written prefix
    → ((input : List ℕ) → left ≡ Some input → StopsUncalled wanted input made (prefix ++ text))
    → ((input : List ℕ) → left ≡ Some input → MaySay input made (prefix ++ text))
    → SaysLast text wanted asked written' end → EndsUncalled made left left' written written' end
ends_saying made left left' written asked written' taken prefix text wanted end took quiet begun asks stops fails (inl (e, last)) =
    subst (EndsUncalled made left left' written written') (sym e) (record {
      taken = taken;
      left_is = took;
      quiet = quiet;
      begun = begun;
      word = prefix ++ text;
      wrote = last ∙ ap (λ w. behind w text) asks ∙ sym (behind_append written prefix text);
      stops = stops;
    })
ends_saying made left left' written asked written' taken prefix text wanted end took quiet begun asks stops fails (inr (e, front)) =
    subst (EndsUncalled made left left' written written') (sym e) (record {
      taken = taken;
      left_is = took;
      quiet = loud;
      begun = begun;
      word = prefix ++ take front.count text;
      wrote = front.wrote ∙ ap (λ w. behind w (take front.count text)) asks ∙ sym (behind_append written prefix (take front.count text));
      stops = λ input is. (prefix ++ text, length prefix + front.count, fails input is, sym (take-append-add prefix text front.count));
    })

-- ---- a head that wasn't read

pub uncalled_ended : (left left' written written' : Option (List ℕ)) → ComesTo left left' IsEnded → written' ≡ written
    → EndsUncalled [] left left' written written' Ended
uncalled_ended left left' written written' comes same = record {
  taken = [];
  left_is = none_taken left left' comes.same;
  quiet = λ e. refl;
  begun = inl refl;
  word = [];
  wrote = silent written written' same;
  stops = λ input is. (comes.comes input is, refl, refl);
}

pub uncalled_truncated : (left left' written written' : Option (List ℕ)) → ComesTo left left' IsTruncated → written' ≡ written
    → EndsUncalled [] left left' written written' Truncated
uncalled_truncated left left' written written' comes same = record {
  taken = [];
  left_is = none_taken left left' comes.same;
  quiet = λ e. refl;
  begun = inl refl;
  word = [];
  wrote = silent written written' same;
  stops = λ input is. inl (comes.comes input is, refl, refl);
}

refused_head : (left left' : Option (List ℕ)) (refusal : HeadRefusal) (for_head : Bool) → RefusedHead left left' refusal for_head
    → (input : List ℕ) → left ≡ Some input → RefusesHead input [] (bad_response refusal for_head)
refused_head left left' refusal for_head comes input is =
    record { refusal = refusal; for_head = for_head; refused = comes.refused input is; none = refl; word_is = refl }

pub uncalled_bad : (left left' left'' written written' written'' : Option (List ℕ)) (refusal : HeadRefusal)
    (for_head : Bool) (end : End) → RefusedHead left left' refusal for_head → written' ≡ written → left'' ≡ left'
    → SaysLast (bad_response refusal for_head) BadRequest written' written'' end → EndsUncalled [] left left'' written written'' end
uncalled_bad left left' left'' written written' written'' refusal for_head end comes same still says =
    ends_saying [] left left'' written written' written'' [] [] (bad_response refusal for_head) BadRequest end
    (none_taken left left'' (still ∙ comes.same)) loud (inl refl) (silent written written' same)
    (λ input is. inl (refused_head left left' refusal for_head comes input is))
    (λ input is. inl (refused_head left left' refusal for_head comes input is)) says

nothing_said : (input : List ℕ) → SaysNoMemory input [] no_memory_response
nothing_said input = record { prefix = []; may = inl (refl, refl); word_is = refl }

pub uncalled_head_memory : (left left' left'' written written' written'' : Option (List ℕ)) (end : End) → left' ≡ left → written' ≡ written
    → left'' ≡ left' → SaysLast no_memory_response Memory written' written'' end → EndsUncalled [] left left'' written written'' end
uncalled_head_memory left left' left'' written written' written'' end still same again says =
    ends_saying [] left left'' written written' written'' [] [] no_memory_response Memory end
    (none_taken left left'' (again ∙ still)) loud (inl refl) (silent written written' same)
    (λ input is. nothing_said input) (λ input is. inr (inr (nothing_said input))) says

-- where the reading of a body begins
start_by : (chunked : Bool) (count : ℕ) → (place : Body) × IsAt (if chunked then Chunked else OfLength count) place [] []
start_by true count = (
  record { place = Line; room = body_limit },
  (record { chunks = []; are = tt; raw_is = refl; body_is = refl }, omega arith),
)
start_by false count = (record { place = CountedPlace count; room = 0 }, (refl, omega arith))

prefix_of : (prefix more : List ℕ) → prefix ≡ take (length prefix) (prefix ++ more)
prefix_of prefix more = sym (take-append-le (length prefix) prefix more (omega arith) ∙ take-length prefix)

waits_for : (parts : HeadParts) → parts.expects_continue ≡ true → continue_due parts ≡ continue_response
waits_for parts e = rw e refl

asks_before : (left rest : Option (List ℕ)) (parts : HeadParts) → TakesHead left rest parts → (input : List ℕ) → left ≡ Some input
    → StopsInBody S.Memory input [] (continue_due parts)
asks_before left rest parts takes input is =
    let t = told_after takes.bytes left rest input takes.took is in
    let start = start_by parts.chunked (unwrap_or parts.content_length 0) in
    record {
      head = takes.bytes;
      parts = parts;
      raw = [];
      got = [];
      more = t.0;
      place = start.0;
      is_head = takes.whole;
      rest_is = t.2;
      at = start.1;
      cause = tt;
      calls = inl refl;
      prefix_is = refl;
    }

pub uncalled_fault : (left left' written written' : Option (List ℕ)) → left' ≡ left → (written' ≡ written) ⊎ FailsToAsk left written written'
    → EndsUncalled [] left left' written written' LinkFault
uncalled_fault left left' written written' still (inl same) = record {
  taken = [];
  left_is = none_taken left left' still;
  quiet = loud;
  begun = inl refl;
  word = [];
  wrote = silent written written' same;
  stops = λ input is. (no_memory_response, 0, inr (inr (nothing_said input)), refl);
}
uncalled_fault left left' written written' still (inr fails) =
    let due : continue_due fails.parts ≡ continue_response = waits_for fails.parts fails.waits in
    record {
      taken = [];
      left_is = none_taken left left' still;
      quiet = loud;
      begun = inl refl;
      word = take fails.front.count continue_response;
      wrote = fails.front.wrote;
      stops = λ input is. (
        continue_due fails.parts ++ no_memory_response,
        fails.front.count,
        inr (inr (record {
          prefix = continue_due fails.parts;
          may = inr (asks_before left fails.rest fails.parts fails.head input is);
          word_is = refl;
        })),
        ap (take fails.front.count) (sym due) ∙ sym (take-append-le fails.front.count (continue_due fails.parts) no_memory_response
            (subst (λ (xs : List ℕ). fails.front.count ≤ length xs) (sym due) fails.front.fits)),
      );
    }

-- ---- a body that wasn't read whole

module _ {P : Type 0} (moves : P → List Call → P → Type 0) (old new : P) (left mid left' written asked written' moments moments' : Option (List ℕ))
    (parts : HeadParts) (body : Body) (is_head : Bool) (end : End) (read : ReadsHead left mid written asked parts) (start : IsAt (coding_of parts) body [] [])
    (part : AttendsPart parts moves old new body mid left' asked written' moments moments' is_head end) where
  begun_of : (read.head ++ part.reads.raw ≡ []) ⊎ IsBegun (read.head ++ part.reads.raw)
  begun_of = inr (record { head = read.head; parts = parts; raw = part.reads.raw; is_head = read.is_head; taken_is = refl })

  took_of : left ≡ before (read.head ++ part.reads.raw) left'
  took_of = read.reads ∙ ap (before read.head) part.reads.took ∙ sym (before_append read.head part.reads.raw left')

  abbrev in_body : (stop : BodyStop) → ((more : List ℕ) → left' ≡ Some more → StopsAt stop part.place more) → CallsOf stop (staged_of parts (planned parts)) part.got part.made
      → (input : List ℕ) → left ≡ Some input → StopsInBody stop input part.made (continue_due parts)
  in_body stop cause calls input is =
      let t = told_after read.head left mid input read.reads is in
      let u = told_after part.reads.raw mid left' t.0 part.reads.took t.1 in
      record {
        head = read.head;
        parts = parts;
        raw = part.reads.raw;
        got = part.got;
        more = u.0;
        place = part.place;
        is_head = read.is_head;
        rest_is = t.2 ∙ ap (λ xs. read.head ++ xs) u.2;
        at = part.reads.at (coding_of parts) [] [] start;
        cause = cause u.0 u.1;
        calls = calls;
        prefix_is = refl;
      }

  breach : (refusal : BodyRefusal) → ((more : List ℕ) → left' ≡ Some more → StopsAt (stop_of refusal) part.place more)
      → CallsOf (stop_of refusal) (staged_of parts (planned parts)) part.got part.made → is_head ≡ asks_head parts → (input : List ℕ) → left ≡ Some input
      → RefusesBody input part.made (continue_due parts ++ broken_response refusal is_head)
  breach refusal cause calls heads input told = record {
    refusal = refusal;
    prefix = continue_due parts;
    body = in_body (stop_of refusal) cause calls input told;
    word_is = ap (λ h. continue_due parts ++ broken_response refusal h) heads;
  }

  no_memory : CallsOf S.Memory (staged_of parts (planned parts)) part.got part.made → (input : List ℕ) → left ≡ Some input
      → SaysNoMemory input part.made (continue_due parts ++ no_memory_response)
  no_memory calls input told =
      record { prefix = continue_due parts; may = inr (in_body S.Memory (λ more is. tt) calls input told); word_is = refl }

  pub uncalled_part : (stop : BodyStop) → is_head ≡ asks_head parts → ((more : List ℕ) → left' ≡ Some more → StopsAt stop part.place more)
      → CallsOf stop (staged_of parts (planned parts)) part.got part.made → EndsBody stop is_head asked written' end → EndsUncalled part.made left left' written written' end
  uncalled_part S.Truncated heads cause calls (e, same) = subst (EndsUncalled part.made left left' written written') (sym e) (record {
    taken = read.head ++ part.reads.raw;
    left_is = took_of;
    quiet = loud;
    begun = begun_of;
    word = continue_due parts;
    wrote = same ∙ read.asks;
    stops = λ input is. inr (in_body S.Truncated cause calls input is);
  })
  uncalled_part S.BadChunk heads cause calls says =
      ends_saying part.made left left' written asked written' (read.head ++ part.reads.raw) (continue_due parts) (broken_response BadChunk is_head) BadRequest end
      took_of loud begun_of read.asks (λ input is. inr (breach BadChunk cause calls heads input is)) (λ input is. inr (inl (breach BadChunk cause calls heads input is))) says
  uncalled_part S.TooLarge heads cause calls says =
      ends_saying part.made left left' written asked written' (read.head ++ part.reads.raw) (continue_due parts) (broken_response FileTooLarge is_head) BadRequest end
      took_of loud begun_of read.asks (λ input is. inr (breach FileTooLarge cause calls heads input is)) (λ input is. inr (inl (breach FileTooLarge cause calls heads input is))) says
  uncalled_part S.LinkFault heads cause calls (e, same) = subst (EndsUncalled part.made left left' written written') (sym e) (record {
    taken = read.head ++ part.reads.raw;
    left_is = took_of;
    quiet = loud;
    begun = begun_of;
    word = continue_due parts;
    wrote = same ∙ read.asks;
    stops = λ input is. (
      continue_due parts ++ no_memory_response,
      length (continue_due parts),
      inr (inr (no_memory calls input is)),
      prefix_of (continue_due parts) no_memory_response,
    );
  })
  uncalled_part S.Memory heads cause calls says =
      ends_saying part.made left left' written asked written' (read.head ++ part.reads.raw) (continue_due parts) no_memory_response Memory end
      took_of loud begun_of read.asks (λ input is. no_memory calls input is) (λ input is. inr (inr (no_memory calls input is))) says

-- no request was read whole
pub EndsAt-uncalled : (defaults : Defaults) {P : Type 0} (moves : P → List Call → P → Type 0) (old new : P) (made : List Call)
    (left left' written written' moments moments' : Option (List ℕ)) (index : ℕ) (end : End) → moves old made new → moments' ≡ moments
    → EndsUncalled made left left' written written' end → EndsAt defaults moves old new left left' written written' moments moments' index end
EndsAt-uncalled defaults moves old new made left left' written written' moments moments' index end moved clock ends = record {
  final = None;
  made = made;
  taken = ends.taken;
  left_is = ends.left_is;
  quiet = ends.quiet;
  begun = ends.begun;
  are = tt;
  moved = moved;
  clock = clock;
  word = ends.word;
  wrote = ends.wrote;
  stops = λ input is. (input, refl, ends.stops input is);
}

pub EndsAt-part : (defaults : Defaults) {P : Type 0} (moves : P → List Call → P → Type 0) (old new : P) (left mid left' written asked written' moments moments' : Option (List ℕ))
    (parts : HeadParts) (body : Body) (is_head : Bool) (index : ℕ) (end : End) → ReadsHead left mid written asked parts → IsAt (coding_of parts) body [] []
    → is_head ≡ asks_head parts → AttendsPart parts moves old new body mid left' asked written' moments moments' is_head end
    → EndsAt defaults moves old new left left' written written' moments moments' index end
EndsAt-part defaults moves old new left mid left' written asked written' moments moments' parts body is_head index end read start heads part =
    EndsAt-uncalled defaults moves old new part.made left left' written written' moments moments' index end part.moved part.clock
    (uncalled_part moves old new left mid left' written asked written' moments moments' parts body is_head end read start part part.stop heads part.cause part.calls part.ends)

-- ---- what comes of a request

goes_on_where : (last closes : Bool) (fate : Fate) → closes ≡ last → closes ≡ false → fate ≡ Fine → not (last || not (is_fine fate)) ≡ true
goes_on_where true closes fate e f g = absurd (cc)
goes_on_where false closes fate e f g = rw g refl

module _ (defaults : Defaults) {P : Type 0} (moves : P → List Call → P → Type 0) (old new : P) (left mid left' written asked written' moments moments' : Option (List ℕ))
    (parts : HeadParts) (body : Body) (closes is_head : Bool) (index : ℕ) (read : ReadsHead left mid written asked parts) (start : IsAt (coding_of parts) body [] [])
    (is_closes : closes ≡ is_last index parts) (heads : is_head ≡ asks_head parts) where
  module _ (a : Attended defaults parts moves old new body mid left' moments moments') where
    exchange_of : Exchange
    exchange_of = record { head = read.head; parts = parts; raw = a.reads.raw; body = a.got; moment = a.moment; outcome = a.outcome }

    reads_of : left ≡ before (read.head ++ a.reads.raw) left'
    reads_of = read.reads ∙ ap (before read.head) a.reads.took ∙ sym (before_append read.head a.reads.raw left')

    whole_of : IsBody (coding_of parts) a.reads.raw a.got
    whole_of = IsBody-done (coding_of parts) a.last.place a.last.room a.reads.raw a.got a.done (a.reads.at (coding_of parts) [] [] start)

  pub GoesOn-made : Attends defaults parts moves old new body mid left' asked written' moments moments' closes is_head
      → GoesOn defaults moves old new left left' written written' moments moments' index
  GoesOn-made attends =
      let a = attends.attended in
      let x : Exchange = record { head = read.head; parts = parts; raw = a.reads.raw; body = a.got; moment = a.moment; outcome = a.outcome } in
      let response = attends.responds in
      record {
        x = x;
        is_exchange = record { head = read.is_head; body = whole_of a; outcome = a.is_of };
        moved = a.moved;
        clock = a.clock;
        goes = goes_on_where (is_last index x.parts) closes (outcome_fate a.outcome) is_closes response.stays_open response.fine;
        reads = reads_of a;
        writes = response.wrote ∙ ap (λ w. behind w (response_of a.outcome closes is_head)) read.asks
            ∙ sym (behind_append written (continue_due parts) (response_of a.outcome closes is_head))
            ∙ ap (λ b. behind written (continue_due parts ++ response_of a.outcome b is_head)) is_closes
            ∙ ap (λ h. behind written (continue_due parts ++ response_of a.outcome (is_last index x.parts) h)) heads;
      }

  pub EndsAt-called : (end : End) → AttendsEnd defaults parts moves old new body mid left' asked written' moments moments' closes is_head end
      → EndsAt defaults moves old new left left' written written' moments moments' index end
  EndsAt-called end attends =
      let a = attends.attended in
      let x : Exchange = record { head = read.head; parts = parts; raw = a.reads.raw; body = a.got; moment = a.moment; outcome = a.outcome } in
      let response = attends.ends in
      let bytes : List ℕ = read.head ++ a.reads.raw in
      record {
        final = Some x;
        made = [];
        taken = [];
        left_is = reads_of a ∙ ap (λ xs. before xs left') (sym (append-nil (bytes ++ []) ∙ append-nil bytes));
        quiet = λ e. refl;
        begun = inl refl;
        are = (record { head = read.is_head; body = whole_of a; outcome = a.is_of }, tt);
        moved = subst (λ calls. moves old calls new) (sym (append-nil (calls_in a.outcome ++ []) ∙ append-nil (calls_in a.outcome))) a.moved;
        clock = a.clock;
        word = continue_due parts ++ response.response;
        wrote = response.wrote ∙ ap (λ w. behind w response.response) read.asks ∙ sym (behind_append written (continue_due parts) response.response);
        stops = λ input is.
            let t = told_after bytes left left' input (reads_of a) is in (
              t.0,
              t.2 ∙ ap (λ xs. xs ++ t.0) (sym (append-nil bytes)),
              (
                refl,
                (
                  response.response,
                  refl,
                  subst (λ h. StopsCalled end a.outcome (is_last index x.parts) h response.response) heads
                      (subst (λ b. StopsCalled end a.outcome b is_head response.response) is_closes response.stops),
                ),
              ),
            );
      }

-- ---- exchanges one after the other

requests-append : (xs ys : List Exchange) → requests (xs ++ ys) ≡ requests xs ++ requests ys
requests-append [] ys = refl
requests-append (x ∷ xs) ys =
    ap (λ bytes. (x.head ++ x.raw) ++ bytes) (requests-append xs ys) ∙ sym (append_assoc (x.head ++ x.raw) (requests xs) (requests ys))

calls_of-append : (xs ys : List Exchange) → calls_of (xs ++ ys) ≡ calls_of xs ++ calls_of ys
calls_of-append [] ys = refl
calls_of-append (x ∷ xs) ys = ap (λ calls. calls_in x.outcome ++ calls) (calls_of-append xs ys) ∙ sym (append_assoc (calls_in x.outcome) (calls_of xs) (calls_of ys))

moments_of-append : (xs ys : List Exchange) → moments_of (xs ++ ys) ≡ moments_of xs ++ moments_of ys
moments_of-append [] ys = refl
moments_of-append (x ∷ xs) ys = ap (λ moments. x.moment ∷ moments) (moments_of-append xs ys)

AreExchanges-append : (defaults : Defaults) (xs ys : List Exchange) → AreExchanges defaults xs → AreExchanges defaults ys → AreExchanges defaults (xs ++ ys)
AreExchanges-append defaults [] ys a b = b
AreExchanges-append defaults (x ∷ xs) ys a b = (a.0, AreExchanges-append defaults xs ys a.1 b)

no_more : (n : ℕ) → n ≡ n + 0
no_more n = omega arith

one_further : (index n : ℕ) → (index + 1) + n ≡ index + (suc n)
one_further index n = omega arith

said-append : (index : ℕ) (xs ys : List Exchange) → said index (xs ++ ys) ≡ said index xs ++ said (index + length xs) ys
said-append index [] ys = ap (λ n. said n ys) (no_more index)
said-append index (x ∷ xs) ys =
    ap (λ bytes. said_at index x ++ bytes) (said-append (index + 1) xs ys ∙ ap (λ n. said (index + 1) xs ++ said n ys) (one_further index (length xs)))
    ∙ sym (append_assoc (said_at index x) (said (index + 1) xs) (said (index + length (x ∷ xs)) ys))

GoOn-append : (index : ℕ) (xs ys : List Exchange) → GoOn index xs → GoOn (index + length xs) ys → GoOn index (xs ++ ys)
GoOn-append index [] ys a b = subst (λ n. GoOn n ys) (sym (no_more index)) b
GoOn-append index (x ∷ xs) ys a b =
    (a.0, GoOn-append (index + 1) xs ys a.1 (subst (λ n. GoOn n ys) (sym (one_further index (length xs))) b))

Gave-append : (told told' told'' : Option (List ℕ)) (xs ys : List ℕ) → Gave told xs told' → Gave told' ys told'' → Gave told (xs ++ ys) told''
Gave-append told told' told'' [] ys a b = subst (λ t. Gave t ys told'') a b
Gave-append told told' told'' (x ∷ xs) ys a b = (a.0, Gave-append (after_reading told) told' told'' xs ys a.1 b)

not_limit : (closes at_limit fails : Bool) → not ((closes || at_limit) || fails) ≡ true → at_limit ≡ false
not_limit closes false fails e = refl
not_limit true true fails e = absurd (cc)
not_limit false true fails e = absurd (cc)

below_limit : (index : ℕ) → (index + 1 == request_limit) ≡ false → index < request_limit → index + 1 < request_limit
below_limit index e below = grind (arith, nat_tests)

-- one more exchange
pub SoFar-more : (defaults : Defaults) {P : Type 0} (moves : P → List Call → P → Type 0)
    → ((p q r : P) (xs ys : List Call) → moves p xs q → moves q ys r → moves p (xs ++ ys) r)
    → (old now new : P) (left left' left'' written written' written'' moments moments' moments'' : Option (List ℕ)) (count : ℕ)
    → SoFar defaults moves old now left left' written written' moments moments' count
    → GoesOn defaults moves now new left' left'' written' written'' moments' moments'' count
    → SoFar defaults moves old new left left'' written written'' moments moments'' (count + 1)
SoFar-more defaults moves joined old now new left left' left'' written written' written'' moments moments' moments'' count so_far goes =
    let xs = so_far.exchanges in
    let x = goes.x in
    let bytes : List ℕ = x.head ++ x.raw in
    let at_end : 0 + length xs ≡ count = omega (arith, so_far.count_is) in
    record {
      exchanges = xs ++ x ∷ [];
      are = AreExchanges-append defaults xs (x ∷ []) so_far.are (goes.is_exchange, tt);
      count_is = omega (arith, length-append xs (x ∷ []), so_far.count_is);
      few = below_limit count (not_limit x.parts.closes (count + 1 == request_limit) (not (is_fine (outcome_fate x.outcome))) goes.goes) so_far.few;
      moved = subst (λ calls. moves old calls new) (sym (calls_of-append xs (x ∷ []) ∙ ap (λ calls. calls_of xs ++ calls) (append-nil (calls_in x.outcome))))
          (joined old now new (calls_of xs) (calls_in x.outcome) so_far.moved goes.moved);
      clock = subst (λ ms. Gave moments ms moments'') (sym (moments_of-append xs (x ∷ [])))
          (Gave-append moments moments' moments'' (moments_of xs) (x.moment ∷ []) so_far.clock goes.clock);
      go_on = GoOn-append 0 xs (x ∷ []) so_far.go_on (subst (λ n. goes_on n x ≡ true) (sym at_end) goes.goes, tt);
      reads = so_far.reads ∙ ap (before (requests xs)) goes.reads ∙ sym (before_append (requests xs) bytes left'')
          ∙ ap (λ b. before b left'') (sym (requests-append xs (x ∷ []) ∙ ap (λ b. requests xs ++ b) (append-nil bytes)));
      writes = goes.writes ∙ ap (λ w. behind w (said_at count x)) so_far.writes
          ∙ sym (behind_append written (said 0 xs) (said_at count x))
          ∙ ap (behind written) (sym (said-append 0 xs (x ∷ [])
          ∙ ap (λ b. said 0 xs ++ b) (append-nil (said_at (0 + length xs) x) ∙ ap (λ n. said_at n x) at_end)));
    }

-- the connection ends behind the exchanges so far
pub Converses-ends : (defaults : Defaults) {P : Type 0} (moves : P → List Call → P → Type 0)
    → ((p q r : P) (xs ys : List Call) → moves p xs q → moves q ys r → moves p (xs ++ ys) r)
    → (old now new : P) (left left' left'' written written' written'' moments moments' moments'' : Option (List ℕ)) (count : ℕ) (end : End)
    → SoFar defaults moves old now left left' written written' moments moments' count
    → EndsAt defaults moves now new left' left'' written' written'' moments' moments'' count end
    → Converses defaults moves old new left left'' written written'' moments moments'' end
Converses-ends defaults moves joined old now new left left' left'' written written' written'' moments moments' moments'' count end so_far ends =
    let xs = so_far.exchanges in
    let last = final_list ends.final in
    record {
      exchanges = xs ++ last;
      are = AreExchanges-append defaults xs last so_far.are ends.are;
      made = ends.made;
      moved = subst (λ calls. moves old calls new) (sym (ap (λ calls. calls ++ ends.made) (calls_of-append xs last) ∙ append_assoc (calls_of xs) (calls_of last) ends.made))
          (joined old now new (calls_of xs) (calls_of last ++ ends.made) so_far.moved ends.moved);
      clock = subst (λ ms. Gave moments ms moments'') (sym (moments_of-append xs last))
          (Gave-append moments moments' moments'' (moments_of xs) (moments_of last) so_far.clock ends.clock);
      taken = ends.taken;
      left_is = so_far.reads ∙ ap (before (requests xs)) ends.left_is ∙ sym (before_append (requests xs) (requests last ++ ends.taken) left'')
          ∙ ap (λ bytes. before bytes left'') (sym (append_assoc (requests xs) (requests last) ends.taken)
          ∙ ap (λ bytes. bytes ++ ends.taken) (sym (requests-append xs last)));
      quiet = ends.quiet;
      begun = ends.begun;
      talk = λ input above is_input is_above.
          let t = told_after (requests xs) left left' input so_far.reads is_input in
          let u = ends.stops t.0 t.1 in (
            said 0 xs ++ ends.word,
            ends.wrote ∙ ap (λ w. behind w ends.word) (so_far.writes ∙ ap (λ w. behind w (said 0 xs)) is_above)
                ∙ ap Some (append_assoc above (said 0 xs) ends.word),
            record {
              earlier = xs;
              final = ends.final;
              rest = u.0;
              word = ends.word;
              exchanges_are = refl;
              go_on = so_far.go_on;
              reads = t.2 ∙ ap (λ b. requests xs ++ b) u.1 ∙ sym (append_assoc (requests xs) (requests last) u.0)
                  ∙ ap (λ b. b ++ u.0) (sym (requests-append xs last));
              stops = subst (λ n. Stops end u.0 n ends.final ends.made ends.word) (sym so_far.count_is) u.2;
              says = refl;
            },
          );
    }

-- ---- ends at which what was written couldn't be sent

begun_body : (rest : List ℕ) (made : List Call) (prefix : List ℕ) → StopsInBody S.Truncated rest made prefix → StopsInBody S.Memory rest made prefix
begun_body rest made prefix b = record {
  head = b.head;
  parts = b.parts;
  raw = b.raw;
  got = b.got;
  more = b.more;
  place = b.place;
  is_head = b.is_head;
  rest_is = b.rest_is;
  at = b.at;
  cause = tt;
  calls = inr b.calls;
  prefix_is = b.prefix_is;
}

uncalled_unsent : (end : End) (rest : List ℕ) (made : List Call) (word : List ℕ) → StopsUncalled end rest made word → StopsUncalled LinkFault rest made word
uncalled_unsent Ended rest made word (read, none, e) =
    (no_memory_response, 0, inr (inr (record { prefix = []; may = inl (none, refl); word_is = refl })), e)
uncalled_unsent Truncated rest made word (inl (read, none, e)) =
    (no_memory_response, 0, inr (inr (record { prefix = []; may = inl (none, refl); word_is = refl })), e)
uncalled_unsent Truncated rest made word (inr b) = (
  word ++ no_memory_response,
  length word,
  inr (inr (record { prefix = word; may = inr (begun_body rest made word b); word_is = refl })),
  prefix_of word no_memory_response,
)
uncalled_unsent BadRequest rest made word (inl bad) = (word, length word, inl bad, whole word)
uncalled_unsent BadRequest rest made word (inr bad) = (word, length word, inr (inl bad), whole word)
uncalled_unsent LinkFault rest made word stops = stops
uncalled_unsent Memory rest made word says = (word, length word, inr (inr says), whole word)
uncalled_unsent (Cut refusal) rest made word stops = absurd stops

called_unsent : (end : End) (outcome : Outcome) (closes is_head : Bool) (word : List ℕ)
    → StopsCalled end outcome closes is_head word → StopsCalled LinkFault outcome closes is_head word
called_unsent Ended outcome closes is_head word (last, fine, e) = (length word, whole word ∙ ap (take (length word)) e)
called_unsent Truncated outcome closes is_head word stops = absurd stops
called_unsent BadRequest outcome closes is_head word stops = absurd stops
called_unsent LinkFault outcome closes is_head word stops = stops
called_unsent Memory outcome closes is_head word (lost, e) = (length word, whole word ∙ ap (take (length word)) e)
called_unsent (Cut refusal) outcome closes is_head word (cut, e) = (length word, whole word ∙ ap (take (length word)) e)

stops_unsent : (end : End) (rest : List ℕ) (index : ℕ) (final : Option Exchange) (made : List Call) (word : List ℕ)
    → Stops end rest index final made word → Stops LinkFault rest index final made word
stops_unsent end rest index None made word stops = uncalled_unsent end rest made word stops
stops_unsent end rest index (Some x) made word (none, (response, e, stops)) =
    (none, (response, e, called_unsent end x.outcome (is_last index x.parts) (asks_head x.parts) response stops))

-- what was said couldn't be sent
pub Converses-unsent : (defaults : Defaults) {P : Type 0} (moves : P → List Call → P → Type 0) (old new : P)
    (left left' left'' written written' written'' moments moments' : Option (List ℕ)) (end : End)
    → Converses defaults moves old new left left' written written' moments moments' end → written'' ≡ written' → left'' ≡ left'
    → Converses defaults moves old new left left'' written written'' moments moments' LinkFault
Converses-unsent defaults moves old new left left' left'' written written' written'' moments moments' end c same still = record {
  exchanges = c.exchanges;
  are = c.are;
  made = c.made;
  moved = c.moved;
  clock = c.clock;
  taken = c.taken;
  left_is = c.left_is ∙ ap (before (requests c.exchanges ++ c.taken)) (sym still);
  quiet = loud;
  begun = c.begun;
  talk = λ input above is_input is_above.
      let t = c.talk input above is_input is_above in (
        t.0,
        same ∙ t.1,
        record {
          earlier = t.2.earlier;
          final = t.2.final;
          rest = t.2.rest;
          word = t.2.word;
          exchanges_are = t.2.exchanges_are;
          go_on = t.2.go_on;
          reads = t.2.reads;
          stops = stops_unsent end t.2.rest (length t.2.earlier) t.2.final c.made t.2.word t.2.stops;
          says = t.2.says;
        },
      );
}

-- what was said was sent, or couldn't be
pub Converses-sent : (defaults : Defaults) {P : Type 0} (moves : P → List Call → P → Type 0) (old new : P)
    (left left' left'' written written' written'' moments moments' : Option (List ℕ)) (end last : End)
    → Converses defaults moves old new left left' written written' moments moments' end → written'' ≡ written' → left'' ≡ left'
    → (last ≡ end) ⊎ (last ≡ LinkFault) → Converses defaults moves old new left left'' written written'' moments moments' last
Converses-sent defaults moves old new left left' left'' written written' written'' moments moments' end last c same still (inl is) =
    subst (λ e. Converses defaults moves old new left left'' written written'' moments moments' e) (sym is)
    (subst (λ l. Converses defaults moves old new left l written written'' moments moments' end) (sym still)
    (subst (λ w. Converses defaults moves old new left left' written w moments moments' end) (sym same) c))
Converses-sent defaults moves old new left left' left'' written written' written'' moments moments' end last c same still (inr is) =
    subst (λ e. Converses defaults moves old new left left'' written written'' moments moments' e) (sym is)
    (Converses-unsent defaults moves old new left left' left'' written written' written'' moments moments' end c same still)

-- the count of faults of an exchange that ended, from an earlier count, which was the same
pub counted_from : (start old new : ℕ) (end : End) → old ≡ start → Counted old new (IsErrOf {T = Unit {0}} (Err end) LinkFault)
    → Counted start new (end ≡ LinkFault)
counted_from start old new end same counted = subst (λ n. Counted n new (end ≡ LinkFault)) same (record {
  later = counted.later;
  rose = λ e. counted.rose (ap Err e);
  stays = λ no. counted.stays (λ e. no (cc e));
})

-- a connection over a link, from that over its wire
pub ServesLink-made : (defaults : Defaults) {P : Type 0} (moves : P → List Call → P → Type 0) (old new : P) (link link' : LinkSeen)
    (left unread written written' sent' moments moments' : Option (List ℕ)) (faults faults' : ℕ) (ahead : List ℕ) (end : End)
    → Converses defaults moves old new left unread written written' moments moments' end
    → left ≡ link.left → written ≡ link.written → link'.written ≡ written' → link'.sent ≡ sent' → faults ≡ link.faults → link'.faults ≡ faults'
    → unread ≡ before ahead link'.left → length ahead ≤ 49152
    → ((end ≡ LinkFault → ⊥) → sent' ≡ written') → Counted faults faults' (end ≡ LinkFault)
    → ServesLink defaults moves old new link link' moments moments' end
ServesLink-made defaults moves old new link link' left unread written written' sent' moments moments' faults faults' ahead end talk at_left at_written is_written is_sent at_faults is_faults ahead_is few sent counted = record {
  unread = unread;
  talk = subst (λ l. Converses defaults moves old new l unread link.written link'.written moments moments' end) at_left
      (subst (λ w. Converses defaults moves old new left unread w link'.written moments moments' end) at_written
      (subst (λ w. Converses defaults moves old new left unread written w moments moments' end) (sym is_written) talk));
  ahead = ahead;
  ahead_is = ahead_is;
  few = few;
  sent = λ fine. is_sent ∙ sent fine ∙ sym is_written;
  counted = subst (λ n. Counted n link'.faults (end ≡ LinkFault)) at_faults
      (subst (λ n. Counted faults n (end ≡ LinkFault)) (sym is_faults) counted);
}

-- the connection ended by a request whose head was read
pub EndsAt-last : (defaults : Defaults) {P : Type 0} (moves : P → List Call → P → Type 0) (old new : P) (left mid left' written asked written' moments moments' : Option (List ℕ))
    (parts : HeadParts) (body : Body) (closes is_head : Bool) (index : ℕ) (end : End) → ReadsHead left mid written asked parts → IsAt (coding_of parts) body [] []
    → closes ≡ is_last index parts → is_head ≡ asks_head parts
    → AttendsLast defaults parts moves old new body mid left' asked written' moments moments' closes is_head end
    → EndsAt defaults moves old new left left' written written' moments moments' index end
EndsAt-last defaults moves old new left mid left' written asked written' moments moments' parts body closes is_head index end read start is_closes heads (inl ends) =
    EndsAt-called defaults moves old new left mid left' written asked written' moments moments' parts body closes is_head index read start is_closes heads end ends
EndsAt-last defaults moves old new left mid left' written asked written' moments moments' parts body closes is_head index end read start is_closes heads (inr part) =
    EndsAt-part defaults moves old new left mid left' written asked written' moments moments' parts body is_head index end read start heads part

-- the same of the request at this index
module _ (defaults : Defaults) {P : Type 0} (moves : P → List Call → P → Type 0) (old new : P) (left mid left' written asked written' moments moments' : Option (List ℕ))
    (index : ℕ) (parts : HeadParts) (request : Request) (read : ReadsHead left mid written asked parts) (is : IsRequest index parts request) where
  starts : IsAt (coding_of parts) request.body [] []
  starts = subst (λ (p : HeadParts). IsAt (coding_of p) request.body [] []) is.head is.body

  pub GoesOn-request : Attends defaults request.head moves old new request.body mid left' asked written' moments moments' request.closes request.is_head
      → GoesOn defaults moves old new left left' written written' moments moments' index
  GoesOn-request attends =
      GoesOn-made defaults moves old new left mid left' written asked written' moments moments' parts request.body request.closes request.is_head index read starts
      is.closes is.is_head
      (subst (λ (p : HeadParts). Attends defaults p moves old new request.body mid left' asked written' moments moments' request.closes request.is_head) is.head attends)

  pub EndsAt-request : (end : End) → AttendsLast defaults request.head moves old new request.body mid left' asked written' moments moments' request.closes request.is_head end
      → EndsAt defaults moves old new left left' written written' moments moments' index end
  EndsAt-request end attends =
      EndsAt-last defaults moves old new left mid left' written asked written' moments moments' parts request.body request.closes request.is_head index end read starts
      is.closes is.is_head
      (subst (λ (p : HeadParts). AttendsLast defaults p moves old new request.body mid left' asked written' moments moments' request.closes request.is_head end) is.head attends)
