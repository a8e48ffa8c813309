-- What the steps of an exchange come to.
use Rattle.std.specs.Prelude.{◌≡◌, ℕ, ◌++◌, Bool, true, false, List, [], Option, Result, Ok, Err, IsErrOf, is_ok, refl}
use Rattle.std.proofs.Common.{arith, inr, sym, ap, subst, ◌∙◌}
use Rattle.std.proofs.lemmas.Bool.{true≢false}
use Rattle.fault_counts.specs.Counts.{Counted, Rose}
use Rattle.stream_traits.specs.Seen.{LinkSeen}
use Rattle.stream_traits.specs.Told.{behind, WroteFront}
use Rattle.stream_traits.specs.ToldLaws.{before_nil, WroteFront-all}
use Rattle.http_wire.specs.declared.wire.WireFault.{WireFault}
use Rattle.http_wire.specs.declared.wire.WireFault.TheVariants as W
use Rattle.http_client.specs.Requests.{Ask, request_bytes}
use Rattle.http_client.specs.ResponseReads.{ReadsResponse, TookSome}
use Rattle.http_client.specs.declared.responses.ResponseRead.{ResponseRead}
use Rattle.http_client.specs.declared.responses.ResponseRead.TheVariants as R
use Rattle.office_model.specs.declared.event.Event.{Event}
use Rattle.office_model.specs.Meaning.{Reply}
use Rattle.peer_exchange.specs.Exchanges.{Sends, foreign, ended, cut, unasked, unread, too_long}
use Rattle.peer_talk.specs.Mirror.{Response}
use Rattle.remote_port.specs.declared.end.PortEnd.{PortEnd}
use Rattle.remote_port.specs.declared.end.PortEnd.TheVariants.{Foreign, Silent, Link, Memory}
use Rattle.remote_port.specs.declared.hearing.Response.{Response as Held}
use Rattle.remote_port.specs.Hearing.{most, judged, response_of, Responds, TakesIt, Reads, Hears}

-- nothing was taken
took_none : (left left' : Option (List ℕ)) → left' ≡ left → TookSome left left'
took_none left left' same = record { taken = []; took = sym same ∙ sym (before_nil left') }

-- whatever was read, a front of the input was taken
took_some : (left left' : Option (List ℕ)) (read : ResponseRead) → ReadsResponse most left left' read → TookSome left left'
took_some left left' (R.Response status body) x = record { taken = x.head ++ body.items; took = x.took }
took_some left left' R.Ended x = took_none left left' x.same
took_some left left' R.Truncated x = x.some
took_some left left' R.Foreign x = took_none left left' x.same
took_some left left' R.TooLong x = took_none left left' x.same
took_some left left' R.LinkFault x = x
took_some left left' R.Memory x = x

-- the same input, seen at two moments
reads_between : (left old left' new : Option (List ℕ)) (read : ResponseRead) → left ≡ old → new ≡ left'
    → ReadsResponse most left left' read → ReadsResponse most old new read
reads_between left old left' new read from to reads =
    subst (λ (l : Option (List ℕ)). ReadsResponse most l new read) from
    (subst (λ (l : Option (List ℕ)). ReadsResponse most left l read) (sym to) reads)

module _ (old new : LinkSeen) (ask : Ask) where
  -- the request wasn't written whole
  pub Responds-unwritten : WroteFront old.written new.written (request_bytes ask) → new.left ≡ old.left → Responds old new ask (Err Link)
  Responds-unwritten wrote same = record { wrote = wrote; took = took_none old.left new.left same }

  -- there was no memory for it
  pub Responds-unasked : new.written ≡ old.written → new.sent ≡ old.sent → new.left ≡ old.left → new.faults ≡ old.faults
      → Responds old new ask (Err Memory)
  Responds-unasked written sent left faults =
      unasked (λ i. record { left = left i; written = written i; sent = sent i; faults = faults i })

  -- it was written, something was read, and it wasn't sent
  pub Responds-unsent : (read : ResponseRead) (left left' : Option (List ℕ)) → new.written ≡ behind old.written (request_bytes ask)
      → left ≡ old.left → new.left ≡ left' → ReadsResponse most left left' read → Responds old new ask (Err Link)
  Responds-unsent read left left' wrote from to reads = record {
    wrote = WroteFront-all old.written new.written (request_bytes ask) wrote;
    took = took_some old.left new.left read (reads_between left old.left left' new.left read from to reads);
  }

  responds : (read : ResponseRead) → Sends old new ask → ReadsResponse most old.left new.left read → Responds old new ask (judged read)
  responds (R.Response status body) sends reads = record { sends = sends; took = reads }
  responds R.Ended sends reads = ended sends reads
  responds R.Truncated sends reads = cut sends reads
  responds R.Foreign sends reads = foreign sends reads
  responds R.TooLong sends reads = too_long sends reads
  responds R.LinkFault sends reads =
      record { wrote = WroteFront-all old.written new.written (request_bytes ask) sends.wrote; took = reads }
  responds R.Memory sends reads = unread sends reads

  -- it was written and sent, and this was read
  pub Responds-read : (read : ResponseRead) (outcome : Result Held PortEnd) (left left' : Option (List ℕ)) → outcome ≡ judged read
      → new.written ≡ behind old.written (request_bytes ask) → new.sent ≡ new.written → left ≡ old.left → new.left ≡ left'
      → ReadsResponse most left left' read → Responds old new ask outcome
  Responds-read read outcome left left' is wrote sent from to reads =
      subst (λ (o : Result Held PortEnd). Responds old new ask o) (sym is)
      (responds read (record { wrote = wrote; sent = sent }) (reads_between left old.left left' new.left read from to reads))

-- ---- a reply

-- it gave one, of which this is read
pub Hears-response : (request_of : Event → Ask) (Says : Event → Response → Reply → Type 0) (old new : LinkSeen) (event : Event) (ask : Ask)
    (held : Held) (outcome : Result Reply PortEnd) → ask ≡ request_of event → Responds old new ask (Ok held)
    → Reads Says event (response_of held) outcome → Hears request_of Says old new event outcome
Hears-response request_of Says old new event ask held outcome is x reads = by outcome reads
  where
    answers : TakesIt old new (request_of event) (response_of held)
    answers = subst (λ (a : Ask). TakesIt old new a (response_of held)) is x

    by : (o : Result Reply PortEnd) → Reads Says event (response_of held) o → Hears request_of Says old new event o
    by (Ok reply) r = record { response = response_of held; answers = answers; reads = r }
    by (Err (Silent status)) r = record { response = response_of held; answers = answers; reads = r }
    by (Err Memory) r = inr (record { response = response_of held; answers = answers; reads = r })
    by (Err Foreign) r = absurd r
    by (Err Link) r = absurd r

-- ---- counts

abbrev tells_link : {T : Type 0} → Result T PortEnd → Bool
tells_link (Ok x) = false
tells_link (Err Foreign) = false
tells_link (Err (Silent status)) = false
tells_link (Err Link) = true
tells_link (Err Memory) = false

-- nothing failed
stayed : {T E : Type 0} (before now : ℕ) (x : T) (e : E) → Counted before now (IsErrOf (Ok x) e) → now ≡ before
stayed before now x e counted = counted.stays (λ failed. true≢false (ap is_ok failed))

-- the call that failed is the one that is told
pub Counted-failed : {T U : Type 0} (before now : ℕ) (fault : WireFault) → fault ≡ W.LinkFault
    → Counted before now (IsErrOf {T = T} {E = WireFault} (Err fault) W.LinkFault)
    → Counted before now (IsErrOf {T = U} {E = PortEnd} (Err Link) Link)
Counted-failed before now fault is counted =
    record { later = counted.later; rose = λ e. counted.rose (ap Err is); stays = λ no. absurd (no refl) }

-- there was no memory
pub Counted-unasked : {U : Type 0} (before now : ℕ) → now ≡ before → Counted before now (IsErrOf {T = U} {E = PortEnd} (Err Memory) Link)
Counted-unasked before now same =
    record { later = omega (arith, same); rose = λ e. absurd (true≢false (sym (ap tells_link e))); stays = λ no. same }

-- the reading failed where a fault of the link is told
fault-told : (read : ResponseRead) → tells_link (judged read) ≡ true → read ≡ R.LinkFault
fault-told (R.Response status body) is = absurd (true≢false (sym is))
fault-told R.Ended is = absurd (true≢false (sym is))
fault-told R.Truncated is = absurd (true≢false (sym is))
fault-told R.Foreign is = absurd (true≢false (sym is))
fault-told R.TooLong is = absurd (true≢false (sym is))
fault-told R.LinkFault is = refl
fault-told R.Memory is = absurd (true≢false (sym is))

-- the count stayed but for the reading
pub Counted-read : {T : Type 0} (before mid later now : ℕ) (read : ResponseRead) (outcome : Result Held PortEnd) (x : T)
    → outcome ≡ judged read → Counted before mid (IsErrOf (Ok x) W.LinkFault) → Counted mid later (read ≡ R.LinkFault)
    → Counted later now (false ≡ true) → Counted before now (IsErrOf outcome Link)
Counted-read before mid later now read outcome x is wrote reads sends =
    let same : mid ≡ before = stayed before mid x W.LinkFault wrote in
    let last : now ≡ later = sends.stays (λ failed. true≢false (sym failed)) in
    record {
      later = omega (arith, same, last, reads.later);
      rose = λ e.
          let rose : Rose mid later = reads.rose (fault-told read (ap tells_link (sym is ∙ e))) in
          omega (arith, same, last, rose);
      stays = λ no. last ∙ reads.stays (λ e. no (is ∙ ap judged e)) ∙ same;
    }

-- it rose behind the reading
pub Counted-unsent : {T : Type 0} (before mid later now : ℕ) (P : Type 0) (x : T)
    → Counted before mid (IsErrOf (Ok x) W.LinkFault) → Counted mid later P → Counted later now (true ≡ true)
    → Counted before now (IsErrOf {T = Held} {E = PortEnd} (Err Link) Link)
Counted-unsent before mid later now P x wrote reads sends =
    let same : mid ≡ before = stayed before mid x W.LinkFault wrote in
    let rose : Rose later now = sends.rose refl in
    record {
      later = omega (arith, same, reads.later, sends.later);
      rose = λ e. omega (arith, same, reads.later, rose);
      stays = λ no. absurd (no refl);
    }

-- the count stays where there is no memory for the request
pub stayed-unasked : {T : Type 0} (before now : ℕ) (fault : WireFault) → fault ≡ W.Memory
    → Counted before now (IsErrOf {T = T} {E = WireFault} (Err fault) W.LinkFault) → now ≡ before
stayed-unasked before now fault is counted =
    counted.stays (λ failed. true≢false (sym (ap is_memory is) ∙ ap (λ r. is_memory (fault_in r)) failed))
  where
    is_memory : WireFault → Bool
    is_memory W.LinkFault = false
    is_memory W.Memory = true

    fault_in : {T : Type 0} → Result T WireFault → WireFault
    fault_in (Ok x) = W.Memory
    fault_in (Err fault) = fault
