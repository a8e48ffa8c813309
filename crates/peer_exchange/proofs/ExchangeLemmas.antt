-- What the steps of an exchange come to.
use Rattle.std.specs.Prelude.{◌≡◌, ◌≢◌, ◌⊎◌, ℕ, ◌++◌, ◌==◌, eqb, Bool, true, false, if◌then◌else◌, List, [], Option, Result, Ok, Err, IsErrOf, is_ok, refl}
use Rattle.std.specs.Global.{Vec}
use Rattle.std.proofs.Common.{arith, inl, inr, sym, ap, subst, ◌∙◌}
use Rattle.std.proofs.lemmas.Bool.{true≢false}
use Rattle.std.proofs.lemmas.Bool.Decides.{eqb_tells}
use Rattle.fault_counts.specs.Counts.{Counted, Rose}
use Rattle.stream_traits.specs.Seen.{LinkSeen}
use Rattle.stream_traits.specs.Told.{behind, WroteFront}
use Rattle.stream_traits.specs.ToldLaws.{before_nil, WroteFront-all}
use Rattle.http_wire.specs.declared.wire.WireFault.{WireFault}
use Rattle.http_wire.specs.declared.wire.WireFault.TheVariants as W
use Rattle.http_client.specs.Requests.{Ask, request_bytes}
use Rattle.http_client.specs.ResponseReads.{TakesResponse, TookSome, ReadsResponse}
use Rattle.http_client.specs.declared.responses.ResponseRead.{ResponseRead}
use Rattle.http_client.specs.declared.responses.ResponseRead.TheVariants as R
use Rattle.peer_exchange.specs.declared.fault.PeerFault.{PeerFault}
use Rattle.peer_exchange.specs.declared.fault.PeerFault.TheVariants.{Refused, Foreign, Link, Memory}
use Rattle.peer_exchange.specs.Exchanges.{told, Sends, foreign, ended, cut, unasked, unread, too_long, Exchanges}

-- nothing was taken
took_none : (left left' : Option (List ℕ)) → left' ≡ left → TookSome left left'
took_none left left' same = record { taken = []; took = sym same ∙ sym (before_nil left') }

-- whatever was read, a front of the input was taken
took_some : (most : ℕ) (left left' : Option (List ℕ)) (read : ResponseRead) → ReadsResponse most left left' read → TookSome left left'
took_some most left left' (R.Response status body) x = record { taken = x.head ++ body.items; took = x.took }
took_some most left left' R.Ended x = took_none left left' x.same
took_some most left left' R.Truncated x = x.some
took_some most left left' R.Foreign x = took_none left left' x.same
took_some most left left' R.TooLong x = took_none left left' x.same
took_some most left left' R.LinkFault x = x
took_some most left left' R.Memory x = x

-- the same input, seen at two moments
reads_between : (most : ℕ) (left old left' new : Option (List ℕ)) (read : ResponseRead) → left ≡ old → new ≡ left'
    → ReadsResponse most left left' read → ReadsResponse most old new read
reads_between most left old left' new read from to reads =
    subst (λ (l : Option (List ℕ)). ReadsResponse most l new read) from
    (subst (λ (l : Option (List ℕ)). ReadsResponse most left l read) (sym to) reads)

module _ (old new : LinkSeen) (ask : Ask) (wanted most : ℕ) where
  -- the request wasn't written whole
  pub Exchanges-unwritten : WroteFront old.written new.written (request_bytes ask) → new.left ≡ old.left
      → Exchanges old new ask wanted most (Err Link)
  Exchanges-unwritten wrote same = record { wrote = wrote; took = took_none old.left new.left same }

  -- there was no memory for it
  pub Exchanges-unasked : new.written ≡ old.written → new.sent ≡ old.sent → new.left ≡ old.left → new.faults ≡ old.faults
      → Exchanges old new ask wanted most (Err Memory)
  Exchanges-unasked written sent left faults =
      unasked (λ i. record { left = left i; written = written i; sent = sent i; faults = faults i })

  -- it was written, something was read, and it wasn't sent
  pub Exchanges-unsent : (read : ResponseRead) (left left' : Option (List ℕ)) → new.written ≡ behind old.written (request_bytes ask)
      → left ≡ old.left → new.left ≡ left' → ReadsResponse most left left' read → Exchanges old new ask wanted most (Err Link)
  Exchanges-unsent read left left' wrote from to reads = record {
    wrote = WroteFront-all old.written new.written (request_bytes ask) wrote;
    took = took_some most old.left new.left read (reads_between most left old.left left' new.left read from to reads);
  }

  responds : (status : ℕ) (body : Vec ℕ) → Sends old new ask → TakesResponse most old.left new.left status body.items
      → ((eqb status wanted ≡ true) × (status ≡ wanted)) ⊎ ((eqb status wanted ≡ false) × (status ≢ wanted))
      → Exchanges old new ask wanted most (if status == wanted then Ok body else Err (Refused status))
  responds status body sends took (inl same) =
      subst (λ (b : Bool). Exchanges old new ask wanted most (if b then Ok body else Err (Refused status))) (sym same.0)
      (record { sends = sends; took = subst (λ (s : ℕ). TakesResponse most old.left new.left s body.items) same.1 took })
  responds status body sends took (inr other) =
      subst (λ (b : Bool). Exchanges old new ask wanted most (if b then Ok body else Err (Refused status))) (sym other.0)
      (record { other = other.1; body = body.items; answers = record { sends = sends; took = took } })

  heard : (read : ResponseRead) → Sends old new ask → ReadsResponse most old.left new.left read
      → Exchanges old new ask wanted most (told wanted read)
  heard (R.Response status body) sends reads = responds status body sends reads (eqb_tells status wanted)
  heard R.Ended sends reads = ended sends reads
  heard R.Truncated sends reads = cut sends reads
  heard R.Foreign sends reads = foreign sends reads
  heard R.TooLong sends reads = too_long sends reads
  heard R.LinkFault sends reads =
      record { wrote = WroteFront-all old.written new.written (request_bytes ask) sends.wrote; took = reads }
  heard R.Memory sends reads = unread sends reads

  -- it was written and sent, and this was read
  pub Exchanges-heard : (read : ResponseRead) (outcome : Result (Vec ℕ) PeerFault) (left left' : Option (List ℕ))
      → outcome ≡ told wanted read → new.written ≡ behind old.written (request_bytes ask) → new.sent ≡ new.written
      → left ≡ old.left → new.left ≡ left' → ReadsResponse most left left' read → Exchanges old new ask wanted most outcome
  Exchanges-heard read outcome left left' is wrote sent from to reads =
      subst (λ (o : Result (Vec ℕ) PeerFault). Exchanges old new ask wanted most o) (sym is)
      (heard read (record { wrote = wrote; sent = sent }) (reads_between most left old.left left' new.left read from to reads))

-- ---- counts

abbrev tells_link : Result (Vec ℕ) PeerFault → Bool
tells_link (Ok body) = false
tells_link (Err (Refused status)) = false
tells_link (Err Foreign) = false
tells_link (Err Link) = true
tells_link (Err Memory) = false

-- nothing failed
stayed : {T E : Type 0} (before now : ℕ) (x : T) (e : E) → Counted before now (IsErrOf (Ok x) e) → now ≡ before
stayed before now x e counted = counted.stays (λ failed. true≢false (ap is_ok failed))

-- the call that failed is the one that is told
pub Counted-failed : {T : Type 0} (before now : ℕ) (fault : WireFault) → fault ≡ W.LinkFault
    → Counted before now (IsErrOf {T = T} {E = WireFault} (Err fault) W.LinkFault)
    → Counted before now (IsErrOf {T = Vec ℕ} {E = PeerFault} (Err Link) Link)
Counted-failed before now fault is counted =
    record { later = counted.later; rose = λ e. counted.rose (ap Err is); stays = λ no. absurd (no refl) }

abbrev is_memory : WireFault → Bool
is_memory W.LinkFault = false
is_memory W.Memory = true

abbrev fault_in : {T : Type 0} → Result T WireFault → WireFault
fault_in (Ok x) = W.Memory
fault_in (Err fault) = fault

-- the count stays where there is no memory
pub stayed-unasked : {T : Type 0} (before now : ℕ) (fault : WireFault) → fault ≡ W.Memory
    → Counted before now (IsErrOf {T = T} {E = WireFault} (Err fault) W.LinkFault) → now ≡ before
stayed-unasked before now fault is counted =
    counted.stays (λ failed. true≢false (sym (ap is_memory is) ∙ ap (λ r. is_memory (fault_in r)) failed))

pub Counted-unasked : {T : Type 0} (before now : ℕ) (fault : WireFault) → fault ≡ W.Memory
    → Counted before now (IsErrOf {T = T} {E = WireFault} (Err fault) W.LinkFault)
    → Counted before now (IsErrOf {T = Vec ℕ} {E = PeerFault} (Err Memory) Link)
Counted-unasked before now fault is counted = record {
  later = counted.later;
  rose = λ e. absurd (true≢false (sym (ap tells_link e)));
  stays = λ no. stayed-unasked before now fault is counted;
}

-- the reading failed where a fault of the link is told
fault-told : (wanted : ℕ) (read : ResponseRead) → tells_link (told wanted read) ≡ true → read ≡ R.LinkFault
fault-told wanted (R.Response status body) is = absurd (by (status == wanted) is)
  where
    by : (b : Bool) → tells_link (if b then Ok body else Err (Refused status)) ≡ true → ⊥
    by true e = true≢false (sym e)
    by false e = true≢false (sym e)
fault-told wanted R.Ended is = absurd (true≢false (sym is))
fault-told wanted R.Truncated is = absurd (true≢false (sym is))
fault-told wanted R.Foreign is = absurd (true≢false (sym is))
fault-told wanted R.TooLong is = absurd (true≢false (sym is))
fault-told wanted R.LinkFault is = refl
fault-told wanted R.Memory is = absurd (true≢false (sym is))

-- the count stayed but for the reading
pub Counted-heard : {T : Type 0} (before mid later now wanted : ℕ) (read : ResponseRead) (outcome : Result (Vec ℕ) PeerFault) (x : T)
    → outcome ≡ told wanted read → Counted before mid (IsErrOf (Ok x) W.LinkFault) → Counted mid later (read ≡ R.LinkFault)
    → Counted later now (false ≡ true) → Counted before now (IsErrOf outcome Link)
Counted-heard before mid later now wanted read outcome x is wrote reads sends =
    let same : mid ≡ before = stayed before mid x W.LinkFault wrote in
    let last : now ≡ later = sends.stays (λ failed. true≢false (sym failed)) in
    record {
      later = omega (arith, same, last, reads.later);
      rose = λ e.
          let rose : Rose mid later = reads.rose (fault-told wanted read (ap tells_link (sym is ∙ e))) in
          omega (arith, same, last, rose);
      stays = λ no. last ∙ reads.stays (λ e. no (is ∙ ap (told wanted) e)) ∙ same;
    }

-- it rose behind the reading
pub Counted-unsent : {T : Type 0} (before mid later now : ℕ) (P : Type 0) (x : T)
    → Counted before mid (IsErrOf (Ok x) W.LinkFault) → Counted mid later P → Counted later now (true ≡ true)
    → Counted before now (IsErrOf {T = Vec ℕ} {E = PeerFault} (Err Link) Link)
Counted-unsent before mid later now P x wrote reads sends =
    let same : mid ≡ before = stayed before mid x W.LinkFault wrote in
    let rose : Rose later now = sends.rose refl in
    record {
      later = omega (arith, same, reads.later, sends.later);
      rose = λ e. omega (arith, same, reads.later, rose);
      stays = λ no. absurd (no refl);
    }
