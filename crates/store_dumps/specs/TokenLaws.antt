-- Requests that repeat an earlier one: what memory's tokens tell is what the model's tell.
--     behind index token made      what an edit makes, with its token kept
--     carried_first      an edit of an open dump that repeats none
--     carried_kept, carried_full, once_missing      one that repeats another, one for whose token there is no room, and one of no open dump
--     fresh_for      a token of which the dump's tokens say so is fresh
--     behind_set      the token is kept with the edit
--     still_named, still_named_if, still_renamed      the names stay, if a put repeats another
--     opening_first, opening_again      an opening that repeats none, and one that repeats another
--     kind_repeated      the answer that it repeats is that of an opening
use Rattle.std.specs.Prelude.{◌≡◌, ◌==◌, ℕ, zero, suc, Bool, true, false, List, [], ◌∷◌, length, nat_le, Option, Some, None, Ok, Err, option_map, slice_get, slice_set, if◌then◌else◌}
use Rattle.std.specs.List.{position_from}
use Rattle.std.specs.Option.{option_and_then, option_map_or, option_or}
use Rattle.std.proofs.Common.{refl, sym, ap, ◌∙◌, inl}
use Rattle.std.proofs.lemmas.Option.{slice_get_within}
use Rattle.disk_trait.specs.declared.ids.PoolId.{PoolId}
use Rattle.disk_trait.specs.declared.disk.Disk.{Ghosts as DiskGhosts}
use Rattle.pool_name.specs.declared.namer.Namer.{Ghosts as NamerGhosts}
use Rattle.receipts.specs.declared.receipt.Receipt.{Receipt}
use Rattle.receipts.specs.declared.session.SessionName.{SessionName}
use Rattle.receipts.specs.declared.session.Token.{Token}
use Rattle.receipts.specs.Receipts.{receipt_with}
use Rattle.receipts.specs.Session.{is_same_token}
use Rattle.receipts.specs.TokenSets.{Tokens, IsSetOf, has, count}
use Rattle.backup_rules.specs.declared.lines.Kind.{Kind}
use Rattle.open_sessions.specs.declared.sessions.OpenDump.{OpenDump}
use Rattle.open_sessions.specs.Opened.{IsDump, keeping_behind, IsFreshFor}
use Rattle.open_sessions.specs.SessionLaws.{dump_index_of_host-sessions}
use Rattle.office_model.specs.Pairs.{AtEachPair}
use Rattle.office_model.specs.declared.answer.Answer.{Answer}
use Rattle.office_model.specs.declared.answer.Answer.TheVariants.{Done, Already, Dump as DumpAnswer}
use Rattle.office_model.specs.declared.answer.AnswerKind.TheVariants.{Dump as DumpKind}
use Rattle.office_model.specs.declared.refusal.BrokenRule.{BrokenRule}
use Rattle.office_model.specs.declared.refusal.BrokenRule.TheVariants.{NoHost, NoSession, TokensFull}
use Rattle.office_model.specs.Meaning.{Carried, Judged, Reply, ◌>>=◌, ◌>>◌, breaks}
use Rattle.office_model.specs.Office.{Office, Host, Dump, Stage, Names, dump_index_of_host, token_limit, with_dumps, with_stages}
use Rattle.office_model.specs.Parts.{At, dump_at, host_at}
use Rattle.office_model.specs.PlacesLaws.{position-found, slice_get-set_same}
use Rattle.office_model.specs.Repeats.{again, keeps, with_token, kept_at, keeping, once}
use Rattle.office_model.specs.Step.{kind_of}
use Rattle.office_model.specs.UsedNames.{IsRenamed, IsNamedBy, IsNamedIf}
use Rattle.office_model.specs.events.Put.{name_change}
use Rattle.office_model.specs.events.OpenDump as OpenDumpModel
use Rattle.store_parts.specs.declared.parts.StoreParts.{StoreParts}
use Rattle.store_parts.specs.States.{IsRunning}
use Rattle.store_dumps.specs.DumpLaws.{place_of, IsFound, dump_found}
use Rattle.store_dumps.specs.declared.tokens.EditToken.{EditToken}
use Rattle.store_dumps.specs.declared.tokens.EditToken.TheVariants.{Fresh, Kept, Full}
use Rattle.store_dumps.specs.Tokens.{by_receipt, by_dump, is_opened_with, dump_of_host, repeated, judged_token}

-- ---- edits

-- what an edit makes, with its token kept, if it has one
abbrev pub behind : ℕ → Option Token → Carried → Carried
behind index None made = made
behind index (Some token) made =
    record { answer = made.answer; after = with_dumps made.after (kept_at index token made.after.dumps) }

-- by whether the token is kept, and whether there is no room for another
abbrev verdict : Bool → Bool → EditToken
verdict kept full = if kept then Kept else (if full then Full else Fresh)

first_is : (kept full : Bool) → verdict kept full ≡ Fresh → (kept ≡ false) × (full ≡ false)
first_is true full e = absurd cc
first_is false true e = absurd cc
first_is false false e = (refl, refl)

kept_is : (kept full : Bool) → verdict kept full ≡ Kept → kept ≡ true
kept_is true full e = refl
kept_is false true e = absurd cc
kept_is false false e = absurd cc

full_is : (kept full : Bool) → verdict kept full ≡ Full → (kept ≡ false) × (full ≡ true)
full_is true full e = absurd cc
full_is false true e = (refl, refl)
full_is false false e = absurd cc

module _ (session : SessionName) (index : ℕ) (value : Dump) (dumps : List Dump) (left : Office) (rest : Judged Carried)
    (is_at : dump_at dumps session ≡ Ok (record { index = index; value = value })) (kept : Tokens) (set : IsSetOf value.kept kept) where
  -- with a token
  module _ (token : Token) where
    same_verdict : judged_token kept (Some token) ≡ verdict (keeps token value) (nat_le token_limit (length value.kept))
    same_verdict = λ i. verdict (set.has token i) (nat_le token_limit (set.count i))

    abbrev once_where : Bool → Bool → Judged Carried
    once_where keeps full = again left (if keeps then Some Done else None)
        (breaks TokensFull full >> (rest >>= λ made. Ok (behind index (Some token) made)))

    once_is : (keeps_is full : Bool) → keeps token value ≡ keeps_is → nat_le token_limit (length value.kept) ≡ full
        → once session (Some token) dumps left rest ≡ once_where keeps_is full
    once_is keeps_is full e f =
        ap (λ (j : Judged (At Dump)). j >>= λ dump. again left (if keeps token dump.value then Some Done else None) (keeping dump token rest)) is_at
        ∙ (λ i. once_where (e i) (f i))

  once_first : (token : Option Token) → judged_token kept token ≡ Fresh → (made : Carried) → rest ≡ Ok made
      → once session token dumps left rest ≡ Ok (behind index token made)
  once_first None first made is = is
  once_first (Some token) first made is =
      let v = first_is (keeps token value) (nat_le token_limit (length value.kept)) (sym (same_verdict token) ∙ first) in
      once_is token false false v.0 v.1 ∙ ap (λ (r : Judged Carried). r >>= λ made. Ok (behind index (Some token) made)) is

  once_broken : (token : Option Token) → judged_token kept token ≡ Fresh → (rule : BrokenRule) → rest ≡ Err rule
      → once session token dumps left rest ≡ Err rule
  once_broken None first rule is = is
  once_broken (Some token) first rule is =
      let v = first_is (keeps token value) (nat_le token_limit (length value.kept)) (sym (same_verdict token) ∙ first) in
      once_is token false false v.0 v.1 ∙ ap (λ (r : Judged Carried). r >>= λ made. Ok (behind index (Some token) made)) is

  once_kept : (token : Option Token) → judged_token kept token ≡ Kept
      → once session token dumps left rest ≡ Ok (record { answer = Done; after = left })
  once_kept None is = absurd cc
  once_kept (Some token) is =
      let v = kept_is (keeps token value) (nat_le token_limit (length value.kept)) (sym (same_verdict token) ∙ is) in
      once_is token true (nat_le token_limit (length value.kept)) v refl

  once_full : (token : Option Token) → judged_token kept token ≡ Full → once session token dumps left rest ≡ Err TokensFull
  once_full None is = absurd cc
  once_full (Some token) is =
      let v = full_is (keeps token value) (nat_le token_limit (length value.kept)) (sym (same_verdict token) ∙ is) in
      once_is token false true v.0 v.1

-- there is no such dump
pub once_missing : (session : SessionName) (token : Option Token) (dumps : List Dump) (left : Office) (rest : Judged Carried)
    → dump_at dumps session ≡ Err NoSession → rest ≡ Err NoSession → once session token dumps left rest ≡ Err NoSession
once_missing session None dumps left rest none is = is
once_missing session (Some token) dumps left rest none is =
    ap (λ (j : Judged (At Dump)). j >>= λ dump. again left (if keeps token dump.value then Some Done else None) (keeping dump token rest)) none

-- the token is fresh
pub fresh_for : (kept : Tokens) (token : Option Token) → judged_token kept token ≡ Fresh → IsFreshFor kept token
fresh_for kept None first = tt
fresh_for kept (Some token) first = (first_is (has kept token) (nat_le token_limit (count kept)) first).0

set_twice : {A : Type 0} (xs : List A) (i : ℕ) (x y : A) → slice_set (slice_set xs i x) i y ≡ slice_set xs i y
set_twice [] i x y = refl
set_twice (z ∷ xs) zero x y = refl
set_twice (z ∷ xs) (suc i) x y = ap (λ rest. z ∷ rest) (set_twice xs i x y)

abbrev edited_as : Office → List Stage → Answer → List Dump → Carried
edited_as office stages answer dumps = record { answer = answer; after = with_stages (with_dumps office dumps) stages }

-- the token is kept with what the edit makes of the dump, whatever becomes of the stages
pub behind_set : (office : Office) (index : ℕ) (token : Option Token) (value edited : Dump) (stages : List Stage) (answer : Answer)
    → slice_get office.dumps index ≡ Some value
    → behind index token (record { answer = answer; after = with_stages (with_dumps office (slice_set office.dumps index edited)) stages })
    ≡ record { answer = answer; after = with_stages (with_dumps office (slice_set office.dumps index (keeping_behind token edited))) stages }
behind_set office index None value edited stages answer there = refl
behind_set office index (Some token) value edited stages answer there =
    let at = slice_get-set_same office.dumps index edited (slice_get_within office.dumps index value there) in
    ap (edited_as office stages answer)
    (ap (λ (r : Option Dump). option_map_or (λ dump. slice_set (slice_set office.dumps index edited) index (with_token token dump)) r
    (slice_set office.dumps index edited)) at
    ∙ set_twice office.dumps index edited (with_token token edited))

-- an edit of an open dump that memory has found, by what the dump's tokens say
module _ {D N S : Type 0} {d : DiskGhosts D} {n : NamerGhosts N S} where
  module _ (old : StoreParts D N S d n) (session : SessionName) (token : Option Token) (index : ℕ) (dump : OpenDump)
      (e : Some index ≡ place_of old.sessions.dumps.items session) (there : slice_get old.sessions.dumps.items index ≡ Some dump)
      (office : Office) (names : Names) (at : IsRunning old office names) (left : Office) (rest : Judged Carried) where
    abbrev found : IsFound old session index dump office names at
    found = dump_found old session index dump e there office names at

    pub carried_first : judged_token dump.kept token ≡ Fresh → (made : Judged Carried) → rest ≡ made
        → once session token office.dumps left rest ≡ (made >>= λ made. Ok (behind index token made))
    carried_first first (Ok made) is =
        once_first session index found.value office.dumps left rest found.is_at dump.kept found.is.kept token first made is
    carried_first first (Err rule) is =
        once_broken session index found.value office.dumps left rest found.is_at dump.kept found.is.kept token first rule is

    pub carried_kept : judged_token dump.kept token ≡ Kept
        → once session token office.dumps left rest ≡ Ok (record { answer = Done; after = left })
    carried_kept kept = once_kept session index found.value office.dumps left rest found.is_at dump.kept found.is.kept token kept

    pub carried_full : judged_token dump.kept token ≡ Full → once session token office.dumps left rest ≡ Err TokensFull
    carried_full full = once_full session index found.value office.dumps left rest found.is_at dump.kept found.is.kept token full

-- the names stay, if a put repeats another
pub still_named : (office : Office) (names : Names) (judged : Judged Carried) (content : List ℕ)
    → IsNamedBy office names judged content names.used
still_named office names (Ok made) content = inl refl
still_named office names (Err rule) content = refl

pub still_named_if : (office : Office) (names : Names) (judged : Judged Carried) (held : Option (List ℕ))
    → IsNamedIf office names judged held names.used
still_named_if office names judged None = refl
still_named_if office names judged (Some content) = still_named office names judged content

pub still_renamed : (office : Office) (names : Names) (judged : Judged Carried) (reply : Reply) (held : Option (List ℕ))
    → IsRenamed (name_change held) office names judged reply names
still_renamed office names judged reply None = refl
still_renamed office names judged reply (Some content) = (refl, still_named office names judged content)

-- ---- openings

module _ (given : PoolId → Type 0) (contents : PoolId → List ℕ) (dumps : List Dump) (sessions : List OpenDump)
    (pairs : AtEachPair (λ i. IsDump given contents) dumps sessions) (host : ℕ) (token : Token) where
  -- what an open dump answers, in the model and in memory
  abbrev answer_of : Dump → Option Answer
  answer_of dump = if option_map_or (λ own. is_same_token own token) dump.token false then Some (DumpAnswer dump.name) else None

  abbrev answer_in : OpenDump → Option Answer
  answer_in dump = if is_opened_with token dump then Some (DumpAnswer dump.name) else None

  abbrev in_model : Option ℕ → Option Answer
  in_model place = option_and_then answer_of (option_and_then (slice_get dumps) place)

  abbrev in_memory : Option ℕ → Option Answer
  in_memory place = option_and_then answer_in (option_and_then (slice_get sessions) place)

  pair_same : (value : Dump) (dump : OpenDump) → IsDump given contents value dump → answer_of value ≡ answer_in dump
  pair_same value dump is =
      λ i. if option_map_or (λ own. is_same_token own token) (sym is.token i) false then Some (DumpAnswer (sym is.name i)) else None

  pub by_dump_same : OpenDumpModel.by_dump token host dumps ≡ by_dump sessions host token
  by_dump_same = step (position_from (λ (s : OpenDump). s.host == host) 0 sessions) refl
    where
      there : dump_index_of_host dumps host ≡ position_from (λ (s : OpenDump). s.host == host) 0 sessions
      there = dump_index_of_host-sessions given contents dumps sessions pairs host

      step : (place : Option ℕ) → position_from (λ (s : OpenDump). s.host == host) 0 sessions ≡ place
          → OpenDumpModel.by_dump token host dumps ≡ by_dump sessions host token
      step None e = ap in_model (there ∙ e) ∙ sym (ap in_memory e)
      step (Some i) e =
          let w = position-found (λ (s : OpenDump). s.host == host) sessions i e in
          let v = position-found (λ (d : Dump). d.host == host) dumps i (there ∙ e) in
          ap in_model (there ∙ e) ∙ ap (option_and_then answer_of) v.1 ∙ pair_same v.0 w.0 (pairs.each i v.0 w.0 v.1 w.1)
          ∙ sym (ap (option_and_then answer_in) w.1) ∙ sym (ap in_memory e)

module _ (given : PoolId → Type 0) (contents : PoolId → List ℕ) (name : List ℕ) (kind : Kind) (now : ℕ) (office : Office) (place : ℕ)
    (host : Host) (is_at : host_at office.hosts name ≡ Ok (record { index = place; value = host })) (receipts : List Receipt)
    (same : receipts ≡ host.receipts) (sessions : List OpenDump) (pairs : AtEachPair (λ i. IsDump given contents) office.dumps sessions) where
  repeated_same : (token : Token)
      → OpenDumpModel.repeated token (record { index = place; value = host }) office.dumps ≡ repeated receipts sessions place (Some token)
  repeated_same token =
      λ i. option_or (by_receipt (sym same i) token) (by_dump_same given contents office.dumps sessions pairs place token i)

  carried_same : (token : Token) → OpenDumpModel.carried name kind now (Some token) office
      ≡ again office (repeated receipts sessions place (Some token)) (OpenDumpModel.opened name kind now (Some token) office)
  carried_same token =
      ap (λ (j : Judged (At Host)). j >>= λ (h : At Host).
      again office (OpenDumpModel.repeated token h office.dumps) (OpenDumpModel.opened name kind now (Some token) office)) is_at
      ∙ ap (λ (answer : Option Answer). again office answer (OpenDumpModel.opened name kind now (Some token) office)) (repeated_same token)

  pub opening_first : (token : Option Token) → repeated receipts sessions place token ≡ None
      → OpenDumpModel.carried name kind now token office ≡ OpenDumpModel.opened name kind now token office
  opening_first None first = refl
  opening_first (Some token) first =
      carried_same token
      ∙ ap (λ (answer : Option Answer). again office answer (OpenDumpModel.opened name kind now (Some token) office)) first

  pub opening_again : (token : Option Token) (answer : Answer) → repeated receipts sessions place token ≡ Some answer
      → OpenDumpModel.carried name kind now token office ≡ Ok (record { answer = answer; after = office })
  opening_again None answer is = absurd cc
  opening_again (Some token) answer is =
      carried_same token
      ∙ ap (λ (a : Option Answer). again office a (OpenDumpModel.opened name kind now (Some token) office)) is

-- there is no such host
pub opening_missing : (name : List ℕ) (kind : Kind) (now : ℕ) (token : Option Token) (office : Office)
    → host_at office.hosts name ≡ Err NoHost → OpenDumpModel.carried name kind now token office ≡ Err NoHost
opening_missing name kind now None office e = rw e refl
opening_missing name kind now (Some token) office e = rw e refl

of_receipt : (receipt : Option Receipt) (other : Option Answer) (answer : Answer) → ((other ≡ Some answer) → kind_of answer ≡ DumpKind)
    → option_or (option_map (λ (r : Receipt). Already r.number) receipt) other ≡ Some answer → kind_of answer ≡ DumpKind
of_receipt None other answer kind e = kind e
of_receipt (Some receipt) other answer kind e = let same : Already receipt.number ≡ answer = cc in sym (ap kind_of same)

of_opened : (same : Bool) (name : SessionName) (answer : Answer) → (if same then Some (DumpAnswer name) else None) ≡ Some answer
    → kind_of answer ≡ DumpKind
of_opened true name answer e = let same : DumpAnswer name ≡ answer = cc in sym (ap kind_of same)
of_opened false name answer e = absurd cc

of_dump : (token : Token) (found : Option OpenDump) (answer : Answer)
    → option_and_then (λ dump. if is_opened_with token dump then Some (DumpAnswer dump.name) else None) found ≡ Some answer
    → kind_of answer ≡ DumpKind
of_dump token None answer e = absurd cc
of_dump token (Some dump) answer e = of_opened (is_opened_with token dump) dump.name answer e

pub kind_repeated : (receipts : List Receipt) (sessions : List OpenDump) (place : ℕ) (token : Option Token) (answer : Answer)
    → repeated receipts sessions place token ≡ Some answer → kind_of answer ≡ DumpKind
kind_repeated receipts sessions place None answer e = absurd cc
kind_repeated receipts sessions place (Some token) answer e =
    of_receipt (receipt_with receipts token) (by_dump sessions place token) answer (of_dump token (dump_of_host sessions place) answer) e
