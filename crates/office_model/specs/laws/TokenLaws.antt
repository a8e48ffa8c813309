-- A retry never doubles a backup: receipts have different tokens, and a request that repeats another changes nothing.
use Rattle.std.specs.Prelude.{◌≡◌, ◌≢◌, ℕ, zero, suc, Bool, true, false, List, [], ◌∷◌, Option, Some, None, Ok, is_some, slice_get, if◌then◌else◌}
use Rattle.std.specs.List.{position_from}
use Rattle.std.specs.Option.{option_and_then, option_map, option_map_or, option_or}
use Rattle.std.proofs.Common.{refl, ap, ◌∙◌, subst, arith}
use Rattle.receipts.specs.declared.session.SessionName.{SessionName}
use Rattle.receipts.specs.declared.session.Token.{Token}
use Rattle.office_model.specs.declared.answer.Answer.{Answer}
use Rattle.office_model.specs.declared.answer.Answer.TheVariants.{Done, Already, Committed, Dump as Opened}
use Rattle.receipts.specs.Session.{is_same_session, is_same_token}
use Rattle.office_model.specs.Places.{Differ}
use Rattle.office_model.specs.PlacesLaws.{position-found, position-some}
use Rattle.receipts.specs.declared.receipt.Receipt.{Receipt}
use Rattle.office_model.specs.Office.{Office, Host, Dump, Durable, dump_index, dump_index_of_host, IsSoundDurable, IsUnspent, HasHost, StandsAt}
use Rattle.office_model.specs.Meaning.{Carried, Judged, ◌>>=◌}
use Rattle.office_model.specs.Parts.{At, dump_at}
use Rattle.receipts.specs.Receipts.{receipt_with}
use Rattle.office_model.specs.Repeats.{again, receipt_named, is_opened_with, keeps, keeping, once}
use Rattle.office_model.specs.Step.{State, Running, Halted, IsSoundState}
use Rattle.office_model.specs.History.{last_state}
use Rattle.office_model.specs.Tokens.{TokensDiffer, DifferIn, ReceiptsDiffer, OpeningByReceipt, OpeningByDump, CommitByReceipt, PutByToken, RemoveByToken}
use Rattle.office_model.specs.events.OpenDump.{opened, repeated, by_dump}
use Rattle.office_model.specs.events.Put as Put
use Rattle.office_model.specs.events.Remove as Remove
use Rattle.office_model.specs.events.Commit as Commit
use Rattle.office_model.specs.laws.Judging.{at_is}
use Rattle.office_model.specs.laws.Lookups.{position-only, same_session, session_itself, dump_index-found, dump_index_of_host-at}
use Rattle.office_model.specs.laws.PoolLaws.{any_at}
use Rattle.office_model.specs.laws.HistoryLaws.{IsSoundState-last}
use Rattle.office_model.specs.laws.RepeatLaws.{given_as, same_token, token_itself}

-- ---- receipts

tokens_differ : (kept : Durable) → IsSoundDurable kept → TokensDiffer kept.hosts
tokens_differ kept sound i host at = (sound.hosts.each i host at).receipts.tokens_differ

differ_in : (state : State) → IsSoundState state → DifferIn state
differ_in (Running office names) sound = tokens_differ office.durable sound.office.kept
differ_in (Halted before next names) sound = (tokens_differ before sound.0.sound, tokens_differ next sound.1.sound)

pub receipts_differ : ReceiptsDiffer
receipts_differ state faults entries sound legal = differ_in (last_state state entries) (IsSoundState-last state faults entries sound legal)

-- ---- what is sought, where none passes, and where one alone does

module _ {A : Type 0} (test : A → Bool) (xs : List A) where
  missing : ((i : ℕ) (x : A) → slice_get xs i ≡ Some x → test x ≡ true → ⊥) → option_and_then (slice_get xs) (position_from test 0 xs) ≡ None
  missing none = step (position_from test 0 xs) refl
    where
      step : (r : Option ℕ) → position_from test 0 xs ≡ r → option_and_then (slice_get xs) r ≡ None
      step None is = refl
      step (Some i) is = let w = position-found test xs i is in absurd (none i w.0 w.1 w.2)

  only : (n : ℕ) (x : A) → slice_get xs n ≡ Some x → test x ≡ true → ((i : ℕ) (y : A) → slice_get xs i ≡ Some y → test y ≡ true → i ≡ n)
      → option_and_then (slice_get xs) (position_from test 0 xs) ≡ Some x
  only n x at passes alone =
      let w = position-some test xs n x at passes in
      let v = position-found test xs w.0 w.1 in
      ap (option_and_then (slice_get xs)) w.1 ∙ ap (slice_get xs) (alone w.0 v.0 v.1 v.2) ∙ at

-- ---- openings

answered : (office : Office) (answer : Answer) (rest : Judged Carried) (given : Option Answer) → given ≡ Some answer
    → again office given rest ≡ Ok (given_as answer office)
answered office answer rest given is = ap (λ (a : Option Answer). again office a rest) is

pub opening_by_receipt : OpeningByReceipt
opening_by_receipt office names name kind now host n receipt sound found at =
    let is_host : slice_get office.hosts host.index ≡ Some host.value = (at_is _ office.hosts _ host found).1 in
    let differ : Differ (λ (r : Receipt). r.token) host.value.receipts = (sound.office.hosts.each host.index host.value is_host).receipts.tokens_differ in
    let its : receipt_with host.value.receipts receipt.token ≡ Some receipt =
    ap (option_and_then (slice_get host.value.receipts))
    (position-only (λ (r : Receipt). r.token) is_same_token same_token token_itself receipt.token host.value.receipts n receipt differ at refl) ∙ at in
    ap (λ (r : Judged (At Host)). r >>= λ (h : At Host). again office (repeated receipt.token h office.dumps) (opened name kind now (Some receipt.token) office)) found
    ∙ answered office (Already receipt.number) (opened name kind now (Some receipt.token) office) (repeated receipt.token host office.dumps)
    (ap (λ (r : Option Receipt). option_or (option_map (λ (x : Receipt). Already x.number) r) (by_dump receipt.token host.index office.dumps)) its)

dump_answers : (office : Office) (host : ℕ) (i : ℕ) (dump : Dump) (token : Token) → Differ (λ (d : Dump). d.host) office.dumps
    → slice_get office.dumps i ≡ Some dump → dump.host ≡ host → dump.token ≡ Some token → by_dump token host office.dumps ≡ Some (Opened dump.name)
dump_answers office host i dump token differ at same its =
    let there : option_and_then (slice_get office.dumps) (dump_index_of_host office.dumps host) ≡ Some dump =
    ap (option_and_then (slice_get office.dumps)) (dump_index_of_host-at office.dumps host i dump differ at same) ∙ at in
    let opened_so : is_opened_with token dump ≡ true = ap (λ (o : Option Token). option_map_or (λ (own : Token). is_same_token own token) o false) its ∙ token_itself token in
    ap (option_and_then (λ (d : Dump). if is_opened_with token d then Some (Opened d.name) else None)) there
    ∙ ap (λ (b : Bool). if b then Some (Opened dump.name) else None) opened_so

pub opening_by_dump : OpeningByDump
opening_by_dump office names name kind now host i dump token sound found at same its =
    let is_host : slice_get office.hosts host.index ≡ Some host.value = (at_is _ office.hosts _ host found).1 in
    let has : HasHost office.hosts dump = sound.office.hosted i dump at in
    let there : slice_get office.hosts dump.host ≡ Some host.value = ap (slice_get office.hosts) same ∙ is_host in
    let one : has.host ≡ host.value = let f = has.is_host in cc in
    let unspent : IsUnspent host.value.receipts (Some token) =
    subst (λ (h : Host). IsUnspent h.receipts (Some token)) one (subst (IsUnspent has.host.receipts) its has.unspent) in
    let none : receipt_with host.value.receipts token ≡ None = missing (λ (r : Receipt). is_same_token r.token token) host.value.receipts
    (λ j r there passes. unspent j r there (same_token r.token token passes)) in
    ap (λ (r : Judged (At Host)). r >>= λ (h : At Host). again office (repeated token h office.dumps) (opened name kind now (Some token) office)) found
    ∙ answered office (Opened dump.name) (opened name kind now (Some token) office) (repeated token host office.dumps)
    (ap (λ (r : Option Receipt). option_or (option_map (λ (x : Receipt). Already x.number) r) (by_dump token host.index office.dumps)) none
    ∙ dump_answers office host.index i dump token sound.office.dumps.one_a_host at same its)

-- ---- commits

before : (m n : ℕ) → suc m ≡ suc n → m ≡ n
before m n e = omega arith

-- a receipt that alone has its name is found by it
named_alone : (hosts : List Host) (i n : ℕ) (receipt : Receipt)
    → ((j m : ℕ) (other : Receipt) → StandsAt hosts j m other → other.name ≡ receipt.name → (j ≡ i) × (m ≡ n))
    → StandsAt hosts i n receipt → receipt_named hosts receipt.name ≡ Some receipt
named_alone [] i n receipt alone at = let f = at.1 in absurd (cc)
named_alone (host ∷ hosts) zero n receipt alone at =
    let same : host ≡ at.0 = let f = at.1 in cc in
    let there : slice_get host.receipts n ≡ Some receipt = ap (λ (h : Host). slice_get h.receipts n) same ∙ at.2 in
    ap (λ (r : Option Receipt). option_or r (receipt_named hosts receipt.name))
    (only (λ (r : Receipt). is_same_session r.name receipt.name) host.receipts n receipt there (session_itself receipt.name)
    (λ m other at_m passes. (alone 0 m other (host, refl, at_m) (same_session other.name receipt.name passes)).1))
named_alone (host ∷ hosts) (suc i) n receipt alone at =
    ap (λ (r : Option Receipt). option_or r (receipt_named hosts receipt.name))
    (missing (λ (r : Receipt). is_same_session r.name receipt.name) host.receipts
    (λ m other at_m passes. let e = (alone 0 m other (host, refl, at_m) (same_session other.name receipt.name passes)).0 in omega (arith, e)))
    ∙ named_alone hosts i n receipt
    (λ j m other at_j same. let e = alone (suc j) m other at_j same in (before j i e.0, e.1)) at

not_open : (dumps : List Dump) (name : SessionName) → ((i : ℕ) (dump : Dump) → slice_get dumps i ≡ Some dump → dump.name ≢ name)
    → is_some (dump_index dumps name) ≡ false
not_open dumps name none = step (dump_index dumps name) refl
  where
    step : (r : Option ℕ) → dump_index dumps name ≡ r → is_some r ≡ false
    step None is = refl
    step (Some i) is = let w = dump_index-found dumps name i is in absurd (none i w.0 w.1 w.2)

pub commit_by_receipt : CommitByReceipt
commit_by_receipt office names now i n receipt sound at =
    let closed : is_some (dump_index office.dumps receipt.name) ≡ false = not_open office.dumps receipt.name (sound.office.over i n receipt at).no_dump in
    let its : receipt_named office.hosts receipt.name ≡ Some receipt = named_alone office.hosts i n receipt
    (λ j m other at_j same. sound.office.ended.differ j i m n other receipt at_j at same) at in
    answered office (Committed receipt.number) (Commit.ended receipt.name (Commit.at_time now) office) (Commit.repeated receipt.name office.hosts office.dumps)
    (ap (λ (b : Bool). if b then None else option_map (λ (x : Receipt). Committed x.number) (receipt_named office.hosts receipt.name)) closed
    ∙ ap (option_map (λ (x : Receipt). Committed x.number)) its)

-- ---- puts and removals

pub once_repeats : (session : SessionName) (token : Token) (dumps : List Dump) (left : Office) (rest : Judged Carried) (dump : At Dump) (place : ℕ)
    → dump_at dumps session ≡ Ok dump → slice_get dump.value.kept place ≡ Some token
    → once session (Some token) dumps left rest ≡ Ok (given_as Done left)
once_repeats session token dumps left rest dump place found at =
    let kept : keeps token dump.value ≡ true = any_at (λ (k : Token). is_same_token k token) dump.value.kept place token at (token_itself token) in
    ap (λ (r : Judged (At Dump)). r >>= λ (d : At Dump). again left (if keeps token d.value then Some Done else None) (keeping d token rest)) found
    ∙ ap (λ (b : Bool). again left (if b then Some Done else None) (keeping dump token rest)) kept

pub put_by_token : PutByToken
put_by_token office names session path item token has =
    once_repeats session token office.dumps (Put.repeated session item office) (Put.put session path item office names) has.dump has.place has.is_dump has.is_kept

pub remove_by_token : RemoveByToken
remove_by_token office names session path token has =
    once_repeats session token office.dumps office (Remove.removed session path office) has.dump has.place has.is_dump has.is_kept
