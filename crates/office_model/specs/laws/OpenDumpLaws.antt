-- A further open dump keeps an office sound.
use Rattle.std.specs.Prelude.{◌≡◌, ◌<◌, ℕ, ◌+◌, ◌-◌, true, false, List, [], ◌∷◌, ◌++◌, length, Option, Some, None, Ok, is_some, nat_le, slice_get, if◌then◌else◌, ◌⊎◌}
use Rattle.std.specs.Option.{option_map, option_and_then, option_or}
use Rattle.std.proofs.Common.{refl, sym, ap, ◌∙◌, subst, inl, inr, lit≤}
use Rattle.std.proofs.lemmas.Bool.{true≢false}
use Rattle.attr_records.specs.Items.{Tree, is_dir}
use Rattle.attr_records.specs.TreeLaws as TreeLaws
use Rattle.backup_rules.specs.declared.lines.Kind.{Kind}
use Rattle.backup_rules.specs.declared.lines.Kind.TheVariants.{Full, Incr}
use Rattle.receipts.specs.declared.session.SessionName.{SessionName}
use Rattle.receipts.specs.declared.session.Token.{Token}
use Rattle.office_model.specs.declared.answer.Answer.{Answer}
use Rattle.office_model.specs.declared.answer.Answer.TheVariants.{Dump as Opened, Already}
use Rattle.office_model.specs.declared.answer.AnswerKind.TheVariants as K
use Rattle.office_model.specs.declared.refusal.BrokenRule.TheVariants.{NoBackup}
use Rattle.office_model.specs.Places.{AtEach}
use Rattle.office_model.specs.PlacesLaws.{AtEach-longer}
use Rattle.office_model.specs.Pool.{Pool, is_pooled}
use Rattle.receipts.specs.declared.receipt.Receipt.{Receipt}
use Rattle.office_model.specs.Office.{Office, Host, Backup, Dump, Names, IsUnspent, dump_index_of_host, number_limit, last_sequence, with_dumps, numbered, IsSound, IsTree, IsSoundHost, HasHost, IsPooledTree, in_dumps}
use Rattle.office_model.specs.Meaning.{Carried, Same, found}
use Rattle.receipts.specs.Session.{is_same_token}
use Rattle.office_model.specs.Step.{kind_of}
use Rattle.office_model.specs.UsedNames.{AreSound}
use Rattle.receipts.specs.Receipts.{receipt_with}
use Rattle.office_model.specs.Repeats.{is_opened_with}
use Rattle.office_model.specs.Parts.{At, newest, host_at}
use Rattle.office_model.specs.events.OpenDump.{base_of, new_dump, bearing, next_session, with_dump, opened, by_dump, repeated, meaning}
use Rattle.office_model.specs.laws.Judging.{bound, passed, at_is}
use Rattle.office_model.specs.laws.AddHostLaws.{is_none, below}
use Rattle.office_model.specs.laws.VolatileLaws.{dump_added, over_dump_added, pooled_dump_added, AreKept-nil}
use Rattle.office_model.specs.laws.RepeatLaws.{given_as, again_is, if_some, token_itself, sought-none}
use Rattle.office_model.specs.laws.HeldLaws.{Reason, longer_held, was_pooled, was_in_dumps}
use Rattle.office_model.specs.laws.Lawful.{IsLawful, Does, judged, does, does_nothing, does_dumps}

pub IsTree-nil : IsTree []
IsTree-nil = record { paths = TreeLaws.IsTree-nil is_dir; few = lit≤ tt }

pub IsPooledTree-nil : (pool : Pool) → IsPooledTree pool []
IsPooledTree-nil pool content e = absurd (cc)

-- what a dump begins with has what the empty tree and the backups' trees have
pub base_has : (P : Tree → Type 0) (kind : Kind) (backups : List Backup) (base : Tree) → P []
    → AtEach (λ (backup : Backup). P backup.tree) backups → base_of kind backups ≡ Ok base → P base
base_has P Full backups base nil each e = let same : [] ≡ base = cc in subst P same nil
base_has P Incr backups base nil each e = step (newest backups) refl e
  where
    step : (r : Option Backup) → newest backups ≡ r → found NoBackup (option_map (λ backup. backup.tree) r) ≡ Ok base → P base
    step None at f = absurd (cc)
    step (Some backup) at f = let same : backup.tree ≡ base = cc in subst P same (each (length backups - 1) backup at)

-- what it says that no rule keeps a dump from being opened
pub record MayOpen (name : List ℕ) (kind : Kind) (now : ℕ) (token : Option Token) (session : SessionName) (hosts : List Host)
    (dumps new : List Dump) : Type 0 where
  pub host : At Host
  pub is_found : host_at hosts name ≡ Ok host
  pub is_host : slice_get hosts host.index ≡ Some host.value
  pub base : Tree
  pub is_base : base_of kind host.value.backups ≡ Ok base
  pub none : dump_index_of_host dumps host.index ≡ None
  pub has_number : host.value.next < number_limit
  pub has_session : session.sequence < last_sequence
  pub new_is : dumps ++ bearing token (new_dump session host.index kind now base) ∷ [] ≡ new

pub may_open : (name : List ℕ) (kind : Kind) (now : ℕ) (token : Option Token) (session : SessionName) (hosts : List Host) (dumps new : List Dump)
    → with_dump name kind now token session hosts dumps ≡ Ok new → MayOpen name kind now token session hosts dumps new
may_open name kind now token session hosts dumps new e =
    let a = bound (host_at hosts name) _ new e in
    let b = bound (base_of kind a.0.value.backups) _ new a.2 in
    let c : (is_some (dump_index_of_host dumps a.0.index) ≡ false) × (_ ≡ Ok new) = passed _ _ _ _ b.2 in
    let d : (nat_le number_limit a.0.value.next ≡ false) × (_ ≡ Ok new) = passed _ _ _ _ c.1 in
    let f : (nat_le last_sequence session.sequence ≡ false) × (Ok (dumps ++ bearing token (new_dump session a.0.index kind now b.0) ∷ []) ≡ Ok new) = passed _ _ _ _ d.1 in
    record {
      host = a.0;
      is_found = a.1;
      is_host = (at_is _ hosts _ a.0 a.1).1;
      base = b.0;
      is_base = b.1;
      none = is_none _ c.0;
      has_number = below number_limit a.0.value.next d.0;
      has_session = below last_sequence session.sequence f.0;
      new_is = let g = f.1 in cc;
    }

-- a further dump of a host that has none open, a number left and no receipt of the dump's token, which begins with a tree whose contents
-- are in the pool
pub IsSound-opened : (office : Office) (index : ℕ) (host : Host) (kind : Kind) (start : ℕ) (token : Option Token) (base : Tree) → IsSound office
    → slice_get office.hosts index ≡ Some host → dump_index_of_host office.dumps index ≡ None → host.next < number_limit
    → IsUnspent host.receipts token → IsTree base → IsPooledTree office.pool base
    → IsSound (numbered (with_dumps office (office.dumps ++ bearing token (new_dump (next_session office) index kind start base) ∷ [])))
IsSound-opened office index host kind start token base sound is_host none room unspent tree pooled = record {
  kept = sound.kept;
  now = dump_added office.epoch office.volatile sound.now (bearing token (new_dump (next_session office) index kind start base)) refl none tree tree AreKept-nil;
  tied = record {
    hosted = AtEach-longer (HasHost office.hosts) office.dumps (bearing token (new_dump (next_session office) index kind start base)) sound.hosted
        (record { host = host; is_host = is_host; has_number = room; unspent = unspent });
    over = λ i n r at. over_dump_added office.epoch office.sequence office.dumps office.restores r (sound.over i n r at) (bearing token (new_dump (next_session office) index kind start base)) refl;
    pooled = pooled_dump_added office.pool office.volatile sound.pooled (bearing token (new_dump (next_session office) index kind start base)) (office.sequence + 1) pooled;
  };
}

-- no receipt of the host of this name has the token
abbrev pub IsFresh : List Host → List ℕ → Option Token → Type 0
IsFresh hosts name token = (host : At Host) → host_at hosts name ≡ Ok host → IsUnspent host.value.receipts token

pub IsSound-with_dump : (office : Office) (name : List ℕ) (kind : Kind) (now : ℕ) (token : Option Token) (hosts : List Host) (dumps : List Dump)
    → IsSound office → hosts ≡ office.hosts → IsFresh office.hosts name token
    → with_dump name kind now token (next_session office) hosts office.dumps ≡ Ok dumps
    → IsSound (numbered (with_dumps office dumps))
IsSound-with_dump office name kind now token hosts dumps sound slice fresh e =
    let e : with_dump name kind now token (next_session office) office.hosts office.dumps ≡ Ok dumps = subst (λ hs. with_dump name kind now token (next_session office) hs office.dumps ≡ Ok dumps) slice e in
    let may : MayOpen name kind now token (next_session office) office.hosts office.dumps dumps = may_open name kind now token (next_session office) office.hosts office.dumps dumps e in
    let host : IsSoundHost may.host.value = sound.hosts.each may.host.index may.host.value may.is_host in
    let tree : IsTree may.base = base_has IsTree kind may.host.value.backups may.base IsTree-nil host.backups.numbered.trees may.is_base in
    let pooled : IsPooledTree office.pool may.base = base_has (IsPooledTree office.pool) kind may.host.value.backups may.base (IsPooledTree-nil office.pool)
    (sound.of_backups may.host.index may.host.value may.is_host) may.is_base in
    subst (λ ds. IsSound (numbered (with_dumps office ds))) may.new_is
    (IsSound-opened office may.host.index may.host.value kind now token may.base sound may.is_host may.none may.has_number
    (fresh may.host may.is_found) tree pooled)

held-with_dump : (content : List ℕ) (office : Office) (name : List ℕ) (kind : Kind) (now : ℕ) (token : Option Token) (dumps : List Dump) → IsSound office
    → with_dump name kind now token (next_session office) office.hosts office.dumps ≡ Ok dumps
    → in_dumps dumps content ≡ true → (in_dumps office.dumps content ≡ true) ⊎ (is_pooled office.pool content ≡ true)
held-with_dump content office name kind now token dumps sound e h =
    let may : MayOpen name kind now token (next_session office) office.hosts office.dumps dumps = may_open name kind now token (next_session office) office.hosts office.dumps dumps e in
    let pooled : IsPooledTree office.pool may.base = base_has (IsPooledTree office.pool) kind may.host.value.backups may.base (IsPooledTree-nil office.pool)
    (sound.of_backups may.host.index may.host.value may.is_host) may.is_base in
    longer_held content (is_pooled office.pool content ≡ true) office.dumps (bearing token (new_dump (next_session office) may.host.index kind now may.base))
    (λ g. pooled content g) (ap (λ ds. in_dumps ds content) may.new_is ∙ h)

pub was_opened : (content : List ℕ) (office : Office) → (in_dumps office.dumps content ≡ true) ⊎ (is_pooled office.pool content ≡ true)
    → Reason content office Same
was_opened content office (inl f) = was_in_dumps content office Same f
was_opened content office (inr f) = was_pooled content office Same f

opened_does : (name : List ℕ) (kind : Kind) (now : ℕ) (token : Option Token) (office : Office) (names : Names) (c : Carried) → AreSound office names
    → IsFresh office.hosts name token → opened name kind now token office ≡ Ok c → Does (meaning name kind now token) office names c
opened_does name kind now token office names c sound fresh e =
    let a = bound (with_dump name kind now token (next_session office) office.hosts office.dumps) _ c e in
    does _ office names sound _ c a.2 (does_dumps _ office names sound a.0 (office.sequence + 1) (Opened (next_session office)) refl
    (λ content g. was_opened content office (held-with_dump content office name kind now token a.0 sound.office a.1 g))
    (IsSound-with_dump office name kind now token office.hosts a.0 sound.office refl fresh a.1))

-- ---- repeated

by_dump_kind : (token : Token) (host : ℕ) (dumps : List Dump) (answer : Answer) → by_dump token host dumps ≡ Some answer → kind_of answer ≡ K.Dump
by_dump_kind token host dumps answer e = step (option_and_then (slice_get dumps) (dump_index_of_host dumps host)) e
  where
    step : (r : Option Dump) → option_and_then (λ (d : Dump). if is_opened_with token d then Some (Opened d.name) else None) r ≡ Some answer
        → kind_of answer ≡ K.Dump
    step None f = absurd (cc)
    step (Some dump) f = ap kind_of (sym (if_some (is_opened_with token dump) (Opened dump.name) answer f))

repeated_kind : (token : Token) (host : At Host) (dumps : List Dump) (answer : Answer) → repeated token host dumps ≡ Some answer
    → kind_of answer ≡ K.Dump
repeated_kind token host dumps answer e = step (receipt_with host.value.receipts token) e
  where
    step : (r : Option Receipt) → option_or (option_map (λ (x : Receipt). Already x.number) r) (by_dump token host.index dumps) ≡ Some answer
        → kind_of answer ≡ K.Dump
    step None f = by_dump_kind token host.index dumps answer f
    step (Some receipt) f = let same : Already receipt.number ≡ answer = cc in ap kind_of (sym same)

unspent : (token : Token) (host : At Host) (dumps : List Dump) → repeated token host dumps ≡ None → IsUnspent host.value.receipts (Some token)
unspent token host dumps e i receipt at same = step (receipt_with host.value.receipts token) refl e
  where
    step : (r : Option Receipt) → receipt_with host.value.receipts token ≡ r
        → option_or (option_map (λ (x : Receipt). Already x.number) r) (by_dump token host.index dumps) ≡ None → ⊥
    step None is f =
        true≢false (sym (ap (λ t. is_same_token t token) same ∙ token_itself token)
        ∙ sought-none (λ (x : Receipt). is_same_token x.token token) host.value.receipts is i receipt at)
    step (Some other) is f = cc

pub lawful : (name : List ℕ) (kind : Kind) (now : ℕ) (token : Option Token) → IsLawful (meaning name kind now token)
lawful name kind now None office names c sound e = opened_does name kind now None office names c sound (λ host is. tt) e
lawful name kind now (Some token) office names c sound e =
    let a = bound (host_at office.hosts name) _ c e in
    step a.0 a.1 (again_is office (repeated token a.0 office.dumps) (opened name kind now (Some token) office) c a.2)
  where
    step : (host : At Host) → host_at office.hosts name ≡ Ok host
        → ((answer : Answer) × (repeated token host office.dumps ≡ Some answer) × (judged (given_as answer office) ≡ judged c))
        ⊎ ((repeated token host office.dumps ≡ None) × (opened name kind now (Some token) office ≡ Ok c))
        → Does (meaning name kind now (Some token)) office names c
    step host is (inl f) = does _ office names sound _ c f.2 (does_nothing _ office names sound f.0 (repeated_kind token host office.dumps f.0 f.1))
    step host is (inr f) = opened_does name kind now (Some token) office names c sound
        (λ other found. let same : host ≡ other = cc in subst (λ (x : At Host). IsUnspent x.value.receipts (Some token)) same (unspent token host office.dumps f.0)) f.1
