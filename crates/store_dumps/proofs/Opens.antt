-- What an opening of a dump leaves.
--     judged_dump      the model opens a dump behind the rules that are those of any
--     runs_begun, runs_base_memory, runs_base_fault      an event opened a dump; its base was read before, or wasn't
--     no_host, refused_by      the rule that memory finds is that of the model
--     runs_repeated      an earlier opening was repeated
--     runs_base_opened      a dump of this kind was opened after its base was read
use Rattle.std.specs.Prelude.{◌≡◌, ◌<◌, ◌+◌, ◌==◌, ℕ, Bool, true, false, List, [], ◌∷◌, ◌++◌, nat_le, is_some, Option, Some, None, Result, Ok, Err, slice_get, if◌then◌else◌}
use Rattle.std.specs.List.{position_from}
use Rattle.std.specs.Result.{IsErrAnd}
use Rattle.std.proofs.Common.{refl, sym, ap, ◌∙◌, subst, arith}
use Rattle.fault_counts.specs.Counts.{Counted}
use Rattle.disk_trait.specs.declared.ids.PoolId.{PoolId}
use Rattle.disk_trait.specs.declared.disk.Disk.{Ghosts as DiskGhosts}
use Rattle.pool_name.specs.declared.namer.Namer.{Ghosts as NamerGhosts}
use Rattle.attr_records.specs.Items.{Tree}
use Rattle.backup_rules.specs.declared.lines.Kind.{Kind}
use Rattle.backup_rules.specs.declared.lines.Kind.TheVariants.{Full, Incr}
use Rattle.backup_index.specs.Index.{Index}
use Rattle.merge_view.specs.Views.{Rows}
use Rattle.stored_trees.specs.Resolved.{resolved}
use Rattle.stored_trees.specs.ResolvedLaws.{AreTold-kept}
use Rattle.stored_trees.specs.Occurrences.{occurrences}
use Rattle.office_catalog.specs.Known.{Known, host_named, names_of}
use Rattle.open_sessions.specs.declared.sessions.OpenDump.{OpenDump}
use Rattle.open_sessions.specs.declared.sessions.Sessions.{Sessions}
use Rattle.open_sessions.specs.Opened.{AreRowsOf, IsDump, Staging, AreSessions, claims_in}
use Rattle.open_sessions.specs.CallLaws.{AreSessions-dump_opened, claims_in-dump_opened}
use Rattle.open_sessions.specs.SessionLaws.{dump_index_of_host-sessions}
use Rattle.office_model.specs.declared.answer.Answer.{Answer}
use Rattle.office_model.specs.declared.answer.Answer.TheVariants.{Dump as DumpAnswer}
use Rattle.office_model.specs.declared.event.Event.{Event}
use Rattle.office_model.specs.declared.event.Event.TheVariants.{OpenDump as OpenDumpEvent}
use Rattle.office_model.specs.declared.refusal.BrokenRule.{BrokenRule}
use Rattle.office_model.specs.declared.refusal.BrokenRule.TheVariants.{NoHost, NoBackup, SessionOpen, NumbersSpent}
use Rattle.office_model.specs.declared.refusal.Refusal.{Refusal}
use Rattle.office_model.specs.declared.refusal.Refusal.TheVariants.{Broken, Halted, DiskFault, Damaged, Memory}
use Rattle.receipts.specs.declared.session.SessionName.{SessionName}
use Rattle.receipts.specs.declared.session.Token.{Token}
use Rattle.receipts.specs.TokenSets.{IsSetOf}
use Rattle.receipts.specs.TokenLaws.{IsSetOf-none}
use Rattle.office_model.specs.Meaning.{Carried, Judged, Reply, Reads as ReadsFiles, ◌>>=◌, ◌>>◌, breaks}
use Rattle.office_model.specs.Office.{Office, Host, Dump, Names, dump_index_of_host, number_limit, last_sequence, numbered_as, with_dumps}
use Rattle.office_model.specs.Parts.{host_at, lines_of}
use Rattle.office_model.specs.Step.{IsAnswerTo, meaning_of}
use Rattle.office_model.specs.UsedNames.{AreNamesAfter}
use Rattle.office_model.specs.laws.StateLaws.{AreSound-carried}
use Rattle.office_model.specs.events.OpenDump as OpenDumpModel
use Rattle.office_files.specs.Pooled.{contents_of}
use Rattle.store_parts.specs.KnownOffice.{IsNamed, named_host}
use Rattle.store_parts.specs.declared.parts.StoreParts.{StoreParts}
use Rattle.store_parts.specs.Held.{given}
use Rattle.store_parts.specs.Refusals.{IsReadFault}
use Rattle.store_parts.specs.States.{slots, IsRunning, staging_of}
use Rattle.store_parts.specs.Runs.{IsCarried, Runs, Reads}
use Rattle.store_parts.specs.StepLaws.{carried_plain}
use Rattle.store_parts.specs.RunLaws.{runs_reads, runs_memory, runs_read_fault, counted_fine}
use Rattle.store_dumps.specs.Base.{has_base, BeginsWith, IsFaultOf}
use Rattle.store_dumps.specs.Claims.{Gains}
use Rattle.store_dumps.specs.Opening.{further_rule, opening_rule, session_of, IsFresh, IsOpened, claims_at_first, HasOpened, HasKept, OpensDump}
use Rattle.store_dumps.proofs.Bases.{rows_given, base_there, no_base, lines_are}
use Rattle.store_dumps.proofs.Gaining.{running_gains}
use Rattle.store_dumps.proofs.Hosts.{index_named}
use Rattle.store_dumps.specs.Tokens.{repeated}
use Rattle.store_dumps.specs.TokenLaws.{opening_first, opening_again, opening_missing, kind_repeated}
use Rattle.store_dumps.specs.RunningLaws.{Makes, runs_kept, runs_read_then, runs_kept_memory}

-- ---- the model's rules

judged_from : {B : Type 0} (is_open : Bool) (next sequence : ℕ) (rest : Judged B)
    → (breaks SessionOpen is_open >>
    (breaks NumbersSpent (nat_le number_limit next) >> (breaks NumbersSpent (nat_le last_sequence sequence) >> rest)))
    ≡ (further_rule is_open next sequence >> rest)
judged_from true next sequence rest = refl
judged_from false next sequence rest = second (nat_le number_limit next)
  where
    second : (b : Bool) → (breaks NumbersSpent b >> (breaks NumbersSpent (nat_le last_sequence sequence) >> rest))
        ≡ ((if b then Some NumbersSpent else (if nat_le last_sequence sequence then Some NumbersSpent else None)) >> rest)
    second true = refl
    second false = third (nat_le last_sequence sequence)
      where
        third : (c : Bool) → (breaks NumbersSpent c >> rest) ≡ ((if c then Some NumbersSpent else None) >> rest)
        third true = refl
        third false = refl

-- what a further dump makes of an office
abbrev pub fresh : Office → ℕ → Kind → ℕ → Option Token → Tree → Dump
fresh office host kind start token base =
    OpenDumpModel.bearing token (OpenDumpModel.new_dump (OpenDumpModel.next_session office) host kind start base)

abbrev pub with_fresh : Office → ℕ → Kind → ℕ → Option Token → Tree → Office
with_fresh office host kind start token base =
    numbered_as (with_dumps office (office.dumps ++ fresh office host kind start token base ∷ [])) (office.sequence + 1)

abbrev pub opened : Office → ℕ → Kind → ℕ → Option Token → Tree → Carried
opened office host kind start token base = record {
  answer = DumpAnswer
      (OpenDumpModel.next_session office);
  after = with_fresh office host kind start token base;
}

abbrev pub made : Office → List Dump → Judged Carried
made office dumps = Ok (record {
  answer = DumpAnswer
      (OpenDumpModel.next_session office);
  after = numbered_as (with_dumps office dumps) (office.sequence + 1);
})

pub judged_dump : (office : Office) (place : ℕ) (kind : Kind) (start : ℕ) (token : Option Token) (next : ℕ) (base : Tree)
    → ((breaks SessionOpen (is_some (dump_index_of_host office.dumps place)) >>
    (breaks NumbersSpent (nat_le number_limit next) >> (breaks NumbersSpent (nat_le last_sequence office.sequence) >>
    Ok (office.dumps ++ fresh office place kind start token base ∷ [])))) >>= made office)
    ≡ (further_rule (is_some (dump_index_of_host office.dumps place)) next office.sequence >> Ok (opened office place kind start token base))
judged_dump office place kind start token next base =
    ap (λ (j : Judged (List Dump)). j >>= made office)
    (judged_from (is_some (dump_index_of_host office.dumps place)) next office.sequence (Ok dumps))
    ∙ moved (further_rule (is_some (dump_index_of_host office.dumps place)) next office.sequence)
  where
    dumps : List Dump
    dumps = office.dumps ++ fresh office place kind start token base ∷ []

    moved : (rule : Option BrokenRule) → ((rule >> Ok dumps) >>= made office) ≡ (rule >> made office dumps)
    moved None = refl
    moved (Some rule) = refl

-- that repeats none
pub judged_at : (name : List ℕ) (kind : Kind) (now : ℕ) (token : Option Token) (office : Office) (place : ℕ) (host : Host) (base : Tree)
    → host_at office.hosts name ≡ Ok (record { index = place; value = host }) → OpenDumpModel.base_of kind host.backups ≡ Ok base
    → OpenDumpModel.opened name kind now token office
    ≡ (further_rule (is_some (dump_index_of_host office.dumps place)) host.next office.sequence
    >> Ok (opened office place kind now token base))
judged_at name kind now token office place host base at is = rw (at, is) (judged_dump office place kind now token host.next base)

-- ---- the sessions with one dump more

module _ (given : PoolId → Type 0) (contents : PoolId → List ℕ) (office : Office) (place : ℕ) (kind : Kind) (now : ℕ)
    (token : Option Token) (rows : Rows) (of : AreRowsOf given contents rows) where
  fresh_is : (name : SessionName) (dump : OpenDump) → name ≡ OpenDumpModel.next_session office → IsFresh name place kind now token rows dump
      → IsDump given contents (fresh office place kind now token (resolved contents rows)) dump
  fresh_is name dump next is = record {
    name = is.name_is ∙ next;
    host = is.host_is;
    kind = is.kind_is;
    start = is.start_is;
    base = ap (resolved contents) (sym is.base_is);
    base_rows = subst (AreRowsOf given contents) (sym is.base_is) of;
    tree = ap (resolved contents) (sym is.tree_is);
    tree_rows = subst (AreRowsOf given contents) (sym is.tree_is) of;
    token = is.token_is;
    kept = subst (IsSetOf []) (sym is.kept_is) IsSetOf-none;
  }

  pub sessions_opened : {S : Type 0} (holds : S → List ℕ → Type 0) (staging : Staging) (old new : Sessions S) (epoch : ℕ)
      (name : SessionName) → epoch ≡ office.epoch → AreSessions holds given contents staging office.volatile old
      → IsOpened old epoch place kind now token rows name new
      → AreSessions holds given contents staging (with_fresh office place kind now token (resolved contents rows)).volatile new
  sessions_opened holds staging old new epoch name same are opened =
      AreSessions-dump_opened old new opened.beside holds given contents staging office.volatile are
      (fresh office place kind now token (resolved contents rows)) opened.dump
      (fresh_is (session_of epoch old.sequence) opened.dump (λ i. session_of (same i) (are.sequence i)) opened.fresh) opened.dumps
      opened.sequence

pub claims_opened : {S : Type 0} (old new : Sessions S) (epoch place : ℕ) (kind : Kind) (now : ℕ) (token : Option Token) (rows : Rows)
    (name : SessionName)
    → IsOpened old epoch place kind now token rows name new → (id : PoolId)
    → claims_in new id ≡ claims_in old id + claims_at_first rows id
claims_opened old new epoch place kind now token rows name opened id =
    omega (
      arith,
      claims_in-dump_opened old new opened.beside id opened.dump opened.dumps,
      ap (occurrences id) opened.fresh.base_is,
      ap (occurrences id) opened.fresh.tree_is,
    )

-- there is no such host
pub no_host : (name : List ℕ) (kind : Kind) (now : ℕ) (token : Option Token) (office : Office) (names : Names)
    → host_at office.hosts name ≡ Err NoHost → OpenDumpModel.carried name kind now token office ≡ Err NoHost
no_host name kind now token office names e = opening_missing name kind now token office e

none_some : {A : Type 0} (x : A) → None ≡ Some x → ⊥
none_some x e = absurd cc

one_of_two : (n : ℕ) → 0 < n + n → 0 < n
one_of_two n h = omega (arith, h)

-- a call failed by a fault of the disk
abbrev pub Failed : {T : Type 0} → Result T Refusal → Type 0
Failed {T} result = result ≡ Err DiskFault

pub not_failed : {T : Type 0} (x : T) → Failed (Ok x) → ⊥
not_failed x e = cc

module _ {D N S : Type 0} {d : DiskGhosts D} {n : NamerGhosts N S} where
  -- ---- any event that opens a dump

  -- the rule that memory finds is that of the model
  pub rule_same : (old : StoreParts D N S d n) (place : ℕ) (index : Index) → slice_get old.catalog.hosts place ≡ Some index
      → (office : Office) (names : Names) → IsRunning old office names → (host : Host) → slice_get office.hosts place ≡ Some host
      → further_rule (is_some (dump_index_of_host office.dumps place)) host.next office.sequence
      ≡ further_rule (is_some (position_from (λ dump. dump.host == place) 0 old.sessions.dumps.items)) index.next old.sessions.sequence
  rule_same old place index there office names at host is =
      λ i. further_rule (is_some (open_same i)) (next_same i) (sequence_same i)
    where
      open_same : dump_index_of_host office.dumps place ≡ position_from (λ dump. dump.host == place) 0 old.sessions.dumps.items
      open_same = dump_index_of_host-sessions (given (slots old))
          (contents_of at.all) office.dumps old.sessions.dumps.items at.sessions.dumps place

      next_same : host.next ≡ index.next
      next_same = sym (ap (λ (i : Index). i.next) (index_named office.durable old.catalog at.catalog_is place host index is there))

      sequence_same : office.sequence ≡ old.sessions.sequence
      sequence_same = sym at.sessions.sequence

  module _ (old : StoreParts D N S d n) (event : Event) (place : ℕ) (kind : Kind) (start : ℕ) (token : Option Token) (rows : Rows) where
    -- an office lets the event open a dump that begins with the tree of these rows
    pub record MayOpen (office : Office) (names : Names) (at : IsRunning old office names) : Type 0 where
      pub judged : (meaning_of event).carried office names ≡ Ok (opened office place kind start token (resolved (contents_of at.all) rows))
      pub rows_of : AreRowsOf (given (slots old)) (contents_of at.all) rows

    pub runs_begun : (new : StoreParts D N S d n) (session : SessionName)
        → (meaning_of event).pools ≡ false
        → ((office : Office) (names : Names) (at : IsRunning old office names) → MayOpen office names at)
        → ((office : Office) (names : Names) (answer : Answer) → AreNamesAfter office names (meaning_of event) (Ok answer) names)
        → IsAnswerTo event (DumpAnswer session) → HasOpened old place kind start token rows session new
        → Runs old event (Ok (DumpAnswer session)) new
    runs_begun new session plain may stay in_kind has =
        runs_kept old new event (DumpAnswer session) has.journal has.halted makes (λ office names. stay office names (DumpAnswer session)) in_kind
      where
        makes : (office : Office) (names : Names) → IsRunning old office names → Makes event (DumpAnswer session) office names new
        makes office names at = record { next = next; made = made; running = running }
          where
            next : Office
            next = with_fresh office place kind start token (resolved (contents_of at.all) rows)

            epoch : old.catalog.epoch ≡ office.epoch
            epoch = ap (λ (k : Known). k.epoch) at.catalog_is

            answer : session ≡ OpenDumpModel.next_session office
            answer = has.sessions.name_is ∙ (λ i. session_of (epoch i) (at.sessions.sequence i))

            judged : (meaning_of event).carried office names ≡ Ok (record { answer = DumpAnswer session; after = next })
            judged =
                (may office names at).judged
                ∙ ap (λ (s : SessionName). Ok (record { answer = DumpAnswer s; after = next })) (sym answer)

            made : IsCarried event office names (record { answer = DumpAnswer session; after = next })
            made = carried_plain event office names (record { answer = DumpAnswer session; after = next }) plain judged

            rows_were : AreRowsOf (given (slots old)) (contents_of at.all) rows
            rows_were = (may office names at).rows_of

            gains : Gains (claims_at_first rows) (slots old) (slots new)
            gains = has.claims (λ id some. rows_given (given (slots old)) (contents_of at.all) id rows rows_were.told
                (one_of_two (occurrences id rows) some))

            rows_are : AreRowsOf (given (slots new)) (contents_of at.all) rows
            rows_are = record {
              whole = rows_were.whole;
              told = AreTold-kept (given (slots old)) (given (slots new)) (contents_of at.all) (contents_of at.all)
                  (λ id g. ((gains id).given ∙ g, refl)) rows rows_were.told;
            }

            running : IsRunning new next names
            running = running_gains old new office next names (claims_at_first rows) at gains has.journal has.catalog has.counts has.partials
                has.views has.halted has.form
                (λ id. claims_opened old.sessions new.sessions old.catalog.epoch place kind start token rows session has.sessions id)
                (λ are. sessions_opened (given (slots new)) (contents_of at.all) office place kind start token rows rows_are n.holds
                (staging_of at.all names) old.sessions new.sessions old.catalog.epoch session epoch are has.sessions)
                refl refl
                (AreSound-carried office names event (DumpAnswer session) next names at.sound made
                (stay office names (DumpAnswer session)))

  -- its base was read, and memory was wanting
  pub runs_base_memory : (old mid : StoreParts D N S d n) (event : Event) → Reads old mid → {failed : Type 0}
      → Counted (d.fault_count old.journal.disk) (d.fault_count mid.journal.disk) failed
      → (failed → ⊥) → (new : StoreParts D N S d n) → HasKept mid new → Runs old event (Err Memory) new
  runs_base_memory old mid event reads counted fine new kept =
      runs_read_then old mid new event (Err Memory) reads counted fine (runs_kept_memory mid new event kept)

  -- it wasn't read
  pub runs_base_fault : (old mid : StoreParts D N S d n) (event : Event) (refusal : Refusal) {T : Type 0} → Reads old mid
      → ((office : Office) (names : Names) → (meaning_of event).touches office names ≡ ReadsFiles)
      → Counted (d.fault_count old.journal.disk) (d.fault_count mid.journal.disk) (Failed {T = T} (Err refusal))
      → IsReadFault old refusal → Runs old event (Err refusal) mid
  runs_base_fault old mid event (Damaged file found) reads touches counted fault =
      runs_reads old mid event (Err (Damaged file found)) reads
      (λ office names at. absurd (fault office names at)) (λ office names at. absurd (fault office names at)) tt
      (λ e. absurd cc) (counted_fine counted (λ e. cc) (λ e. cc))
  runs_base_fault old mid event DiskFault reads touches counted fault = runs_read_fault old mid event reads touches counted refl
  runs_base_fault old mid event Memory reads touches counted fault =
      runs_memory old mid event reads (counted_fine counted (λ e. cc) (λ e. e))
  runs_base_fault old mid event Halted reads touches counted fault = absurd fault
  runs_base_fault old mid event (Broken rule) reads touches counted fault = absurd fault

  -- ---- refusals

  module _ (old : StoreParts D N S d n) (name : List ℕ) (kind : Kind) (now : ℕ) (token : Option Token) where
    -- what memory knows of the host of the name
    module _ (place : ℕ) (index : Index) (found : Some place ≡ host_named (names_of old.catalog.hosts) name)
        (there : slice_get old.catalog.hosts place ≡ Some index) where
      module _ (office : Office) (names : Names) (at : IsRunning old office names) where
        abbrev named : IsNamed office.hosts name place
        named = named_host office.durable old.catalog name place at.catalog_is found

        receipts_same : index.receipts ≡ named.host.receipts
        receipts_same =
            ap (λ (i : Index). i.receipts) (index_named office.durable old.catalog at.catalog_is place named.host index named.is_host there)

        carried_first : repeated index.receipts old.sessions.dumps.items place token ≡ None
            → OpenDumpModel.carried name kind now token office ≡ OpenDumpModel.opened name kind now token office
        carried_first first = opening_first (given (slots old)) (contents_of at.all) name kind now office place named.host named.judged
            index.receipts receipts_same old.sessions.dumps.items at.sessions.dumps token first

        carried_again : (answer : Answer) → repeated index.receipts old.sessions.dumps.items place token ≡ Some answer
            → OpenDumpModel.carried name kind now token office ≡ Ok (record { answer = answer; after = office })
        carried_again answer is = opening_again (given (slots old)) (contents_of at.all) name kind now office place named.host named.judged
            index.receipts receipts_same old.sessions.dumps.items at.sessions.dumps token answer is

      -- an earlier one is repeated, and nothing was done
      pub runs_repeated : (answer : Answer) → repeated index.receipts old.sessions.dumps.items place token ≡ Some answer
          → Runs old (OpenDumpEvent name kind now token) (Ok answer) old
      runs_repeated answer is = runs_kept old old (OpenDumpEvent name kind now token) answer refl refl
          (λ office names at. record { next = office; made = carried_again office names at answer is; running = at })
          (λ office names. refl) (kind_repeated index.receipts old.sessions.dumps.items place token answer is)

    -- an opening that repeats none
    module _ (place : ℕ) (index : Index) (found : Some place ≡ host_named (names_of old.catalog.hosts) name)
        (there : slice_get old.catalog.hosts place ≡ Some index) (first : repeated index.receipts old.sessions.dumps.items place token ≡ None)
      where
        abbrev rule_for : Bool → Option BrokenRule
        rule_for has =
            opening_rule has (is_some (position_from (λ dump. dump.host == place) 0 old.sessions.dumps.items))
            index.next old.sessions.sequence

        -- the rule that memory finds
        abbrev RuleIs : Option BrokenRule → Type 0
        RuleIs rule = rule ≡ rule_for (has_base kind index.lines)

        -- is that of the model
        module _ (office : Office) (names : Names) (at : IsRunning old office names) where
          abbrev host_is : IsNamed office.hosts name place
          host_is = named place index found there office names at

          has_same : has_base kind index.lines ≡ has_base kind (lines_of host_is.host.backups)
          has_same = ap (has_base kind) (lines_are old place index there office names at host_is.host host_is.is_host)

          judged_has : (base : Tree) → OpenDumpModel.base_of kind host_is.host.backups ≡ Ok base
              → OpenDumpModel.carried name kind now token office ≡ (rule_for true >> Ok (opened office place kind now token base))
          judged_has base base_is =
              carried_first place index found there office names at first
              ∙ judged_at name kind now token office place host_is.host base host_is.judged base_is
              ∙ ap (λ (r : Option BrokenRule). r >> Ok (opened office place kind now token base))
              (rule_same old place index there office names at host_is.host host_is.is_host)

          judged_lacks : has_base kind index.lines ≡ false → OpenDumpModel.carried name kind now token office ≡ Err NoBackup
          judged_lacks lacks =
              carried_first place index found there office names at first
              ∙ rw (host_is.judged, no_base kind host_is.host.backups (sym has_same ∙ lacks)) refl

        pub refused_by : (rule : BrokenRule) → RuleIs (Some rule) → (office : Office) (names : Names) → IsRunning old office names
            → OpenDumpModel.carried name kind now token office ≡ Err rule
        refused_by rule is office names at = step (has_base kind index.lines) refl
          where
            step : (has : Bool) → has_base kind index.lines ≡ has → OpenDumpModel.carried name kind now token office ≡ Err rule
            step true e =
                let base = base_there kind (host_is office names at).host.backups (sym (has_same office names at) ∙ e) in
                judged_has office names at base.0 base.1
                ∙ ap (λ (r : Option BrokenRule). r >> Ok (opened office place kind now token base.0)) (sym (is ∙ ap rule_for e))
            step false e =
                judged_lacks office names at e
                ∙ ap (λ (r : Option BrokenRule). r >> Ok (opened office place kind now token [])) (sym (is ∙ ap rule_for e))

        module _ (is : RuleIs None) where
          base_wanted : has_base kind index.lines ≡ true
          base_wanted = step (has_base kind index.lines) refl
            where
              step : (has : Bool) → has_base kind index.lines ≡ has → has_base kind index.lines ≡ true
              step true e = e
              step false e = absurd (none_some NoBackup (is ∙ ap rule_for e))

          opened_by : (office : Office) (names : Names) (at : IsRunning old office names) (base : Tree)
              → OpenDumpModel.base_of kind (host_is office names at).host.backups ≡ Ok base
              → OpenDumpModel.carried name kind now token office ≡ Ok (opened office place kind now token base)
          opened_by office names at base base_is =
              judged_has office names at base base_is
              ∙ ap (λ (r : Option BrokenRule). r >> Ok (opened office place kind now token base)) (sym (is ∙ ap rule_for base_wanted))

          -- ---- the dump is open

          abbrev Event' : Event
          Event' = OpenDumpEvent name kind now token

          runs_opened : (new : StoreParts D N S d n) (session : SessionName) (rows : Rows) → BeginsWith old place kind rows
              → HasOpened old place kind now token rows session new → Runs old Event' (Ok (DumpAnswer session)) new
          runs_opened new session rows begins has =
              runs_begun old Event' place kind now token rows new session refl (λ office names at.
              let base = begins office names at (host_is office names at).host (host_is office names at).is_host
              (sym (has_same office names at) ∙ base_wanted) in
              record { judged = opened_by office names at (resolved (contents_of at.all) rows) base.is; rows_of = base.rows_of })
              (λ office names answer. refl) refl has

  -- ---- its base is read before

  module _ (old mid : StoreParts D N S d n) (name : List ℕ) (kind : Kind) (now : ℕ) (token : Option Token) (reads : Reads old mid) {failed : Type 0}
      (counted : Counted (d.fault_count old.journal.disk) (d.fault_count mid.journal.disk) failed) where
    pub runs_base_opened : (place : ℕ) (index : Index) (found : Some place ≡ host_named (names_of old.catalog.hosts) name)
        (there : slice_get old.catalog.hosts place ≡ Some index)
        (first : repeated index.receipts old.sessions.dumps.items place token ≡ None)
        → RuleIs old name kind now token place index found there first None
        → (failed → ⊥) → (new : StoreParts D N S d n) (session : SessionName) (rows : Rows) → BeginsWith mid place kind rows
        → HasOpened mid place kind now token rows session new → Runs old (OpenDumpEvent name kind now token) (Ok (DumpAnswer session)) new
    runs_base_opened place index found there first is fine new session rows begins has =
        runs_read_then old mid new (OpenDumpEvent name kind now token) (Ok (DumpAnswer session)) reads counted fine
        (runs_opened mid name kind now token place index
        (subst (λ (k : Known). Some place ≡ host_named (names_of k.hosts) name) (sym reads.catalog_same) found)
        (subst (λ (k : Known). slice_get k.hosts place ≡ Some index) (sym reads.catalog_same) there)
        (subst (λ (s : Sessions S). repeated index.receipts s.dumps.items place token ≡ None) (sym reads.sessions_same) first)
        (subst (λ (s : Sessions S). None ≡ opening_rule (has_base kind index.lines)
        (is_some (position_from (λ dump. dump.host == place) 0 s.dumps.items)) index.next s.sequence) (sym reads.sessions_same) is)
        new session rows begins has)

  -- ---- whatever the files hold

  pub base_reply : (old : StoreParts D N S d n) (name : List ℕ) (kind : Kind) (now : ℕ) (token : Option Token) (new : StoreParts D N S d n)
      (place : ℕ) (index : Index)
      → Some place ≡ host_named (names_of old.catalog.hosts) name → slice_get old.catalog.hosts place ≡ Some index
      → repeated index.receipts old.sessions.dumps.items place token ≡ None → (refusal : Refusal)
      → IsFaultOf old place kind refusal → OpensDump old name kind now token (Err refusal) new
  base_reply old name Full now token new place index found there first (Damaged file content) fault = absurd cc
  base_reply old name Incr now token new place index found there first (Damaged file content) fault = record {
    kind_is = refl;
    host = record { place = place; index = index; is_host = found; is_index = there };
    first = first;
    damaged = fault index there;
  }
  base_reply old name kind now token new place index found there first (Broken rule) fault = tt
  base_reply old name kind now token new place index found there first Halted fault = tt
  base_reply old name kind now token new place index found there first DiskFault fault = tt
  base_reply old name kind now token new place index found there first Memory fault = tt

  -- what a `?` made of a rule
  pub broken_base : (old : StoreParts D N S d n) (name : List ℕ) (kind : Kind) (now : ℕ) (token : Option Token) (new : StoreParts D N S d n)
      (reply : Reply) (rule : BrokenRule) → IsErrAnd reply (λ refusal. refusal ≡ Broken rule) → OpensDump old name kind now token reply new
  broken_base old name kind now token new (Ok answer) rule is = absurd is
  broken_base old name kind now token new (Err refusal) rule is =
      subst (λ (r : Refusal). OpensDump old name kind now token (Err r) new) (sym is) tt

  -- at this moment
  pub opened_at : (old new : StoreParts D N S d n) (place : ℕ) (kind : Kind) (start now : ℕ) (token : Option Token) (rows : Rows)
      (session : SessionName)
      → start ≡ now → HasOpened old place kind start token rows session new → HasOpened old place kind now token rows session new
  opened_at old new place kind start now token rows session same has =
      subst (λ (s : ℕ). HasOpened old place kind s token rows session new) same has

  -- what is open since the base was read
  pub opened_since : (old mid : StoreParts D N S d n) → Reads old mid → (place : ℕ) (kind : Kind) (now : ℕ) (token : Option Token) (rows : Rows)
      (session : SessionName) (new : Sessions S) → IsOpened mid.sessions mid.catalog.epoch place kind now token rows session new
      → IsOpened old.sessions old.catalog.epoch place kind now token rows session new
  opened_since old mid reads place kind now token rows session new opened =
      subst (λ (s : Sessions S). IsOpened s old.catalog.epoch place kind now token rows session new) reads.sessions_same
      (subst (λ (k : Known). IsOpened mid.sessions k.epoch place kind now token rows session new) reads.catalog_same opened)
