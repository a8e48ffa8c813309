-- What an opening of a dump of a host's partial leaves.
--     head_there, head_host      what is known of a partial is that of the host's
--     resumes_read, parked_fault      the partial that is read is the host's, and its file isn't damaged
--     no_host_resume, no_partial, refused_resume      the rule that memory finds is that of the model
--     runs_resumed      a dump was opened after the partial was read
--     resume_reply, broken_resume      whatever the files hold
use Rattle.std.specs.Prelude.{◌≡◌, ◌==◌, ℕ, zero, suc, List, [], ◌∷◌, is_some, Option, Some, None, Ok, Err, slice_get}
use Rattle.std.specs.List.{position_from}
use Rattle.std.specs.Option.{option_map}
use Rattle.std.specs.Result.{IsErrAnd}
use Rattle.std.proofs.Common.{refl, sym, ap, ◌∙◌, subst}
use Rattle.fault_counts.specs.Counts.{Counted}
use Rattle.disk_trait.specs.declared.ids.PoolId.{PoolId}
use Rattle.disk_trait.specs.declared.ids.FileId.TheVariants.{Partial as PartialOf}
use Rattle.disk_trait.specs.declared.disk.Disk.{Ghosts as DiskGhosts}
use Rattle.disk_trait.specs.Files.{Files}
use Rattle.pool_name.specs.declared.namer.Namer.{Ghosts as NamerGhosts}
use Rattle.backup_index.specs.Index.{Index}
use Rattle.journal_view.specs.View.{told}
use Rattle.merge_view.specs.Views.{Rows}
use Rattle.partial_files.specs.declared.partial.PartialFile.{PartialFile}
use Rattle.host_partials.specs.declared.held.PartialHead.{PartialHead}
use Rattle.host_partials.specs.Held.{head_at}
use Rattle.pool_changes.specs.Listed.{index_of}
use Rattle.stored_trees.specs.Resolved.{resolved}
use Rattle.office_catalog.specs.Known.{Known, host_named, names_of}
use Rattle.open_sessions.specs.declared.sessions.Sessions.{Sessions}
use Rattle.open_sessions.specs.Opened.{AreRowsOf}
use Rattle.office_model.specs.declared.answer.Answer.TheVariants.{Dump as DumpAnswer}
use Rattle.office_model.specs.declared.event.Event.TheVariants.{Resume}
use Rattle.office_model.specs.declared.refusal.BrokenRule.{BrokenRule}
use Rattle.office_model.specs.declared.refusal.BrokenRule.TheVariants.{NoHost, NoPartial}
use Rattle.office_model.specs.declared.refusal.Refusal.{Refusal}
use Rattle.office_model.specs.declared.refusal.Refusal.TheVariants as R
use Rattle.receipts.specs.declared.session.SessionName.{SessionName}
use Rattle.office_model.specs.Meaning.{Reply, ◌>>◌}
use Rattle.office_model.specs.Office.{Office, Host, Partial, Names}
use Rattle.office_model.specs.Parts.{host_at}
use Rattle.office_model.specs.events.Resume as ResumeModel
use Rattle.office_files.specs.FoundLaws.{partial_found}
use Rattle.office_files.specs.Hosts.{StandsPartial, StandsHost}
use Rattle.office_files.specs.Layouts.{IsPartialFile, parked_of}
use Rattle.office_model.specs.PairsLaws.{pair_at}
use Rattle.office_files.specs.Pooled.{contents_of, IsListed}
use Rattle.store_parts.specs.KnownOffice.{IsNamed, named_host}
use Rattle.store_parts.specs.declared.parts.StoreParts.{StoreParts}
use Rattle.store_parts.specs.Held.{head_of, heads_of}
use Rattle.store_parts.specs.Parked.{HoldsNone, IsParkedFault}
use Rattle.store_parts.specs.Refusals.{IsReadFault}
use Rattle.store_parts.specs.States.{slots, IsRunning}
use Rattle.store_parts.specs.Runs.{Runs, Reads}
use Rattle.store_dumps.specs.Opening.{further_rule, HasOpened}
use Rattle.store_dumps.specs.Resuming.{TellsPartial, ResumesWith, ResumesDump}
use Rattle.store_dumps.specs.RunningLaws.{runs_read_then}
use Rattle.store_dumps.proofs.Bases.{rows_listed}
use Rattle.store_dumps.proofs.Opens.{opened, judged_dump, rule_same, MayOpen, runs_begun}

-- ---- what is known of a partial

pub head_there : (hosts : List Host) (place : ℕ) (host : Host) → slice_get hosts place ≡ Some host
    → head_at (heads_of hosts) place ≡ option_map head_of host.partial
head_there [] place host is = absurd cc
head_there (h ∷ hosts) zero host is = let same : h ≡ host = cc in ap (λ (host : Host). option_map head_of host.partial) same
head_there (h ∷ hosts) (suc place) host is = head_there hosts place host is

-- the host whose partial is known
pub record IsKnown (hosts : List Host) (place : ℕ) (head : PartialHead) : Type 0 where
  pub host : Host
  pub is_host : slice_get hosts place ≡ Some host
  pub is_head : option_map head_of host.partial ≡ Some head

pub head_host : (hosts : List Host) (place : ℕ) (head : PartialHead) → head_at (heads_of hosts) place ≡ Some head → IsKnown hosts place head
head_host [] place head e = absurd cc
head_host (host ∷ hosts) zero head e = record { host = host; is_host = refl; is_head = e }
head_host (host ∷ hosts) (suc place) head e =
    let k = head_host hosts place head e in record { host = k.host; is_host = k.is_host; is_head = k.is_head }

no_head : (partial : Option Partial) → option_map head_of partial ≡ None → partial ≡ None
no_head None e = refl
no_head (Some partial) e = absurd cc

some_head : (partial : Option Partial) (head : PartialHead) → option_map head_of partial ≡ Some head → (p : Partial) × (partial ≡ Some p)
some_head None head e = absurd cc
some_head (Some partial) head e = (partial, refl)

-- ---- the host's file

module _ (given : PoolId → Type 0) (contents : PoolId → List ℕ) (number : ℕ) where
  rows_stand : (partial : Option Partial) (known : Option Rows) (found : Option (List ℕ)) (rows : Rows) → known ≡ Some rows
      → StandsPartial given contents number partial known found → AreRowsOf given contents rows
  rows_stand None None found rows e stands = absurd cc
  rows_stand None (Some known) found rows e stands = absurd stands
  rows_stand (Some partial) None found rows e stands = absurd stands
  rows_stand (Some partial) (Some known) found rows e stands =
      let same : known ≡ rows = cc in subst (AreRowsOf given contents) same (record { whole = stands.whole; told = stands.told })

  -- a partial that is known stands in its file
  file_stands : (partial : Option Partial) (known : Option Rows) (found : Option (List ℕ)) (head : PartialHead)
      → option_map head_of partial ≡ Some head → StandsPartial given contents number partial known found → HoldsNone number found → ⊥
  file_stands None known found head e stands none = absurd cc
  file_stands (Some partial) None found head e stands none = absurd stands
  file_stands (Some partial) (Some rows) found head e stands none =
      let no = subst (HoldsNone number) stands.file.is none in no (parked_of partial.kind partial.start rows) stands.file.fits refl

-- there is no such host
pub no_host_resume : (name : List ℕ) (office : Office) (names : Names) → host_at office.hosts name ≡ Err NoHost
    → ResumeModel.carried name office ≡ Err NoHost
no_host_resume name office names e = rw e refl

module _ {D N S : Type 0} {d : DiskGhosts D} {n : NamerGhosts N S} where
  module _ (parts : StoreParts D N S d n) (place : ℕ) where
    pub resumes_read : (told_then : Option Files) (file : PartialFile) → told parts.journal ≡ told_then → TellsPartial told_then place file
        → ResumesWith parts place file
    resumes_read told_then file same tells office names at host is =
        let has = tells at.all (sym same ∙ at.told_is) in
        let pair = pair_at (StandsHost (IsListed (index_of (slots parts))) (contents_of at.all) at.all) office.hosts at.shown
        at.stands.hosts place host is in
        let holds : IsPartialFile place file.kind file.start file.rows (at.all (PartialOf place)) = record { fits = has.0; is = has.1 } in
        let known = partial_found n.digest_of (index_of (slots parts)) at.shown at.all office.durable at.stands place host pair.0
        file.kind file.start file.rows is pair.1 holds in
        record {
          is = known.1;
          rows_of = rows_listed parts (contents_of at.all) file.rows
              (rows_stand (IsListed (index_of (slots parts))) (contents_of at.all) place host.partial pair.0.partial
              (at.all (PartialOf place)) file.rows known.0 pair.2.partial);
        }

    pub parked_fault : (head : PartialHead) → Some head ≡ head_at parts.partials place → (refusal : Refusal)
        → IsParkedFault (told parts.journal) (Some head) place refusal → IsReadFault parts refusal
    parked_fault head known R.DiskFault fault = tt
    parked_fault head known R.Memory fault = tt
    parked_fault head known R.Halted fault = absurd fault
    parked_fault head known (R.Broken rule) fault = absurd fault
    parked_fault head known (R.Damaged file found) fault = λ office names at.
        let k = head_host office.hosts place head
        (sym (ap (λ (heads : List (Option PartialHead)). head_at heads place) at.parked) ∙ sym known) in
        let pair = pair_at (StandsHost (IsListed (index_of (slots parts))) (contents_of at.all) at.all) office.hosts at.shown
        at.stands.hosts place k.host k.is_host in
        let there : found ≡ at.all (PartialOf place) = fault.is at.all at.told_is ∙ ap at.all fault.is_file in
        file_stands (IsListed (index_of (slots parts))) (contents_of at.all) place k.host.partial pair.0.partial (at.all (PartialOf place))
        head k.is_head pair.2.partial (subst (HoldsNone place) there fault.none)

  -- ---- the rules

  module _ (old : StoreParts D N S d n) (name : List ℕ) (place : ℕ) (found : Some place ≡ host_named (names_of old.catalog.hosts) name) where
    abbrev named : (office : Office) (names : Names) → IsRunning old office names → IsNamed office.hosts name place
    named office names at = named_host office.durable old.catalog name place at.catalog_is found

    known_is : (office : Office) (names : Names) (at : IsRunning old office names)
        → head_at old.partials place ≡ option_map head_of (named office names at).host.partial
    known_is office names at =
        ap (λ (heads : List (Option PartialHead)). head_at heads place) at.parked
        ∙ head_there office.hosts place (named office names at).host (named office names at).is_host

    pub no_partial : None ≡ head_at old.partials place → (office : Office) (names : Names) → IsRunning old office names
        → ResumeModel.carried name office ≡ Err NoPartial
    no_partial none office names at =
        rw ((named office names at).judged, no_head (named office names at).host.partial (sym (known_is office names at) ∙ sym none)) refl

    module _ (index : Index) (there : slice_get old.catalog.hosts place ≡ Some index) where
      -- the rule that memory finds
      abbrev RuleIs : Option BrokenRule → Type 0
      RuleIs rule =
          rule ≡ further_rule (is_some (position_from (λ dump. dump.host == place) 0 old.sessions.dumps.items)) index.next old.sessions.sequence

      judged_partial : (rule : Option BrokenRule) → RuleIs rule → (office : Office) (names : Names) (at : IsRunning old office names)
          (partial : Partial) → (named office names at).host.partial ≡ Some partial
          → ResumeModel.carried name office ≡ (rule >> Ok (opened office place partial.kind partial.start None partial.tree))
      judged_partial rule is office names at partial there_is =
          rw ((named office names at).judged, there_is)
          (judged_dump office place partial.kind partial.start None (named office names at).host.next partial.tree)
          ∙ ap (λ (r : Option BrokenRule). r >> Ok (opened office place partial.kind partial.start None partial.tree))
          (rule_same old place index there office names at (named office names at).host (named office names at).is_host ∙ sym is)

      pub refused_resume : (head : PartialHead) → Some head ≡ head_at old.partials place → (rule : BrokenRule) → RuleIs (Some rule)
          → (office : Office) (names : Names) → IsRunning old office names → ResumeModel.carried name office ≡ Err rule
      refused_resume head known rule is office names at =
          let p = some_head (named office names at).host.partial head (sym (known_is office names at) ∙ sym known) in
          judged_partial (Some rule) is office names at p.0 p.1

      -- ---- the dump is open

      may_open : RuleIs None → (file : PartialFile) → ResumesWith old place file → (office : Office) (names : Names)
          (at : IsRunning old office names) → MayOpen old (Resume name) place file.kind file.start None file.rows office names at
      may_open is file begins office names at =
          let of = begins office names at (named office names at).host (named office names at).is_host in
          record {
            judged = judged_partial None is office names at
                (record { kind = file.kind; start = file.start; tree = resolved (contents_of at.all) file.rows }) of.is;
            rows_of = of.rows_of;
          }

      runs_opened : RuleIs None → (new : StoreParts D N S d n) (session : SessionName) (file : PartialFile) → ResumesWith old place file
          → HasOpened old place file.kind file.start None file.rows session new → Runs old (Resume name) (Ok (DumpAnswer session)) new
      runs_opened is new session file begins has =
          runs_begun old (Resume name) place file.kind file.start None file.rows new session refl (may_open is file begins) (λ office names answer. refl)
          refl has

  -- the partial is read before
  pub runs_resumed : (old mid : StoreParts D N S d n) (name : List ℕ) → Reads old mid → {failed : Type 0}
      → Counted (d.fault_count old.journal.disk) (d.fault_count mid.journal.disk) failed → (failed → ⊥)
      → (place : ℕ) (index : Index) (found : Some place ≡ host_named (names_of old.catalog.hosts) name)
      (there : slice_get old.catalog.hosts place ≡ Some index) → RuleIs old name place found index there None
      → (new : StoreParts D N S d n) (session : SessionName) (file : PartialFile) → ResumesWith mid place file
      → HasOpened mid place file.kind file.start None file.rows session new → Runs old (Resume name) (Ok (DumpAnswer session)) new
  runs_resumed old mid name reads counted fine place index found there is new session file begins has =
      runs_read_then old mid new (Resume name) (Ok (DumpAnswer session)) reads counted fine
      (runs_opened mid name place
      (subst (λ (k : Known). Some place ≡ host_named (names_of k.hosts) name) (sym reads.catalog_same) found) index
      (subst (λ (k : Known). slice_get k.hosts place ≡ Some index) (sym reads.catalog_same) there)
      (subst (λ (s : Sessions S). None ≡ further_rule
      (is_some (position_from (λ dump. dump.host == place) 0 s.dumps.items)) index.next s.sequence) (sym reads.sessions_same) is)
      new session file begins has)

  -- ---- whatever the files hold

  pub resume_reply : (old : StoreParts D N S d n) (name : List ℕ) (new : StoreParts D N S d n) (place : ℕ) (index : Index)
      → Some place ≡ host_named (names_of old.catalog.hosts) name → slice_get old.catalog.hosts place ≡ Some index → (head : PartialHead)
      (refusal : Refusal) → IsParkedFault (told old.journal) (Some head) place refusal → ResumesDump old name (Err refusal) new
  resume_reply old name new place index found there head (R.Damaged file content) fault = record {
    host = record { place = place; index = index; is_host = found; is_index = there };
    damaged = fault;
  }
  resume_reply old name new place index found there head (R.Broken rule) fault = tt
  resume_reply old name new place index found there head R.Halted fault = tt
  resume_reply old name new place index found there head R.DiskFault fault = tt
  resume_reply old name new place index found there head R.Memory fault = tt

  -- what a `?` made of a rule
  pub broken_resume : (old : StoreParts D N S d n) (name : List ℕ) (new : StoreParts D N S d n) (reply : Reply) (rule : BrokenRule)
      → IsErrAnd reply (λ refusal. refusal ≡ R.Broken rule) → ResumesDump old name reply new
  broken_resume old name new (Ok answer) rule is = absurd is
  broken_resume old name new (Err refusal) rule is = subst (λ (r : Refusal). ResumesDump old name (Err r) new) (sym is) tt
