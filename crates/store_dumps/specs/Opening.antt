-- A further open dump.
--     further_rule is_open next sequence      the first rule that keeps a further dump of a host from being opened, whatever it begins with
--     opening_rule has_base is_open next sequence      and that of its base before it
--     IsOpened old epoch host kind start token base name new      the sessions have one dump more, whose rows are those of its base
--     HasOpened old host kind start token base name new      so have the parts of a store, and its rows and those of its base claim contents
--     Repeats old name token answer new      an answer repeats an earlier one by the token, and nothing was done
--     OpensDump old name kind now token reply new      an answer that repeats none opened a dump whose base the files tell; a damaged file
--         is the newest table, for which an incremental alone is refused, if it repeats none
--     HasKept old new      the same is open, and claims the same
use Rattle.std.specs.Prelude.{⊤, ◌⊎◌, ◌≡◌, ◌<◌, ℕ, ◌+◌, Bool, true, not, List, [], ◌∷◌, ◌++◌, nat_le, Option, Some, None, Ok, Err, slice_get, if◌then◌else◌}
use Rattle.disk_trait.specs.declared.ids.PoolId.{PoolId}
use Rattle.disk_trait.specs.declared.ids.FileId.{FileId}
use Rattle.disk_trait.specs.declared.disk.Disk.{Ghosts as DiskGhosts}
use Rattle.pool_name.specs.declared.namer.Namer.{Ghosts as NamerGhosts}
use Rattle.backup_index.specs.Index.{Index}
use Rattle.backup_rules.specs.declared.lines.Kind.{Kind}
use Rattle.backup_rules.specs.declared.lines.Kind.TheVariants.{Incr}
use Rattle.journal_view.specs.View.{told}
use Rattle.merge_view.specs.Views.{Rows}
use Rattle.stored_trees.specs.Occurrences.{occurrences}
use Rattle.pool_changes.specs.Slots.{is_given}
use Rattle.pool_changes.specs.Kept.{IsSame}
use Rattle.office_catalog.specs.Known.{Known, host_named, names_of}
use Rattle.office_model.specs.declared.answer.Answer.TheVariants.{Dump as DumpAnswer}
use Rattle.office_model.specs.declared.refusal.BrokenRule.{BrokenRule}
use Rattle.office_model.specs.declared.refusal.BrokenRule.TheVariants.{NoBackup, SessionOpen, NumbersSpent}
use Rattle.office_model.specs.declared.refusal.Refusal.TheVariants as R
use Rattle.receipts.specs.declared.session.SessionName.{SessionName}
use Rattle.receipts.specs.declared.session.Token.{Token}
use Rattle.receipts.specs.TokenSets.{no_tokens}
use Rattle.office_model.specs.declared.answer.Answer.{Answer}
use Rattle.office_model.specs.Meaning.{Reply}
use Rattle.office_model.specs.Office.{number_limit, last_sequence}
use Rattle.open_sessions.specs.declared.sessions.OpenDump.{OpenDump}
use Rattle.open_sessions.specs.declared.sessions.Sessions.{Sessions}
use Rattle.open_sessions.specs.Opened.{base_of, BesideDumps, AreAlike}
use Rattle.store_parts.specs.declared.parts.StoreParts.{StoreParts}
use Rattle.store_parts.specs.States.{slots}
use Rattle.store_dumps.specs.Base.{TellsBase, IsNewestDamaged}
use Rattle.store_dumps.specs.Claims.{Gains}
use Rattle.store_dumps.specs.Tokens.{repeated}

abbrev pub further_rule : (is_open : Bool) (next sequence : ℕ) → Option BrokenRule
further_rule is_open next sequence =
    if is_open then Some SessionOpen
    else (if nat_le number_limit next then Some NumbersSpent
    else (if nat_le last_sequence sequence then Some NumbersSpent
    else None))

abbrev pub opening_rule : (has_base is_open : Bool) (next sequence : ℕ) → Option BrokenRule
opening_rule has_base is_open next sequence = if not has_base then Some NoBackup else further_rule is_open next sequence

-- where a catalog has the host of this name
pub record IsHostPlaced (known : Known) (name : List ℕ) : Type 0 where
  pub place : ℕ
  pub index : Index
  pub is_host : Some place ≡ host_named (names_of known.hosts) name
  pub is_index : slice_get known.hosts place ≡ Some index

abbrev pub session_of : ℕ → ℕ → SessionName
session_of epoch sequence = record { epoch = epoch; sequence = sequence }

-- a dump whose tree is still its base
pub record IsFresh (name : SessionName) (host : ℕ) (kind : Kind) (start : ℕ) (token : Option Token) (base : Rows) (dump : OpenDump)
    : Type 0 where
  pub name_is : dump.name ≡ name
  pub host_is : dump.host ≡ host
  pub kind_is : dump.kind ≡ kind
  pub start_is : dump.start ≡ start
  pub base_is : base_of dump ≡ base
  pub tree_is : dump.tree ≡ base
  pub token_is : dump.token ≡ token
  pub kept_is : dump.kept ≡ no_tokens

pub record IsOpened {S : Type 0} (old : Sessions S) (epoch host : ℕ) (kind : Kind) (start : ℕ) (token : Option Token) (base : Rows)
    (name : SessionName) (new : Sessions S) : Type 0 where
  pub dump : OpenDump
  pub fresh : IsFresh (session_of epoch old.sequence) host kind start token base dump
  pub name_is : name ≡ session_of epoch old.sequence
  pub dumps : new.dumps.items ≡ old.dumps.items ++ dump ∷ []
  pub beside : BesideDumps old new
  pub sequence : new.sequence ≡ old.sequence + 1

-- how often a dump that begins with these rows claims a content: once for each row of its tree, and of its base
abbrev pub claims_at_first : Rows → PoolId → ℕ
claims_at_first base id = occurrences id base + occurrences id base

module _ {D N S : Type 0} {d : DiskGhosts D} {n : NamerGhosts N S} where
  -- the contents are claimed if the names are given ones
  pub record HasOpened (old : StoreParts D N S d n) (host : ℕ) (kind : Kind) (start : ℕ) (token : Option Token) (base : Rows)
      (name : SessionName) (new : StoreParts D N S d n) : Type 0 where
    pub journal : new.journal ≡ old.journal
    pub catalog : new.catalog ≡ old.catalog
    pub counts : new.counts ≡ old.counts
    pub partials : new.partials ≡ old.partials
    pub views : new.views ≡ old.views
    pub halted : new.halted ≡ old.halted
    pub form : new.pool.in_one_file ≡ old.pool.in_one_file
    pub sessions : IsOpened old.sessions old.catalog.epoch host kind start token base name new.sessions
    pub claims : ((id : PoolId) → 0 < claims_at_first base id → is_given (slots old id) ≡ true)
        → Gains (claims_at_first base) (slots old) (slots new)

  pub record HasKept (old new : StoreParts D N S d n) : Type 0 where
    pub journal : new.journal ≡ old.journal
    pub catalog : new.catalog ≡ old.catalog
    pub counts : new.counts ≡ old.counts
    pub partials : new.partials ≡ old.partials
    pub views : new.views ≡ old.views
    pub halted : new.halted ≡ old.halted
    pub form : new.pool.in_one_file ≡ old.pool.in_one_file
    pub sessions : AreAlike old.sessions new.sessions
    pub names : IsSame (slots old) (slots new)

  -- the answer that an opening with this token repeats, as memory had it
  abbrev pub repeated_at : (old : StoreParts D N S d n) (name : List ℕ) → IsHostPlaced old.catalog name → Option Token → Option Answer
  repeated_at old name host token = repeated host.index.receipts old.sessions.dumps.items host.place token

  pub record Repeats (old : StoreParts D N S d n) (name : List ℕ) (token : Option Token) (answer : Answer) (new : StoreParts D N S d n)
      : Type 0 where
    pub host : IsHostPlaced old.catalog name
    pub is : repeated_at old name host token ≡ Some answer
    pub same : new ≡ old

  -- the base of a dump that was opened is what the files tell
  pub record OpensTold (old : StoreParts D N S d n) (name : List ℕ) (kind : Kind) (now : ℕ) (token : Option Token) (session : SessionName)
      (new : StoreParts D N S d n) : Type 0 where
    pub host : IsHostPlaced old.catalog name
    pub first : repeated_at old name host token ≡ None
    pub rows : Rows
    pub tells : TellsBase (told old.journal) host.place kind host.index.lines rows
    pub opened : IsOpened old.sessions old.catalog.epoch host.place kind now token rows session new.sessions

  pub record HasNewestDamaged (old : StoreParts D N S d n) (name : List ℕ) (kind : Kind) (token : Option Token) (file : FileId)
      (found : Option (List ℕ)) : Type 0 where
    pub kind_is : kind ≡ Incr
    pub host : IsHostPlaced old.catalog name
    pub first : repeated_at old name host token ≡ None
    pub damaged : IsNewestDamaged (told old.journal) host.place host.index.lines file found

  abbrev pub OpensDump : StoreParts D N S d n → List ℕ → Kind → ℕ → Option Token → Reply → StoreParts D N S d n → Type 0
  OpensDump old name kind now token (Ok answer) new = Repeats old name token answer new
      ⊎ ((session : SessionName) × (answer ≡ DumpAnswer session) × OpensTold old name kind now token session new)
  OpensDump old name kind now token (Err (R.Damaged file found)) new = HasNewestDamaged old name kind token file found
  OpensDump old name kind now token (Err refusal) new = ⊤
