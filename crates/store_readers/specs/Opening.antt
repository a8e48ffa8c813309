-- A further open reader.
--     IsOpened holds old content size new      the sessions have one reader more, at the first byte of this content
--     OpensFile holds old path rows reply new      an answer opened it, of the file that rows have at a path
--     HasOpened old content size reader new      so have the parts of a store, and it claims its content
--     HasKept old new      the same is open, and claims the same
use Rattle.std.specs.Prelude.{◌≡◌, ℕ, ◌+◌, List, [], ◌∷◌, ◌++◌, Option, None, Ok, Err}
use Rattle.disk_trait.specs.declared.ids.PoolId.{PoolId}
use Rattle.disk_trait.specs.declared.disk.Disk.{Ghosts as DiskGhosts}
use Rattle.pool_name.specs.declared.namer.Namer.{Ghosts as NamerGhosts}
use Rattle.attr_records.specs.Trees.{node_at}
use Rattle.attr_tables.specs.declared.records.StoredFile.{StoredFile}
use Rattle.merge_view.specs.Views.{Rows}
use Rattle.pool_changes.specs.Kept.{IsSame}
use Rattle.office_model.specs.declared.answer.Answer.TheVariants.{Opened}
use Rattle.office_model.specs.Meaning.{Reply}
use Rattle.open_sessions.specs.declared.readers.OpenReader.{OpenReader}
use Rattle.open_sessions.specs.declared.sessions.Sessions.{Sessions}
use Rattle.open_sessions.specs.Opened.{OnlyReaders}
use Rattle.store_parts.specs.declared.parts.StoreParts.{StoreParts}
use Rattle.store_parts.specs.Held.{given}
use Rattle.store_parts.specs.States.{slots}
use Rattle.store_dumps.specs.Claims.{Gains, claims_of_content}
use Rattle.store_reads.specs.Shown.{file_told, IsGivenContent}

-- a reader that gave nothing
abbrev pub fresh : {S : Type 0} → ℕ → Option PoolId → ℕ → S → OpenReader S
fresh number content size digest =
    record { number = number; content = content; size = size; given = 0; digest = digest; wrong = None }

pub record IsOpened {S : Type 0} (holds : S → List ℕ → Type 0) (old : Sessions S) (content : Option PoolId) (size : ℕ)
    (new : Sessions S) : Type 0 where
  pub digest : S
  pub of_nothing : holds digest []
  pub readers : new.readers.items.items ≡ old.readers.items.items ++ fresh old.readers.next content size digest ∷ []
  pub next : new.readers.next ≡ old.readers.next + 1
  pub only : OnlyReaders old new

abbrev pub OpensFile : {S : Type 0} → (S → List ℕ → Type 0) → Sessions S → List ℕ → Rows → Reply → Sessions S → Type 0
OpensFile holds old path rows (Ok answer) new =
    (file : StoredFile) × (file_told (node_at rows path) ≡ Ok file) × (answer ≡ Opened old.readers.next file.size)
    × IsOpened holds old file.content file.size new
OpensFile holds old path rows (Err refusal) new = ⊥

-- no reader more, and the next one has the same number
pub record AreKept {S : Type 0} (old new : Sessions S) : Type 0 where
  pub readers : new.readers.items.items ≡ old.readers.items.items
  pub next : new.readers.next ≡ old.readers.next
  pub only : OnlyReaders old new

module _ {D N S : Type 0} {d : DiskGhosts D} {n : NamerGhosts N S} where
  -- at most what is open and the names of the pool are others
  pub record OnlyOpen (old new : StoreParts D N S d n) : Type 0 where
    pub journal : new.journal ≡ old.journal
    pub catalog : new.catalog ≡ old.catalog
    pub counts : new.counts ≡ old.counts
    pub partials : new.partials ≡ old.partials
    pub views : new.views ≡ old.views
    pub halted : new.halted ≡ old.halted
    pub form : new.pool.in_one_file ≡ old.pool.in_one_file

  -- the content is claimed if its name is a given one
  pub record HasOpened (old : StoreParts D N S d n) (content : Option PoolId) (size reader : ℕ) (new : StoreParts D N S d n) : Type 0 where
    pub only : OnlyOpen old new
    pub number : reader ≡ old.sessions.readers.next
    pub sessions : IsOpened n.holds old.sessions content size new.sessions
    pub claims : IsGivenContent (given (slots old)) content → Gains (λ id. claims_of_content content id) (slots old) (slots new)

  pub record HasKept (old new : StoreParts D N S d n) : Type 0 where
    pub only : OnlyOpen old new
    pub sessions : AreKept old.sessions new.sessions
    pub names : IsSame (slots old) (slots new)
