-- Laws of what a deletion says of the tables that it calls for.
--     called_by      the tables that were read are those of a window of the host's backups
--     none_called      if no backup goes, none is called for
--     said_unwritten, said_again      of a refusal of a commit, and of the same one as before
--     said_broken, said_memory      of a broken rule, and of want of memory
--     said_none      of an event that calls for none
--     said_at, said_of_host      of the host of a name
--     hostless_broken, hostless_memory, has_host      whether there is such a host
use Rattle.std.specs.Prelude.{◌≡◌, ℕ, false, List, [], ◌∷◌, Option, Some, Result, Ok, Err, slice_get}
use Rattle.std.specs.Result.{IsErrAnd}
use Rattle.std.proofs.Common.{refl, sym, ap, ◌∙◌, subst, arith}
use Rattle.disk_trait.specs.declared.disk.Disk.{Ghosts as DiskGhosts}
use Rattle.disk_trait.specs.Files.{Files}
use Rattle.pool_name.specs.declared.namer.Namer.{Ghosts as NamerGhosts}
use Rattle.journal_view.specs.View.{told}
use Rattle.backup_rules.specs.declared.lines.Line.{Line}
use Rattle.backup_index.specs.Index.{Index as HostIndex}
use Rattle.merge_view.specs.Views.{Rows}
use Rattle.backup_views.specs.Stored.{AreTableFiles}
use Rattle.backup_delete.specs.Windows.{part, any_gone, IsWindow}
use Rattle.office_catalog.specs.Known.{Known, IsCatalog, host_named, names_of}
use Rattle.office_model.specs.declared.refusal.BrokenRule.{BrokenRule}
use Rattle.office_model.specs.declared.refusal.Refusal.{Refusal}
use Rattle.office_model.specs.declared.refusal.Refusal.TheVariants as R
use Rattle.store_parts.specs.declared.parts.StoreParts.{StoreParts}
use Rattle.store_parts.specs.Writes.{IsWriteFault}
use Rattle.store_deletions.specs.Called.{HasCalled, SaysOfTables, HasHost}

some_same : {A : Type 0} (x y : A) → Some x ≡ Some y → x ≡ y
some_same x y e = cc

-- ---- the tables

pub called_by : (told : Option Files) (catalog : Known) (host file first end : ℕ) (numbers : List ℕ) (tables : List Rows) (index : HostIndex)
    (lines : List Line) → IsCatalog catalog.hosts → slice_get catalog.hosts host ≡ Some index → file ≡ index.host → lines ≡ index.lines
    → IsWindow numbers lines first end
    → ((all : Files) → told ≡ Some all → AreTableFiles all file (part first end lines) tables)
    → (other : HostIndex) → slice_get catalog.hosts host ≡ Some other → HasCalled told host other.lines numbers
called_by told catalog host file first end numbers tables index lines are here file_is lines_are window there other at =
    let same = lines_are ∙ ap (λ (i : HostIndex). i.lines) (some_same index other (sym here ∙ at)) in
    record {
      first = first;
      end = end;
      window = subst (λ (ls : List Line). IsWindow numbers ls first end) same window;
      tables = tables;
      there = λ all is. subst (λ (f : ℕ). AreTableFiles all f (part first end other.lines) tables)
          (file_is ∙ (are.each host index here).number)
          (subst (λ (ls : List Line). AreTableFiles all file (part first end ls) tables) same (there all is));
    }

none_gone : (lines : List Line) → any_gone [] lines ≡ false
none_gone [] = refl
none_gone (line ∷ lines) = none_gone lines

pub none_called : (told : Option Files) (host : ℕ) (lines : List Line) → HasCalled told host lines []
none_called told host lines = record {
  first = 0;
  end = 0;
  window = record {
    within = omega arith;
    before = refl;
    behind = none_gone lines;
    rises = omega arith;
    oldest = λ newer gone. absurd (omega (arith, newer));
    newest = λ less some. absurd (omega (arith, some));
  };
  tables = [];
  there = λ all is. tt;
}

-- ---- what is said of them

module _ {D N S : Type 0} {d : DiskGhosts D} {n : NamerGhosts N S} where
  -- a commit finds no damaged file
  pub said_unwritten : (A : Type 0) (old new : StoreParts D N S d n) (p : ℕ) (numbers : List ℕ) (refusal : Refusal) → IsWriteFault refusal
      → SaysOfTables {A = A} old new p numbers (Err refusal)
  said_unwritten A old new p numbers R.DiskFault fault = tt
  said_unwritten A old new p numbers R.Memory fault = tt
  said_unwritten A old new p numbers (R.Damaged file found) fault = absurd fault
  said_unwritten A old new p numbers (R.Broken rule) fault = tt
  said_unwritten A old new p numbers R.Halted fault = tt

  pub said_again : (A B : Type 0) (old new : StoreParts D N S d n) (p : ℕ) (numbers : List ℕ) (refusal : Refusal)
      → SaysOfTables {A = A} old new p numbers (Err refusal) → SaysOfTables {A = B} old new p numbers (Err refusal)
  said_again A B old new p numbers R.DiskFault said = tt
  said_again A B old new p numbers R.Memory said = tt
  said_again A B old new p numbers (R.Damaged file found) said = said
  said_again A B old new p numbers (R.Broken rule) said = tt
  said_again A B old new p numbers R.Halted said = tt

  -- a rule was broken
  pub said_broken : {A : Type 0} (old new : StoreParts D N S d n) (p : ℕ) (numbers : List ℕ) (reply : Result A Refusal) (rule : BrokenRule)
      → IsErrAnd reply (λ refusal. refusal ≡ R.Broken rule) → SaysOfTables old new p numbers reply
  said_broken old new p numbers (Ok answer) rule is = absurd is
  said_broken {A} old new p numbers (Err refusal) rule is =
      subst (λ (r : Refusal). SaysOfTables {A = A} old new p numbers (Err r)) (sym is) tt

  pub said_memory : {A : Type 0} (old new : StoreParts D N S d n) (p : ℕ) (numbers : List ℕ) (reply : Result A Refusal)
      → IsErrAnd reply (λ refusal. refusal ≡ R.Memory) → SaysOfTables old new p numbers reply
  said_memory old new p numbers (Ok answer) is = absurd is
  said_memory {A} old new p numbers (Err refusal) is = subst (λ (r : Refusal). SaysOfTables {A = A} old new p numbers (Err r)) (sym is) tt

  -- of the host at the place that was found
  pub said_at : {A : Type 0} (old new : StoreParts D N S d n) (found : Option ℕ) (at : ℕ) (numbers : List ℕ) (result : Result A Refusal)
      → Some at ≡ found → SaysOfTables old new at numbers result
      → (place : ℕ) → Some place ≡ found → SaysOfTables old new place numbers result
  said_at old new found at numbers result is said place e =
      subst (λ (p : ℕ). SaysOfTables old new p numbers result) (some_same at place (is ∙ sym e)) said

  -- by what the host's index tells
  pub said_of_host : {A : Type 0} (old new : StoreParts D N S d n) (found : Option ℕ) (at : ℕ) (mine : HostIndex) (f : HostIndex → List ℕ)
      (numbers : List ℕ) (result : Result A Refusal) → Some at ≡ found → slice_get old.catalog.hosts at ≡ Some mine → numbers ≡ f mine
      → SaysOfTables old new at numbers result
      → (place : ℕ) (index : HostIndex) → Some place ≡ found → slice_get old.catalog.hosts place ≡ Some index
      → SaysOfTables old new place (f index) result
  said_of_host old new found at mine f numbers result is here numbers_are said place index e there =
      let same : mine ≡ index =
      some_same mine index (sym here ∙ ap (slice_get old.catalog.hosts) (some_same at place (is ∙ sym e)) ∙ there) in
      subst (λ (ns : List ℕ). SaysOfTables old new place ns result) (numbers_are ∙ ap f same)
      (said_at old new found at numbers result is said place e)

  pub said_none : {A : Type 0} (old new : StoreParts D N S d n) (p : ℕ) (done : A) → SaysOfTables old new p [] (Ok done)
  said_none old new p done index here = none_called (told old.journal) p index.lines

  -- ---- whether there is a host of the name

  pub hostless_broken : {A : Type 0} (old : StoreParts D N S d n) (name : List ℕ) (result : Result A Refusal) (rule : BrokenRule)
      → IsErrAnd result (λ refusal. refusal ≡ R.Broken rule) → HasHost old name result
  hostless_broken old name (Ok done) rule e = absurd e
  hostless_broken {A} old name (Err refusal) rule e = subst (λ (r : Refusal). HasHost {A = A} old name (Err r)) (sym e) tt

  pub hostless_memory : {A : Type 0} (old : StoreParts D N S d n) (name : List ℕ) (result : Result A Refusal)
      → IsErrAnd result (λ refusal. refusal ≡ R.Memory) → HasHost old name result
  hostless_memory old name (Ok done) e = absurd e
  hostless_memory {A} old name (Err refusal) e = subst (λ (r : Refusal). HasHost {A = A} old name (Err r)) (sym e) tt

  pub has_host : {A : Type 0} (old : StoreParts D N S d n) (name : List ℕ) (place : ℕ) (index : HostIndex)
      → Some place ≡ host_named (names_of old.catalog.hosts) name → slice_get old.catalog.hosts place ≡ Some index
      → (result : Result A Refusal) → HasHost old name result
  has_host old name place index named here (Ok done) = record { place = place; index = index; named = named; here = here }
  has_host old name place index named here (Err (R.Damaged file found)) =
      record { place = place; index = index; named = named; here = here }
  has_host old name place index named here (Err (R.Broken rule)) = tt
  has_host old name place index named here (Err R.Halted) = tt
  has_host old name place index named here (Err R.DiskFault) = tt
  has_host old name place index named here (Err R.Memory) = tt
