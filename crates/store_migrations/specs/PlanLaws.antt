-- Laws of what is read and planned.
--     table_read      what a reader of a table's file tells
--     nothing_planned, planned_more      no table, and one more
--     planned_all      of all lines
--     changes_planned      a commit may make the changes
--     plan_fault      a fault of reading a table is one of the plan
use Rattle.std.specs.Prelude.{◌≡◌, ◌<◌, ℕ, ◌+◌, List, [], ◌∷◌, ◌++◌, length, drop, Option, Some, Ok, get_or, slice_get}
use Rattle.std.proofs.Common.{refl, sym, ap, ◌∙◌, subst, append_assoc, add-one}
use Rattle.std.proofs.lemmas.List.{append-nil}
use Rattle.std.proofs.Math.Seq.{drop-cons}
use Rattle.wire_bytes.specs.Grammar.{seen_as}
use Rattle.wire_bytes.specs.GrammarReading.{ReadsSealed}
use Rattle.disk_trait.specs.declared.ids.FileId.TheVariants.{Table}
use Rattle.disk_trait.specs.Files.{Files}
use Rattle.intent_journal.specs.declared.changes.Change.{Change}
use Rattle.intent_journal.specs.Changes.{AreChanges}
use Rattle.attr_tables.specs.declared.file.TableFile.{TableFile}
use Rattle.attr_tables.specs.Tables.{table_grammar, offset_of}
use Rattle.backup_rules.specs.declared.lines.Line.{Line}
use Rattle.backup_index.specs.Index.{Index as HostIndex}
use Rattle.backup_views.specs.Faults.{IsDamaged, SaysOneDamaged}
use Rattle.backup_views.specs.declared.fault.ViewFault.{ViewFault}
use Rattle.backup_views.specs.declared.fault.ViewFault.TheVariants as V
use Rattle.office_catalog.specs.Known.{Known, IsCatalog}
use Rattle.store_parts.specs.Refusals.{refusal_of_view}
use Rattle.store_migrations.specs.Migrated.{IsTableRead, rewritten, IsPlanned, IsPlanFault}
use Rattle.store_migrations.specs.WrittenLaws.{are_changes}

pub table_read : (bytes : List ℕ) (file : TableFile) → ReadsSealed offset_of (λ f. f) table_grammar bytes (Ok file) → IsTableRead file (Some bytes)
unfolding seen_as
table_read bytes file reads = record { fits = reads.found.0; is = ap Some reads.found.1 }

-- ---- tables one by one

pub nothing_planned : (told : Option Files) (host : ℕ) → IsPlanned told host [] []
nothing_planned told host = record { files = []; are = refl; there = λ all is. tt }

planned_front : (told : Option Files) (host : ℕ) (line : Line) (lines : List Line) (read : TableFile) (rest : List Change)
    → ((all : Files) → told ≡ Some all → IsTableRead read (all (Table host line.number))) → IsPlanned told host lines rest
    → IsPlanned told host (line ∷ lines) (rewritten host line.number read ++ rest)
planned_front told host line lines read rest is planned = record {
  files = read ∷ planned.files;
  are = ap (λ (changes : List Change). rewritten host line.number read ++ changes) planned.are;
  there = λ all is_told. (is all is_told, planned.there all is_told);
}

-- what was planned so far goes on to a whole plan, whatever is planned of the lines that are left
abbrev pub GoesOn : Option Files → ℕ → ℕ → List Line → List Change → Type 0
GoesOn told host i lines changes =
    (rest : List Change) → IsPlanned told host (drop i lines) rest → IsPlanned told host lines (changes ++ rest)

planned_behind : (told : Option Files) (host : ℕ) (lines left next : List Line) (line : Line) (read : TableFile) (changes more : List Change)
    → left ≡ line ∷ next → ((all : Files) → told ≡ Some all → IsTableRead read (all (Table host line.number)))
    → more ≡ changes ++ rewritten host line.number read
    → ((rest : List Change) → IsPlanned told host left rest → IsPlanned told host lines (changes ++ rest))
    → (rest : List Change) → IsPlanned told host next rest → IsPlanned told host lines (more ++ rest)
planned_behind told host lines left next line read changes more split is pushed before rest planned =
    subst (IsPlanned told host lines)
    (sym (append_assoc changes (rewritten host line.number read) rest) ∙ ap (λ (cs : List Change). cs ++ rest) (sym pushed))
    (before (rewritten host line.number read ++ rest)
    (subst (λ (ls : List Line). IsPlanned told host ls (rewritten host line.number read ++ rest)) (sym split)
    (planned_front told host line next read rest is planned)))

pub planned_more : (told : Option Files) (host i : ℕ) (lines : List Line) (d : Line) (read : TableFile) (changes more : List Change)
    → i < length lines → ((all : Files) → told ≡ Some all → IsTableRead read (all (Table host (get_or lines i d).number)))
    → more ≡ changes ++ rewritten host (get_or lines i d).number read → GoesOn told host i lines changes
    → GoesOn told host (i + 1) lines more
planned_more told host i lines d read changes more within is pushed before =
    planned_behind told host lines (drop i lines) (drop (i + 1) lines) (get_or lines i d) read changes more
    (drop-cons lines i d within ∙ ap (λ (n : ℕ). get_or lines i d ∷ drop n lines) (sym (add-one i))) is pushed before

drop_whole : {A : Type 0} (xs : List A) → drop (length xs) xs ≡ []
drop_whole [] = refl
drop_whole (x ∷ xs) = drop_whole xs

pub planned_all : (told : Option Files) (host i : ℕ) (lines : List Line) (changes : List Change) → i ≡ length lines
    → GoesOn told host i lines changes → IsPlanned told host lines changes
planned_all told host i lines changes end before =
    subst (IsPlanned told host lines) (append-nil changes)
    (before [] (subst (λ (ls : List Line). IsPlanned told host ls []) (sym (ap (λ (n : ℕ). drop n lines) end ∙ drop_whole lines))
    (nothing_planned told host)))

-- ---- the plan of a host

some_same : {A : Type 0} (x y : A) → Some x ≡ Some y → x ≡ y
some_same x y e = cc

pub changes_planned : (told : Option Files) (hosts : List HostIndex) (host : ℕ) (index : HostIndex) (changes : List Change) → IsCatalog hosts
    → slice_get hosts host ≡ Some index → IsPlanned told host index.lines changes → AreChanges changes
changes_planned told hosts host index changes catalog here planned =
    subst AreChanges (sym planned.are)
    (are_changes host 0 index.next index.lines planned.files (catalog.each host index here).sound.in_turn)

-- by the number that the index has
pub planned_of : (told : Option Files) (hosts : List HostIndex) (host file : ℕ) (index : HostIndex) (lines : List Line) (changes : List Change)
    → slice_get hosts host ≡ Some index → file ≡ host → lines ≡ index.lines → IsPlanned told file lines changes
    → (other : HostIndex) → slice_get hosts host ≡ Some other → IsPlanned told host other.lines changes
planned_of told hosts host file index lines changes here same are planned other there =
    subst (λ (i : HostIndex). IsPlanned told host i.lines changes) (some_same index other (sym here ∙ there))
    (subst (λ (ls : List Line). IsPlanned told host ls changes) are
    (subst (λ (h : ℕ). IsPlanned told h lines changes) same planned))

pub plan_fault : (told : Option Files) (catalog : Known) (host file : ℕ) (index : HostIndex) (lines : List Line) (fault : ViewFault)
    → slice_get catalog.hosts host ≡ Some index → file ≡ host → lines ≡ index.lines
    → SaysOneDamaged told file lines fault → IsPlanFault told catalog host (refusal_of_view fault)
plan_fault told catalog host file index lines V.Disk here same are says = tt
plan_fault told catalog host file index lines V.Memory here same are says = tt
plan_fault told catalog host file index lines (V.Damaged found bytes) here same are says = λ other e.
    subst (λ (i : HostIndex). IsDamaged told host i.lines found bytes) (some_same index other (sym here ∙ e))
    (subst (λ (ls : List Line). IsDamaged told host ls found bytes) are
    (subst (λ (h : ℕ). IsDamaged told h lines found bytes) same (says found bytes refl)))
