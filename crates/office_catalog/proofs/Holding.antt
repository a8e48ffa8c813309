-- What files hold, with one of them changed.
use Rattle.std.proofs.Common.{◌≡◌, inl, inr, ℕ, true, false, List, Option, Some, refl, sym, ap, subst, ◌∙◌}
use Rattle.std.specs.Prelude.{slice_get}
use Rattle.disk_trait.specs.declared.ids.FileId.{FileId}
use Rattle.disk_trait.specs.declared.ids.FileId.TheVariants.{Head, Host, Intent, Gate, Table, Counts, PoolIndex, PoolBucket, Partial, Pool, Stage}
use Rattle.disk_trait.specs.Names.{is_same_file}
use Rattle.disk_trait.specs.NamesLaws.{same_file, is_same_file-itself}
use Rattle.disk_trait.specs.Files.{Files, with_bytes}
use Rattle.intent_journal.specs.ChangesLaws.{either, with_bytes_there, with_bytes_other}
use Rattle.wire_bytes.specs.Seal.{sealed}
use Rattle.wire_bytes.specs.Grammar.{seen_as}
use Rattle.backup_index.specs.declared.layouts.IndexLayout.{IndexLayout}
use Rattle.backup_index.specs.declared.layouts.IndexLayout.TheVariants.{Third}
use Rattle.backup_index.specs.Index.{Index, IsIndex, IsStored}
use Rattle.backup_index.specs.ReceiptLaws.{receipts_fit}
use Rattle.backup_index.specs.Stored.{index_grammar}
use Rattle.office_catalog.specs.Known.{Known, changed_at}
use Rattle.office_catalog.specs.Held.{HoldsIndex, HoldsNames, HoldsCatalog}
use Rattle.office_catalog.proofs.Hosts.{IsItem, item_changed}

-- ---- names of files

pub Head-not-Host : (host : ℕ) → is_same_file Head (Host host) ≡ false
unfolding is_same_file
Head-not-Host host = refl

pub Host-not-Head : (host : ℕ) → is_same_file (Host host) Head ≡ false
unfolding is_same_file
Host-not-Head host = refl

abbrev host_of : FileId → ℕ
host_of Head = 0
host_of Intent = 0
host_of Gate = 0
host_of (Host host) = host
host_of (Table host number) = 0
host_of (Counts host) = 0
host_of PoolIndex = 0
host_of (PoolBucket byte) = 0
host_of (Partial host) = 0
host_of (Pool id) = 0
host_of (Stage number) = 0

pub other_host : (a b : ℕ) → (a ≡ b → ⊥) → is_same_file (Host a) (Host b) ≡ false
other_host a b differ = elim (either (is_same_file (Host a) (Host b))) [
  | inl same ↦ absurd (differ (ap host_of (same_file (Host a) (Host b) same)))
  | inr other ↦ other
]

pub same_host : (a b : ℕ) → a ≡ b → is_same_file (Host a) (Host b) ≡ true
same_host a b same = ap (λ (n : ℕ). is_same_file (Host n) (Host b)) same ∙ is_same_file-itself (Host b)

-- ---- one file changed

pub head_there : (all : Files) (bytes : Option (List ℕ)) → with_bytes all Head bytes Head ≡ bytes
head_there all bytes = with_bytes_there all Head bytes Head (is_same_file-itself Head)

pub head_beside : (all : Files) (host : ℕ) (bytes : Option (List ℕ)) → with_bytes all (Host host) bytes Head ≡ all Head
head_beside all host bytes = with_bytes_other all (Host host) bytes Head (Head-not-Host host)

pub host_beside : (all : Files) (bytes : Option (List ℕ)) (host : ℕ) → with_bytes all Head bytes (Host host) ≡ all (Host host)
host_beside all bytes host = with_bytes_other all Head bytes (Host host) (Host-not-Head host)

pub host_there : (all : Files) (host : ℕ) (bytes : Option (List ℕ)) (i : ℕ) → i ≡ host → with_bytes all (Host host) bytes (Host i) ≡ bytes
host_there all host bytes i same = with_bytes_there all (Host host) bytes (Host i) (same_host i host same)

pub host_other : (all : Files) (host : ℕ) (bytes : Option (List ℕ)) (i : ℕ) → (i ≡ host → ⊥) → with_bytes all (Host host) bytes (Host i) ≡ all (Host i)
host_other all host bytes i differ = with_bytes_other all (Host host) bytes (Host i) (other_host i host differ)

pub held_as : (index : Index) (found found' : Option (List ℕ)) → found' ≡ found → HoldsIndex index found → HoldsIndex index found'
held_as index found found' same holds = record { layout = holds.layout; fits = holds.fits; is = same ∙ holds.is }

pub names_as : (known : Known) (found found' : Option (List ℕ)) → found' ≡ found → HoldsNames known found → HoldsNames known found'
names_as known found found' same (inl head) = inl (record { fits = head.fits; is = same ∙ head.is })
names_as known found found' same (inr none) = inr (same ∙ none.0, none.1)

-- each index behind a change of one
pub each_changed : (f : Index → Index) (host : ℕ) (hosts : List Index) (all : Files) (bytes : Option (List ℕ))
    → ((index : Index) → slice_get hosts host ≡ Some index → HoldsIndex (f index) bytes)
    → ((i : ℕ) (index : Index) → slice_get hosts i ≡ Some index → HoldsIndex index (all (Host i)))
    → (i : ℕ) (index : Index) → slice_get (changed_at f host hosts) i ≡ Some index → HoldsIndex index (with_bytes all (Host host) bytes (Host i))
each_changed f host hosts all bytes new each i index there = step (item_changed f host hosts i index there)
  where
    step : IsItem f host hosts i index → HoldsIndex index (with_bytes all (Host host) bytes (Host i))
    step item = elim item.is [
      | inl here ↦ subst (λ (x : Index). HoldsIndex x (with_bytes all (Host host) bytes (Host i))) (sym here.1)
          (held_as (f item.old) bytes (with_bytes all (Host host) bytes (Host i)) (host_there all host bytes i here.0)
          (new item.old (subst (λ (k : ℕ). slice_get hosts k ≡ Some item.old) here.0 item.there)))
      | inr other ↦ subst (λ (x : Index). HoldsIndex x (with_bytes all (Host host) bytes (Host i))) (sym other.1)
          (held_as item.old (all (Host i)) (with_bytes all (Host host) bytes (Host i)) (host_other all host bytes i other.0) (each i item.old item.there))
    ]

-- files with the same Head and the same Host files hold the same
pub holds_as : (all others : Files) (known : Known) → others Head ≡ all Head → ((host : ℕ) → others (Host host) ≡ all (Host host)) → HoldsCatalog all known → HoldsCatalog others known
holds_as all others known head hosts holds = record {
  is = holds.is;
  head = names_as known (all Head) (others Head) head holds.head;
  each = λ host index there. held_as index (all (Host host)) (others (Host host)) (hosts host) (holds.each host index there);
}

-- an index that was written
stored : (index : Index) → IsIndex index → IsStored (Third, index)
unfolding seen_as
stored index is = record { index = is; rules = is.rules; receipts = receipts_fit index.receipts is.receipts is.each_receipt }

pub written : (index : Index) (bytes : List ℕ) → bytes ≡ sealed ((index_grammar).print (Third, index)) → IsIndex index → HoldsIndex index (Some bytes)
written index bytes file fits = record { layout = Third; fits = stored index fits; is = ap Some file }

-- an index that was read
pub read : (found : IndexLayout × Index) (bytes : List ℕ) → (index_grammar).Fits found → bytes ≡ sealed ((index_grammar).print found) → HoldsIndex found.1 (Some bytes)
unfolding seen_as
read found bytes fits file = record { layout = found.0; fits = fits; is = ap Some file }

pub stored_fits : (found : IndexLayout × Index) → IsStored found → (index_grammar).Fits found
unfolding seen_as
stored_fits found is = is
