-- Changes of files that lead from one catalog to another.
use Rattle.std.proofs.Common.{◌≡◌, inl, inr, ℕ, ◌+◌, ◌<◌, Bool, true, false, List, [], ◌∷◌, ◌++◌, length, cond, get_or, Option, Some, refl, sym, ap, subst, ◌∙◌, arith}
use Rattle.std.specs.Prelude.{slice_get}
use Rattle.disk_trait.specs.declared.ids.FileId.{FileId}
use Rattle.disk_trait.specs.declared.ids.FileId.TheVariants.{Head, Host}
use Rattle.disk_trait.specs.Names.{is_same_file, is_metadata}
use Rattle.disk_trait.specs.Files.{Files, with_bytes}
use Rattle.intent_journal.specs.declared.changes.Change.{Change}
use Rattle.intent_journal.specs.Changes.{names}
use Rattle.backup_rules.specs.Values.{RuleSet}
use Rattle.backup_index.specs.Index.{Index, index_of}
use Rattle.backup_index.specs.Lines.{IsSound}
use Rattle.backup_index.specs.Names.{has_name}
use Rattle.office_catalog.specs.Known.{Known, known_of, names_of, head_of, with_change, with_host, with_epoch, given_lines, given_commit, new_host, IsHost, IsCatalog}
use Rattle.backup_rules.specs.declared.lines.Line.{Line}
use Rattle.receipts.specs.declared.receipt.Receipt.{Receipt}
use Rattle.office_catalog.specs.Held.{HoldsHead, HoldsIndex, HoldsNames, HoldsCatalog}
use Rattle.std.specs.Prelude.{IfOk, Result}
use Rattle.office_catalog.specs.declared.edits.CatalogEdit.{CatalogEdit}
use Rattle.office_catalog.specs.declared.edits.CatalogEdit.TheVariants.{SetEpoch, AddHost}
use Rattle.office_catalog.specs.declared.named.NamedHost.{NamedHost}
use Rattle.std.proofs.lemmas.Option.{same_Some}
use Rattle.office_catalog.specs.declared.edits.CatalogChange.{CatalogChange}
use Rattle.office_catalog.specs.Changed.{Leads, Proposes, edited}
use Rattle.office_catalog.proofs.Hosts.{Keeps, names_changed, names_pushed, catalog_changed, catalog_pushed, changed_alike, item_pushed, item_within, item_at}
use Rattle.office_catalog.proofs.Holding.{Head-not-Host, head_there, head_beside, host_beside, host_there, host_other, held_as, names_as, each_changed}

metadata : (change : Change) (file : FileId) → is_metadata file ≡ true → change.file ≡ file → is_metadata change.file ≡ true
metadata change file is same = ap is_metadata same ∙ is

-- ---- one index changed

-- no hosts have no index to be changed
names_kept : (f : Index → Index) (host : ℕ) (known : Known) (found : Option (List ℕ)) → Keeps f → host < length known.hosts → HoldsNames known found → HoldsNames (with_change known host f) found
names_kept f host known found keeps within (inl head) =
    inl (subst (λ (l : List (List ℕ)). HoldsHead (record { epoch = known.epoch; names = l }) found) (sym (names_changed f keeps.name host known.hosts)) head)
names_kept f host known found keeps within (inr none) = absurd (let empty : length known.hosts ≡ 0 = ap (λ (k : Known). length k.hosts) none.1 in omega (arith, empty))

pub leads_change : (f : Index → Index) (known : Known) (host : ℕ) (change : Change) → Keeps f → host < length known.hosts
    → ((index : Index) → slice_get known.hosts host ≡ Some index → IsSound (f index).next (f index).lines)
    → change.file ≡ Host host
    → ((index : Index) → slice_get known.hosts host ≡ Some index → HoldsIndex (f index) change.bytes)
    → Leads known (with_change known host f) (Host host ∷ []) (change ∷ [])
leads_change f known host change keeps within sound file holds = record {
  are = (metadata change (Host host) refl file, refl, tt);
  named = ap (λ (file : FileId). file ∷ []) file;
  leads = λ all held. subst (λ (file : FileId). HoldsCatalog (with_bytes all file change.bytes) (with_change known host f)) (sym file) (record {
    is = catalog_changed f host known.hosts keeps sound held.is;
    head = names_as (with_change known host f) (all Head) (with_bytes all (Host host) change.bytes Head) (head_beside all host change.bytes) (names_kept f host known (all Head) keeps within held.head);
    each = each_changed f host known.hosts all change.bytes holds held.each;
  });
}

-- ---- another epoch

pub leads_epoch : (known : Known) (epoch : ℕ) (change : Change) → change.file ≡ Head → HoldsHead (head_of (with_epoch known epoch)) change.bytes
    → Leads known (with_epoch known epoch) (Head ∷ []) (change ∷ [])
leads_epoch known epoch change file holds = record {
  are = (metadata change Head refl file, refl, tt);
  named = ap (λ (file : FileId). file ∷ []) file;
  leads = λ all held. subst (λ (file : FileId). HoldsCatalog (with_bytes all file change.bytes) (with_epoch known epoch)) (sym file) (record {
    is = held.is;
    head = inl (record { fits = holds.fits; is = head_there all change.bytes ∙ holds.is });
    each = λ host index there. held_as index (all (Host host)) (with_bytes all Head change.bytes (Host host)) (host_beside all change.bytes host) (held.each host index there);
  });
}

-- ---- one host more

pub leads_host : (known : Known) (index : Index) (first second : Change) → length known.hosts < 1024 → has_name (names_of known.hosts) index.name ≡ false
    → IsHost (length known.hosts) index
    → first.file ≡ Head → HoldsHead (record { epoch = known.epoch; names = names_of known.hosts ++ index.name ∷ [] }) first.bytes
    → second.file ≡ Host (length known.hosts) → HoldsIndex index second.bytes
    → Leads known (with_host known index) (Head ∷ Host (length known.hosts) ∷ []) (first ∷ second ∷ [])
leads_host known index first second room fresh host first_file head second_file holds =
    let count = length known.hosts in record {
      are = (metadata first Head refl first_file, other_names, (metadata second (Host count) refl second_file, refl, tt));
      named = ap (λ (a : FileId). a ∷ second.file ∷ []) first_file ∙ ap (λ (a : FileId). Head ∷ a ∷ []) second_file;
      leads = λ all held.
          subst (λ (a : FileId). HoldsCatalog (with_bytes (with_bytes all a first.bytes) second.file second.bytes) (with_host known index)) (sym first_file)
          (subst (λ (a : FileId). HoldsCatalog (with_bytes (with_bytes all Head first.bytes) a second.bytes) (with_host known index)) (sym second_file)
          (held_with all held));
    }
  where
    other_names : names (second ∷ []) first.file ≡ false
    other_names =
        subst (λ (a : FileId). names (second ∷ []) a ≡ false) (sym first_file)
        (ap (λ (b : Bool). cond b true false) (ap (is_same_file Head) second_file ∙ Head-not-Host (length known.hosts)))

    held_with : (all : Files) → HoldsCatalog all known → HoldsCatalog (with_bytes (with_bytes all Head first.bytes) (Host (length known.hosts)) second.bytes) (with_host known index)
    held_with all held =
        let count = length known.hosts in
        let between = with_bytes all Head first.bytes in
        let files = with_bytes between (Host count) second.bytes in
        record {
          is = catalog_pushed known.hosts index held.is room fresh host;
          head = inl (subst (λ (l : List (List ℕ)). HoldsHead (record { epoch = known.epoch; names = l }) (files Head)) (sym (names_pushed known.hosts index))
              (record { fits = head.fits; is = head_beside between count second.bytes ∙ head_there all first.bytes ∙ head.is }));
          each = λ i other there. elim (item_pushed known.hosts index i other there) [
            | inl before ↦ held_as other (all (Host i)) (files (Host i))
                (host_other between count second.bytes i (λ same. below i other before same) ∙ host_beside all first.bytes i) (held.each i other before)
            | inr last ↦ subst (λ (x : Index). HoldsIndex x (files (Host i))) (sym last.1)
                (held_as index second.bytes (files (Host i)) (host_there between count second.bytes i last.0) holds)
          ];
        }
      where
        below : (i : ℕ) (other : Index) → slice_get known.hosts i ≡ Some other → i ≡ length known.hosts → ⊥
        below i other there same = let within = item_within known.hosts i other there in omega (arith, within, same)

-- ---- proposals

abbrev change_of : CatalogEdit → List Change → CatalogChange
change_of edit changes = record { edit = edit; changes = changes }

-- the index that the code found, and the parts of the new one
pub record IsFound (known : Known) (host : ℕ) (slice : List Index) (index : Index) : Type 0 where
  pub within : host < length known.hosts
  pub slice_is : slice ≡ known.hosts
  pub is : index ≡ get_or slice host index

pub found_by : (known : Known) (host : ℕ) (slice : List Index) (index : Index) → host < length known.hosts → slice ≡ known.hosts → index ≡ get_or slice host index → IsFound known host slice index
found_by known host slice index within slice_is is = record { within = within; slice_is = slice_is; is = is }

pub found_there : (known : Known) (host : ℕ) (slice : List Index) (index : Index) → IsFound known host slice index → slice_get known.hosts host ≡ Some index
found_there known host slice index found =
    item_at known.hosts host index found.within ∙ ap Some (ap (λ (l : List Index). get_or l host index) (sym found.slice_is) ∙ sym found.is)

pub found_only : (known : Known) (host : ℕ) (slice : List Index) (index other : Index) → IsFound known host slice index → slice_get known.hosts host ≡ Some other → index ≡ other
found_only known host slice index other found there = same_Some index other (sym (found_there known host slice index found) ∙ there)

pub proposes_change : (f : Index → Index) (known : Known) (host : ℕ) (slice : List Index) (index parts : Index) (edit : CatalogEdit) (change : Change) (changes : List Change) → Keeps f
    → IsCatalog known.hosts → IsFound known host slice index → parts ≡ index → IsSound (f index).next (f index).lines
    → edited edit known ≡ with_change known host f → changes ≡ change ∷ [] → change.file ≡ Host parts.host → HoldsIndex (f parts) change.bytes
    → Proposes known (with_change known host f) (Host host ∷ []) (change_of edit changes)
proposes_change f known host slice index parts edit change changes keeps are found parts_is sound after one file holds =
    let there = found_there known host slice index found in
    let number : parts.host ≡ host = ap (λ (i : Index). i.host) parts_is ∙ (are.each host index there).number in
    record {
      after_is = after;
      leads = subst (Leads known (with_change known host f) (Host host ∷ [])) (sym one)
          (leads_change f known host change keeps found.within
          (λ other at. subst (λ (i : Index). IsSound (f i).next (f i).lines) (found_only known host slice index other found at) sound)
          (file ∙ ap Host number)
          (λ other at. subst (λ (i : Index). HoldsIndex (f i) change.bytes) (parts_is ∙ found_only known host slice index other found at) holds));
    }

-- the same change of the index, said otherwise
pub proposes_alike : {E : Type 0} (f g : Index → Index) (known : Known) (host : ℕ) (slice : List Index) (index : Index) (result : Result CatalogChange E) → IsFound known host slice index → f index ≡ g index
    → IfOk result (Proposes known (with_change known host f) (Host host ∷ [])) → IfOk result (Proposes known (with_change known host g) (Host host ∷ []))
proposes_alike f g known host slice index result found same proposes =
    subst (λ (k : Known). IfOk result (Proposes known k (Host host ∷ [])))
    (ap (known_of known.epoch) (changed_alike f g host known.hosts (λ other there. subst (λ (i : Index). f i ≡ g i) (found_only known host slice index other found there) same)))
    proposes

pub proposes_epoch : (known : Known) (epoch : ℕ) (named : List (List ℕ)) (change : Change) (changes : List Change) → epoch ≡ known.epoch → named ≡ names_of known.hosts
    → changes ≡ change ∷ [] → change.file ≡ Head → HoldsHead (record { epoch = epoch + 1; names = named }) change.bytes
    → Proposes known (with_epoch known (known.epoch + 1)) (Head ∷ []) (change_of (SetEpoch (epoch + 1)) changes)
proposes_epoch known epoch named change changes epoch_is named_is one file holds = record {
  after_is = ap (λ (e : ℕ). with_epoch known (e + 1)) epoch_is;
  leads = subst (Leads known (with_epoch known (known.epoch + 1)) (Head ∷ [])) (sym one)
      (leads_epoch known (known.epoch + 1) change file
      (subst (λ (e : ℕ). HoldsHead (record { epoch = e + 1; names = names_of known.hosts }) change.bytes) epoch_is
      (subst (λ (l : List (List ℕ)). HoldsHead (record { epoch = epoch + 1; names = l }) change.bytes) named_is holds)));
}

pub proposes_host : (known : Known) (index made parts : Index) (named : List (List ℕ)) (epoch : ℕ) (entry : NamedHost) (first second : Change) (changes : List Change)
    → made ≡ index → length known.hosts < 1024 → has_name (names_of known.hosts) index.name ≡ false → IsHost (length known.hosts) index
    → epoch ≡ known.epoch → named ≡ names_of known.hosts ++ index.name ∷ []
    → first.file ≡ Head → HoldsHead (record { epoch = epoch; names = named }) first.bytes
    → parts ≡ made → second.file ≡ Host parts.host → HoldsIndex parts second.bytes
    → changes ≡ first ∷ second ∷ []
    → Proposes known (with_host known index) (Head ∷ Host (length known.hosts) ∷ []) (change_of (AddHost entry made) changes)
proposes_host known index made parts named epoch entry first second changes made_is room fresh host epoch_is named_is first_file head parts_is second_file holds two = record {
  after_is = ap (with_host known) made_is;
  leads = subst (Leads known (with_host known index) (Head ∷ Host (length known.hosts) ∷ [])) (sym two)
      (leads_host known index first second room fresh host first_file
      (subst (λ (e : ℕ). HoldsHead (record { epoch = e; names = names_of known.hosts ++ index.name ∷ [] }) first.bytes) epoch_is
      (subst (λ (l : List (List ℕ)). HoldsHead (record { epoch = epoch; names = l }) first.bytes) named_is head))
      (second_file ∙ ap Host (ap (λ (i : Index). i.host) (parts_is ∙ made_is) ∙ host.number))
      (subst (λ (i : Index). HoldsIndex i second.bytes) (parts_is ∙ made_is) holds));
}

pub same_lines : (index : Index) (next next' : ℕ) (lines lines' : List Line) → next ≡ next' → lines ≡ lines' → given_lines next lines index ≡ given_lines next' lines' index
same_lines index next next' lines lines' same alike = ap (λ (n : ℕ). given_lines n lines index) same ∙ ap (λ (l : List Line). given_lines next' l index) alike

pub same_commit : (index : Index) (next next' : ℕ) (receipts receipts' : List Receipt) (lines lines' : List Line) → next ≡ next' → receipts ≡ receipts' → lines ≡ lines' → given_commit next receipts lines index ≡ given_commit next' receipts' lines' index
same_commit index next next' receipts receipts' lines lines' same given alike = λ i. given_commit (same i) (given i) (alike i) index

pub new_is : (made : Index) (slice hosts : List Index) (name : List ℕ) (rules : RuleSet) (receipts : List Receipt) (lines : List Line) → made ≡ index_of (length slice) name rules 0 0 0 receipts lines → slice ≡ hosts → receipts ≡ [] → lines ≡ []
    → made ≡ new_host (length hosts) name rules
new_is made slice hosts name rules receipts lines is same bare none =
    is ∙ ap (λ (l : List Index). index_of (length l) name rules 0 0 0 receipts lines) same ∙ (λ i. index_of (length hosts) name rules 0 0 0 (bare i) (none i))

pub new_sound : (host : ℕ) (name : List ℕ) (rules : RuleSet) → IsHost host (new_host host name rules)
new_sound host name rules = record { number = refl; sound = record { bound = omega arith; in_turn = tt } }
