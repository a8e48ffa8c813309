-- What an opening finds, step by step.
use Rattle.std.proofs.Common.{◌≡◌, ◌⊎◌, inl, inr, ℕ, ◌+◌, ◌<◌, ◌≤◌, false, List, [], ◌∷◌, ◌++◌, length, take, get_or, Option, Some, None, refl, sym, ap, subst, ◌∙◌, arith}
use Rattle.std.specs.Prelude.{slice_get, IfOk, IfErr, Result, Err, Ok}
use Rattle.std.proofs.lemmas.Option.{none-some}
use Rattle.std.proofs.lemmas.List.{take_all, take_more}
use Rattle.wire_bytes.specs.Seal.{sealed}
use Rattle.wire_bytes.specs.Grammar.{seen_as}
use Rattle.disk_trait.specs.declared.ids.FileId.{FileId}
use Rattle.disk_trait.specs.declared.ids.FileId.TheVariants.{Head, Host}
use Rattle.disk_trait.specs.Files.{Files}
use Rattle.backup_index.specs.declared.head.HeadFile.{HeadFile}
use Rattle.backup_index.specs.declared.layouts.IndexLayout.{IndexLayout}
use Rattle.backup_index.specs.Head.{IsHead, head_grammar}
use Rattle.backup_index.specs.Index.{Index}
use Rattle.backup_index.specs.Stored.{index_grammar}
use Rattle.office_catalog.specs.declared.fault.CatalogFault.{CatalogFault}
use Rattle.office_catalog.specs.declared.fault.CatalogFault.TheVariants.{Foreign, Disk, Memory}
use Rattle.office_catalog.specs.Known.{Known, known_of, names_of, IsCatalog}
use Rattle.office_catalog.specs.Held.{HoldsHead, HoldsIndex, HoldsCatalog, IsNoHead, IsNoIndex, IsAnother, IsUncalled}
use Rattle.office_catalog.specs.Opening.{SaysNoHead, IsHeadOf, TellsHead, IsCalled, SaysUncalled, SaysHost, SaysForeign, IsPushed}
use Rattle.office_catalog.proofs.Hosts.{catalog_none, item_pushed, item_at, length_names, names_pushed}
use Rattle.office_catalog.proofs.Naming.{length_take, fresh_at}
use Rattle.backup_index.specs.Names.{AreNames, has_name}
use Rattle.office_catalog.proofs.Holding.{read, stored_fits}

some_none : (n : ℕ) → Some n ≡ None → ⊥
some_none n e = cc

-- ---- Head

head_fits : (head : HeadFile) → IsHead head → (head_grammar).Fits head
unfolding seen_as
head_fits head is = is

head_is : (head : HeadFile) → (head_grammar).Fits head → IsHead head
unfolding seen_as
head_is head fits = fits

pub head_read : (head : HeadFile) (bytes slice : List ℕ) → slice ≡ bytes → (head_grammar).Fits head × (slice ≡ sealed ((head_grammar).print head)) → HoldsHead head (Some bytes)
head_read head bytes slice same found = record { fits = head_is head found.0; is = ap Some (sym same ∙ found.1) }

pub no_head : (bytes slice : List ℕ) (offset : ℕ) (told : Option ℕ) → slice ≡ bytes → told ≡ Some offset
    → ((head : HeadFile) → (head_grammar).Fits head → slice ≡ sealed ((head_grammar).print head) → told ≡ None) → IsNoHead (Some bytes)
no_head bytes slice offset told same tells back = record {
  bytes = bytes;
  is = refl;
  none = λ head is e. some_none offset (sym tells ∙ back head (head_fits head is) (same ∙ e));
}

-- ---- the index of a host

pub no_index : (bytes slice : List ℕ) (offset : ℕ) (told : Option ℕ) → slice ≡ bytes → told ≡ Some offset
    → ((stored : IndexLayout × Index) → (index_grammar).Fits stored → slice ≡ sealed ((index_grammar).print stored) → told ≡ None) → IsNoIndex (Some bytes)
no_index bytes slice offset told same tells back = record {
  bytes = bytes;
  is = refl;
  none = λ stored is e. some_none offset (sym tells ∙ back stored (stored_fits stored is) (same ∙ e));
}

pub index_read : (stored : IndexLayout × Index) (bytes slice : List ℕ) → slice ≡ bytes → (index_grammar).Fits stored × (slice ≡ sealed ((index_grammar).print stored)) → HoldsIndex stored.1 (Some bytes)
index_read stored bytes slice same found = read stored bytes found.0 (sym same ∙ found.1)

pub another : (host : ℕ) (name : List ℕ) (index : Index) (found : Option (List ℕ)) → HoldsIndex index found → (IsCalled host name index → ⊥) → IsAnother host name found
another host name index found holds not = record { index = index; holds = holds; other = λ host_is name_is. not (record { host_is = host_is; name_is = name_is }) }

pub if_called_ok : (host : ℕ) (name bytes : List ℕ) (read : Index) (result : Result Index CatalogFault) → HoldsIndex read (Some bytes)
    → IfOk result (λ called. (called ≡ read) × IsCalled host name read) → IfOk result (λ index. HoldsIndex index (Some bytes) × IsCalled host name index)
if_called_ok host name bytes read (Ok called) holds is = (subst (λ (i : Index). HoldsIndex i (Some bytes)) (sym is.0) holds, subst (IsCalled host name) (sym is.0) is.1)
if_called_ok host name bytes read (Err fault) holds is = tt

pub if_called_err : (host : ℕ) (name bytes : List ℕ) (read : Index) (result : Result Index CatalogFault) → HoldsIndex read (Some bytes)
    → IfErr result (λ fault. (fault ≡ Foreign (Host host) (Some bytes)) × (IsCalled host name read → ⊥)) → IfErr result (SaysUncalled host name (Some bytes))
if_called_err host name bytes read (Ok called) holds is = tt
if_called_err host name bytes read (Err fault) holds is = inr (is.0, inr (inr (another host name read (Some bytes) holds is.1)))

-- ---- faults

fault_file : CatalogFault → FileId
fault_file (Foreign file found) = file
fault_file Disk = Head
fault_file Memory = Head

fault_found : CatalogFault → Option (List ℕ)
fault_found (Foreign file found) = found
fault_found Disk = None
fault_found Memory = None

same_file_found : (file file' : FileId) (found found' : Option (List ℕ)) → Foreign file found ≡ Foreign file' found' → (file' ≡ file) × (found' ≡ found)
unfolding fault_file fault_found
same_file_found file file' found found' e = (sym (ap fault_file e), sym (ap fault_found e))

not_memory : (file : FileId) (found : Option (List ℕ)) → Foreign file found ≡ Memory → ⊥
not_memory file found e = cc

not_disk : (file : FileId) (found : Option (List ℕ)) → Foreign file found ≡ Disk → ⊥
not_disk file found e = cc

-- a fault of a journal says nothing of files
pub says_host_plain : (told : Option Files) (host : ℕ) (name : List ℕ) (fault : CatalogFault) → (fault ≡ Disk) ⊎ (fault ≡ Memory) → SaysHost told host name fault
says_host_plain told host name fault (inl disk) = λ file found is. absurd (not_disk file found (sym is ∙ disk))
says_host_plain told host name fault (inr memory) = λ file found is. absurd (not_memory file found (sym is ∙ memory))

pub says_plain : (told : Option Files) (fault : CatalogFault) → (fault ≡ Disk) ⊎ (fault ≡ Memory) → SaysForeign told fault
says_plain told fault (inl disk) = λ file found is. absurd (not_disk file found (sym is ∙ disk))
says_plain told fault (inr memory) = λ file found is. absurd (not_memory file found (sym is ∙ memory))

pub says_no_head : (told : Option Files) (bytes : List ℕ) (fault : CatalogFault) → ((all : Files) → told ≡ Some all → Some bytes ≡ all Head) → SaysNoHead bytes fault → SaysForeign told fault
says_no_head told bytes fault there (inl memory) = says_plain told fault (inr memory)
says_no_head told bytes fault there (inr bad) = λ file found is.
    let same = same_file_found Head file (Some bytes) found (sym bad.0 ∙ is) in
    record {
      there = λ all all_is. same.1 ∙ there all all_is ∙ ap all (sym same.0);
      why = inl (same.0, subst IsNoHead (sym same.1) bad.1);
    }

pub says_host : (told : Option Files) (host : ℕ) (name : List ℕ) (found : Option (List ℕ)) (fault : CatalogFault) → ((all : Files) → told ≡ Some all → found ≡ all (Host host))
    → SaysUncalled host name found fault → SaysHost told host name fault
says_host told host name found fault there (inl memory) = says_host_plain told host name fault (inr memory)
says_host told host name found fault there (inr uncalled) = λ file found' is.
    let same = same_file_found (Host host) file found found' (sym uncalled.0 ∙ is) in
    record {
      file_is = same.0;
      there = λ all all_is. same.1 ∙ there all all_is ∙ ap all (sym same.0);
      why = subst (IsUncalled host name) (sym same.1) uncalled.1;
    }

-- a host that Head calls for
pub says_foreign : (told : Option Files) (host : ℕ) (name : List ℕ) (head : HeadFile) (fault : CatalogFault) → TellsHead told head → slice_get head.names host ≡ Some name → SaysHost told host name fault
    → SaysForeign told fault
says_foreign told host name head fault tells named says = λ file found is.
    let of = says file found is in
    record {
      there = of.there;
      why = inr (record { host = host; name = name; head = head; file_is = of.file_is; named = named; called = tells; why = of.why });
    }

-- told by another journal that tells the same
pub says_host_back : (told told' : Option Files) (host host' : ℕ) (name : List ℕ) (fault : CatalogFault) → told' ≡ told → host' ≡ host → SaysHost told' host' name fault → SaysHost told host name fault
says_host_back told told' host host' name fault same number says =
    subst (λ (n : ℕ). SaysHost told n name fault) number (subst (λ (t : Option Files). SaysHost t host' name fault) same says)

-- ---- hosts, one after the other

-- the first of these names were read, at this epoch
pub record AreRead (told : Option Files) (epoch : ℕ) (names : List (List ℕ)) (count : ℕ) (known : Known) : Type 0 where
  pub epoch_is : known.epoch ≡ epoch
  pub names_are : names_of known.hosts ≡ take count names
  pub each : (all : Files) → told ≡ Some all → (host : ℕ) (index : Index) → slice_get known.hosts host ≡ Some index → HoldsIndex index (all (Host host))

pub none_read : (told : Option Files) (epoch : ℕ) (names : List (List ℕ)) (known : Known) → known ≡ known_of epoch [] → AreRead told epoch names 0 known
none_read told epoch names known is = subst (AreRead told epoch names 0) (sym is) (record {
  epoch_is = refl;
  names_are = refl;
  each = λ all all_is host index there. absurd (none-some index there);
})

-- how many were read
pub count_read : (told : Option Files) (epoch : ℕ) (names : List (List ℕ)) (count : ℕ) (known : Known) → count < length names → AreRead told epoch names count known → length known.hosts ≡ count
count_read told epoch names count known within are =
    let taken : length (names_of known.hosts) ≡ length (take count names) = ap length are.names_are in
    omega (arith, taken, length_names known.hosts, length_take count names within)

pub room_read : (told : Option Files) (epoch : ℕ) (names : List (List ℕ)) (count : ℕ) (known : Known) → count < length names → AreNames names → AreRead told epoch names count known → length known.hosts < 1024
room_read told epoch names count known within are read = let few : length names ≤ 1024 = are.few in omega (arith, count_read told epoch names count known within read, few, within)

pub fresh_read : (told : Option Files) (epoch : ℕ) (names : List (List ℕ)) (count : ℕ) (known : Known) (name : List ℕ) → count < length names → AreNames names → name ≡ get_or names count name
    → AreRead told epoch names count known → has_name (names_of known.hosts) name ≡ false
fresh_read told epoch names count known name within are is read =
    ap (λ (l : List (List ℕ)). has_name l name) read.names_are ∙ ap (has_name (take count names)) is ∙ fresh_at names count name are.differ within

pub more_read : (told told' : Option Files) (epoch : ℕ) (names : List (List ℕ)) (count : ℕ) (known known' : Known) (name : List ℕ) → told' ≡ told → count < length names → name ≡ get_or names count name
    → AreRead told epoch names count known → IsPushed told' name known known' → AreRead told epoch names (count + 1) known'
more_read told told' epoch names count known known' name same within is read pushed = subst (AreRead told epoch names (count + 1)) (sym pushed.new_is) (record {
  epoch_is = read.epoch_is;
  names_are =
      names_pushed known.hosts pushed.index ∙ ap (λ (l : List (List ℕ)). l ++ pushed.index.name ∷ []) read.names_are
      ∙ ap (λ (n : List ℕ). take count names ++ n ∷ []) (pushed.called.name_is ∙ is) ∙ sym (take_more names count name within);
  each = λ all all_is host index there. elim (item_pushed known.hosts pushed.index host index there) [
    | inl before ↦ read.each all all_is host index before
    | inr last ↦ subst (λ (i : Index). HoldsIndex i (all (Host host))) (sym last.1)
        (subst (λ (n : ℕ). HoldsIndex pushed.index (all (Host n))) (sym last.0) (pushed.held all (same ∙ all_is)))
  ];
})

pub all_read : (told : Option Files) (head : HeadFile) (names : List (List ℕ)) (count : ℕ) (known : Known) → names ≡ head.names → length names ≤ count → AreRead told head.epoch names count known
    → IsCatalog known.hosts → (all : Files) → told ≡ Some all → HoldsHead head (all Head) → HoldsCatalog all known
all_read told head names count known names_is over read is all all_is holds = record {
  is = is;
  head = inl (subst (λ (h : HeadFile). HoldsHead h (all Head)) (λ i. record { epoch = sym read.epoch_is i; names = sym (read.names_are ∙ take_all count names over ∙ names_is) i }) holds);
  each = read.each all all_is;
}

pub nothing_read : (told : Option Files) (known : Known) → known ≡ known_of 0 [] → ((all : Files) → told ≡ Some all → all Head ≡ None) → (all : Files) → told ≡ Some all → HoldsCatalog all known
nothing_read told known is none all all_is = subst (HoldsCatalog all) (sym is) (record {
  is = catalog_none;
  head = inr (none all all_is, refl);
  each = λ host index there. absurd (none-some index there);
})

-- the fault at a name is that of a host that Head calls for
pub fault_read : (told told' : Option Files) (head : HeadFile) (names : List (List ℕ)) (count : ℕ) (known : Known) (name : List ℕ) (fault : CatalogFault) → told' ≡ told → names ≡ head.names → count < length names
    → name ≡ get_or names count name → AreRead told head.epoch names count known → SaysHost told' (length known.hosts) name fault → TellsHead told head → SaysForeign told fault
fault_read told told' head names count known name fault same names_is within is read says tells =
    says_foreign told count name head fault tells
    (ap (λ (l : List (List ℕ)). slice_get l count) (sym names_is) ∙ item_at names count name within ∙ ap Some (sym is))
    (says_host_back told told' count (length known.hosts) name fault same (count_read told head.epoch names count known within read) says)

-- ---- the whole opening

-- Head said this, told by another journal that tells the same
pub head_told : (told : Option Files) (head : HeadFile) (read : Option HeadFile) → read ≡ Some head → ((all : Files) → told ≡ Some all → IsHeadOf read (all Head)) → TellsHead told head
head_told told head read is says = λ all all_is. subst (λ (o : Option HeadFile). IsHeadOf o (all Head)) is (says all all_is)

pub none_told : (told : Option Files) (read : Option HeadFile) → read ≡ None → ((all : Files) → told ≡ Some all → IsHeadOf read (all Head)) → (all : Files) → told ≡ Some all → all Head ≡ None
none_told told read is says = λ all all_is. subst (λ (o : Option HeadFile). IsHeadOf o (all Head)) is (says all all_is)

pub opened_of : (told told' : Option Files) (head : HeadFile) (result : Result Known CatalogFault) → told' ≡ told → TellsHead told head
    → IfOk result (λ known. (all : Files) → told' ≡ Some all → HoldsHead head (all Head) → HoldsCatalog all known)
    → IfOk result (λ known. (all : Files) → told ≡ Some all → HoldsCatalog all known)
opened_of told told' head (Ok known) same tells opened = λ all all_is. opened all (same ∙ all_is) (tells all all_is)
opened_of told told' head (Err fault) same tells opened = tt

pub foreign_of : (told told' : Option Files) (head : HeadFile) (result : Result Known CatalogFault) → told' ≡ told → TellsHead told head
    → IfErr result (λ fault. TellsHead told' head → SaysForeign told' fault) → IfErr result (SaysForeign told)
foreign_of told told' head (Ok known) same tells says = tt
foreign_of told told' head (Err fault) same tells says =
    subst (λ (t : Option Files). SaysForeign t fault) same (says (subst (λ (t : Option Files). TellsHead t head) (sym same) tells))
