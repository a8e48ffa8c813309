-- What a catalog keeps in memory, behind each change.
use Rattle.std.proofs.Common.{◌≡◌, ℕ, zero, suc, ◌+◌, ◌<◌, ◌≤◌, Bool, true, false, not, is_some, List, [], ◌∷◌, ◌++◌, length, map, take, drop, get_or, Option, Some, None, refl, sym, ap, subst, ◌∙◌, arith}
use Rattle.std.specs.Prelude.{slice_get, slice_set, insert, vec_capacity}
use Rattle.std.specs.Global.{Vec}
use Rattle.std.specs.Vec.{with_item}
use Rattle.std.specs.Prelude.{IfSome}
use Rattle.std.proofs.lemmas.Option.{none-some, same_Some}
use Rattle.std.proofs.lemmas.Bool.{false≢true}
use Rattle.backup_index.specs.Index.{Index}
use Rattle.backup_index.specs.Lines.{IsSound, broken_index}
use Rattle.backup_index.specs.LinesLaws.{none_from_sound}
use Rattle.backup_index.specs.declared.lines.IndexRule.{IndexRule}
use Rattle.office_catalog.specs.declared.named.NamedHost.{NamedHost}
use Rattle.office_catalog.specs.Known.{Known, known_of, names_of, changed_at, with_change, host_named, IsHost, IsCatalog}
use Rattle.std.specs.FinMap.Entries.{find}
use Rattle.office_catalog.specs.Named.{name_cmp, entry_of}
use Rattle.office_catalog.specs.Kept.{AreByName, IsKept}
use Rattle.office_catalog.proofs.Hosts.{Keeps, names_changed, names_pushed, changed_set, catalog_changed, catalog_pushed, catalog_none, length_names, item_at}
use Rattle.office_catalog.proofs.Naming.{named_within, none_named, by_no_name, by_one_more}
use Rattle.ordered_lists.specs.Search.{IsAbsent}
use Rattle.backup_index.specs.Names.{has_name}
use Rattle.office_catalog.specs.Changed.{IsNewHost}

module _ (f : Index → Index) (host : ℕ) where
  pub set_is : (xs : List Index) (old new : Index) → host < length xs → old ≡ get_or xs host old → new ≡ f old → slice_set xs host new ≡ changed_at f host xs
  set_is xs old new within there is = ap (slice_set xs host) (is ∙ ap f there) ∙ changed_set f host xs old within

  pub kept_change : (hosts : Vec Index) (named : Vec NamedHost) (old new : Index) → Keeps f → host < length hosts.items
      → ((index : Index) → slice_get hosts.items host ≡ Some index → IsSound (f index).next (f index).lines)
      → old ≡ get_or hosts.items host old → new ≡ f old → IsKept hosts named → IsKept (with_item hosts host new) named
  kept_change hosts named old new keeps within sound there is kept =
      let same = set_is hosts.items old new within there is in
      let names : names_of (slice_set hosts.items host new) ≡ names_of hosts.items = ap names_of same ∙ names_changed f keeps.name host hosts.items in
      record {
        are = subst IsCatalog (sym same) (catalog_changed f host hosts.items keeps sound kept.are);
        by_name = subst (λ (l : List (List ℕ)). AreByName l (map entry_of named.items)) (sym names) kept.by_name;
        room = kept.room;
        room_for_names = kept.room_for_names;
      }

  pub change_is : (epoch : ℕ) (xs : List Index) (known : Known) (old new : Index) → known_of epoch xs ≡ known → host < length xs → old ≡ get_or xs host old → new ≡ f old
      → known_of epoch (slice_set xs host new) ≡ with_change known host f
  change_is epoch xs known old new view within there is = ap (known_of epoch) (set_is xs old new within there is) ∙ ap (λ (k : Known). with_change k host f) view

pub in_view : (epoch host : ℕ) (xs : List Index) (known : Known) → known_of epoch xs ≡ known → host < length known.hosts → host < length xs
in_view epoch host xs known view within = let same : length xs ≡ length known.hosts = ap (λ (k : Known). length k.hosts) view in omega (arith, same, within)

-- sound lines break no rule
pub not_broken : (next : ℕ) (lines : List _) (rule : IndexRule) → IsSound next lines → broken_index next lines ≡ Some rule → ⊥
not_broken next lines rule sound broken = none-some rule (sym (none_from_sound next lines sound) ∙ broken)

-- the host of a name, in the order of names
pub host_found : (epoch : ℕ) (xs : List Index) (known : Known) (named slice : List NamedHost) (name : List ℕ) (found : Option ℕ) → known_of epoch xs ≡ known → slice ≡ named
    → AreByName (names_of xs) (map entry_of named) → found ≡ find name_cmp name (map entry_of slice) → found ≡ host_named (names_of known.hosts) name
host_found epoch xs known named slice name found view same by is =
    is ∙ ap (λ (l : List NamedHost). find name_cmp name (map entry_of l)) same ∙ by.finds name ∙ ap (λ (k : Known). host_named (names_of k.hosts) name) view

pub host_within : (hosts : List Index) (name : List ℕ) (host : ℕ) → Some host ≡ host_named (names_of hosts) name → host < length hosts
host_within hosts name host is = let below = named_within (names_of hosts) name host (sym is) in omega (arith, below, length_names hosts)

pub line_within : (hosts : List Index) (host : ℕ) (known : Known) (epoch : ℕ) (index : Index) (lines lines' : List _) (found : Option ℕ) → known_of epoch hosts ≡ known → host < length known.hosts → index ≡ get_or hosts host index
    → lines ≡ index.lines → lines' ≡ lines → IfSome found (λ line. line < length lines')
    → IfSome found (λ line. (other : Index) → slice_get known.hosts host ≡ Some other → line < length other.lines)
line_within hosts host known epoch index lines lines' None view within is these those below = tt
line_within hosts host known epoch index lines lines' (Some line) view within is these those below = λ other there.
    let here : slice_get hosts host ≡ Some index = item_at hosts host index (in_view epoch host hosts known view within) ∙ ap Some (sym is) in
    let same : index ≡ other = same_Some index other (sym here ∙ ap (λ (k : Known). slice_get k.hosts host) view ∙ there) in
    let count : length lines' ≡ length other.lines = ap length (those ∙ these ∙ ap (λ (i : Index). i.lines) same) in
    omega (arith, below, count)

-- ---- no host, and one host more

pub kept_none : (hosts : Vec Index) (named : Vec NamedHost) → hosts.items ≡ [] → named.items ≡ [] → 1024 ≤ vec_capacity hosts → 1024 ≤ vec_capacity named → IsKept hosts named
kept_none hosts named no_hosts no_names room room_for_names = record {
  are = subst IsCatalog (sym no_hosts) catalog_none;
  by_name = subst (λ (l : List NamedHost). AreByName (names_of hosts.items) (map entry_of l)) (sym no_names)
      (subst (λ (l : List Index). AreByName (names_of l) []) (sym no_hosts) by_no_name);
  room = room;
  room_for_names = room_for_names;
}

map_insert : (named : List NamedHost) (place : ℕ) (entry : NamedHost) → map entry_of (insert named place entry) ≡ take place (map entry_of named) ++ entry_of entry ∷ drop place (map entry_of named)
map_insert [] zero entry = refl
map_insert [] (suc place) entry = refl
map_insert (other ∷ named) zero entry = refl
map_insert (other ∷ named) (suc place) entry = ap (λ (l : List (List ℕ × ℕ)). entry_of other ∷ l) (map_insert named place entry)

length_insert : {X : Type 0} (xs : List X) (i : ℕ) (x : X) → length (take i xs ++ x ∷ drop i xs) ≡ length xs + 1
length_insert [] zero x = refl
length_insert [] (suc i) x = refl
length_insert (a ∷ xs) zero x = omega arith
length_insert (a ∷ xs) (suc i) x = let rest = length_insert xs i x in omega (arith, rest)

-- none has the name that a new host has
pub new_name : (epoch : ℕ) (hosts : List Index) (known : Known) (slice named : List NamedHost) (entry : NamedHost) (index : Index) → known_of epoch hosts ≡ known → IsNewHost known entry index → slice ≡ named
    → AreByName (names_of hosts) (map entry_of named) → find name_cmp entry.name (map entry_of slice) ≡ None
new_name epoch hosts known slice named entry index view new same by =
    let fresh : has_name (names_of hosts) entry.name ≡ false =
    ap (has_name (names_of hosts)) new.name_is ∙ ap (λ (k : Known). has_name (names_of k.hosts) index.name) view ∙ new.fresh in
    ap (λ (l : List NamedHost). find name_cmp entry.name (map entry_of l)) same ∙ by.finds entry.name ∙ none_named (names_of hosts) entry.name fresh

pub kept_pushed : (hosts hosts' : Vec Index) (named named' : Vec NamedHost) (slice : List NamedHost) (known : Known) (epoch : ℕ) (index : Index) (entry : NamedHost) (place : ℕ)
    → known_of epoch hosts.items ≡ known → IsNewHost known entry index → slice ≡ named.items → IsAbsent name_cmp (map entry_of slice) entry.name place
    → hosts'.items ≡ hosts.items ++ index ∷ [] → named'.items ≡ insert named.items place entry
    → vec_capacity hosts ≤ vec_capacity hosts' → vec_capacity named ≤ vec_capacity named' → IsKept hosts named → IsKept hosts' named'
kept_pushed hosts hosts' named named' slice known epoch index entry place view new same absent pushed put_in room room_for_names kept =
    let count : length hosts.items ≡ length known.hosts = ap (λ (k : Known). length k.hosts) view in
    let fresh : has_name (names_of hosts.items) index.name ≡ false = ap (λ (k : Known). has_name (names_of k.hosts) index.name) view ∙ new.fresh in
    let host = subst (λ (n : ℕ). IsHost n index) (sym count) new.host in
    let entries = map entry_of named.items in
    let entry_is : entry_of entry ≡ (index.name, length (names_of hosts.items)) = λ i. (new.name_is i, (new.number_is ∙ sym count ∙ sym (length_names hosts.items)) i) in
    let entries' : map entry_of named'.items ≡ take place entries ++ (index.name, length (names_of hosts.items)) ∷ drop place entries =
    ap (map entry_of) put_in ∙ map_insert named.items place entry ∙ ap (λ (e : List ℕ × ℕ). take place entries ++ e ∷ drop place entries) entry_is in
    let absent' : IsAbsent name_cmp entries index.name place =
    subst (λ (n : List ℕ). IsAbsent name_cmp entries n place) new.name_is (subst (λ (l : List NamedHost). IsAbsent name_cmp (map entry_of l) entry.name place) same absent) in
    record {
      are = subst IsCatalog (sym pushed) (catalog_pushed hosts.items index kept.are (omega (arith, count, new.room)) fresh host);
      by_name = subst (λ (l : List Index). AreByName (names_of l) (map entry_of named'.items)) (sym pushed)
          (subst (λ (l : List (List ℕ)). AreByName l (map entry_of named'.items)) (sym (names_pushed hosts.items index))
          (by_one_more (names_of hosts.items) entries (map entry_of named'.items) index.name kept.by_name fresh
          (absent'.put_is (length (names_of hosts.items)) ∙ sym entries')
          (ap length entries' ∙ length_insert entries place (index.name, length (names_of hosts.items)))));
      room = let a : 1024 ≤ vec_capacity hosts = kept.room in omega (arith, a, room);
      room_for_names = let a : 1024 ≤ vec_capacity named = kept.room_for_names in omega (arith, a, room_for_names);
    }

-- what the test of lines tells
pub none_broken : (rule : Option IndexRule) (none : Bool) → is_some rule ≡ not none → none ≡ true → rule ≡ None
none_broken None none tests is = refl
none_broken (Some rule) none tests is = absurd (false≢true (sym (tests ∙ ap not is)))

pub some_broken : (rule : Option IndexRule) (none : Bool) → is_some rule ≡ not none → none ≡ false → rule ≡ None → ⊥
some_broken rule none tests is broken = false≢true (ap is_some (sym broken) ∙ tests ∙ ap not is)
