-- Laws of specs/Fits.
use Rattle.std.specs.Prelude.{◌==◌}
use Rattle.std.proofs.Common.{◌≡◌, ℕ, ◌<◌, true, false, List, length, Option, Some, None, inl, inr, refl, sym, ap, ◌∙◌, subst}
use Rattle.std.proofs.lemmas.Bool.{false≢true}
use Rattle.disk_trait.specs.declared.ids.PoolId.{PoolId}
use Rattle.disk_trait.specs.declared.ids.FileId.{FileId}
use Rattle.disk_trait.specs.declared.ids.FileId.TheVariants.{Pool}
use Rattle.disk_trait.specs.Names.{is_same_file}
use Rattle.disk_trait.specs.Files.{Files, with_bytes}
use Rattle.disk_trait.specs.Images.{FileSet}
use Rattle.intent_journal.specs.ChangesLaws.{either, with_bytes_there, with_bytes_other}
use Rattle.pool_changes.specs.declared.slot.Slot.{Slot}
use Rattle.pool_changes.specs.declared.slot.Slot.TheVariants.{Live, Staged, Doomed}
use Rattle.pool_index.specs.Items.{is_same_id}
use Rattle.pool_index.specs.ItemLaws.{pool_id}
use Rattle.pool_changes.specs.Slots.{Slots, is_live, is_given, size_of, claimed, let_go, one_id, id_of}
use Rattle.pool_changes.specs.Kept.{IsSet}
use Rattle.pool_store.specs.Chains.{IsDamaged}
use Rattle.pool_store.specs.Pools.{IsCertain, Adds, Takes}
use Rattle.pool_changes.specs.StillLaws.{AreStill}
use Rattle.pool_store.specs.Sweeps.{IsPruned, Sweeps}
use Rattle.pool_store.specs.Fits.{Fits, IsLess}

-- no file of a live or staged name is damaged
pub not_damaged : (digest_of : List ℕ → List ℕ) (slots : Slots) (uncertain : FileSet) (all : Files) (told : Option Files) (id : PoolId) (found : Option (List ℕ))
    → Fits digest_of slots uncertain all → told ≡ Some all → is_given (slots id) ≡ true → IsDamaged digest_of told id found → ⊥
not_damaged digest_of slots uncertain all told id found fits is given damaged =
    let held = fits.held id given in
    damaged.wrong held.content (damaged.there all is ∙ held.is) held.digest

pub fits_less : (digest_of : List ℕ → List ℕ) (old new : Slots) (uncertain uncertain' : FileSet) (all all' : Files)
    → IsLess old new all all' → IsCertain old uncertain' → Fits digest_of old uncertain all → Fits digest_of new uncertain' all'
fits_less digest_of old new uncertain uncertain' all all' less certain fits = record {
  near = λ id given. fits.near id (less.given id given);
  held = λ id given.
      let held = fits.held id (less.given id given) in
      record { content = held.content; is = less.file id given ∙ held.is; digest = held.digest; size = less.size id given ∙ held.size; some = held.some };
  one = λ a b content ga gb ha hb. fits.one a b content (less.given a ga) (less.given b gb) (sym (less.file a ga) ∙ ha) (sym (less.file b gb) ∙ hb);
  certain = λ id live. certain id (less.live id live);
}

set_there : (old new : Slots) (id : PoolId) (slot : Option Slot) → IsSet old new id slot → (asked : PoolId) → is_same_id asked id ≡ true → new asked ≡ slot
set_there old new id slot set asked same = set asked ∙ rw same refl

set_other : (old new : Slots) (id : PoolId) (slot : Option Slot) → IsSet old new id slot → (asked : PoolId) → is_same_id asked id ≡ false → new asked ≡ old asked
set_other old new id slot set asked other = set asked ∙ rw other refl

claimed_given : (slot : Option Slot) → is_given (claimed slot) ≡ true → is_given slot ≡ true
claimed_given None e = e
claimed_given (Some (Live size mark claims)) e = e
claimed_given (Some (Staged size claims)) e = e
claimed_given (Some Doomed) e = e

claimed_size : (slot : Option Slot) → size_of (claimed slot) ≡ size_of slot
claimed_size None = refl
claimed_size (Some (Live size mark claims)) = refl
claimed_size (Some (Staged size claims)) = refl
claimed_size (Some Doomed) = refl

claimed_live : (slot : Option Slot) → is_live (claimed slot) ≡ true → is_live slot ≡ true
claimed_live None e = e
claimed_live (Some (Live size mark claims)) e = e
claimed_live (Some (Staged size claims)) e = e
claimed_live (Some Doomed) e = e

-- a claim
pub less_claimed : (old new : Slots) (all : Files) (id : PoolId) → IsSet old new id (claimed (old id)) → IsLess old new all all
less_claimed old new all id set = record {
  given = λ asked given. elim (either (is_same_id asked id)) [
    | inl same ↦ ap (λ (x : PoolId). is_given (old x)) (one_id asked id same) ∙ claimed_given (old id) (sym (ap is_given (set_there old new id _ set asked same)) ∙ given)
    | inr other ↦ sym (ap is_given (set_other old new id _ set asked other)) ∙ given
  ];
  size = λ asked given. elim (either (is_same_id asked id)) [
    | inl same ↦ ap size_of (set_there old new id _ set asked same) ∙ claimed_size (old id) ∙ sym (ap (λ (x : PoolId). size_of (old x)) (one_id asked id same))
    | inr other ↦ ap size_of (set_other old new id _ set asked other)
  ];
  file = λ asked given. refl;
  live = λ asked live. elim (either (is_same_id asked id)) [
    | inl same ↦ ap (λ (x : PoolId). is_live (old x)) (one_id asked id same) ∙ claimed_live (old id) (sym (ap is_live (set_there old new id _ set asked same)) ∙ live)
    | inr other ↦ sym (ap is_live (set_other old new id _ set asked other)) ∙ live
  ];
}

-- a name that is doomed, or the same names; and one file of another name changed
pub less_doomed : (old new : Slots) (all all' : Files) (id : PoolId) → IsSet old new id (Some Doomed)
    → ((asked : FileId) → is_same_file asked (Pool id) ≡ false → all' asked ≡ all asked) → IsLess old new all all'
less_doomed old new all all' id set same_files = record {
  given = λ asked given. sym (ap is_given (elsewhere asked given)) ∙ given;
  size = λ asked given. ap size_of (elsewhere asked given);
  file = λ asked given. same_files (Pool asked) (apart asked given);
  live = λ asked live. elim (either (is_same_id asked id)) [
    | inl same ↦ absurd (false≢true (sym (ap is_live (set_there old new id _ set asked same)) ∙ live))
    | inr other ↦ sym (ap is_live (set_other old new id _ set asked other)) ∙ live
  ];
}
  where
    apart : (asked : PoolId) → is_given (new asked) ≡ true → is_same_id asked id ≡ false
    apart asked given = elim (either (is_same_id asked id)) [
      | inl same ↦ absurd (false≢true (sym (ap is_given (set_there old new id _ set asked same)) ∙ given))
      | inr other ↦ other
    ]

    elsewhere : (asked : PoolId) → is_given (new asked) ≡ true → new asked ≡ old asked
    elsewhere asked given = set_other old new id _ set asked (apart asked given)

-- a sweep
pub less_swept : (old new : Slots) (told : Option Files) (all : Files) (sweeps : Sweeps old new told all) → IsPruned old new → IsLess old new all sweeps.now
less_swept old new told all sweeps pruned = record {
  given = λ asked given. sym (ap is_given (same asked given)) ∙ given;
  size = λ asked given. ap size_of (same asked given);
  file = λ asked given. sweeps.same (Pool asked) (λ id is doomed.
      false≢true (sym (ap is_given doomed) ∙ ap (λ (x : PoolId). is_given (old x)) (sym (pool_id asked id is)) ∙ sym (ap is_given (same asked given)) ∙ given));
  live = λ asked live. elim (pruned asked) [
    | inl kept ↦ sym (ap is_live kept) ∙ live
    | inr freed ↦ absurd (false≢true (sym (ap is_live freed.1) ∙ live))
  ];
}
  where
    same : (asked : PoolId) → is_given (new asked) ≡ true → new asked ≡ old asked
    same asked given = elim (pruned asked) [
      | inl kept ↦ kept
      | inr freed ↦ absurd (false≢true (sym (ap is_given freed.1) ∙ given))
    ]

pub fits_adds : (digest_of : List ℕ → List ℕ) (old new : Slots) (uncertain uncertain' : FileSet) (all : Files) (told told' : Option Files) (id : PoolId) (content : List ℕ)
    → Fits digest_of old uncertain all → told ≡ Some all → Adds old new told told' id content → id.digest ≡ digest_of content → 0 < length content → IsCertain old uncertain'
    → Fits digest_of new uncertain' (with_bytes all (Pool id) (Some content))
fits_adds digest_of old new uncertain uncertain' all told told' id content fits is adds digest some certain = record {
  near = λ asked given. elim (either (is_same_id asked id)) [
    | inl same ↦ subst (λ (x : PoolId). x.extension < 65536) (sym (one_id asked id same)) adds.near
    | inr other ↦ fits.near asked (was asked other given)
  ];
  held = λ asked given. elim (either (is_same_id asked id)) [
    | inl same ↦ record {
      content = content;
      is = with_bytes_there all (Pool id) (Some content) (Pool asked) same;
      digest = sym digest ∙ sym (ap (λ (x : PoolId). x.digest) (one_id asked id same));
      size = ap size_of (set_there old new id _ adds.set asked same);
      some = some;
    }
    | inr other ↦
        let held = fits.held asked (was asked other given) in
        record {
          content = held.content;
          is = with_bytes_other all (Pool id) (Some content) (Pool asked) other ∙ held.is;
          digest = held.digest;
          size = ap size_of (set_other old new id _ adds.set asked other) ∙ held.size;
          some = held.some;
        }
  ];
  one = λ a b bytes ga gb ha hb. elim (either (is_same_id a id)) [
    | inl same_a ↦ elim (either (is_same_id b id)) [
      | inl same_b ↦ one_id a id same_a ∙ sym (one_id b id same_b)
      | inr other_b ↦ absurd (lone b other_b gb bytes hb (sym (with_bytes_there all (Pool id) (Some content) (Pool a) same_a) ∙ ha))
    ]
    | inr other_a ↦ elim (either (is_same_id b id)) [
      | inl same_b ↦ absurd (lone a other_a ga bytes ha (sym (with_bytes_there all (Pool id) (Some content) (Pool b) same_b) ∙ hb))
      | inr other_b ↦ fits.one a b bytes (was a other_a ga) (was b other_b gb) (file a other_a ∙ ha) (file b other_b ∙ hb)
    ]
  ];
  certain = λ asked live. elim (either (is_same_id asked id)) [
    | inl same ↦ absurd (false≢true (sym (ap is_live (set_there old new id _ adds.set asked same)) ∙ live))
    | inr other ↦ certain asked (sym (ap is_live (set_other old new id _ adds.set asked other)) ∙ live)
  ];
}
  where
    was : (asked : PoolId) → is_same_id asked id ≡ false → is_given (new asked) ≡ true → is_given (old asked) ≡ true
    was asked other given = sym (ap is_given (set_other old new id _ adds.set asked other)) ∙ given

    file : (asked : PoolId) → is_same_id asked id ≡ false → all (Pool asked) ≡ with_bytes all (Pool id) (Some content) (Pool asked)
    file asked other = sym (with_bytes_other all (Pool id) (Some content) (Pool asked) other)

    -- no other name holds the content
    lone : (asked : PoolId) → is_same_id asked id ≡ false → is_given (new asked) ≡ true → (bytes : List ℕ) → with_bytes all (Pool id) (Some content) (Pool asked) ≡ Some bytes → Some content ≡ Some bytes → ⊥
    lone asked other given bytes holds same =
        let g = was asked other given in
        let held = fits.held asked g in
        let has : all (Pool asked) ≡ Some content = file asked other ∙ holds ∙ sym same in
        let content_is : held.content ≡ content = cc (held.is, has) in
        let digests : asked.digest ≡ id.digest = sym held.digest ∙ ap digest_of content_is ∙ sym digest in
        let name : asked ≡ id_of id.digest asked.extension = ap (λ (d : List ℕ). id_of d asked.extension) digests in
        adds.others all is asked.extension (fits.near asked g)
        (subst (λ (x : PoolId). is_given (old x) ≡ true) name g)
        (subst (λ (x : PoolId). all (Pool x) ≡ Some content) name has)

pub less_set : (old new : Slots) (all : Files) (id : PoolId) (slot : Option Slot) → IsSet old new id slot → (is_given slot ≡ true → is_given (old id) ≡ true) → (is_given slot ≡ true → size_of slot ≡ size_of (old id))
    → (is_live slot ≡ true → is_live (old id) ≡ true) → IsLess old new all all
less_set old new all id slot set was size live = record {
  given = λ asked given. elim (either (is_same_id asked id)) [
    | inl same ↦ ap (λ (x : PoolId). is_given (old x)) (one_id asked id same) ∙ was (sym (ap is_given (set_there old new id slot set asked same)) ∙ given)
    | inr other ↦ sym (ap is_given (set_other old new id slot set asked other)) ∙ given
  ];
  size = λ asked given. elim (either (is_same_id asked id)) [
    | inl same ↦
        ap size_of (set_there old new id slot set asked same) ∙ size (sym (ap is_given (set_there old new id slot set asked same)) ∙ given)
        ∙ sym (ap (λ (x : PoolId). size_of (old x)) (one_id asked id same))
    | inr other ↦ ap size_of (set_other old new id slot set asked other)
  ];
  file = λ asked given. refl;
  live = λ asked is. elim (either (is_same_id asked id)) [
    | inl same ↦ ap (λ (x : PoolId). is_live (old x)) (one_id asked id same) ∙ live (sym (ap is_live (set_there old new id slot set asked same)) ∙ is)
    | inr other ↦ sym (ap is_live (set_other old new id slot set asked other)) ∙ is
  ];
}

let_go_given : (slot : Option Slot) → is_given (let_go slot) ≡ true → is_given slot ≡ true
let_go_given None e = e
let_go_given (Some (Live size mark claims)) e = e
let_go_given (Some (Staged size claims)) e = refl
let_go_given (Some Doomed) e = e

let_go_size : (slot : Option Slot) → is_given (let_go slot) ≡ true → size_of (let_go slot) ≡ size_of slot
let_go_size None e = refl
let_go_size (Some (Live size mark claims)) e = refl
let_go_size (Some (Staged size claims)) e = elim (either (claims == 1)) [
  | inl last ↦ absurd (false≢true (rw last at e))
  | inr more ↦ rw more refl
]
let_go_size (Some Doomed) e = refl

let_go_live : (slot : Option Slot) → is_live (let_go slot) ≡ true → is_live slot ≡ true
let_go_live None e = e
let_go_live (Some (Live size mark claims)) e = e
let_go_live (Some (Staged size claims)) e = elim (either (claims == 1)) [
  | inl last ↦ absurd (false≢true (rw last at e))
  | inr more ↦ absurd (false≢true (rw more at e))
]
let_go_live (Some Doomed) e = e

-- a claim that is let go
pub less_let_go : (old new : Slots) (all : Files) (id : PoolId) → IsSet old new id (let_go (old id)) → IsLess old new all all
less_let_go old new all id set = less_set old new all id (let_go (old id)) set (let_go_given (old id)) (let_go_size (old id)) (let_go_live (old id))

pub same_content : (digest_of : List ℕ → List ℕ) (old new : Slots) (uncertain : FileSet) (all : Files) (told told' : Option Files) (id other : PoolId) (content : List ℕ)
    → Fits digest_of old uncertain all → told ≡ Some all → Takes digest_of old new told told' id content → is_given (old other) ≡ true → all (Pool other) ≡ Some content → id ≡ other
same_content digest_of old new uncertain all told told' id other content fits is takes given holds = elim takes.either [
  | inl matches ↦ fits.one id other content matches.given given (matches.holds all is) holds
  | inr adds ↦
      let held = fits.held other given in
      let content_is : held.content ≡ content = cc (held.is, holds) in
      let digests : other.digest ≡ id.digest = sym held.digest ∙ ap digest_of content_is ∙ sym takes.digest in
      let name : other ≡ id_of id.digest other.extension = ap (λ (d : List ℕ). id_of d other.extension) digests in
      absurd (adds.others all is other.extension (fits.near other given)
      (subst (λ (x : PoolId). is_given (old x) ≡ true) name given)
      (subst (λ (x : PoolId). all (Pool x) ≡ Some content) name holds))
]

-- where all is durable and the files of names are the same
pub fits_still : (digest_of : List ℕ → List ℕ) (old new : Slots) (uncertain uncertain' : FileSet) (all all' : Files) → AreStill old new
    → ((id : PoolId) → all' (Pool id) ≡ all (Pool id)) → ((id : PoolId) → uncertain' (Pool id) ≡ false) → Fits digest_of old uncertain all → Fits digest_of new uncertain' all'
fits_still digest_of old new uncertain uncertain' all all' still files certain fits = record {
  near = λ id given. fits.near id (still id given).0;
  held = λ id given.
      let held = fits.held id (still id given).0 in
      record { content = held.content; is = files id ∙ held.is; digest = held.digest; size = (still id given).1 ∙ held.size; some = held.some };
  one = λ a b content ga gb ha hb. fits.one a b content (still a ga).0 (still b gb).0 (sym (files a) ∙ ha) (sym (files b) ∙ hb);
  certain = λ id live. certain id;
}
