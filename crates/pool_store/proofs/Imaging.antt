-- What runs of calls of the journal leave.
use Rattle.std.proofs.Common.{◌≡◌, true, false, Option, Some, inl, inr, refl, sym, ap, ◌∙◌}
use Rattle.disk_trait.specs.declared.disk.Disk.{Ghosts}
use Rattle.disk_trait.specs.Files.{Files}
use Rattle.disk_trait.specs.Images.{FileSet, IsWithin, MayLeave, LeavesOnly}
use Rattle.disk_trait.specs.ImagesLaws.{leaves_none, leaves_then, leaves_wider, leaves_only}
use Rattle.intent_journal.specs.declared.journal.Journal.{Journal}
use Rattle.intent_journal.specs.Overlay.{ComesTo}
use Rattle.disk_trait.specs.declared.ids.PoolId.{PoolId}
use Rattle.disk_trait.specs.declared.ids.FileId.{FileId}
use Rattle.disk_trait.specs.declared.ids.FileId.TheVariants.{Pool, Stage}
use Rattle.disk_trait.specs.Names.{is_same_file, is_data}
use Rattle.disk_trait.specs.Images.{also}
use Rattle.std.specs.Prelude.{Bool, not}
use Rattle.std.proofs.lemmas.Bool.{false≢true}
use Rattle.intent_journal.specs.ChangesLaws.{either}
use Rattle.intent_journal.specs.OverlayLaws.{start_image, also_other}
use Rattle.intent_journal.specs.Calls.{Reads}
use Rattle.pool_changes.specs.Slots.{Slots, is_live, unlisted, one_id}
use Rattle.pool_store.specs.Pools.{IsCertain}
use Rattle.pool_store.specs.Rewriting.{Rewrites}

pub within_then : (a b c : FileSet) → IsWithin b a → IsWithin c b → IsWithin c a
within_then a b c first second = record { each = λ asked out. second.each asked (first.each asked out) }

pub may_wider : (told told' : Option Files) (uncertain uncertain' : FileSet) (image : Files) → told' ≡ told → IsWithin uncertain' uncertain → MayLeave told' uncertain' image → MayLeave told uncertain image
may_wider told told' uncertain uncertain' image same within may = record {
  all = may.all;
  is = sym same ∙ may.is;
  image_of = record { each = λ asked out. may.image_of.each asked (within.each asked out) };
}

pub reads_none : {D : Type 0} {d : Ghosts D} (journal : Journal D d) → Reads journal journal
reads_none {d = d} journal = record {
  stays = refl;
  looks = record { same = refl; certain = record { each = λ asked out. out }; any_moment = leaves_none journal.disk _ };
}

pub reads_then : {D : Type 0} {d : Ghosts D} {a b c : Journal D d} → Reads a b → Reads b c → Reads a c
reads_then {d = d} {a = a} {b = b} {c = c} first second = record {
  stays = second.stays ∙ first.stays;
  looks = record {
    same = second.looks.same ∙ first.looks.same;
    certain = within_then (d.uncertain a.disk) (d.uncertain b.disk) (d.uncertain c.disk) first.looks.certain second.looks.certain;
    any_moment = leaves_then first.looks.any_moment
        (leaves_wider second.looks.any_moment (λ image may. may_wider (d.files a.disk) (d.files b.disk) (d.uncertain a.disk) (d.uncertain b.disk) image first.looks.same first.looks.certain may));
  };
}

-- ---- images with the files of the index as they are

not_false : (b : Bool) → not b ≡ false → b ≡ true
not_false true e = refl
not_false false e = absurd (cc)

listed_file : (slots : Slots) (uncertain : FileSet) → IsCertain slots uncertain → (asked : FileId) → is_data asked ≡ true → unlisted slots asked ≡ false → uncertain asked ≡ false
listed_file slots uncertain certain (Pool id) kind out = certain id (not_false _ out)
listed_file slots uncertain certain (Stage number) kind out = absurd (false≢true (sym out))
listed_file slots uncertain certain file kind out = absurd (false≢true kind)

pub comes_unlisted : (slots : Slots) (all : Files) (uncertain : FileSet) (image : Files) → IsCertain slots uncertain → ComesTo all uncertain image → ComesTo all (unlisted slots) image
comes_unlisted slots all uncertain image certain comes = record {
  closed = comes.closed;
  opened = comes.opened;
  contents = λ asked kind out. comes.contents asked kind (listed_file slots uncertain certain asked kind out);
}

pub certain_within : (slots : Slots) (outer inner : FileSet) → IsWithin inner outer → IsCertain slots outer → IsCertain slots inner
certain_within slots outer inner within certain id live = within.each (Pool id) (certain id live)

pub certain_also : (slots : Slots) (uncertain : FileSet) (id : PoolId) → is_live (slots id) ≡ false → IsCertain slots uncertain → IsCertain slots (also uncertain (Pool id))
certain_also slots uncertain id dead certain asked live = also_other uncertain (Pool id) (Pool asked) other (certain asked live)
  where
    other : is_same_file (Pool asked) (Pool id) ≡ false
    other = elim (either (is_same_file (Pool asked) (Pool id))) [
      | inl same ↦ absurd (false≢true (sym dead ∙ ap (λ (x : PoolId). is_live (slots x)) (sym (one_id asked id same)) ∙ live))
      | inr apart ↦ apart
    ]

module _ {D : Type 0} {d : Ghosts D} where
  pub images_read : (old new : Journal D d) (slots : Slots) (all : Files)
      → ((disk : D) (image : Files) → d.left_since disk (d.moment disk) image → MayLeave (d.files disk) (d.uncertain disk) image)
      → old.halted ≡ false → Reads old new → d.files old.disk ≡ Some all → IsCertain slots (d.uncertain old.disk)
      → LeavesOnly d.moment d.left_since old.disk new.disk (ComesTo all (unlisted slots))
  images_read old new slots all only_now ready reads told certain =
      let here : (image : Files) → MayLeave (d.files old.disk) (d.uncertain old.disk) image → ComesTo all (unlisted slots) image =
      λ image may. comes_unlisted slots all (d.uncertain old.disk) image certain (start_image (d.files old.disk) (d.uncertain old.disk) all image told (old.settled ready) may) in
      leaves_only (leaves_wider reads.looks.any_moment here) (λ image left. here image (only_now old.disk image left))

  pub certain_read : (old new : Journal D d) (slots : Slots) → Reads old new → IsCertain slots (d.uncertain old.disk) → IsCertain slots (d.uncertain new.disk)
  certain_read old new slots reads certain = certain_within slots (d.uncertain old.disk) (d.uncertain new.disk) reads.looks.certain certain

  -- a run of calls that changes the file of a name that isn't live
  pub certain_rewritten : (old new : Journal D d) (slots : Slots) (id : PoolId) → Rewrites old (Pool id) new → is_live (slots id) ≡ false
      → IsCertain slots (d.uncertain old.disk) → IsCertain slots (d.uncertain new.disk)
  certain_rewritten old new slots id rewrites dead certain =
      certain_within slots (also (d.uncertain old.disk) (Pool id)) (d.uncertain new.disk) rewrites.certain (certain_also slots (d.uncertain old.disk) id dead certain)

  pub images_rewritten : (old new : Journal D d) (slots : Slots) (all : Files) (id : PoolId)
      → ((disk : D) (image : Files) → d.left_since disk (d.moment disk) image → MayLeave (d.files disk) (d.uncertain disk) image)
      → old.halted ≡ false → Rewrites old (Pool id) new → d.files old.disk ≡ Some all → is_live (slots id) ≡ false → IsCertain slots (d.uncertain old.disk)
      → LeavesOnly d.moment d.left_since old.disk new.disk (ComesTo all (unlisted slots))
  images_rewritten old new slots all id only_now ready rewrites told dead certain =
      leaves_only
      (leaves_wider (rewrites.any_moment ready all told)
      (λ image comes. comes_unlisted slots all (also (d.uncertain old.disk) (Pool id)) image (certain_also slots (d.uncertain old.disk) id dead certain) comes))
      (λ image left. comes_unlisted slots all (d.uncertain old.disk) image certain
      (start_image (d.files old.disk) (d.uncertain old.disk) all image told (old.settled ready) (only_now old.disk image left)))
