-- Laws on what the images of each step of a commit and of an opening come to.
use Rattle.std.proofs.Common.{◌≡◌, ℕ, true, false, List, [], ◌∷◌, Option, Some, None, ◌⊎◌, inl, inr, ⊎_elim, refl, sym, ap, ◌∙◌, subst, arith}
use Rattle.std.proofs.lemmas.Bool.{false≢true}
use Rattle.disk_trait.specs.declared.ids.FileId.{FileId}
use Rattle.disk_trait.specs.declared.ids.FileId.TheVariants.{Intent, Gate}
use Rattle.disk_trait.specs.Names.{is_same_file}
use Rattle.disk_trait.specs.NamesLaws.{is_same_file-itself}
use Rattle.disk_trait.specs.Files.{Files, with_bytes, changed, SameButOne}
use Rattle.disk_trait.specs.Images.{FileSet, nothing, also, IsWithin, IsImage, MayLeave, Leaves, LeavesOnly}
use Rattle.disk_trait.specs.ImagesLaws.{leaves_then, leaves_wider}
use Rattle.intent_journal.specs.declared.changes.Change.{Change}
use Rattle.intent_journal.specs.Changes.{applied, names, IsIntent}
use Rattle.intent_journal.specs.Layout.{intent_file, is_open}
use Rattle.intent_journal.specs.Overlay.{ComesTo, IsRecoverable, IsAlike, IsOpenOver, IsSettled, IsAtRest, IsEmptied, IsBeforeOrAfter, IsFound, IsFoundOver, Looks, LooksDurably}
use Rattle.intent_journal.specs.OverlayLaws.{also_other, closed_image, metadata-not-alone, data-not-alone, not_alone-not-Intent, within_alone}
use Rattle.intent_journal.specs.ChangesLaws.{either, with_bytes_there, with_bytes_other, metadata-not-Intent, metadata-not-Gate, data-not-Intent, data-not-Gate, metadata-not-data, data-not-metadata, Gate-not-Intent, Intent-not-Gate, not_named, applied_other, applied_alike}

-- files that are alike in metadata and contents are come to alike
pub comes_alike : (files others : Files) (inner outer : FileSet) (image : Files) → IsAlike files others → IsWithin inner outer
    → ComesTo files inner image → ComesTo others outer image
comes_alike files others inner outer image alike within comes = record {
  closed = λ shut asked is. comes.closed shut asked is ∙ alike.metadata asked is;
  opened = λ gate.
      let laid = comes.opened gate in
      record {
        changes = laid.changes;
        are = laid.are;
        intent = laid.intent;
        each = λ asked is. laid.each asked is ∙ alike.metadata asked is;
      };
  contents = λ asked is out. comes.contents asked is (within.each asked out) ∙ alike.contents asked is;
}

-- Gate is being opened over changes that stand on the disk
pub opening_image : (files : Files) (changes : List Change) (image : Files)
    → is_open (files Gate) ≡ false → files Intent ≡ Some (intent_file changes) → IsIntent changes
    → IsImage files (also nothing Gate) image → ComesTo files nothing image ⊎ ComesTo (applied changes files) nothing image
opening_image files changes image shut intent are is = elim (either (is_open (image Gate))) [
  | inl gate ↦ inr (record {
    closed = λ out. absurd (false≢true (sym out ∙ gate));
    opened = λ _. record {
      changes = changes;
      are = are;
      intent = is.each Intent (also_other nothing Gate Intent Intent-not-Gate refl) ∙ intent;
      each = λ asked kind. applied_alike changes image files asked
          (λ _. is.each asked (also_other nothing Gate asked (metadata-not-Gate asked kind) refl));
    };
    contents = λ asked kind _.
        is.each asked (also_other nothing Gate asked (data-not-Gate asked kind) refl)
        ∙ sym (applied_other changes files asked (not_named changes are.are asked (data-not-metadata asked kind)));
  })
  | inr none ↦ inl (record {
    closed = λ _ asked kind. is.each asked (also_other nothing Gate asked (metadata-not-Gate asked kind) refl);
    opened = λ gate. absurd (false≢true (sym none ∙ gate));
    contents = λ asked kind _. is.each asked (also_other nothing Gate asked (data-not-Gate asked kind) refl);
  })
]

-- Gate is open, and the files that the changes name are being written
pub replaying_image : (files : Files) (changes : List Change) (image : Files)
    → IsOpenOver files changes → IsImage files (names changes) image → ComesTo (applied changes files) nothing image
replaying_image files changes image over is =
    let gate_stays : image Gate ≡ files Gate = is.each Gate (not_named changes over.are.are Gate refl) in
    record {
      closed = λ shut. absurd (false≢true (sym shut ∙ ap is_open gate_stays ∙ over.gate));
      opened = λ _. record {
        changes = changes;
        are = over.are;
        intent = is.each Intent (not_named changes over.are.are Intent refl) ∙ over.intent;
        each = λ asked kind. applied_alike changes image files asked (λ out. is.each asked out);
      };
      contents = λ asked kind _.
          let out = not_named changes over.are.are asked (data-not-metadata asked kind) in
          is.each asked out ∙ sym (applied_other changes files asked out);
    }

-- Gate is being closed over changes that were written
pub closing_image : (files : Files) (changes : List Change) (image : Files)
    → IsOpenOver files changes → IsImage (applied changes files) (also nothing Gate) image → ComesTo (applied changes files) nothing image
closing_image files changes image over is = record {
  closed = λ shut asked kind. is.each asked (also_other nothing Gate asked (metadata-not-Gate asked kind) refl);
  opened = λ _. record {
    changes = changes;
    are = over.are;
    intent =
        is.each Intent (also_other nothing Gate Intent Intent-not-Gate refl)
        ∙ applied_other changes files Intent (not_named changes over.are.are Intent refl)
        ∙ over.intent;
    each = λ asked kind. applied_alike changes image files asked
        (λ out. is.each asked (also_other nothing Gate asked (metadata-not-Gate asked kind) refl) ∙ applied_other changes files asked out);
  };
  contents = λ asked kind _. is.each asked (also_other nothing Gate asked (data-not-Gate asked kind) refl);
}

-- ---- files from one step to the next

abbrev pub open_files : Files → List Change → Files
open_files files changes = with_bytes (with_bytes files Intent (Some (intent_file changes))) Gate (Some (79 ∷ []))

-- what isn't Intent is as before Intent was written
with_intent_alike : (files : Files) (intent : Option (List ℕ)) → IsAlike (with_bytes files Intent intent) files
with_intent_alike files intent = record {
  metadata = λ asked kind. with_bytes_other files Intent intent asked (metadata-not-Intent asked kind);
  contents = λ asked kind. with_bytes_other files Intent intent asked (data-not-Intent asked kind);
}

pub with_gate_alike : (files : Files) (gate : Option (List ℕ)) → IsAlike (with_bytes files Gate gate) files
with_gate_alike files gate = record {
  metadata = λ asked kind. with_bytes_other files Gate gate asked (metadata-not-Gate asked kind);
  contents = λ asked kind. with_bytes_other files Gate gate asked (data-not-Gate asked kind);
}

pub alike_then : (a b c : Files) → IsAlike a b → IsAlike b c → IsAlike a c
alike_then a b c ab bc = record {
  metadata = λ asked kind. ab.metadata asked kind ∙ bc.metadata asked kind;
  contents = λ asked kind. ab.contents asked kind ∙ bc.contents asked kind;
}

pub applied_keeps_alike : (changes : List Change) (files others : Files) → IsAlike files others
    → IsAlike (applied changes files) (applied changes others)
applied_keeps_alike changes files others alike = record {
  metadata = λ asked kind. applied_alike changes files others asked (λ _. alike.metadata asked kind);
  contents = λ asked kind. applied_alike changes files others asked (λ _. alike.contents asked kind);
}

-- once Gate is open
pub open_over : (files : Files) (changes : List Change) → IsIntent changes → IsOpenOver (open_files files changes) changes
open_over files changes are = record {
  gate = ap is_open
      (with_bytes_there (with_bytes files Intent (Some (intent_file changes))) Gate (Some (79 ∷ [])) Gate (is_same_file-itself Gate));
  intent =
      with_bytes_other (with_bytes files Intent (Some (intent_file changes))) Gate (Some (79 ∷ [])) Intent Intent-not-Gate
      ∙ with_bytes_there files Intent (Some (intent_file changes)) Intent (is_same_file-itself Intent);
  are = are;
}

pub open_alike : (files : Files) (changes : List Change) → IsAlike (open_files files changes) files
open_alike files changes =
    alike_then _ _ _ (with_gate_alike (with_bytes files Intent (Some (intent_file changes))) (Some (79 ∷ [])))
    (with_intent_alike files (Some (intent_file changes)))

-- ---- the steps of a commit

-- Intent is being written
pub intent_image : (all : Files) (uncertain : FileSet) (image : Files) → IsSettled (Some all) uncertain
    → IsImage all (also uncertain Intent) image → ComesTo all uncertain image
intent_image all uncertain image settled is =
    closed_image all (also uncertain Intent) uncertain image (settled.closed all refl)
    (also_other uncertain Intent Gate Gate-not-Intent (settled.certain Gate refl refl))
    (λ asked kind. also_other uncertain Intent asked (metadata-not-Intent asked kind)
    (settled.certain asked (metadata-not-data asked kind) (metadata-not-alone asked kind)))
    (λ asked kind out. also_other uncertain Intent asked (data-not-Intent asked kind) out)
    is

-- Gate is being opened
pub gate_image : (all : Files) (uncertain : FileSet) (changes : List Change) (image : Files) → is_open (all Gate) ≡ false → IsIntent changes
    → IsImage (with_bytes all Intent (Some (intent_file changes))) (also nothing Gate) image → IsBeforeOrAfter all uncertain changes image
gate_image all uncertain changes image shut are is =
    let intent = Some (intent_file changes) in
    let staged = with_bytes all Intent intent in
    let alike = with_intent_alike all intent in
    ⊎_elim
    (λ before. inl (comes_alike staged all nothing uncertain image alike (record { each = λ asked out. refl }) before))
    (λ after. inr
    (comes_alike (applied changes staged) (applied changes all) nothing nothing image (applied_keeps_alike changes staged all alike)
    (record { each = λ asked out. refl }) after))
    (opening_image staged changes image
    (ap is_open (with_bytes_other all Intent intent Gate Gate-not-Intent) ∙ shut)
    (with_bytes_there all Intent intent Intent (is_same_file-itself Intent)) are is)

-- the changes are replayed, and Gate is closed behind them
pub replay_image : (all : Files) (changes : List Change) (image : Files) → IsIntent changes
    → ComesTo (applied changes (open_files all changes)) nothing image → ComesTo (applied changes all) nothing image
replay_image all changes image are comes =
    comes_alike (applied changes (open_files all changes)) (applied changes all) nothing nothing image
    (applied_keeps_alike changes (open_files all changes) all (open_alike all changes)) (record { each = λ asked out. refl }) comes

-- after it
pub at_rest : (told : Option Files) (uncertain : FileSet) (files all : Files) (gate : List ℕ)
    → told ≡ Some (with_bytes files Gate (Some gate)) → is_open (Some gate) ≡ false
    → IsAlike files all → IsWithin uncertain nothing → IsAtRest told uncertain all
at_rest told uncertain files all gate is shut alike within = record {
  now = with_bytes files Gate (Some gate);
  is = is;
  alike = alike_then _ _ _ (with_gate_alike files (Some gate)) alike;
  certain = within_alone uncertain within;
  closed = ap is_open (with_bytes_there files Gate (Some gate) Gate (is_same_file-itself Gate)) ∙ shut;
}

-- nothing was uncertain before
pub image_of_one : (files : Files) (uncertain : FileSet) (file : FileId) (image : Files) → IsWithin uncertain nothing
    → IsImage files (also uncertain file) image → IsImage files (also nothing file) image
image_of_one files uncertain file image within is = record {
  each = λ asked out. is.each asked (elim (either (is_same_file asked file)) [
    | inl same ↦ absurd (false≢true (sym out ∙ rw same refl))
    | inr other ↦ also_other uncertain file asked other (within.each asked refl)
  ]);
}

-- Gate was closed
pub settled_gate : (told told' : Option Files) (uncertain : FileSet) (gate : List ℕ) → told' ≡ changed told Gate (Some gate)
    → is_open (Some gate) ≡ false → IsWithin uncertain nothing → IsSettled told' uncertain
settled_gate None told' uncertain gate is shut within = record {
  certain = λ asked kind own. within.each asked refl;
  closed = λ all told. let none : Some all ≡ None = sym told ∙ is in absurd (cc);
}
settled_gate (Some files) told' uncertain gate is shut within = record {
  certain = λ asked kind own. within.each asked refl;
  closed = λ all told.
      let one : all ≡ with_bytes files Gate (Some gate) = cc (told, is) in
      ap (λ (x : Files). is_open (x Gate)) one ∙ ap is_open (with_bytes_there files Gate (Some gate) Gate (is_same_file-itself Gate))
      ∙ shut;
}

pub alike_itself : (files : Files) → IsAlike files files
alike_itself files = record { metadata = λ asked kind. refl; contents = λ asked kind. refl }

pub at_rest_alike : (told : Option Files) (uncertain : FileSet) (files others : Files) → IsAtRest told uncertain files
    → IsAlike files others → IsAtRest told uncertain others
at_rest_alike told uncertain files others rest alike = record {
  now = rest.now;
  is = rest.is;
  alike = alike_then _ _ _ rest.alike alike;
  certain = rest.certain;
  closed = rest.closed;
}

-- ---- opening

-- nothing is uncertain: each image comes to what the files come to
pub certain_image : (told : Option Files) (uncertain : FileSet) (all files image : Files) → told ≡ Some all → IsWithin uncertain nothing
    → ComesTo files nothing all
    → MayLeave told uncertain image → ComesTo files nothing image
certain_image told uncertain all files image is within comes may =
    let one : may.all ≡ all = cc (may.is, is) in
    let same : (asked : FileId) → image asked ≡ all asked =
    λ asked. may.image_of.each asked (within.each asked refl) ∙ ap (λ (x : Files). x asked) one in
    record {
      closed = λ shut asked kind. same asked ∙ comes.closed (ap is_open (sym (same Gate)) ∙ shut) asked kind;
      opened = λ gate.
          let laid = comes.opened (ap is_open (sym (same Gate)) ∙ gate) in
          record {
            changes = laid.changes;
            are = laid.are;
            intent = same Intent ∙ laid.intent;
            each = λ asked kind. applied_alike laid.changes image all asked (λ _. same asked) ∙ laid.each asked kind;
          };
      contents = λ asked kind out. same asked ∙ comes.contents asked kind refl;
    }

-- what a closed Gate leaves
pub alike_of_closed : (all files : Files) → is_open (all Gate) ≡ false → ComesTo files nothing all → IsAlike all files
alike_of_closed all files shut comes = record {
  metadata = λ asked kind. comes.closed shut asked kind;
  contents = λ asked kind. comes.contents asked kind refl;
}

-- what the changes that were found give
pub alike_of_found : (all files : Files) (changes : List Change) → IsFoundOver all changes → ComesTo files nothing all
    → IsAlike (applied changes all) files
alike_of_found all files changes found comes =
    let laid = comes.opened found.over.gate in
    let one : laid.changes ≡ changes = found.only laid.changes laid.are laid.intent in
    record {
      metadata = λ asked kind. ap (λ (cs : List Change). applied cs all asked) (sym one) ∙ laid.each asked kind;
      contents = λ asked kind.
          applied_other changes all asked (not_named changes found.over.are.are asked (data-not-metadata asked kind))
          ∙ comes.contents asked kind refl;
    }

pub same_comes : (files others image : Files) → IsAlike files others → ComesTo files nothing image → ComesTo others nothing image
same_comes files others image alike comes = comes_alike files others nothing nothing image alike (record { each = λ asked out. refl }) comes

-- files over which Gate is closed come to themselves
pub comes_itself : (files : Files) → is_open (files Gate) ≡ false → ComesTo files nothing files
comes_itself files shut = record {
  closed = λ _ asked kind. refl;
  opened = λ gate. absurd (false≢true (sym shut ∙ gate));
  contents = λ asked kind out. refl;
}

-- whatever a crash leaves of a disk at rest comes to its files
pub rest_image : (told : Option Files) (uncertain : FileSet) (files image : Files) → IsAtRest told uncertain files
    → MayLeave told uncertain image
    → ComesTo files nothing image
rest_image told uncertain files image rest may =
    let one : may.all ≡ rest.now = cc (may.is, rest.is) in
    same_comes rest.now files image rest.alike
    (closed_image rest.now uncertain nothing image rest.closed (rest.certain.each Gate refl)
    (λ asked kind. rest.certain.each asked (metadata-not-alone asked kind))
    (λ asked kind _. rest.certain.each asked (data-not-alone asked kind))
    (record { each = λ asked out. may.image_of.each asked out ∙ ap (λ (x : Files). x asked) one }))

-- ---- Intent, written while Gate is closed

-- a disk at rest stays at rest
pub rest_still : (told told' : Option Files) (uncertain uncertain' : FileSet) (files : Files) → IsAtRest told uncertain files
    → SameButOne Intent told told' → IsWithin uncertain' (also uncertain Intent) → IsAtRest told' uncertain' files
rest_still told told' uncertain uncertain' files rest one within =
    let there = subst (λ (t : Option Files). SameButOne Intent t told') rest.is one in
    record {
      now = there.0;
      is = there.1;
      alike = record {
        metadata = λ asked kind. there.2 asked (metadata-not-Intent asked kind) ∙ rest.alike.metadata asked kind;
        contents = λ asked kind. there.2 asked (data-not-Intent asked kind) ∙ rest.alike.contents asked kind;
      };
      certain = record {
        each = λ asked out. within.each asked
            (also_other uncertain Intent asked (not_alone-not-Intent asked out) (rest.certain.each asked out));
      };
      closed = ap is_open (there.2 Gate Gate-not-Intent) ∙ rest.closed;
    }

-- and a settled one settled
pub settled_still : (told told' : Option Files) (uncertain uncertain' : FileSet) → IsSettled told uncertain
    → SameButOne Intent told told' → IsWithin uncertain' (also uncertain Intent) → IsSettled told' uncertain'
settled_still None told' uncertain uncertain' settled one within = record {
  certain = λ asked kind own. within.each asked
      (also_other uncertain Intent asked (not_alone-not-Intent asked own) (settled.certain asked kind own));
  closed = λ all told. let none : Some all ≡ None = sym told ∙ one in absurd (cc);
}
settled_still (Some files) told' uncertain uncertain' settled one within = record {
  certain = λ asked kind own. within.each asked
      (also_other uncertain Intent asked (not_alone-not-Intent asked own) (settled.certain asked kind own));
  closed = λ all told.
      let same : all ≡ one.0 = cc (told, one.1) in
      ap (λ (x : Files). is_open (x Gate)) same ∙ ap is_open (one.2 Gate Gate-not-Intent) ∙ settled.closed files refl;
}

-- it was emptied
pub emptied : (told told' : Option Files) → told' ≡ changed told Intent (Some []) → IsEmptied told'
emptied None told' is = λ all told. let none : Some all ≡ None = sym told ∙ is in absurd (cc)
emptied (Some files) told' is = λ all told.
    let one : all ≡ with_bytes files Intent (Some []) = cc (told, is) in
    ap (λ (x : Files). x Intent) one ∙ with_bytes_there files Intent (Some []) Intent (is_same_file-itself Intent)

-- what an opening finds comes to some files
pub found_recoverable : (all : Files) (found : Option (List Change)) → IsFound all found → IsRecoverable all
found_recoverable all None shut = record { files = all; comes = comes_itself all shut }
found_recoverable all (Some changes) found = record {
  files = applied changes all;
  comes = replaying_image all changes all found.over (record { each = λ asked out. refl });
}

-- ---- the first sync of a commit

-- Intent was written and synced: each image comes to the files before, with all contents and stages as they stand
pub synced_image : (told : Option Files) (uncertain : FileSet) (all : Files) (intent : Option (List ℕ)) (image : Files)
    → is_open (all Gate) ≡ false
    → told ≡ Some (with_bytes all Intent intent) → IsWithin uncertain nothing → MayLeave told uncertain image → ComesTo all nothing image
synced_image told uncertain all intent image shut is within may =
    let staged = with_bytes all Intent intent in
    let alike = with_intent_alike all intent in
    same_comes staged all image alike
    (certain_image told uncertain staged staged image is within
    (comes_itself staged (ap is_open (with_bytes_other all Intent intent Gate Gate-not-Intent) ∙ shut)) may)

-- a run whose start is known, and a further one
pub only_more : {D : Type 0} {moment : D → ℕ} {left_since : D → ℕ → Files → Type 0} {old mid new : D} {P : Files → Type 0}
    → LeavesOnly moment left_since old mid P → Leaves moment left_since mid new P → LeavesOnly moment left_since old new P
only_more first more = record {
  later = omega (arith, first.later, more.later);
  each = λ image left. ⊎_elim (λ before. first.each image before) (λ now. now) (more.since _ image first.later left);
  since = λ t image le left. ⊎_elim (λ before. first.since t image le before) (λ now. inr now)
      (more.since t image (omega (arith, le, first.later)) left);
}

-- ---- looks

pub looks_then : {D : Type 0} {told : D → Option Files} {uncertain : D → FileSet} {moment : D → ℕ} {left_since : D → ℕ → Files → Type 0}
    {a b c : D}
    → Looks told uncertain moment left_since a b → Looks told uncertain moment left_since b c → Looks told uncertain moment left_since a c
looks_then {told = told} {uncertain = uncertain} {a = a} {b = b} first second = record {
  same = second.same ∙ first.same;
  certain = record { each = λ asked out. second.certain.each asked (first.certain.each asked out) };
  any_moment = leaves_then first.any_moment (leaves_wider second.any_moment back);
}
  where
    back : (image : Files) → MayLeave (told b) (uncertain b) image → MayLeave (told a) (uncertain a) image
    back image may = record {
      all = may.all;
      is = sym first.same ∙ may.is;
      image_of = record { each = λ asked out. may.image_of.each asked (first.certain.each asked out) };
    }

-- what was found and looked at stays as it is, and durable
pub looks_durably : {D : Type 0} {told : D → Option Files} {uncertain : D → FileSet} {moment : D → ℕ}
    {left_since : D → ℕ → Files → Type 0} {a b c new : D}
    → Looks told uncertain moment left_since a b → IsWithin (uncertain b) nothing → Looks told uncertain moment left_since b c → new ≡ c
    → LooksDurably told uncertain moment left_since a new
looks_durably {told = told} {uncertain = uncertain} {moment = moment} {left_since = left_since} {a = a} first durable second same =
    subst (λ disk. LooksDurably told uncertain moment left_since a disk) (sym same) (record {
      looks = looks_then first second;
      durable = record { each = λ asked out. second.certain.each asked (durable.each asked out) };
    })

-- a closed Gate makes no changes count, and an open one some
pub found_none : (all : Files) (found : Option (List Change)) → is_open (all Gate) ≡ false → IsFound all found → found ≡ None
found_none all None shut found = refl
found_none all (Some changes) shut found = absurd (false≢true (sym shut ∙ found.over.gate))

pub found_some : (all : Files) (found : Option (List Change)) → is_open (all Gate) ≡ true → IsFound all found → found ≡ None → ⊥
found_some all None gate found e = false≢true (sym found ∙ gate)
found_some all (Some changes) gate found e = absurd (cc)
