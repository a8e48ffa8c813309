-- Frames written one by one are the stream.
use Rattle.std.specs.Prelude.{◌≡◌, ℕ, List, [], ◌∷◌, ◌++◌, Option}
use Rattle.std.proofs.Common.{refl, sym, ap, ◌∙◌, append_assoc, subst}
use Rattle.std.proofs.lemmas.List.{append-nil}
use Rattle.stream_traits.specs.Told.{behind, WroteFront}
use Rattle.stream_traits.specs.ToldLaws.{behind_nil, behind_append, WroteFront-none, WroteFront-before, WroteFront-after}
use Rattle.attr_records.specs.Items.{Tree}
use Rattle.tree_frames.specs.declared.nodes.Frame.{Frame}
use Rattle.tree_frames.specs.Frames.{frames}
use Rattle.restore_stream.specs.Layouts.{frame_bytes, frames_bytes, stream_bytes, magic}
use Rattle.restore_stream.specs.Writing.{WroteFrames}

-- what was written, and the bytes of the frames that are left, are all of them
pub record IsWrittenUpTo (old now : Option (List ℕ)) (left : List Frame) (all : List ℕ) : Type 0 where
  pub bytes : List ℕ
  pub wrote : now ≡ behind old bytes
  pub parts : all ≡ bytes ++ frames_bytes left

-- no frame was written
pub no_frame : (told : Option (List ℕ)) (left left' : List Frame) → left ≡ left' → WroteFrames told told left left'
no_frame told left left' same = record { bytes = []; wrote = sym (behind_nil told); parts = ap frames_bytes same }

-- one was
pub one_frame : (old new : Option (List ℕ)) (left left' : List Frame) (frame : Frame) (bytes : List ℕ) → left ≡ frame ∷ left'
    → bytes ≡ frame_bytes frame → new ≡ behind old bytes → WroteFrames old new left left'
one_frame old new left left' frame bytes is bytes_are wrote = record {
  bytes = bytes;
  wrote = wrote;
  parts = ap frames_bytes is ∙ ap (λ bs. bs ++ frames_bytes left') (sym bytes_are);
}

-- a front of one was
pub front_of_frame : (old new : Option (List ℕ)) (left left' : List Frame) (frame : Frame) (bytes : List ℕ) → left ≡ frame ∷ left'
    → bytes ≡ frame_bytes frame → WroteFront old new bytes → WroteFront old new (frames_bytes left)
front_of_frame old new left left' frame bytes is bytes_are went =
    subst (λ all. WroteFront old new all) (sym (ap frames_bytes is ∙ ap (λ bs. bs ++ frames_bytes left') (sym bytes_are)))
    (WroteFront-before old new bytes (frames_bytes left') went)

pub stream_is : (tree : Tree) (left : List Frame) → left ≡ frames tree → stream_bytes tree ≡ magic ++ frames_bytes left
unfolding stream_bytes
stream_is tree left is = ap (λ fs. magic ++ frames_bytes fs) (sym is)

-- before the first frame the magic was written
pub written_first : (old now : Option (List ℕ)) (tree rows : Tree) (left : List Frame) → now ≡ behind old magic → left ≡ frames rows
    → rows ≡ tree
    → IsWrittenUpTo old now left (stream_bytes tree)
written_first old now tree rows left wrote is same = record {
  bytes = magic;
  wrote = wrote;
  parts = stream_is tree left
      (is ∙ ap frames same);
}

-- more frames were written
pub written_more : (old now new : Option (List ℕ)) (left left' : List Frame) (all : List ℕ) → IsWrittenUpTo old now left all
    → WroteFrames now new left left' → IsWrittenUpTo old new left' all
written_more old now new left left' all so_far more = record {
  bytes = so_far.bytes ++ more.bytes;
  wrote = more.wrote ∙ ap (λ o. behind o more.bytes) so_far.wrote ∙ sym (behind_append old so_far.bytes more.bytes);
  parts = so_far.parts ∙ ap (λ bs. so_far.bytes ++ bs) more.parts ∙ sym (append_assoc so_far.bytes more.bytes (frames_bytes left'));
}

-- none is left
pub written_all : (old now new : Option (List ℕ)) (left left' : List Frame) (all : List ℕ) → IsWrittenUpTo old now left all
    → WroteFrames now new left left' → left' ≡ [] → new ≡ behind old all
written_all old now new left left' all so_far more none =
    let last = written_more old now new left left' all so_far more in
    last.wrote ∙ ap (behind old) (sym (last.parts ∙ ap (λ fs. last.bytes ++ frames_bytes fs) none ∙ append-nil last.bytes))

-- a front of what was left was written
pub front_of_all : (old now new : Option (List ℕ)) (left : List Frame) (all : List ℕ) → IsWrittenUpTo old now left all
    → WroteFront now new (frames_bytes left) → WroteFront old new all
front_of_all old now new left all so_far went =
    subst (λ bs. WroteFront old new bs) (sym so_far.parts) (WroteFront-after old now new so_far.bytes (frames_bytes left) so_far.wrote went)

-- a front of the magic was
pub front_of_magic : (old new : Option (List ℕ)) (tree : Tree) → WroteFront old new magic → WroteFront old new (stream_bytes tree)
front_of_magic old new tree went =
    subst (λ bs. WroteFront old new bs) (sym (stream_is tree (frames tree) refl))
    (WroteFront-before old new magic (frames_bytes (frames tree)) went)

pub nothing_written : (told : Option (List ℕ)) (bytes : List ℕ) → WroteFront told told bytes
nothing_written told bytes = WroteFront-none told bytes
