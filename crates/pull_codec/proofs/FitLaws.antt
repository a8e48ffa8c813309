-- The bodies of a pull's responses have fewer than 2^64 bytes.
use Rattle.std.proofs.Common.{◌≡◌, ℕ, ◌*◌, ◌<◌, ◌≤◌, ◌^◌, true, false, List, [], ◌∷◌, ◌++◌, length, Ok, Err, sym, arith, codes, decimal, length-append}
use Rattle.std.specs.Int.{w8, w16, w32}
use Rattle.std.proofs.lemmas.Bool.{true≢false}
use Rattle.hex.specs.Hex.{lower_digits, encode_with, encode_lower}
use Rattle.disk_trait.specs.declared.ids.FileId.{FileId}
use Rattle.disk_trait.specs.declared.ids.FileId.TheVariants as F
use Rattle.disk_trait.specs.Names.{real_name}
use Rattle.wire_bytes.specs.Layout.{number_bytes, text_bytes}
use Rattle.wire_bytes.proofs.Numbers.{length-number_bytes}
use Rattle.wire_bytes.proofs.Texts.{length-text_bytes}
use Rattle.attr_records.specs.PathRuleLaws.{short_path}
use Rattle.attr_records.specs.NameLaws.{short_target}
use Rattle.attr_records.specs.declared.trees.PutRule.{PutRule}
use Rattle.attr_records.specs.declared.trees.PutRule.TheVariants as T
use Rattle.tree_frames.specs.declared.nodes.Node.{Node}
use Rattle.tree_frames.specs.declared.nodes.Node.TheVariants as N
use Rattle.tree_frames.specs.declared.nodes.Frame.{Frame}
use Rattle.tree_frames.specs.declared.nodes.Frame.TheVariants.{Deleted, Entry, Piece, End}
use Rattle.restore_stream.specs.Layouts.{tail_length, entry_bytes, frame_bytes}
use Rattle.restore_stream.specs.OneFrame.{IsNodeInRange, IsFrameInRange}
use Rattle.restore_stream.proofs.RowReading.{entry_length}
use Rattle.office_model.specs.declared.event.Event.{Event}
use Rattle.office_model.specs.declared.event.Event.TheVariants as E
use Rattle.office_model.specs.declared.answer.Answer.{Answer}
use Rattle.office_model.specs.declared.answer.Answer.TheVariants as A
use Rattle.office_model.specs.declared.refusal.BrokenRule.{BrokenRule}
use Rattle.office_model.specs.declared.refusal.BrokenRule.TheVariants as B
use Rattle.office_model.specs.declared.refusal.Refusal.{Refusal}
use Rattle.office_model.specs.declared.refusal.Refusal.TheVariants as R
use Rattle.office_model.specs.Meaning.{Reply}
use Rattle.office_model.specs.RuleNames.{put_rule_name, rule_name}
use Rattle.office_model.specs.Step.{IsAnswerTo}
use Rattle.reply_bodies.specs.Laws.{IsFile}
use Rattle.reply_bodies.specs.Objects.{object_text}
use Rattle.http_replies.specs.Messages.{answer_message}
use Rattle.peer_talk.specs.Sayings.{reply_said}
use Rattle.pull_codec.specs.Codec.{may, IsAnswer, HasDigest, IsRefusal, InRange}
use Rattle.pull_codec.proofs.TextLengths.{wide-few, listing-few, opened-few, refused-few, damaged-few}

-- ---- frames

tail-few : (node : Node) → IsNodeInRange node → tail_length node ≤ 4098
tail-few (N.File file) is = omega arith
tail-few (N.Dir dir) is = omega arith
tail-few (N.Link link) is = let n : length link.target ≤ 4096 = short_target link.target is.1 in omega (arith, n)

frame-few : (frame : Frame) → IsFrameInRange frame → length (frame_bytes frame) ≤ 65541
frame-few (Deleted path) is =
    let n : length path ≤ 4096 = short_path path is in
    omega (
      arith,
      n,
      length-append (number_bytes w8 88) (text_bytes w16 path),
      length-number_bytes w8 tt 88,
      length-text_bytes w16 tt path,
    )
frame-few (Entry path node) is =
    let n : length path ≤ 4096 = short_path path is.0 in
    omega (
      arith,
      n,
      tail-few node is.1,
      length-append (number_bytes w8 69) (entry_bytes (path, node)),
      length-number_bytes w8 tt 69,
      entry_length path node,
    )
frame-few (Piece bytes) is =
    omega (
      arith,
      is.1,
      length-append (number_bytes w8 68) (text_bytes w32 bytes),
      length-number_bytes w8 tt 68,
      length-text_bytes w32 tt bytes,
    )
frame-few (End count) is =
    omega (
      arith,
      length-append (number_bytes w8 90) (number_bytes w32 count),
      length-number_bytes w8 tt 90,
      length-number_bytes w32 tt count,
    )

-- ---- refusals

put-few : (rule : PutRule) → length (put_rule_name rule) ≤ 20
unfolding put_rule_name
put-few T.NoParent = omega arith
put-few T.IsDirectory = omega arith
put-few T.TooManyEntries = omega arith
put-few T.FileTooLarge = omega arith

rule-few : (rule : BrokenRule) → length (rule_name rule) ≤ 20
unfolding rule_name
rule-few (B.Put rule) = put-few rule
rule-few rule = omega arith

small-few : (n : ℕ) → n < 2 ^ 32 → length (decimal n) ≤ 20
small-few n small = wide-few n (omega (arith, small))

hex-few : (digits bytes : List ℕ) → length (encode_with digits bytes) ≤ 2 * length bytes
unfolding encode_with
hex-few digits [] = omega arith
hex-few digits (byte ∷ bytes) = omega (arith, hex-few digits bytes)

file-few : (file : FileId) → IsFile file → HasDigest file → length (real_name file) ≤ 100
file-few F.Head is digest = omega arith
file-few F.Intent is digest = omega arith
file-few F.Gate is digest = omega arith
file-few (F.Host host) is digest = omega (arith, small-few host is)
file-few (F.Table host number) is digest =
    omega (arith, small-few host is.0, small-few number is.1, length-append (decimal host) (codes "-" ++ decimal number))
file-few (F.Counts host) is digest = omega (arith, small-few host is)
file-few F.PoolIndex is digest = omega arith
file-few (F.PoolBucket byte) is digest = omega (arith, wide-few byte (omega (arith, is)))
file-few (F.Partial host) is digest = omega (arith, small-few host is)
file-few (F.Pool id) is digest =
    omega (
      arith,
      digest,
      hex-few lower_digits id.digest,
      wide-few id.extension (omega (arith, is.0)),
      length-append (encode_lower id.digest) (codes "-" ++ decimal id.extension),
    )
file-few (F.Stage number) is digest = omega (arith, wide-few number is)

refusal-fits : (event : Event) (refusal : Refusal) → IsRefusal refusal → length (reply_said event (Err refusal)).body < 2 ^ 64
refusal-fits event (R.Broken rule) is = omega (arith, rule-few rule, refused-few (rule_name rule))
refusal-fits event R.Halted is = omega (arith, refused-few (codes "Halted"))
refusal-fits event R.DiskFault is = omega (arith, refused-few (codes "DiskFault"))
refusal-fits event (R.Damaged file found) is = omega (arith, file-few file is.0 is.1, damaged-few (real_name file))
refusal-fits event R.Memory is = omega arith

-- ---- answers

closed-few : length (object_text []) ≤ 2
unfolding object_text
closed-few = omega arith

answer-fits : (event : Event) (answer : Answer) → may event ≡ true → IsAnswerTo event answer → IsAnswer answer
    → length (answer_message event answer false false).body < 2 ^ 64
answer-fits (E.Backups host) (A.Backups lines next dump) e kind is = omega (arith, is.0, listing-few lines next dump is.1 is.2 is.3)
answer-fits (E.Backups host) answer e kind is = absurd (cc kind)
answer-fits (E.OpenRead host number base) (A.Restore name) e kind is = omega (arith, opened-few name is)
answer-fits (E.OpenRead host number base) answer e kind is = absurd (cc kind)
answer-fits (E.ReadNext restore) (A.Next frame) e kind is = omega (arith, frame-few frame is)
answer-fits (E.ReadNext restore) answer e kind is = absurd (cc kind)
answer-fits (E.CloseRead restore) A.Done e kind is = omega (arith, closed-few)
answer-fits (E.CloseRead restore) answer e kind is = absurd (cc kind)
answer-fits event answer e kind is = absurd (true≢false (sym e))

pub reply-fits : (event : Event) (reply : Reply) → may event ≡ true → InRange event reply → length (reply_said event reply).body < 2 ^ 64
reply-fits event (Ok answer) e range = answer-fits event answer e range.0 range.1
reply-fits event (Err refusal) e range = refusal-fits event refusal range
