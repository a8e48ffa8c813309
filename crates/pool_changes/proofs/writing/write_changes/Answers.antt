-- Byte by byte, behind the one file.
use Rattle.std.proofs.Common.{◌≡◌, ℕ, subst, arith}
use Rattle.pool_changes.specs.Kept.{slots_of}
use Rattle.pool_changes.specs.Listed.{index_of}
use Rattle.pool_changes.specs.Writing.{layered, IsWrittenUpTo}
use Rattle.pool_changes.proofs.Changing.{first_written, change_up, leads_all}
use Rattle.pool_changes.proofs.Layering.{within_bytes}
use Rattle.pool_changes.proofs.writing.write_changes.Goals as goal

pub loop-byte-init : goal.loop-byte-init
loop-byte-init c = record { bound = omega arith; written = first_written c.args.in_one_file _ _ c.in-Ok.changes c.in-Ok.ensures }

pub loop-byte-preserved : goal.loop-byte-preserved
loop-byte-preserved c = record {
  bound = omega (arith, c.loop-byte-test.true);
  written = change_up c.args.in_one_file _ _ c.loop-byte.changes c.loop-byte.byte c.loop-byte.invariant.written c.push_change.new.changes c.in-Ok-bucket_change.change c.in-Ok-push_change.ensures c.in-Ok-bucket_change.ensures;
}

pub returns : goal.returns
returns c =
    let all : c.loop-byte.byte ≡ 256 = omega (arith, c.loop-byte.invariant.bound, c.loop-byte-test.false) in
    leads_all _ _ c.loop-byte.changes (within_bytes c.args.names.now.map c.args.over.now.map c.args.names.now.named c.requires) c.args.in_one_file
    (subst (λ (bound : ℕ). IsWrittenUpTo c.args.in_one_file (index_of (slots_of c.args.names.now)) (index_of (layered (slots_of c.args.names.now) (slots_of c.args.over.now))) c.loop-byte.changes bound) all c.loop-byte.invariant.written)
