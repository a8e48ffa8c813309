-- Laws of told links, for the proofs of the crates above.
use Rattle.std.specs.Prelude.{◌≡◌, List, [], ◌++◌, Option, None, Some, refl}
use Rattle.std.proofs.Common.{sym, ap, append_assoc, append-nil}
use Rattle.caller_doors.specs.Links.{ahead_of, with_last}

-- no links before those that are told
pub ahead_of_nil : {L : Type 0} (told : Option (List L)) → ahead_of [] told ≡ told
ahead_of_nil None = refl
ahead_of_nil (Some later) = refl

-- two runs of links before those that are told
pub ahead_of_append : {L : Type 0} (front back : List L) (told : Option (List L)) → ahead_of (front ++ back) told ≡ ahead_of front (ahead_of back told)
ahead_of_append front back None = refl
ahead_of_append front back (Some later) = ap Some (append_assoc front back later)

-- no links behind those that are told
pub with_last_nil : {L : Type 0} (told : Option (List L)) → with_last told [] ≡ told
with_last_nil None = refl
with_last_nil (Some earlier) = ap Some (append-nil earlier)

-- two runs of links behind those that are told
pub with_last_append : {L : Type 0} (told : Option (List L)) (front back : List L) → with_last told (front ++ back) ≡ with_last (with_last told front) back
with_last_append None front back = refl
with_last_append (Some earlier) front back = ap Some (sym (append_assoc earlier front back))
