-- Laws of told bytes, for the proofs of the crates above.
use Rattle.std.specs.Prelude.{◌≡◌, ℕ, ◌+◌, ◌≤◌, List, [], ◌++◌, length, take, Option, None, Some, refl}
use Rattle.std.proofs.Common.{sym, ap, append_assoc, append-nil, arith, length-append}
use Rattle.std.proofs.Math.Seq.{take-length, take-append-add}
use Rattle.std.proofs.lemmas.List.{take-append-le}
use Rattle.stream_traits.specs.Told.{before, behind, WroteFront, TookFront}

-- no bytes before what is told
pub before_nil : (told : Option (List ℕ)) → before [] told ≡ told
before_nil None = refl
before_nil (Some rest) = refl

-- two runs of bytes before what is told
pub before_append : (front back : List ℕ) (told : Option (List ℕ)) → before (front ++ back) told ≡ before front (before back told)
before_append front back None = refl
before_append front back (Some rest) = ap Some (append_assoc front back rest)

-- no bytes behind what is told
pub behind_nil : (told : Option (List ℕ)) → behind told [] ≡ told
behind_nil None = refl
behind_nil (Some written) = ap Some (append-nil written)

-- two runs of bytes behind what is told
pub behind_append : (told : Option (List ℕ)) (front back : List ℕ) → behind told (front ++ back) ≡ behind (behind told front) back
behind_append None front back = refl
behind_append (Some written) front back = ap Some (sym (append_assoc written front back))

-- nothing went out
pub WroteFront-none : (told : Option (List ℕ)) (bytes : List ℕ) → WroteFront told told bytes
WroteFront-none told bytes = record { count = 0; fits = omega arith; wrote = sym (behind_nil told) }

-- all bytes went out
pub WroteFront-all : (old new : Option (List ℕ)) (bytes : List ℕ) → new ≡ behind old bytes → WroteFront old new bytes
WroteFront-all old new bytes wrote = record { count = length bytes; fits = omega arith; wrote = rw (take-length bytes) wrote }

-- some bytes went out, and more would have followed
pub WroteFront-before : (old new : Option (List ℕ)) (front back : List ℕ) → WroteFront old new front → WroteFront old new (front ++ back)
WroteFront-before old new front back went = record {
  count = went.count;
  fits = omega (arith, went.fits, length-append front back);
  wrote = rw (take-append-le went.count front back went.fits) went.wrote;
}

-- first these bytes went out, and then a front of others
pub WroteFront-after : (old now new : Option (List ℕ)) (front back : List ℕ) → now ≡ behind old front → WroteFront now new back → WroteFront old new (front ++ back)
WroteFront-after old now new front back wrote went = record {
  count = length front + went.count;
  fits = omega (arith, went.fits, length-append front back);
  wrote = rw (take-append-add front back went.count, behind_append old front (take went.count back), ← wrote) went.wrote;
}

-- nothing was taken
pub TookFront-none : (told : Option (List ℕ)) (most : ℕ) → TookFront told told most
TookFront-none told most = record { bytes = []; fits = omega arith; took = sym (before_nil told) }

-- first these bytes were taken, and then at most so many
pub TookFront-after : (old now new : Option (List ℕ)) (front : List ℕ) (more most : ℕ) → old ≡ before front now → TookFront now new more → length front + more ≤ most → TookFront old new most
TookFront-after old now new front more most took after few = record {
  bytes = front ++ after.bytes;
  fits = omega (arith, after.fits, length-append front after.bytes);
  took = rw (before_append front after.bytes new, ← after.took) took;
}
