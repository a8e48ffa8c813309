-- A content that got no name, since the write of its stage failed.
use Rattle.std.proofs.Common.{◌≡◌, ℕ, ◌<◌, List, Option, Some, inr, subst}
use Rattle.disk_trait.specs.Files.{Files}
use Rattle.pool_store.specs.declared.chain.Met.{Met}
use Rattle.pool_store.specs.declared.chain.Met.TheVariants.{Free}
use Rattle.pool_store.specs.declared.fault.PoolFault.{PoolFault}
use Rattle.pool_store.specs.declared.fault.PoolFault.TheVariants.{Foreign, Disk, Memory, Damaged, ChainFull}
use Rattle.pool_store.specs.Sources.{OfPiece}
use Rattle.pool_changes.specs.Slots.{Slots, id_of}
use Rattle.pool_store.specs.Chains.{IsFree, AreOthers, IsMet}
use Rattle.pool_store.specs.Pools.{IsUnstaged, Misses}

not_full : (fault : PoolFault) → OfPiece fault → fault ≡ ChainFull → ⊥
not_full (Foreign file found) of full = cc
not_full Disk of full = cc
not_full Memory of full = cc
not_full (Damaged id found) of full = absurd of
not_full ChainFull of full = absurd of

pub missed : (digest_of : List ℕ → List ℕ) (old new : Slots) (told mid told' : Option Files) (digest : List ℕ) (met : Met) (extension : ℕ)
    (content : List ℕ) (fault : PoolFault) → extension < 65536 → digest ≡ digest_of content → mid ≡ told → met ≡ Free extension → IsMet old digest told content met
    → IsUnstaged old new mid told' (id_of digest extension) → OfPiece fault → Misses digest_of old new told told' content fault
missed digest_of old new told mid told' digest met extension content fault near same quiet is found unstaged kind = record {
  either = inr (
    extension,
    near,
    subst (λ (d : List ℕ). IsFree old d extension) same free.0,
    subst (λ (d : List ℕ). (all : Files) → told ≡ Some all → AreOthers old d all content 65536) same free.1,
    subst (λ (d : List ℕ). IsUnstaged old new told told' (id_of d extension)) same
        (subst (λ (t : Option Files). IsUnstaged old new t told' (id_of digest extension)) quiet unstaged),
  );
  full = λ e. absurd (not_full fault kind e);
}
  where
    free : IsFree old digest extension × ((all : Files) → told ≡ Some all → AreOthers old digest all content 65536)
    free = subst (IsMet old digest told content) is found
