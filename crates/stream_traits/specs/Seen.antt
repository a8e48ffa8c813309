-- What is seen of a link.
use Rattle.std.specs.Prelude.{ℕ, List, Option}
use Rattle.stream_traits.specs.declared.link.Faults.{Ghosts}

-- the bytes that are left to be read, those that were written, and those of them that were sent, where they are told; and
-- how many calls failed
pub record LinkSeen : Type 0 where
  pub left : Option (List ℕ)
  pub written : Option (List ℕ)
  pub sent : Option (List ℕ)
  pub faults : ℕ

-- what is seen of this link, which tells it by l
abbrev pub seen_of : {L : Type 0} (l : Ghosts L) → L → LinkSeen
seen_of l link = record { left = l.left link; written = l.written link; sent = l.sent link; faults = l.faults link }
