-- Zones that are always so far ahead.
use Rattle.std.proofs.Common.{◌≡◌, refl, ℕ, ℤ, pos, ◌*ℤ◌, List, Option, Some, subst}
use Rattle.std.specs.Prelude.{MatchOption}
use Rattle.jiff.specs.Words.{plain_zone, offset_at}
use Rattle.jiff.specs.Placed.{IsPosixZone}
use Rattle.wake_schedule.specs.declared.zone.Zone.{Zone}
use Rattle.wake_schedule.specs.Zones.{fixed_of, ahead_at, IsZone}

-- what it is that a zone's clock is ahead, which no crate above looks into
pub is_ahead : (zone : Zone) (now : ℕ) → ahead_at zone now ≡ offset_at (plain_zone zone.zone) (pos now *ℤ pos 1000000000)
unfolding ahead_at
is_ahead zone now = refl

pub always_ahead : (text : List ℕ) (zone : Zone) (seconds : ℤ) → Some seconds ≡ fixed_of text → ((now : ℕ) → ahead_at zone now ≡ seconds) → IsZone text zone
always_ahead text zone seconds is ahead =
    subst (λ (o : Option ℤ). MatchOption o (IsPosixZone text (plain_zone zone.zone)) (λ s. (now : ℕ) → ahead_at zone now ≡ s)) is ahead
