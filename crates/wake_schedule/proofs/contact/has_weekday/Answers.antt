use Rattle.std.proofs.Common.{◌∙◌}
use Rattle.std.proofs.lemmas.Bool.{le-ltb}
use Rattle.wake_schedule.proofs.BitLaws.{no_weekday}
use Rattle.wake_schedule.proofs.contact.has_weekday.Goals as goal

pub returns-else-weekday-lt7 : goal.returns-else-weekday-lt7
returns-else-weekday-lt7 c =
    le-ltb c.args.weekday 7 c.if-weekday-lt7.false
    ∙ no_weekday c.args.period.now.weekdays c.args.weekday c.weekdays-weekdays.ensures.in_range.weekdays c.if-weekday-lt7.false
