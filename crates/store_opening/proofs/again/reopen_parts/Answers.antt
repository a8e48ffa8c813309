use Rattle.std.proofs.Common.{refl}
use Rattle.store_opening.proofs.Running.{reopens_raised, reopens_refused}
use Rattle.store_opening.proofs.again.reopen_parts.Goals as goal

pub returns-in-Ok : goal.returns-in-Ok
returns-in-Ok g c =
    reopens_raised c.args.parts.now c.take_over.new.parts c.begin_again.new.journal c.in-Ok.found c.epoch-epoch.result
    c.in-Ok.ensures.begins
    c.in-Ok.ensures.crash c.in-Ok.ensures.counted c.in-Ok.ensures.settles c.in-Ok.ensures.tables c.in-Ok.ensures.whole c.in-Ok.ensures.buckets c.in-Ok.ensures.listed
    c.in-Ok.ensures.ready c.take_over.ensures.is c.take_over.ensures.journal c.epoch-epoch.ensures

pub returns-in-Err : goal.returns-in-Err
returns-in-Err g c =
    reopens_refused c.args.parts.now _ c.in-Err.refusal c.reply_of.result c.reply_of.ensures refl c.is_halted_after-parts.ensures
    c.in-Err.ensures.begins c.in-Err.ensures.crash c.in-Err.ensures.quiet c.in-Err.ensures.stays c.in-Err.ensures.counted c.in-Err.ensures.foreign
    c.in-Err.ensures.spent c.in-Err.ensures.settles c.in-Err.ensures.tables
