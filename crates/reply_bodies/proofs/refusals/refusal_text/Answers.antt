use Rattle.reply_bodies.proofs.refusals.refusal_text.Goals as goal

pub returns-in-DiskFault : goal.returns-in-DiskFault
returns-in-DiskFault c = rw c.in-DiskFault.is (c.named-in-DiskFault.ensures)
