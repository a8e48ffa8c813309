use Rattle.reply_bodies.proofs.entries.push_members.Goals as goal

pub returns-in-File : goal.returns-in-File
returns-in-File c = rw c.in-File.is c.push_file.ensures

pub returns-in-Dir : goal.returns-in-Dir
returns-in-Dir c = rw c.in-Dir.is c.push_dir.ensures

pub returns-in-Link : goal.returns-in-Link
returns-in-Link c = rw c.in-Link.is c.push_link.ensures
