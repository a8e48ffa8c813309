-- What office_store states of a store, passed on to the crates above, which name this crate and needn't name that one then.
pub use Rattle.office_store.specs.declared.store.Store.{Store}
pub use Rattle.office_store.specs.declared.port.DirectPort.{DirectPort}
pub use Rattle.office_store.specs.Moves.{AreServed, Goes, MayRecoverIn, Moves}
pub use Rattle.office_store.specs.MovesLaws.{Moves-none}
pub use Rattle.office_store.specs.Serves.{LeftBy, Serves, is_reopen, is_stopped}
pub use Rattle.office_store.specs.Damage.{LeavesTold, TellsDamage, WritesNoFile}
pub use Rattle.office_store.specs.DamagedFiles.{IsDamagedContent, IsDamagedFile, IsDamagedPartial, IsDamagedRead, IsDamagedTable, IsStageFile}
pub use Rattle.office_store.specs.DamageLaws.{IsDamagedBy, NamesTables, any_damaged, damaged_file}
pub use Rattle.office_store.specs.ReadLaws.{IsReadAt, read_damaged, read_on, read_opened}
pub use Rattle.office_store.specs.Halts.{FindsForeign, HasFailed, HasStopCause}
pub use Rattle.office_store.specs.HaltsLaws.{failed_since, halted_since}
pub use Rattle.office_store.specs.EndLaws.{halted_as, halted_rose, is_halted, left_of, second_left}
