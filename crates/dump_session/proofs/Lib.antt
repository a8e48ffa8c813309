mod CountLaws
mod EditLaws
pub mod Maps
mod RemovedLaws
pub mod Sessions
mod SubtreeLaws
