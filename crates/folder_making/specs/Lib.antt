pub mod Made
pub mod MadeLaws
pub mod Standing
pub mod RowLaws
pub mod StandLaws
pub mod PieceLaws
pub mod Holding
