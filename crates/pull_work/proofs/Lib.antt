mod CountLaws
mod GoesLaws
mod HostLaws
mod PartLaws
