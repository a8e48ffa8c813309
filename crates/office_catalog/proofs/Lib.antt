mod Hosts
mod Keeping
mod Naming
mod LinePlaces
mod Holding
mod Leading
mod Once
mod Opens
