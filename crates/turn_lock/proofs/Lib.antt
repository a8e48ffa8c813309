pub mod Callers
mod Keeps
mod ManyCalls
