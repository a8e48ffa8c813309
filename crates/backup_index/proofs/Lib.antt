mod EditLaws
mod Founds
mod IndexPrint
mod ItemWrites
mod Magics
