mod Loading
mod Answering
mod Reading
mod Contents
mod NameLaws
mod Listing
