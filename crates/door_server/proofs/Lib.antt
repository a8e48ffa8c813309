mod ServingLemmas
mod Zips
