mod SeatedLaws
mod Sent
mod WorkersLaws
