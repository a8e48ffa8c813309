mod Dividing
mod NumberLaws
mod Prefixes
mod RangeLaws
mod RunSteps
