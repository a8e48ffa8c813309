pub mod Answers
pub mod Links
pub mod LinksLaws
pub mod Lists
