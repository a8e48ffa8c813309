pub mod Names
pub mod Plain
pub mod PlainReplies
pub mod Tokens
