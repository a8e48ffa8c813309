pub mod CallLaws
pub mod Calls
pub mod Codec
pub mod Laws
pub mod Relations
