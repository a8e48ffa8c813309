pub mod CatalogLaws
pub mod PiecesLaws
pub mod TreeLaws
pub mod Shown
pub mod ShownLaws
pub mod Pieces
pub mod Told
pub mod ToldLaws
