pub mod DropTexts
