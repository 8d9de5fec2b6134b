pub mod Reaches
pub mod SiteWords
pub mod Reading
pub mod Shapes
pub mod StateWords
pub mod LooseWords
