pub mod Reading
pub mod Document
pub mod Laws
