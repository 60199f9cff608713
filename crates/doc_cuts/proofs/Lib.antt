pub mod Contents
pub mod Words
pub mod Lexemes
pub mod Places
pub mod Longer
pub mod Wholes
pub mod CutLemmas
