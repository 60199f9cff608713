pub mod ClassNumbers
pub mod EffectLemmas
