mod Globals
mod Walked
mod Matches
mod Matched
mod Refusing
