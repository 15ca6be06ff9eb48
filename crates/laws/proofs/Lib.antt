-- a theorem that rests on what `mod_z` says of a number below 0
pub mod Whole
