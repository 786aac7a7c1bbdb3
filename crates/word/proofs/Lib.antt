-- Laws of words: over every modulus, and of the powers that the code masks with.
pub mod Congruence
pub mod Words
pub mod Mask
