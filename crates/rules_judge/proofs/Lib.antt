-- The laws of the bits.
mod Bits
