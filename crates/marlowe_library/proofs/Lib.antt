mod AsBox
mod Crossing
