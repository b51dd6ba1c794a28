pub mod BothSides
pub mod Standing
pub mod Bounds
pub mod Cutting
pub mod Step
pub mod Lengths
pub mod Room
pub mod Cuts
