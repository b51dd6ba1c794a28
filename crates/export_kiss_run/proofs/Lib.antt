pub mod Handing
pub mod Turning
pub mod Whole
pub mod Same
pub mod TurnLaws
