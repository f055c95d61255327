pub mod Scenes
pub mod Plays
pub mod Tables
pub mod Cases
