pub mod Scenes
pub mod Plays
pub mod Goes
