pub mod Bosses
