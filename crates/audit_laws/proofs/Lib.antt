pub mod Faithful
mod OneSession
