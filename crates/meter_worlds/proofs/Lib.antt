pub mod PassingWorlds
pub mod Worlds
