pub mod Dumps
pub mod Told
