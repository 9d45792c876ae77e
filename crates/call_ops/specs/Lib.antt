pub mod CallOps
