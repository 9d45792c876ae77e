pub mod Agreement
pub mod Bridge
pub mod Examples
pub mod ExpectLines
pub mod Inside
pub mod RolesInside
pub mod True
