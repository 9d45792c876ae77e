pub mod ExpectRead
