pub mod SameTest
