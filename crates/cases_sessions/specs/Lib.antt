pub mod Either
