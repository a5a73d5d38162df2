pub mod InSome
