pub mod AddableLaws
