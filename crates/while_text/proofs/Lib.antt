pub mod MadeLaws
mod Reading
