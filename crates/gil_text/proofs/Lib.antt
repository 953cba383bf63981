pub mod BlockLoop
pub mod BodyLoop
pub mod ItemLoop
pub mod LocatedLemmas
pub mod NestingLoop
pub mod RefusalLemmas
pub mod AnnotationLemmas
