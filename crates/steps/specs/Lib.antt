-- What a step on a well-formed table gives, and many steps.
pub mod Step
pub mod Run
