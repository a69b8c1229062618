pub mod LeastLaws
pub mod RuleLaws
pub mod VegasLaws
pub mod LastLaws
mod WorkedSamples
