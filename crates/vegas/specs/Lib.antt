pub mod Vegas
pub mod Estimators
