mod Cases
mod Words
pub mod TakenLaws
mod DeskLaws
pub mod TurnLaws
pub mod LeastLaws
mod ClaimLaws
mod TieLaws
mod SettleLaws
mod OpeningLaws
pub mod RowLaws
mod RequestTies
mod PurgeTies
mod PublishTies
mod PublishLaws
mod SpendWorlds
mod SpendLaws
mod ComparingLaws
