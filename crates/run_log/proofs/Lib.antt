pub mod PrefixLaws
pub mod SeatLaws
