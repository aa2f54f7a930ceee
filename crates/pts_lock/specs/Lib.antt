pub mod Histories
pub mod Views
pub mod Seats
pub mod TicketRule
pub mod Steps
