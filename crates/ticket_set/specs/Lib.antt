pub mod TicketSet
pub mod Examples
