pub mod EachTicket
pub mod TicketSteps
