-- What is asked of a well-formed table, and known of a session; a node's bytes in the table; what each event is answered: those of a session that only read, then room, and those
-- that write to nodes.
pub mod Exits
pub mod Formed
pub mod Told
pub mod Ladders
pub mod Room
pub mod Times
pub mod Put
pub mod Deliver
