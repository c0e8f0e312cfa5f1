-- What one entry does to each party: its record, what it was last asked, its last look
pub mod Own
pub mod Parties
pub mod Results
-- A run entry by entry, with what is booked of each party and claimed by each effect
pub mod Entries
pub mod Booked
pub mod Claimed
-- Demand 3 over a machine: one that supplies what specs/Machine asks for explains every schedule
pub mod Tracing
pub mod Explaining
-- The strip is such a machine
pub mod Keeping
pub mod Counters
-- What follows: that each finished operation was asked for, accounts, and what an answer tells of its effect
pub mod Asked
pub mod Accounts
pub mod Effects
-- Demand 3, and where FULL and EMPTY took effect
pub mod EverySchedule
pub mod Since
pub mod LastRead
pub mod Told
