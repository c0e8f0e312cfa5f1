-- The two sides of a record, and where it stands
pub mod Sides
-- Every call keeps the invariant: what each way of a step establishes, what a swap leaves to the others, both together
pub mod Moves
pub mod Others
pub mod Sanity
pub mod Swaps
pub mod Steps
pub mod Kept
pub mod Begin
-- What a call writes, and what becomes of the counters
pub mod Writes
-- What a call does to the plain strip that the words stand for
pub mod Ends
pub mod Values
pub mod Acts
pub mod StepEffects
pub mod CallEffects
-- What FULL and EMPTY remember of the plain strip at the party's last look
pub mod Looks
pub mod Remembers
