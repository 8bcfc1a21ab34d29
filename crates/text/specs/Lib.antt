-- The definitions that contracts cite.
pub mod Refusals
pub mod Rules
pub mod Grammar
pub mod Adding
pub mod Outcome
pub mod Laws
pub mod Trees
pub mod Follow
pub mod Drafts
pub mod Machine
pub mod Cursors
