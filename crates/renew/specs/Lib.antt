-- What the loop over rows asks, and what it leaves.
pub mod Renew
