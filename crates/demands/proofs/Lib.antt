-- The demands, of bytes. `Demand1`, `RunRefusals`, `EditRefusals`, `Demand2`, `Demand3`, `OwnKept`, `Ask`, `AskRefusals`, `Names`, `Sources`, `Why`, `WhyRefusals`,
-- `ReadWalks`, `Ceiling`, `Enough`, `AsBefore` and `Determined` have what is promised, the others what it rests on.
pub mod Fresh
pub mod Owned
pub mod EditIsRun
pub mod Demand1
pub mod Demand2
pub mod Demand3
pub mod OwnKept
pub mod Judged
pub mod Scanned
pub mod Before
pub mod RunRefusals
pub mod EditRefusals
pub mod AskRefusals
pub mod Ask
pub mod Names
pub mod Alike
pub mod Sources
pub mod Downward
pub mod ReadWalks
pub mod WhyRefusals
pub mod Why
pub mod AfterEdit
pub mod Ceiling
pub mod Enough
pub mod AsBefore
pub mod Determined
