-- Document 01 as definitions, in its order: words and places, a series, the wheel, pro rata (with document 02's cut-off), the starting number, document 02's remainder draw, the refusals, the call, and document 02's sub-accounts.
pub mod Ascii
pub mod Results
pub mod Outputs
pub mod Sums
pub mod Places
pub mod Series
pub mod Wheel
pub mod ProRata
pub mod CutOff
pub mod Lottery
pub mod RemainderDraw
pub mod Refusals
pub mod Answers
pub mod Call
pub mod Fair
pub mod SubAccounts
