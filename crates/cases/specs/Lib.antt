-- The tables to try that are to be proved: document 01's P1 to P10, registers seen twice, questions and limits (document 02, A2, A6 and A8).
pub mod Case
pub mod Cases
