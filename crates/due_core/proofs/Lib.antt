pub mod Examples
pub mod Later
pub mod Loops
pub mod Pass
pub mod Places
pub mod Precedence
pub mod Queue
pub mod RuleCount
