-- theorems that rest on what a code promises
pub mod Coded
pub mod Codes
