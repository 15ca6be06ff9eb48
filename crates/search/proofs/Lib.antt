-- theorems that rest on the search over parities
pub mod Parity
