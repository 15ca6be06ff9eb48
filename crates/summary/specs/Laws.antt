-- a list's largest and smallest; rows, and the page's row with one block more; cells compared; a summary with one word more; the answers, and that
-- no second one fits
pub mod Extremes
pub mod Rows
pub mod Cells
pub mod Grown
pub mod Answers
pub mod Once
