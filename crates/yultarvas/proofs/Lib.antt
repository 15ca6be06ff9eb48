mod Answers
mod Counts
mod Fronts
mod Pages
