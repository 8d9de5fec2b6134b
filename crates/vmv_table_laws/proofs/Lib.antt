mod States
mod Steps
mod Walks
mod Rows
mod Matching
