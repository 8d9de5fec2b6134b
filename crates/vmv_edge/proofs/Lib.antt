mod Appending
mod Giving
