mod Parts
mod Literals
mod Walks
mod Rows
mod Lists
mod Results
mod WalksExist
pub mod RowsExist
