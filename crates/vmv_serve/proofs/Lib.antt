pub mod Serving
mod Printing
