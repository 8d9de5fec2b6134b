mod Lists
mod Tightening
mod Holding
mod Probing
mod Needing
mod Classing
mod Reporting
