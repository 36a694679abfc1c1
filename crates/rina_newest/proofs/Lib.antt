mod Copies
mod Index
mod Numbers
mod Places
mod Put
mod Takes
