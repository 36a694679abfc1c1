mod Names
mod Told
