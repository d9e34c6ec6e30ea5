mod Matches
mod Names
