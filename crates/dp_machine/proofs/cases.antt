mod Dialled
mod Steps
mod Unseen
mod Waiting
