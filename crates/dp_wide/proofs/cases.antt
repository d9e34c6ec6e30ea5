mod Brackets
mod Names
mod ReadNames
mod Texts
mod Times
