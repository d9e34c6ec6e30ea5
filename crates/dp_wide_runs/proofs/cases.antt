-- Worked cases, computed from the definitions themselves.
mod Audits
mod Debugs
mod Lines
mod Shows
mod Turns
