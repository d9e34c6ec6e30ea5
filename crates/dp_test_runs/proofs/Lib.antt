mod CoursesLemmas
mod KeptLemmas
mod PointsLemmas
mod RanLemmas
mod ReloadsLemmas
mod ReplaysLemmas
mod SettlingLemmas
mod cases
