pub mod HeldLemmas
pub mod SettingRows
pub mod PlainRows
pub mod SideRows
pub mod SubroutineRows
pub mod ExecIfRows
pub mod WideRows
