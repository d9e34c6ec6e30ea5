pub mod FunctionBytes
pub mod WideNames
pub mod WideTexts
