-- Proofs of what the ghost members of applications and tables say. They are here because these members name them.
pub mod Choices
pub mod DeletingLawful
pub mod GoingLawful
pub mod MacrosLawful
pub mod NamesLawful
pub mod OutsideLawful
pub mod SettingsLawful
pub mod SubroutinesLawful
pub mod UnsetKept
pub mod WideOverlooks
