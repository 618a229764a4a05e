pub mod RunLaws
pub mod DaySteps
pub mod LevelDay
