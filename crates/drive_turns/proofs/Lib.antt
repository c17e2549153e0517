mod Rows
mod Others
mod Behind
mod Lines
mod Asking
mod Taking
pub mod StepCalls
