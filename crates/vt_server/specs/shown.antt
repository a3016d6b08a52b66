-- The shown set, the status message and the screen.
pub mod DisplayValues
pub mod Screens
pub mod ShownSet
