-- The choice of the shown set, the events of its change, and unchanged screens.
pub mod EventsOfChange
pub mod LoopsOverSets
pub mod SameLook
pub mod SameScreen
pub mod ShownSetHasPool
