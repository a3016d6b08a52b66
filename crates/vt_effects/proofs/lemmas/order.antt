-- References and chains stay in order: slots, pointers and the slots that a command writes.
pub mod OrderAfterCommand
pub mod PointerKinds
pub mod SlotsAfterChange
pub mod SlotsInOrder
pub mod SlotTests
pub mod WrittenSlots
