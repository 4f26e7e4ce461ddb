pub mod SlotKeys
