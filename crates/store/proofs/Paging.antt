-- A page of a store: its rows in the words of the map, lent and given back.
pub mod Records
pub mod Slotwise
pub mod PageTies
pub mod Views
pub mod Depths
