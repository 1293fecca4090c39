-- The laws of packed rows, of the loop that packs them, and of the sheet of a shortened series.
pub mod PackedRows
pub mod PackingTurns
pub mod ShortSheet
pub mod ThreePackings
