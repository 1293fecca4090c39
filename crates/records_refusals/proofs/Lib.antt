-- What the code refuses is what document 01's list does; a file that is too long to name each cell once is refused.
pub mod RefusalLaws
pub mod Length
pub mod RoomLaws
