-- The calls whole, from the bytes that are lent to what is returned and written: any call, and each.
pub mod Call
pub mod KenwardRogerCall
pub mod SatterthwaiteCall
pub mod ArchiveCall
