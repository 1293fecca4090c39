-- What `pulltest` and `pullseason` print.
pub mod Text
pub mod Season
