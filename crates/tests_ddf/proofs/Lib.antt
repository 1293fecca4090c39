-- How the parts of a Satterthwaite test make it up.
pub mod PartsLaws
