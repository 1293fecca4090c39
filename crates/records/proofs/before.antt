-- Laws of what was.
pub mod UntabledLaws
