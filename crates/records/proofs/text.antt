-- Laws of a season's series, of its text and of the worst of twenty; and examples, computed.
pub mod SeasonExamples
pub mod SeasonLaws
pub mod WorstLaws
pub mod SeasonTexts
pub mod SeasonParted
